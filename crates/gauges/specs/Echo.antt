-- The echo gauge.
use Rattle.std.specs.Prelude.{◌≡◌, true, false, ◌&&◌, Some, None, Ok, Err, Option, Result, Float}
use Rattle.base.specs.declared.refusal.Refusal.{Refusal}
use Rattle.base.specs.declared.refusal.Refusal.TheVariants.{Setting}
use Rattle.gauges.specs.declared.echo.Echo.{Echo}
use Rattle.gauges.specs.declared.reading.Cause.TheVariants.{Nothing}
use Rattle.gauges.specs.EchoRange.{echo_in_range}
use Rattle.gauges.specs.EchoWord.{echo_reading}
use Rattle.gauges.specs.Height.{in_mount}
use Rattle.gauges.specs.Model.{Model, Reading, fresh, is_in_range}

-- what setting up at a mount height answers
abbrev pub SetUp : Float → Result Echo Refusal → Type 0
SetUp mount (Ok g) = (in_mount mount ≡ true) × (g.mount ≡ mount) × (g.last ≡ fresh Nothing)
SetUp mount (Err why) = (in_mount mount ≡ false) × (why ≡ Setting)

-- what restoring from a mount and a last reading answers
abbrev pub Restored : Float → Reading → Option Echo → Type 0
Restored mount last (Some g) = (in_mount mount ≡ true) × (is_in_range last ≡ true) × (g.mount ≡ mount) × (g.last ≡ last)
Restored mount last None = (in_mount mount && is_in_range last) ≡ false

abbrev pub echo : Model Echo
echo = record {
  reading = λ g. g.last;
  taken = λ g a b.
      record {
        mount = g.mount;
        last = echo_reading g.mount a;
        mounted = g.mounted;
        ranged = echo_in_range g.mount a g.mounted;
      };
}
