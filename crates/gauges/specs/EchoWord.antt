-- What an echo gauge reads at a word A.
use Rattle.std.specs.Prelude.{ℕ, ◌/◌, ◌%◌, Bool, cond, ◌||◌, Ok, Err, Result, ◌==◌, from_bits, Float}
use Rattle.std.specs.Float.{binary32}
use Rattle.std.specs.Float.Ieee.{lt, sub}
use Rattle.gauges.specs.declared.reading.Cause.{Cause}
use Rattle.gauges.specs.declared.reading.Cause.TheVariants.{Lost, Reach}
use Rattle.gauges.specs.Height.{cm_0, units}
use Rattle.gauges.specs.Model.{Reading, fresh}

-- the exponent bits are all ones: an infinity or a NaN
abbrev pub lost : ℕ → Bool
lost a = a / 0x80_0000 % 0x100 == 0xff

-- below 0 or above the mount height
abbrev pub out_of_reach : Float → Float → Bool
out_of_reach gap mount = lt gap cm_0 || lt mount gap

-- the gap that word A gives at a mount height, or why it gives none
abbrev pub gap_at : ℕ → Float → Result Float Cause
gap_at a mount = cond (lost a) (Err Lost) (cond (out_of_reach (from_bits binary32 a) mount) (Err Reach) (Ok (from_bits binary32 a)))

-- `sub` is one subtraction, rounded once
abbrev pub gap_reading : Float → Result Float Cause → Reading
gap_reading mount (Ok gap) = Ok (units (sub binary32 mount gap))
gap_reading mount (Err why) = fresh why

abbrev pub echo_reading : Float → ℕ → Reading
echo_reading mount a = gap_reading mount (gap_at a mount)
