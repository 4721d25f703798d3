-- The monitor with an echo gauge, and a rest layer over a drive word, as plain numbers.
use Rattle.std.specs.Prelude.{◌≡◌, ℕ, Bool, true, false, ◌&&◌, ◌||◌, Some, None, Option, Ok, Err, ◌==◌, nat_le, Float}
use Rattle.control.specs.Modes.{is}
use Rattle.control.specs.PlateRules.{keeps_rules}
use Rattle.control.specs.State.{drives}
use Rattle.control.specs.declared.mode.Mode.{Mode}
use Rattle.control.specs.declared.mode.Mode.TheVariants.{Dark}
use Rattle.control.specs.declared.plate.Plate.{Plate}
use Rattle.control.specs.declared.plate_numbers.PlateNumbers.{PlateNumbers}
use Rattle.control.specs.declared.state.State.{State}
use Rattle.gauges.specs.Causes.{cause_number}
use Rattle.gauges.specs.Echo.{echo}
use Rattle.gauges.specs.Height.{in_mount}
use Rattle.gauges.specs.Model.{Reading, fresh}
use Rattle.gauges.specs.declared.echo.Echo.{Echo}
use Rattle.gauges.specs.declared.reading.Cause.{Cause}
use Rattle.gauges.specs.declared.reading.Cause.TheVariants.{Scale, Lost, Reach, Apart, Nothing}
use Rattle.monitor.specs.Calls.{set_up}
use Rattle.monitor.specs.Promises.{Promises}
use Rattle.monitor.specs.declared.monitor.Monitor.{Monitor}
use Rattle.switches.specs.Drive.{drive, word_at}
use Rattle.switches.specs.Rest.{new_rest, resting}
use Rattle.switches.specs.declared.drive.DriveWord.{DriveWord}
use Rattle.switches.specs.declared.rest.Rest.{Rest}
use Rattle.switches.specs.declared.rest_time.RestTime.{RestTime}
use Rattle.sukepina.specs.Boundary.{Accepted}
use Rattle.sukepina.specs.Core.{core_numbers}
use Rattle.sukepina.specs.Maybe.{or_0, there}
use Rattle.sukepina.specs.Possible.{core_possible, implies}
use Rattle.sukepina.specs.declared.numbers.EchoNumbers.{EchoNumbers}

abbrev pub Resting : Type 0
Resting = Rest DriveWord

abbrev pub EchoMonitor : Type 0
EchoMonitor = Monitor Echo Resting

-- a reading: the cause of its fault, or 0 and its level
abbrev pub fault_number : Reading → ℕ
fault_number (Ok units) = 0
fault_number (Err f) = cause_number f.cause

abbrev pub level_number : Reading → ℕ
level_number (Ok units) = units
level_number (Err f) = 0

abbrev pub reading_numbers : Reading → ℕ × ℕ
reading_numbers r = (fault_number r, level_number r)

abbrev pub word_fits : ℕ → Bool
word_fits w = w == 0x00FF || w == 0xFF00

abbrev pub echo_numbers : EchoMonitor → EchoNumbers
echo_numbers m = record {
  core = core_numbers m.plate m.state m.panel;
  rest = m.switch.rest.millis;
  last_tick = m.switch.last;
  opening = or_0 m.switch.opening;
  opened = there m.switch.opening;
  mount = m.gauge.mount;
  fault = fault_number m.gauge.last;
  level = level_number m.gauge.last;
  drive = m.switch.below.word;
}

-- an echo gauge has no other faults, and none from a gauge below
abbrev pub cause_read : Cause → Bool
cause_read Scale = false
cause_read Lost = true
cause_read Reach = true
cause_read Apart = false
cause_read Nothing = true

abbrev pub echo_read : Reading → Bool
echo_read (Ok units) = true
echo_read (Err f) = cause_read f.cause && f.height == 0

-- only a dark monitor's gauge took nothing yet
abbrev pub gauge_possible : Reading → Mode → Bool
gauge_possible r mode = echo_read r && implies (fault_number r == 5) (is mode Dark)

abbrev pub opening_possible : Option ℕ → ℕ → Bool
opening_possible None last = true
opening_possible (Some opening) last = nat_le opening last

-- the layer's last tick is the last step's time, and it opened no later; the drive's word is one that the switch writes
abbrev pub rest_possible : Resting → ℕ → Bool
rest_possible s time = s.last == time && (opening_possible s.opening s.last && word_fits s.below.word)

-- the contact is closed only if the state drives the pump
abbrev pub switch_possible : Resting → State → Bool
switch_possible s st = rest_possible s st.time && implies (s.below.word == 0x00FF) (drives st)

abbrev pub echo_possible : EchoMonitor → Bool
echo_possible m =
    core_possible m.plate m.state m.panel m.gauge.last
    && (gauge_possible m.gauge.last m.state.mode
    && switch_possible m.switch m.state)

-- which settings are allowed: the plate's rules, the mount's and the rest's range
abbrev pub settings_allowed : PlateNumbers → Float → ℕ → Bool
settings_allowed plate mount rest = keeps_rules plate && (in_mount mount && nat_le rest 86400000)

-- A set-up that answered r and left n': 6, and nothing changed, if a setting is not allowed; else the numbers of a dark
-- monitor with these settings, which the next call accepts, and which keeps the three promises over every run of calls.
pub record EchoSetUp (plate : PlateNumbers) (mount : Float) (rest : ℕ) (n : EchoNumbers) (r : ℕ) (n' : EchoNumbers) : Type 0 where
  pub refused : settings_allowed plate mount rest ≡ false → (r ≡ 6) × (n' ≡ n)
  pub made : (p : Plate) (g : Echo) (t : RestTime) → p.numbers ≡ plate → g.mount ≡ mount → g.last ≡ fresh Nothing → t.millis ≡ rest
      → (r ≡ 0) × (n' ≡ echo_numbers (set_up (resting drive) g (new_rest (word_at 0xFF00) t) p))
  pub leaves : r ≡ 0 → Accepted echo_numbers echo_possible n'
  pub promises : (p : Plate) (g : Echo) (t : RestTime) → p.numbers ≡ plate → g.mount ≡ mount → g.last ≡ fresh Nothing → t.millis ≡ rest
      → Promises echo (resting drive) p g (set_up (resting drive) g (new_rest (word_at 0xFF00) t) p)
