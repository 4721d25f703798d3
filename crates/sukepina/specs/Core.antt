-- A monitor's plate, state and panel as plain numbers, and what such numbers stand for.
use Rattle.std.specs.Prelude.{ℕ, Bool, true, false, cond, Some, None, Option, ◌==◌}
use Rattle.control.specs.State.{operate, watched}
use Rattle.control.specs.declared.mode.FailureMode.{FailureMode}
use Rattle.control.specs.declared.mode.FailureMode.TheVariants.{Allok, Badlevdev, Hardfail}
use Rattle.control.specs.declared.mode.Mode.{Mode}
use Rattle.control.specs.declared.mode.Mode.TheVariants.{Dark, Standby, Operating, Shutdown, Test}
use Rattle.control.specs.declared.mode.Signal.{Signal}
use Rattle.control.specs.declared.mode.Signal.TheVariants as signal
use Rattle.control.specs.declared.mode.Watchdog.{Watchdog}
use Rattle.control.specs.declared.mode.Watchdog.TheVariants as watchdog
use Rattle.control.specs.declared.plate.Plate.{Plate}
use Rattle.control.specs.declared.state.State.{State}
use Rattle.display.specs.declared.panel.Panel.{Panel}
use Rattle.monitor.specs.declared.monitor.Monitor.{Monitor}
use Rattle.sukepina.specs.declared.core_numbers.Core.{Core}
use Rattle.sukepina.specs.declared.numbers.CoreNumbers.{CoreNumbers}

abbrev pub mode_number : Mode → ℕ
mode_number Dark = 0
mode_number Standby = 1
mode_number Operating = 2
mode_number Shutdown = 3
mode_number Test = 4

abbrev pub failure_number : FailureMode → ℕ
failure_number Allok = 0
failure_number Badlevdev = 1
failure_number Hardfail = 2

abbrev pub flag : Bool → ℕ
flag b = cond b 1 0

abbrev pub core_numbers : Plate → State → Panel → CoreNumbers
core_numbers p st d = record {
  time = st.time;
  entered = st.entered;
  reset_since = st.reset.since;
  test_since = st.test.since;
  plate = p.numbers;
  mode = mode_number st.mode;
  failure = failure_number st.failure;
  signal = flag (operate st.signal);
  watchdog = flag (watched st.watchdog);
  reset_down = flag st.reset.down;
  test_down = flag st.test.down;
  high = flag d.warnings.high;
  low = flag d.warnings.low;
  alarm = flag d.warnings.alarm;
  figure = d.figure;
}

-- a monitor's parts but for its gauge and its switch; any of them are possible
abbrev pub core_of : {G S : Type 0} → Monitor G S → Core
core_of m = record { plate = m.plate; state = m.state; panel = m.panel }

abbrev pub numbers_of : Core → CoreNumbers
numbers_of x = core_numbers x.plate x.state x.panel

abbrev pub every : {A : Type 0} → A → Bool
every x = true

-- Back again; none for a number that stands for nothing.

abbrev pub mode_of : ℕ → Option Mode
mode_of n = cond (n == 0) (Some Dark) (cond (n == 1) (Some Standby) (cond (n == 2) (Some Operating) (cond (n == 3) (Some Shutdown) (cond (n == 4) (Some Test) None))))

abbrev pub failure_of : ℕ → Option FailureMode
failure_of n = cond (n == 0) (Some Allok) (cond (n == 1) (Some Badlevdev) (cond (n == 2) (Some Hardfail) None))

-- one of two values: 0 for the first, 1 for the second
abbrev pub either : {A : Type 0} → A → A → ℕ → Option A
either x y n = cond (n == 0) (Some x) (cond (n == 1) (Some y) None)

abbrev pub signal_of : ℕ → Option Signal
signal_of = either signal.Shutdown signal.Operate

abbrev pub watchdog_of : ℕ → Option Watchdog
watchdog_of = either watchdog.Shut watchdog.Operate

abbrev pub flag_of : ℕ → Option Bool
flag_of = either false true
