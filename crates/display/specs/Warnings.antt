-- The windows and the alarm after a step.
use Rattle.std.specs.Prelude.{ℕ, ◌-◌, ◌/◌, ◌%◌, Bool, true, false, not, ◌&&◌, ◌||◌, ◌==◌, nat_le, nat_lt}
use Rattle.control.specs.Modes.{is}
use Rattle.control.specs.Plate.{high, low, out_of_limits}
use Rattle.control.specs.declared.mode.FailureMode.{FailureMode}
use Rattle.control.specs.declared.mode.FailureMode.TheVariants.{Allok, Badlevdev, Hardfail}
use Rattle.control.specs.declared.mode.Mode.{Mode}
use Rattle.control.specs.declared.mode.Mode.TheVariants.{Dark, Standby, Operating, Shutdown, Test}
use Rattle.control.specs.declared.plate.Plate.{Plate}
use Rattle.control.specs.declared.state.State.{State}
use Rattle.gauges.specs.Model.{Reading}
use Rattle.display.specs.declared.warnings.Warnings.{Warnings}

abbrev pub off : Warnings
off = record { high = false; low = false; alarm = false }

-- on by its own condition; else off on entering operating; else as before
abbrev pub lamp : Bool → Bool → Bool → Bool
lamp lit entered before = lit || (not entered && before)

abbrev pub by_level : Plate → Warnings → Reading → Bool → Warnings
by_level p w r entered = record {
  high = lamp (high p r) entered w.high;
  low = lamp (low p r) entered w.low;
  alarm = lamp (out_of_limits p r) entered w.alarm;
}

-- by the time in mode: high below 2,000, low from 2,000 to below 4,000, alarm up to 4,000
abbrev pub in_test : ℕ → Warnings
in_test dwell = record { high = nat_lt dwell 2000; low = nat_le 2000 dwell && nat_lt dwell 4000; alarm = nat_le dwell 4000 }

-- both windows by the half-seconds of the step's time
abbrev pub flashing : ℕ → Warnings
flashing t = record { high = (t / 500 % 2 == 0); low = (t / 500 % 2 == 0); alarm = true }

-- a step that led to operating entered it, if that was not the mode before
abbrev pub entered_from : Mode → Bool
entered_from before = not (is before Operating)

abbrev in_allok : Plate → Warnings → Mode → State → Reading → Mode → Warnings
in_allok p w before st r Dark = off
in_allok p w before st r Standby = w
in_allok p w before st r Operating = by_level p w r (entered_from before)
in_allok p w before st r Shutdown = by_level p w r false
in_allok p w before st r Test = in_test (st.time - st.entered)

abbrev in_failure : Plate → Warnings → Mode → State → Reading → FailureMode → Warnings
in_failure p w before st r Allok = in_allok p w before st r st.mode
in_failure p w before st r Badlevdev = flashing st.time
in_failure p w before st r Hardfail = record { high = true; low = true; alarm = true }

-- w before a step that led from the mode `before` to the state st
abbrev pub next_warnings : Plate → Warnings → Mode → State → Reading → Warnings
next_warnings p w before st r = in_failure p w before st r st.failure
