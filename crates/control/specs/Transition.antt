-- The state after an accepted step.
use Rattle.std.specs.Prelude.{ℕ, ◌+◌, ◌-◌, Bool, true, false, cond, ◌||◌, Ok, Err, nat_le}
use Rattle.gauges.specs.Model.{Reading}
use Rattle.records.specs.declared.step.Step.{Step}
use Rattle.control.specs.Button.{pressed, released}
use Rattle.control.specs.Modes.{allok, is}
use Rattle.control.specs.ModeTable.{next_mode}
use Rattle.control.specs.Plate.{past_mark, out_of_limits, settled}
use Rattle.control.specs.State.{dark}
use Rattle.control.specs.declared.button.Button.{Button}
use Rattle.control.specs.declared.mode.FailureMode.{FailureMode}
use Rattle.control.specs.declared.mode.FailureMode.TheVariants.{Allok, Badlevdev, Hardfail}
use Rattle.control.specs.declared.mode.Mode.{Mode}
use Rattle.control.specs.declared.mode.Mode.TheVariants as mode
use Rattle.control.specs.declared.mode.Signal.{Signal}
use Rattle.control.specs.declared.mode.Signal.TheVariants as signal
use Rattle.control.specs.declared.mode.Watchdog.{Watchdog}
use Rattle.control.specs.declared.mode.Watchdog.TheVariants as watchdog
use Rattle.control.specs.declared.mode_table.Conditions.{Conditions}
use Rattle.control.specs.declared.plate.Plate.{Plate}
use Rattle.control.specs.declared.state.State.{State}

-- Part 1. Told, or a time that is not later than the step before; a time 500 ms or more later.
abbrev pub clock_fails : State → Step → Bool
clock_fails st s = s.clock_failed || nat_le s.time st.time

abbrev pub late : State → ℕ → Bool
late st t = nat_le (st.time + 500) t

abbrev pub next_watchdog : State → ℕ → Watchdog
next_watchdog st t = cond (late st t) watchdog.Shut st.watchdog

-- Part 3. A fault, or a level past a mark.
abbrev pub bad_reading : Plate → Reading → Bool
bad_reading p (Ok u) = past_mark p (Ok u)
bad_reading p (Err f) = true

-- the failure mode after: failed memory or clock, a bad reading
abbrev pub worse : FailureMode → Bool → Bool → FailureMode
worse f true bad = Hardfail
worse Allok false bad = cond bad Badlevdev Allok
worse Badlevdev false bad = Badlevdev
worse Hardfail false bad = Hardfail

-- Part 4. What the mode table looks at; the buttons are those at this step.
abbrev pub conditions : Plate → State → Reading → ℕ → Button → Button → Conditions
conditions p st r t reset test = record {
  dwell = t - st.entered;
  testing = test.down;
  tested = t - test.since;
  reset = t - reset.since;
  out = out_of_limits p r;
  settled = settled p r;
}

abbrev pub mode_after : State → FailureMode → Conditions → Mode
mode_after st f c = cond (allok f) (next_mode st.mode c) st.mode

-- when the mode that a step leads to was entered
abbrev pub entered_after : State → Mode → ℕ → ℕ
entered_after st m t = cond (is m st.mode) st.entered t

-- Part 5, the signal: by the modes just reached, and whether reset is down.
abbrev in_allok : Mode → Bool → Signal → Signal
in_allok mode.Operating reset old = cond reset old signal.Operate
in_allok mode.Shutdown reset old = old
in_allok mode.Dark reset old = signal.Shutdown
in_allok mode.Standby reset old = signal.Shutdown
in_allok mode.Test reset old = signal.Shutdown

abbrev pub next_signal : Mode → FailureMode → Bool → Signal → Signal
next_signal m f reset old = cond (allok f) (in_allok m reset old) signal.Shutdown

-- the new modes, buttons and time put together
abbrev arrived : State → Step → FailureMode → Mode → Button → Button → State
arrived st s f m reset test = record {
  mode = m;
  failure = f;
  signal = next_signal m f s.reset st.signal;
  watchdog = next_watchdog st s.time;
  time = s.time;
  entered = entered_after st m s.time;
  reset = reset;
  test = test;
}

abbrev with_buttons : Plate → State → Step → Reading → FailureMode → Button → Button → State
with_buttons p st s r f reset test = arrived st s f (mode_after st f (conditions p st r s.time reset test)) reset test

-- a power-on step that is no start
abbrev pub moved : Plate → State → Step → Reading → State
moved p st s r =
    with_buttons p st s r
    (worse st.failure (s.memory_failed || clock_fails st s) (bad_reading p r))
    (pressed st.reset s.reset s.time)
    (pressed st.test s.self_test s.time)

-- a power-on step in the dark: parts 1 and 4 are skipped
abbrev pub started : Plate → Step → Reading → State
started p s r = record {
  mode = mode.Standby;
  failure = worse Allok (s.memory_failed || s.clock_failed) (bad_reading p r);
  signal = signal.Shutdown;
  watchdog = watchdog.Operate;
  time = s.time;
  entered = s.time;
  reset = pressed (released s.time) s.reset s.time;
  test = pressed (released s.time) s.self_test s.time;
}

abbrev pub next_state : Plate → State → Step → Reading → State
next_state p st s r = cond s.power (cond (is st.mode mode.Dark) (started p s r) (moved p st s r)) (dark s.time)
