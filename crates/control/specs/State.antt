-- The dark, and what a state lets the pump do.
use Rattle.std.specs.Prelude.{ℕ, Bool, true, false, ◌&&◌}
use Rattle.control.specs.Button.{released}
use Rattle.control.specs.declared.mode.FailureMode.TheVariants.{Allok}
use Rattle.control.specs.declared.mode.Mode.TheVariants.{Dark}
use Rattle.control.specs.declared.mode.Signal.{Signal}
use Rattle.control.specs.declared.mode.Signal.TheVariants as signal
use Rattle.control.specs.declared.mode.Watchdog.{Watchdog}
use Rattle.control.specs.declared.mode.Watchdog.TheVariants as watchdog
use Rattle.control.specs.declared.state.State.{State}

abbrev pub dark : ℕ → State
dark t = record {
  mode = Dark;
  failure = Allok;
  signal = signal.Shutdown;
  watchdog = watchdog.Shut;
  time = t;
  entered = t;
  reset = released t;
  test = released t;
}

abbrev pub operate : Signal → Bool
operate signal.Shutdown = false
operate signal.Operate = true

abbrev pub watched : Watchdog → Bool
watched watchdog.Shut = false
watched watchdog.Operate = true

-- signal and watchdog are operate
abbrev pub drives : State → Bool
drives st = operate st.signal && watched st.watchdog
