-- The edges of the rules, one row each: on both sides of a limit, the definitions give these values.
use Rattle.std.specs.Prelude.{ℕ, Bool, true, false, not, ◌&&◌, List, [], ◌∷◌, Ok, Err, ◌==◌, from_bits}
use Rattle.std.specs.Float.{binary32}
use Rattle.control.specs.Modes.{is}
use Rattle.control.specs.Plate.{out_of_limits, past_mark, settled, standard}
use Rattle.control.specs.State.{operate}
use Rattle.control.specs.Transition.{next_state}
use Rattle.control.specs.declared.mode.FailureMode.TheVariants.{Allok}
use Rattle.control.specs.declared.mode.Mode.TheVariants.{Operating, Standby}
use Rattle.control.specs.declared.mode.Signal.TheVariants as signal
use Rattle.control.specs.declared.mode.Watchdog.TheVariants as watchdog
use Rattle.control.specs.declared.state.State.{State}
use Rattle.gauges.specs.Causes.{cause_number}
use Rattle.gauges.specs.Cell.{cell_reading}
use Rattle.gauges.specs.EchoWord.{echo_reading}
use Rattle.gauges.specs.Model.{Reading}
use Rattle.monitor.specs.Witnesses.{at}

abbrev reads : Reading → ℕ → Bool
reads (Ok units) n = units == n
reads (Err f) n = false

abbrev fault_is : Reading → ℕ → Bool
fault_is (Ok units) n = false
fault_is (Err f) n = cause_number f.cause == n

abbrev out : Reading → Bool
out = out_of_limits standard

abbrev past : Reading → Bool
past = past_mark standard

abbrev calm : Reading → Bool
calm = settled standard

-- an echo gauge mounted at 50.0 cm
abbrev echo_50 : ℕ → Reading
echo_50 = echo_reading (from_bits binary32 0x4248_0000)

-- standby at a settled level, with reset down since 1,000
abbrev waiting : State
waiting = record {
  mode = Standby;
  failure = Allok;
  signal = signal.Shutdown;
  watchdog = watchdog.Operate;
  time = 3600;
  entered = 600;
  reset = record { down = true; since = 1000 };
  test = record { down = false; since = 3600 };
}

abbrev held_until : ℕ → State
held_until t = next_state standard waiting (at 128 t true) (cell_reading 128)

abbrev pub edges : List Bool
edges =
    -- cell 22 is out of limits, 23 is not
    (reads (cell_reading 22) 1398749 && (out (cell_reading 22) && (reads (cell_reading 23) 1404448 && not (out (cell_reading 23)))))
    -- cell 232 is not, 233 is
    ∷ (reads (cell_reading 232) 2595537 && (not (out (cell_reading 232)) && (reads (cell_reading 233) 2601236 && out (cell_reading 233))))
    -- cell 30 is not settled, 31 is
    ∷ (not (calm (cell_reading 30)) && calm (cell_reading 31))
    -- cell 224 is, 225 is not
    ∷ (calm (cell_reading 224) && not (calm (cell_reading 225)))
    -- cell 4 is past a mark, 5 is not
    ∷ (past (cell_reading 4) && not (past (cell_reading 5)))
    -- cell 250 is not, 251 is
    ∷ (not (past (cell_reading 250)) && past (cell_reading 251))
    -- an echo 24.5 cm below 50.0 is settled
    ∷ (reads (echo_50 0x41C4_0000) 2550000 && calm (echo_50 0x41C4_0000))
    -- 24.0 cm below is out of limits; an infinite gap is a lost echo
    ∷ (reads (echo_50 0x41C0_0000) 2600000 && (out (echo_50 0x41C0_0000) && fault_is (echo_50 0x7F80_0000) 2))
    -- in standby, reset time 3,000 stays; 3,001 leads to operating, the signal still shutdown
    ∷ (is (held_until 4000).mode Standby && (is (held_until 4001).mode Operating && not (operate (held_until 4001).signal)))
    ∷ []
