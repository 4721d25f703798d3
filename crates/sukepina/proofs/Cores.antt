-- Plate, state and panel as numbers and back: each of the two undoes the other.
use Rattle.std.proofs.Common.{arith, ◌≡◌, ℕ, Bool, List, true, Some, ap}
use Rattle.std.proofs.lemmas.Bool.Decides.{nat_tests}
use mathlib.Core.Bool.{Bool-set}
use mathlib.Core.HLevel.{is_prop→PathP}
use Rattle.control.specs.PlateRules.{keeps_rules}
use Rattle.control.specs.State.{operate, watched}
use Rattle.control.specs.declared.mode.FailureMode.{FailureMode}
use Rattle.control.specs.declared.mode.Mode.{Mode}
use Rattle.control.specs.declared.mode.Signal.{Signal}
use Rattle.control.specs.declared.mode.Watchdog.{Watchdog}
use Rattle.control.specs.declared.plate.Plate.{Plate}
use Rattle.sukepina.specs.Core.{core_numbers, failure_number, failure_of, flag, flag_of, mode_number, mode_of, numbers_of, signal_of, watchdog_of}
use Rattle.sukepina.specs.declared.core_numbers.Core.{Core}
use Rattle.sukepina.specs.declared.numbers.CoreNumbers.{CoreNumbers}

-- ---- what has the same number is the same, and what a number leads to has that number

pub flag_one : (b c : Bool) → flag b ≡ flag c → b ≡ c
flag_one b c e = grind (arith, nat_tests)

pub flag_same : (n : ℕ) (b : Bool) → flag_of n ≡ Some b → flag b ≡ n
flag_same n b e = grind (arith, nat_tests)

mode_one : (m k : Mode) → mode_number m ≡ mode_number k → m ≡ k
mode_one m k e = grind (arith, nat_tests)

pub mode_same : (n : ℕ) (m : Mode) → mode_of n ≡ Some m → mode_number m ≡ n
mode_same n m e = grind (arith, nat_tests)

failure_one : (f k : FailureMode) → failure_number f ≡ failure_number k → f ≡ k
failure_one f k e = grind (arith, nat_tests)

pub failure_same : (n : ℕ) (f : FailureMode) → failure_of n ≡ Some f → failure_number f ≡ n
failure_same n f e = grind (arith, nat_tests)

signal_one : (s k : Signal) → flag (operate s) ≡ flag (operate k) → s ≡ k
signal_one s k e = grind (arith, nat_tests)

pub signal_same : (n : ℕ) (s : Signal) → signal_of n ≡ Some s → flag (operate s) ≡ n
signal_same n s e = grind (arith, nat_tests)

watchdog_one : (w k : Watchdog) → flag (watched w) ≡ flag (watched k) → w ≡ k
watchdog_one w k e = grind (arith, nat_tests)

pub watchdog_same : (n : ℕ) (w : Watchdog) → watchdog_of n ≡ Some w → flag (watched w) ≡ n
watchdog_same n w e = grind (arith, nat_tests)

-- what has each number of n has all of them
pub core_made : (n : CoreNumbers) (p : Plate) (m : Mode) (f : FailureMode) (sg : Signal) (w : Watchdog) (t e rs ts : ℕ) (rd td h l a : Bool) (fig : List ℕ)
    → t ≡ n.time → e ≡ n.entered → rs ≡ n.reset_since → ts ≡ n.test_since → p.numbers ≡ n.plate → mode_number m ≡ n.mode → failure_number f ≡ n.failure
    → flag (operate sg) ≡ n.signal → flag (watched w) ≡ n.watchdog → flag rd ≡ n.reset_down → flag td ≡ n.test_down → flag h ≡ n.high → flag l ≡ n.low → flag a ≡ n.alarm → fig ≡ n.figure
    → core_numbers p
    (record { mode = m; failure = f; signal = sg; watchdog = w; time = t; entered = e; reset = record { down = rd; since = rs }; test = record { down = td; since = ts } })
    (record { warnings = record { high = h; low = l; alarm = a }; figure = fig })
    ≡ n
core_made n p m f sg w t e rs ts rd td h l a fig time entered reset_since test_since plate mode failure signal watchdog reset_down test_down high low alarm figure = λ i. record {
  time = time i;
  entered = entered i;
  reset_since = reset_since i;
  test_since = test_since i;
  plate = plate i;
  mode = mode i;
  failure = failure i;
  signal = signal i;
  watchdog = watchdog i;
  reset_down = reset_down i;
  test_down = test_down i;
  high = high i;
  low = low i;
  alarm = alarm i;
  figure = figure i;
}

-- ---- plate, state and panel

-- plates with the same numbers are the same: the ghost field adds nothing
pub same_plate : (p q : Plate) → p.numbers ≡ q.numbers → p ≡ q
same_plate p q e = λ i. record {
  numbers = e i;
  ok = is_prop→PathP (λ j. keeps_rules (e j) ≡ true) (λ j. Bool-set (keeps_rules (e j)) true) p.ok q.ok i;
}

module _ (x y : Core) (e : numbers_of x ≡ numbers_of y) where
  state_one : x.state ≡ y.state
  state_one = λ i. record {
    mode = mode_one x.state.mode y.state.mode (ap (λ n. n.mode) e) i;
    failure = failure_one x.state.failure y.state.failure (ap (λ n. n.failure) e) i;
    signal = signal_one x.state.signal y.state.signal (ap (λ n. n.signal) e) i;
    watchdog = watchdog_one x.state.watchdog y.state.watchdog (ap (λ n. n.watchdog) e) i;
    time = (e i).time;
    entered = (e i).entered;
    reset = record { down = flag_one x.state.reset.down y.state.reset.down (ap (λ n. n.reset_down) e) i; since = (e i).reset_since };
    test = record { down = flag_one x.state.test.down y.state.test.down (ap (λ n. n.test_down) e) i; since = (e i).test_since };
  }

  panel_one : x.panel ≡ y.panel
  panel_one = grind (arith, nat_tests)

  -- parts that have the same numbers are the same
  pub core_one : x ≡ y
  core_one = λ i. record { plate = same_plate x.plate y.plate (ap (λ n. n.plate) e) i; state = state_one i; panel = panel_one i }
