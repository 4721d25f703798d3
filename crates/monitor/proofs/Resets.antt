-- A long reset: after 14,500 ms of quiet steps with reset down the mode is operating, and letting go drives the pump.
use Rattle.std.proofs.Common.{◌≡◌, ℕ, ◌+◌, ◌-◌, ◌<◌, ◌≤◌, true, false, cond, List, refl, arith}
use Rattle.control.specs.Modes.{is}
use Rattle.control.specs.declared.button.Button.{Button}
use Rattle.control.specs.declared.mode.Mode.{Mode}
use Rattle.control.specs.declared.mode.Mode.TheVariants.{Dark, Standby, Operating, Shutdown, Test}
use Rattle.control.specs.declared.mode.Signal.{Signal}
use Rattle.control.specs.declared.plate.Plate.{Plate}
use Rattle.monitor.specs.History.{Event}
use Rattle.monitor.specs.Words.{button_time, out, reset_down, settled, test_down, time}
use Rattle.monitor.proofs.Bounds.{settled_in}
use Rattle.monitor.proofs.Invariant.{ByMode, Sound, seen, test_at}
use Rattle.monitor.proofs.Moves.{Moves, stays_dark, waits, resets, tests, runs, shuts, stays_shut, recovers, gives_up, tests_on, tested}
use Rattle.std.proofs.lemmas.Bool.Decides.{nat_tests}

-- Where a long reset that began at r has led: to operating at last.
abbrev pub Leads : ℕ → Mode → ℕ → ℕ → Type 0
Leads r Dark now entered = ⊥
Leads r Standby now entered = now < r + 14500
Leads r Operating now entered = Unit {0}
Leads r Shutdown now entered = ⊥
Leads r Test now entered = (entered ≤ r) × (now ≤ entered + 14000)

-- a quiet step: settled and self test up
pub record Calm (p : Plate) (e : Event) : Type 0 where
  pub calm : settled p e ≡ true
  pub up : test_down e ≡ false

module _ (p : Plate) (h : List Event) (e : Event) (now entered : ℕ) (test : Button) (s : Sound h e now test) (q : Calm p e) where
  -- self test is up, so its time is 0
  untested : 500 < time e - (test_at test e).since → ⊥
  untested long = grind (arith, nat_tests)

  in_limits : out p e ≡ true → ⊥
  in_limits o = let within = settled_in p e q.calm in cc

  -- a settled step waits in standby only while reset is short
  not_long : (3000 < button_time reset_down e h → settled p e ≡ false) → button_time reset_down e h ≤ 3000
  not_long long = grind (arith, nat_tests)

  -- the first quiet step of it, at r
  pub begins : (r : ℕ) (sig : Signal) (m n : Mode) → Moves (seen p h e entered test) m n → time e ≡ r → ByMode p m h sig now entered test → Leads r n (time e) (cond (is n m) entered (time e))
  begins r sig _ _ stays_dark here b = absurd b
  begins r sig _ _ (waits a c) here b = omega arith
  begins r sig _ _ (resets a c d) here b = tt
  begins r sig _ _ (tests lit other long) here b = absurd (untested long)
  begins r sig _ _ (runs a c) here b = tt
  begins r sig _ _ (shuts a c o) here b = absurd (in_limits o)
  begins r sig _ _ (stays_shut a recent) here b = absurd (let loose = (recent q.up).1 in cc)
  begins r sig _ _ (recovers a c d) here b = tt
  begins r sig _ _ (gives_up a) here b = omega arith
  begins r sig _ _ (tests_on short) here b = grind arith
  begins r sig _ _ tested here b = omega arith

  -- a further quiet step of it, with reset down since r or before
  pub goes_on : (r : ℕ) (m n : Mode) → Moves (seen p h e entered test) m n → time e ≤ r + button_time reset_down e h → Leads r m now entered → Leads r n (time e) (cond (is n m) entered (time e))
  goes_on r _ _ stays_dark held l = absurd l
  goes_on r _ _ (waits a long) held l = omega (arith, not_long long)
  goes_on r _ _ (resets a c d) held l = tt
  goes_on r _ _ (tests lit other long) held l = absurd (untested long)
  goes_on r _ _ (runs a c) held l = tt
  goes_on r _ _ (shuts a c o) held l = absurd (in_limits o)
  goes_on r _ _ (stays_shut a c) held l = absurd l
  goes_on r _ _ (recovers a c d) held l = tt
  goes_on r _ _ (gives_up a) held l = absurd l
  goes_on r _ _ (tests_on short) held l = grind arith
  goes_on r _ _ tested held l = grind arith

  -- at a quiet step 14,500 ms after r the mode is operating
  pub arrives : (r : ℕ) (m n : Mode) → Moves (seen p h e entered test) m n → r + 14500 ≤ now → Leads r m now entered → n ≡ Operating
  arrives r _ _ stays_dark held l = absurd l
  arrives r _ _ (waits a c) held l = absurd (omega arith)
  arrives r _ _ (resets a c d) held l = refl
  arrives r _ _ (tests lit other long) held l = absurd (untested long)
  arrives r _ _ (runs a c) held l = refl
  arrives r _ _ (shuts a c o) held l = absurd (in_limits o)
  arrives r _ _ (stays_shut a c) held l = absurd l
  arrives r _ _ (recovers a c d) held l = refl
  arrives r _ _ (gives_up a) held l = absurd l
  arrives r _ _ (tests_on short) held l = absurd (omega (arith, l.0, l.1))
  arrives r _ _ tested held l = absurd (omega (arith, l.0, l.1))
