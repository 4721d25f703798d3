-- What each mode keeps, over powered histories without a fault, from one step to the next.
use Rattle.std.proofs.Common.{◌≡◌, ℕ, ◌+◌, ◌-◌, ◌<◌, ◌≤◌, Bool, true, false, cond, ◌⊎◌, List, ◌∷◌, refl, inl, inr, arith}
use Rattle.control.specs.Button.{pressed}
use Rattle.control.specs.Modes.{is}
use Rattle.control.specs.State.{operate}
use Rattle.control.specs.Transition.{next_signal}
use Rattle.control.specs.declared.button.Button.{Button}
use Rattle.control.specs.declared.mode.FailureMode.TheVariants.{Allok}
use Rattle.control.specs.declared.mode.Mode.{Mode}
use Rattle.control.specs.declared.mode.Mode.TheVariants.{Dark, Standby, Operating, Shutdown, Test}
use Rattle.control.specs.declared.mode.Signal.{Signal}
use Rattle.control.specs.declared.mode_table.Conditions.{Conditions}
use Rattle.control.specs.declared.plate.Plate.{Plate}
use Rattle.monitor.specs.History.{Event}
use Rattle.monitor.specs.Words.{amiss, button_time, faulty, let_go_since_trip, level_trip, on, out, reset_down, reset_since_trip, settled, start, test_down, time, trip}
use Rattle.monitor.proofs.Bounds.{BadFrom, HeadFine, OutsFrom, bad_none, bad_weaker, outs_bound, settled_in}
use Rattle.monitor.proofs.Moves.{Moves, stays_dark, waits, resets, tests, runs, shuts, stays_shut, recovers, gives_up, tests_on, tested}
use Rattle.std.proofs.lemmas.Bool.Decides.{nat_tests}
use Rattle.std.proofs.lemmas.Bool.{cases_Bool}

-- A pump that may run, in operating or shutdown: a full reset since the last trip, let go if the signal is
-- operate, and self test down for 500 ms at most.
pub record Ready (p : Plate) (h : List Event) (sig : Signal) (now : ℕ) (test : Button) : Type 0 where
  pub reset : reset_since_trip p h ≡ true
  pub let_go : operate sig ≡ true → let_go_since_trip p h ≡ true
  pub brief : now ≤ test.since + 500

-- In operating a bad level comes only with self test down.
pub record Runs (p : Plate) (h : List Event) (sig : Signal) (now : ℕ) (test : Button) : Type 0 where
  pub ready : Ready p h sig now test
  pub no_outs : (x : ℕ) → OutsFrom p x h
  pub bad : BadFrom p test.since 0 h
  pub up : test.down ≡ false → HeadFine p h

-- Shutdown was entered at the first untested bad level; the level went bad less than a second before.
pub record Shuts (p : Plate) (h : List Event) (sig : Signal) (now entered : ℕ) (test : Button) : Type 0 where
  pub ready : Ready p h sig now test
  pub entered_by : entered ≤ now
  pub outs : OutsFrom p entered h
  pub bad : BadFrom p entered 999 h
  pub pressed_by : test.since ≤ entered + 698
  pub up : test.down ≡ false → now < entered + 200

pub record Tests (sig : Signal) (now entered : ℕ) : Type 0 where
  pub silent : operate sig ≡ false
  pub entered_by : entered ≤ now
  pub lasts : now ≤ entered + 14000

abbrev pub ByMode : Plate → Mode → List Event → Signal → ℕ → ℕ → Button → Type 0
ByMode p Dark h sig now entered test = ⊥
ByMode p Standby h sig now entered test = operate sig ≡ false
ByMode p Operating h sig now entered test = Runs p h sig now test
ByMode p Shutdown h sig now entered test = Shuts p h sig now entered test
ByMode p Test h sig now entered test = Tests sig now entered

-- the button at a step
abbrev pub test_at : Button → Event → Button
test_at test e = pressed test (test_down e) (time e)

-- what the table looks at, in the words of the history
abbrev pub seen : Plate → List Event → Event → ℕ → Button → Conditions
seen p h e entered test = record {
  dwell = time e - entered;
  testing = test_down e;
  tested = time e - (test_at test e).since;
  reset = button_time reset_down e h;
  out = out p e;
  settled = settled p e;
}

-- of a step e after h that shows no fault and is no start
pub record Sound (h : List Event) (e : Event) (now : ℕ) (test : Button) : Type 0 where
  pub lit : on e ≡ true
  pub later : now < time e
  pub soon : time e < now + 500
  pub reads : faulty e ≡ false
  pub going : start e h ≡ false
  pub pressed_by : test.since ≤ now
  pub test_time : button_time test_down e h ≡ time e - (test_at test e).since

-- the signal in operating is operate since reset is up, or since it was
how_operating : (reset : Bool) (sig : Signal) → operate (next_signal Operating Allok reset sig) ≡ true → (reset ≡ false) ⊎ (operate sig ≡ true)
how_operating reset sig drives = grind (arith, nat_tests)

module _ (p : Plate) (h : List Event) (e : Event) (now : ℕ) (test : Button) (s : Sound h e now test) where
  -- self test's button at the step
  abbrev test' : Button
  test' = test_at test e

  -- it counts from the step at the latest
  since_by : test'.since ≤ time e
  since_by = grind (arith, nat_tests)

  -- a good level is not amiss
  not_amiss : out p e ≡ false → amiss p e h ≡ false
  not_amiss within = grind (arith, nat_tests)

  no_trip : time e - test'.since ≤ 500 → level_trip p e h ≡ false → trip p e h ≡ false
  no_trip short level = grind (arith, nat_tests)

  settled_level : settled p e ≡ true → level_trip p e h ≡ false
  settled_level calm = grind (arith, nat_tests)

  -- no level trip where every untested bad level came less than 200 ms before
  recent_level : (x : ℕ) → OutsFrom p x h → (test_down e ≡ false → time e < x + 200) → level_trip p e h ≡ false
  recent_level x outs recent = grind (arith, nat_tests, outs_bound p x (time e) h outs)

  -- still ready after a step with no trip
  stays_ready : (sig sig' : Signal) → Ready p h sig now test → time e - test'.since ≤ 500 → level_trip p e h ≡ false
      → (operate sig' ≡ true → (e.step.reset ≡ false) ⊎ (operate sig ≡ true))
      → Ready p (e ∷ h) sig' (time e) test'
  stays_ready sig sig' ready short level how = let none = no_trip short level in grind (arith, nat_tests)

  -- a level that is bad only with self test down
  no_outs_on : (x : ℕ) → (test_down e ≡ false → out p e ≡ false) → OutsFrom p x h → OutsFrom p x (e ∷ h)
  no_outs_on x tested-only outs = grind (arith, nat_tests)

  bad_on : (test_down e ≡ false → out p e ≡ false) → (test.down ≡ false → HeadFine p h) → BadFrom p test.since 0 h → amiss p e h ≡ true → BadFrom p test'.since 0 h
  bad_on tested-only up bad a =
      elim (cases_Bool test.down) [
        | inl was ↦ bad_weaker p test.since 0 test'.since 0 h (λ n b. grind (arith, nat_tests)) bad
        | inr was ↦ bad_none p test'.since 0 h (up was)
      ]

  -- self test was not pressed since long before shutdown
  pressed_on : (entered : ℕ) → test.since ≤ entered + 698 → (test.down ≡ false → now < entered + 200) → (test_down e ≡ false → time e < entered + 200) → test'.since ≤ entered + 698
  pressed_on entered pressed up near = grind (arith, nat_tests)

  module _ (sig : Signal) where
    abbrev operating : Signal
    operating = next_signal Operating Allok e.step.reset sig

    -- operating entered or kept at a settled level
    runs_settled : settled p e ≡ true → Ready p (e ∷ h) operating (time e) test' → Runs p (e ∷ h) operating (time e) test'
    runs_settled calm ready = grind (arith, nat_tests, settled_in, not_amiss)

    -- operating entered by a full reset, which is not let go yet
    resets_now : time e - test'.since ≤ 500 → 3000 < button_time reset_down e h → settled p e ≡ true → operate sig ≡ false → Runs p (e ∷ h) operating (time e) test'
    resets_now short long calm silent = let none = no_trip short (settled_level calm) in runs_settled calm (grind (arith, nat_tests))

    -- operating goes on
    runs_on : time e - test'.since ≤ 500 → Runs p h sig now test → (test_down e ≡ false → out p e ≡ false) → Runs p (e ∷ h) operating (time e) test'
    runs_on short r tested-only = record {
      ready = stays_ready sig operating r.ready short (recent_level (time e) (r.no_outs (time e)) (λ _. omega arith)) (how_operating e.step.reset sig);
      no_outs = λ x. no_outs_on x tested-only (r.no_outs x);
      bad = λ a. (omega (arith, since_by), bad_on tested-only r.up r.bad a);
      up = λ up. not_amiss (tested-only up);
    }

    -- shutdown entered
    shuts_now : time e - test'.since ≤ 500 → Runs p h sig now test → test_down e ≡ false → Shuts p (e ∷ h) sig (time e) (time e) test'
    shuts_now short r up =
        let outs = r.no_outs (time e) in
        let ready = stays_ready sig sig r.ready short (recent_level (time e) outs (λ _. omega arith)) inr in
        let bad = bad_weaker p test.since 0 (time e) 999 h (λ n b. omega arith) r.bad in
        grind (arith, nat_tests)

    -- shutdown goes on
    shuts_on : (entered : ℕ) → time e - test'.since ≤ 500 → Shuts p h sig now entered test → (test_down e ≡ false → time e - entered < 200) → Shuts p (e ∷ h) sig (time e) entered test'
    shuts_on entered short r recent =
        let near : test_down e ≡ false → time e < entered + 200 = λ up. omega (arith, recent up) in
        let ready = stays_ready sig sig r.ready short (recent_level entered r.outs near) inr in
        let pressed = pressed_on entered r.pressed_by r.up near in
        grind (arith, nat_tests)

    -- from one step to the next, whichever row of the table was taken
    pub to_mode : (m n : Mode) (entered : ℕ) → Moves (seen p h e entered test) m n → ByMode p m h sig now entered test
        → ByMode p n (e ∷ h) (next_signal n Allok e.step.reset sig) (time e) (cond (is n m) entered (time e)) test'
    to_mode _ _ entered stays_dark b = absurd b
    to_mode _ _ entered (waits short calm) b = refl
    to_mode _ _ entered (resets short long calm) b = resets_now short long calm b
    to_mode _ _ entered (tests lit other long) b = grind arith
    to_mode _ _ entered (runs short tested-only) b = runs_on short b tested-only
    to_mode _ _ entered (shuts short up o) b = shuts_now short b up
    to_mode _ _ entered (stays_shut short recent) b = shuts_on entered short b (λ up. (recent up).0)
    to_mode _ _ entered (recovers short up calm) b = runs_settled calm (stays_ready sig operating b.ready short (settled_level calm) (how_operating e.step.reset sig))
    to_mode _ _ entered (gives_up up) b = refl
    to_mode _ _ entered (tests_on short) b = grind arith
    to_mode _ _ entered tested b = refl
