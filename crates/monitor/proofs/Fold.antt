-- The state as a fold over the history, and what it keeps.
use Rattle.std.proofs.Common.{◌≡◌, ℕ, ◌-◌, ◌<◌, ◌≤◌, Bool, true, false, cond, not, ◌&&◌, ◌||◌, ◌⊎◌, List, [], ◌∷◌, sym, refl, ◌∙◌, subst, inl, inr, arith}
use Rattle.control.specs.Button.{pressed, released}
use Rattle.control.specs.ModeTable.{next_mode}
use Rattle.control.specs.Modes.{allok, is}
use Rattle.control.specs.State.{dark, operate, watched}
use Rattle.control.specs.Transition.{bad_reading, clock_fails, conditions, entered_after, mode_after, moved, next_signal, next_state, next_watchdog, started, worse}
use Rattle.control.specs.declared.button.Button.{Button}
use Rattle.control.specs.declared.mode.FailureMode.{FailureMode}
use Rattle.control.specs.declared.mode.FailureMode.TheVariants.{Allok}
use Rattle.control.specs.declared.mode.Mode.{Mode}
use Rattle.control.specs.declared.mode.Mode.TheVariants.{Dark}
use Rattle.control.specs.declared.mode.Signal.{Signal}
use Rattle.control.specs.declared.mode_table.Conditions.{Conditions}
use Rattle.control.specs.declared.plate.Plate.{Plate}
use Rattle.control.specs.declared.state.State.{State}
use Rattle.records.specs.declared.step.Step.{Step}
use Rattle.monitor.specs.History.{Event}
use Rattle.monitor.specs.Words.{began, button_time, faulty, faultless, ill_timed, on, past, powered, reset_down, start, test_down, time}
use Rattle.monitor.proofs.Invariant.{ByMode, Sound, seen, test_at, to_mode}
use Rattle.monitor.proofs.Logic.{allok_is, allok_worse, bad_is, key_moved, clean_parts, key_start, watched_unless}
use Rattle.monitor.proofs.Moves.{moves, not_dark}
use Rattle.std.proofs.lemmas.Bool.Decides.{nat_tests}
use Rattle.std.proofs.lemmas.Bool.{and_from, and_parts, cases_Bool, cond_both, cond-false}

abbrev pub state_of : Plate → List Event → State
state_of p [] = dark 0
state_of p (e ∷ h) = next_state p (state_of p h) e.step e.reading

-- a button of a step, down only with power on
abbrev down_at : (Step → Bool) → Event → Bool
down_at f e = on e && f e.step

-- the button that a history leaves
abbrev pub button_of : (Event → Bool) → List Event → Button
button_of down [] = released 0
button_of down (e ∷ h) = record { down = down e; since = cond (down e) (began down h (time e)) (time e) }

abbrev TimeIs : List Event → ℕ → Type 0
TimeIs [] t = Unit {0}
TimeIs (e ∷ h) t = t ≡ time e

-- power is on and there was no fault since the start
abbrev pub well : Plate → List Event → Bool
well p h = powered h && faultless p h

pub record Kept (p : Plate) (h : List Event) (st : State) : Type 0 where
  pub reset_is : st.reset ≡ button_of reset_down h
  pub test_is : st.test ≡ button_of test_down h
  pub time_is : TimeIs h st.time
  pub lit : is st.mode Dark ≡ not (powered h)
  pub key : (allok st.failure && watched st.watchdog) ≡ well p h
  pub silent : allok st.failure ≡ false → operate st.signal ≡ false
  pub test_by : well p h ≡ true → st.test.since ≤ st.time
  pub reset_by : well p h ≡ true → st.reset.since ≤ st.time
  pub by_mode : well p h ≡ true → ByMode p st.mode h st.signal st.time st.entered st.test

-- how long it has been down
pub time_down : (down : Event → Bool) (e : Event) (h : List Event) → button_time down e h ≡ time e - (button_of down (e ∷ h)).since
time_down down e h = grind (arith, nat_tests)

-- a step without power releases both buttons
released_is : (f : Step → Bool) (e : Event) (h : List Event) → on e ≡ false → released (time e) ≡ button_of (down_at f) (e ∷ h)
released_is f e h off = grind (arith, nat_tests)

-- no run of presses reaches back into the dark
began_dark : (f : Step → Bool) (h : List Event) (t : ℕ) → powered h ≡ false → began (down_at f) h t ≡ t
began_dark f [] t off = refl
began_dark f (b ∷ h) t off = grind (arith, nat_tests)

-- a button at a start, and at a later step
started_is : (f : Step → Bool) (e : Event) (h : List Event) → on e ≡ true → powered h ≡ false
    → pressed (released (time e)) (f e.step) (time e) ≡ button_of (down_at f) (e ∷ h)
started_is f e h lit off = grind (arith, nat_tests, began_dark f h (time e) off)

pressed_is : (f : Step → Bool) (e : Event) (h : List Event) (b : Button) → b ≡ button_of (down_at f) h → on e ≡ true
    → pressed b (f e.step) (time e) ≡ button_of (down_at f) (e ∷ h)
pressed_is f e [] b was lit = grind (arith, nat_tests)
pressed_is f e (c ∷ h) b was lit = grind (arith, nat_tests)

kept_dark : (p : Plate) (e : Event) (h : List Event) → on e ≡ false → Kept p (e ∷ h) (dark (time e))
kept_dark p e h off =
    let reset = released_is (λ s. s.reset) e h off in
    let test = released_is (λ s. s.self_test) e h off in
    grind (arith, nat_tests)

kept_start : (p : Plate) (e : Event) (h : List Event) → on e ≡ true → powered h ≡ false → Kept p (e ∷ h) (started p e.step e.reading)
kept_start p e h lit off =
    let starts : start e h ≡ true = grind (arith, nat_tests) in
    record {
      reset_is = started_is (λ s. s.reset) e h lit off;
      test_is = started_is (λ s. s.self_test) e h lit off;
      time_is = refl;
      lit = grind (arith, nat_tests);
      key = simp (allok_worse, bad_is) (key_start _ _ _ _ _ _ _ _ lit starts);
      silent = λ _. refl;
      test_by = λ _. grind (arith, nat_tests);
      reset_by = λ _. grind (arith, nat_tests);
      by_mode = λ _. refl;
    }

-- a button's run at a step began then at the latest
pub pressed_by : (down : Bool) (b : Button) (now t : ℕ) → b.since ≤ now → now < t → (pressed b down t).since ≤ t
pressed_by down b now t before later = grind (arith, nat_tests)

-- a power-on step e after a power-on step b: what the fold keeps
module _ (p : Plate) (e b : Event) (g : List Event) (st : State) (lit : on e ≡ true) (was-lit : on b ≡ true) (k : Kept p (b ∷ g) st) where
  going : start e (b ∷ g) ≡ false
  going = grind (arith, nat_tests)

  abbrev failed : Bool
  failed = e.step.memory_failed || clock_fails st e.step

  abbrev failure' : FailureMode
  failure' = worse st.failure failed (bad_reading p e.reading)

  abbrev reset' : Button
  reset' = pressed st.reset e.step.reset (time e)

  abbrev test' : Button
  test' = pressed st.test e.step.self_test (time e)

  abbrev conditions' : Conditions
  conditions' = conditions p st e.reading (time e) reset' test'

  abbrev st' : State
  st' = moved p st e.step e.reading

  moved_key : (allok failure' && watched (next_watchdog st (time e))) ≡ well p (e ∷ (b ∷ g))
  moved_key = simp (allok_worse, watched_unless, bad_is, k.time_is) (key_moved _ _ _ _ _ _ _ _ _ _ _ _ lit going was-lit k.key)

  test_is' : test' ≡ button_of test_down (e ∷ (b ∷ g))
  test_is' = pressed_is (λ s. s.self_test) e (b ∷ g) st.test k.test_is lit

  pub reset_is' : reset' ≡ button_of reset_down (e ∷ (b ∷ g))
  reset_is' = pressed_is (λ s. s.reset) e (b ∷ g) st.reset k.reset_is lit

  -- the button as the invariant has it
  test_seen : test' ≡ test_at st.test e
  test_seen = grind (arith, nat_tests)

  seen_is : conditions' ≡ seen p (b ∷ g) e st.entered st.test
  seen_is = grind (arith, nat_tests, reset_is', test_seen)

  lit_mode : is (mode_after st failure' conditions') Dark ≡ false
  lit_mode =
      let was : is st.mode Dark ≡ false = grind (arith, nat_tests) in
      cond_both (allok failure') _ _ (λ m. is m Dark ≡ false) (λ _. not_dark conditions' st.mode _ (moves conditions' st.mode) was) (λ _. was)

  -- of a history that stays well
  module _ (w : well p (e ∷ (b ∷ g)) ≡ true) where
    -- no fault up to b, a reading, and e on time
    parts : (faultless p (b ∷ g) ≡ true) × ((faulty e ≡ false) × (ill_timed e (b ∷ g) ≡ false))
    parts = clean_parts (on e) e.step.memory_failed e.step.clock_failed (faulty e) (past p e) (start e (b ∷ g)) (ill_timed e (b ∷ g)) (faultless p (b ∷ g)) lit going w

    pub well_before : well p (b ∷ g) ≡ true
    well_before = and_from (on b) (faultless p (b ∷ g)) was-lit parts.0

    pub sound : Sound (b ∷ g) e st.time st.test
    sound =
        let pressed = k.test_by well_before in
        let reads = parts.1.0 in
        let ill = parts.1.1 in
        grind (arith, nat_tests, going)

    all_ok : failure' ≡ Allok
    all_ok = allok_is failure' (and_parts (allok failure') _ (moved_key ∙ w)).0

    -- a fact of the mode that the table leads to, of its signal and of when it was entered, is one of the new state
    pub carried : (R : Mode → Signal → ℕ → Type 0) →
        (let n = next_mode st.mode (seen p (b ∷ g) e st.entered st.test) in
        R n (next_signal n Allok e.step.reset st.signal) (entered_after st n (time e)))
        → R st'.mode st'.signal st'.entered
    carried R there =
        let Q : FailureMode → Conditions → Type 0 = λ f c. R (mode_after st f c) (next_signal (mode_after st f c) f e.step.reset st.signal) (entered_after st (mode_after st f c) (time e)) in
        subst (λ f. Q f conditions') (sym all_ok) (subst (Q Allok) (sym seen_is) there)

    moved_mode : ByMode p st'.mode (e ∷ (b ∷ g)) st'.signal st'.time st'.entered st'.test
    moved_mode =
        let c = seen p (b ∷ g) e st.entered st.test in
        let there = to_mode p (b ∷ g) e st.time st.test sound st.signal st.mode (next_mode st.mode c) st.entered (moves c st.mode) (k.by_mode well_before) in
        carried (λ m sig x. ByMode p m (e ∷ (b ∷ g)) sig (time e) x test') (rw test_seen there)

  pub kept_moved : Kept p (e ∷ (b ∷ g)) (moved p st e.step e.reading)
  kept_moved = record {
    reset_is = reset_is';
    test_is = test_is';
    time_is = refl;
    lit = grind (arith, nat_tests, lit_mode);
    key = moved_key;
    silent = λ fails. grind (arith, nat_tests);
    test_by = λ w. pressed_by e.step.self_test st.test st.time (time e) (k.test_by (well_before w)) (sound w).later;
    reset_by = λ w. pressed_by e.step.reset st.reset st.time (time e) (k.reset_by (well_before w)) (sound w).later;
    by_mode = moved_mode;
  }

-- a power-on step in the dark is a start, and otherwise moves on
pub next_started : (p : Plate) (e : Event) (h : List Event) (st : State) → Kept p h st → on e ≡ true → powered h ≡ false
    → next_state p st e.step e.reading ≡ started p e.step e.reading
next_started p e h st k lit off = grind (arith, nat_tests, k.lit)

pub next_moved : (p : Plate) (e : Event) (h : List Event) (st : State) → Kept p h st → on e ≡ true → powered h ≡ true
    → next_state p st e.step e.reading ≡ moved p st e.step e.reading
next_moved p e h st k lit was = grind (arith, nat_tests, k.lit)

-- every accepted step keeps it
kept_on : (p : Plate) (e : Event) (h : List Event) (st : State) → Kept p h st → on e ≡ true → (powered h ≡ true) ⊎ (powered h ≡ false)
    → Kept p (e ∷ h) (next_state p st e.step e.reading)
kept_on p e h st k lit (inr off) = rw (next_started p e h st k lit off) (kept_start p e h lit off)
kept_on p e [] st k lit (inl was) = cc
kept_on p e (b ∷ g) st k lit (inl was) = rw (next_moved p e (b ∷ g) st k lit was) (kept_moved p e b g st lit was k)

kept_next : (p : Plate) (e : Event) (h : List Event) (st : State) → Kept p h st → Kept p (e ∷ h) (next_state p st e.step e.reading)
kept_next p e h st k =
    elim (cases_Bool (on e)) [
      | inl lit ↦ kept_on p e h st k lit (cases_Bool (powered h))
      | inr off ↦ rw (cond-false (on e) _ (dark (time e)) off) (kept_dark p e h off)
    ]

pub kept : (p : Plate) (h : List Event) → Kept p h (state_of p h)
kept p [] = grind (arith, nat_tests)
kept p (e ∷ h) = kept_next p e h (state_of p h) (kept p h)
