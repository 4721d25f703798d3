-- From a long reset to a driven pump.
use Rattle.std.proofs.Common.{◌≡◌, ℕ, ◌+◌, ◌-◌, ◌≤◌, Bool, true, false, ◌&&◌, leb, ◌⊎◌, List, [], ◌∷◌, sym, refl, ap, ◌∙◌, inl, inr, arith}
use Rattle.control.specs.State.{drives, operate, watched}
use Rattle.control.specs.Transition.{moved, next_signal, started}
use Rattle.control.specs.declared.mode.FailureMode.TheVariants.{Allok}
use Rattle.control.specs.declared.mode.Mode.{Mode}
use Rattle.control.specs.declared.mode.Mode.TheVariants.{Operating}
use Rattle.control.specs.declared.mode.Signal.{Signal}
use Rattle.control.specs.declared.mode_table.Conditions.{Conditions}
use Rattle.control.specs.declared.plate.Plate.{Plate}
use Rattle.control.specs.declared.state.State.{State}
use Rattle.monitor.specs.History.{Event}
use Rattle.monitor.specs.Promises.{LongReset}
use Rattle.monitor.specs.Words.{on, powered, quiet, quiet_reset, reset_down, settled, shows_fault, since, test_down, time}
use Rattle.monitor.proofs.Fold.{Kept, carried, kept, next_moved, next_started, pressed_by, reset_is', sound, state_of, time_down, well, well_before}
use Rattle.monitor.proofs.Invariant.{Sound, seen}
use Rattle.monitor.proofs.Logic.{quiet_parts}
use Rattle.monitor.proofs.Moves.{moves}
use Rattle.monitor.proofs.Resets.{Calm, Leads, arrives, begins, goes_on}
use Rattle.std.proofs.lemmas.Bool.Decides.{nat_tests}
use Rattle.std.proofs.lemmas.Bool.{and_from, and_parts, both_ways, cases_Bool, cond-true, leb-true, not-true, or_cases}

-- from a step at r to the newest, all are quiet with reset down
abbrev HeldFrom : Plate → ℕ → List Event → Type 0
HeldFrom p r [] = ⊥
HeldFrom p r (e ∷ h) = (quiet_reset p e h ≡ true) × ((time e ≡ r) ⊎ HeldFrom p r h)

held_from : (p : Plate) (d t : ℕ) (h : List Event) → since (quiet_reset p) d t h ≡ true → (r : ℕ) × (r + d ≤ t) × HeldFrom p r h
held_from p d t [] s = cc
held_from p d t (e ∷ h) s =
    let parts = and_parts (quiet_reset p e h) _ s in
    elim (or_cases (leb (time e + d) t) _ parts.1) [
      | inl here ↦ (time e, leb-true (time e + d) t here, (parts.0, inl refl))
      | inr more ↦ let found = held_from p d t h more in (found.0, found.1, (parts.0, inr found.2))
    ]

-- the parts of a quiet step
pub quiet_on : (p : Plate) (e : Event) (h : List Event) → quiet p e h ≡ true → on e ≡ true
quiet_on p e h q = grind (arith, nat_tests)

quiet_calm : (p : Plate) (e : Event) (h : List Event) → quiet p e h ≡ true → Calm p e
quiet_calm p e h q = let parts = quiet_parts (on e) (shows_fault p e h) (settled p e) (test_down e) q in record { calm = parts.0; up = parts.1 }

held_on : (p : Plate) (r : ℕ) (h : List Event) → HeldFrom p r h → powered h ≡ true
held_on p r [] held = absurd held
held_on p r (e ∷ h) held = grind (arith, nat_tests)

-- where the reset begun at r has led, and that it goes on
record Leading (r : ℕ) (st : State) : Type 0 where
  leads : Leads r st.mode st.time st.entered
  held : st.reset.since ≤ r
  down : st.reset.down ≡ true

-- a start can only be its first step
leading_start : (p : Plate) (r : ℕ) (e : Event) (h : List Event) → quiet_reset p e h ≡ true → powered h ≡ false → (time e ≡ r) ⊎ HeldFrom p r h
    → Leading r (started p e.step e.reading)
leading_start p r e h q off (inr more) = absurd (both_ways (powered h) off (held_on p r h more))
leading_start p r e h q off (inl here) = grind (arith, nat_tests)

-- a later step begins it or carries it on
module _ (p : Plate) (r : ℕ) (e b : Event) (g : List Event) (st : State) (k : Kept p (b ∷ g) st) (q : quiet_reset p e (b ∷ g) ≡ true) (was : on b ≡ true) (w : well p (e ∷ (b ∷ g)) ≡ true) where
  calm : quiet p e (b ∷ g) ≡ true
  calm = (and_parts (quiet p e (b ∷ g)) _ q).0

  lit : on e ≡ true
  lit = quiet_on p e (b ∷ g) calm

  pressed_now : e.step.reset ≡ true
  pressed_now = (and_parts (on e) _ (and_parts (quiet p e (b ∷ g)) _ q).1).1

  before : well p (b ∷ g) ≡ true
  before = well_before p e b g st lit was k w

  s : Sound (b ∷ g) e st.time st.test
  s = sound p e b g st lit was k w

  abbrev c : Conditions
  c = seen p (b ∷ g) e st.entered st.test

  begun : time e ≡ r → Leading r (moved p st e.step e.reading)
  begun here = record {
    leads = carried p e b g st lit was k w (λ m sig x. Leads r m (time e) x)
        (begins p (b ∷ g) e st.time st.entered st.test s (quiet_calm p e (b ∷ g) calm) r st.signal st.mode _ (moves c st.mode) here (k.by_mode before));
    held = omega (arith, here, pressed_by e.step.reset st.reset st.time (time e) (k.reset_by before) s.later);
    down = pressed_now;
  }

  carried_on : Leading r st → Leading r (moved p st e.step e.reading)
  carried_on l =
      let same = cond-true (e.step.reset && st.reset.down) st.reset.since (time e) (and_from _ _ pressed_now l.down) in
      let long = time_down reset_down e (b ∷ g) ∙ ap (λ x. time e - x.since) (sym (reset_is' p e b g st lit was k)) in
      record {
        leads = carried p e b g st lit was k w (λ m sig x. Leads r m (time e) x)
            (goes_on p (b ∷ g) e st.time st.entered st.test s (quiet_calm p e (b ∷ g) calm) r st.mode _ (moves c st.mode) (omega (arith, same, long, l.held)) l.leads);
        held = omega (arith, same, l.held);
        down = pressed_now;
      }

-- one step of it, over what the steps before led to
leading_next : (p : Plate) (r : ℕ) (e : Event) (h : List Event) → HeldFrom p r (e ∷ h) → well p (e ∷ h) ≡ true → (powered h ≡ true) ⊎ (powered h ≡ false)
    → (HeldFrom p r h → well p h ≡ true → Leading r (state_of p h)) → Leading r (state_of p (e ∷ h))
leading_next p r e h held w (inr off) before =
    let lit = held_on p r (e ∷ h) held in
    rw (next_started p e h (state_of p h) (kept p h) lit off) (leading_start p r e h held.0 off held.1)
leading_next p r e [] held w (inl was) before = cc
leading_next p r e (b ∷ g) held w (inl was) before =
    let st = state_of p (b ∷ g) in
    let k = kept p (b ∷ g) in
    let lit = held_on p r (e ∷ (b ∷ g)) held in
    rw (next_moved p e (b ∷ g) st k lit was)
    (elim held.1 [
      | inl here ↦ begun p r e b g st k held.0 was w here
      | inr more ↦ carried_on p r e b g st k held.0 was w (before more (well_before p e b g st lit was k w))
    ])

leading : (p : Plate) (r : ℕ) (h : List Event) → HeldFrom p r h → well p h ≡ true → Leading r (state_of p h)
leading p r [] held w = absurd held
leading p r (e ∷ h) held w = leading_next p r e h held w (cases_Bool (powered h)) (leading p r h)

-- operating drives once reset is up
operates_up : (n : Mode) (reset : Bool) (sig : Signal) → n ≡ Operating → reset ≡ false → operate (next_signal n Allok reset sig) ≡ true
operates_up n reset sig operating up = grind (arith, nat_tests)

-- a long reset, let go, drives the pump
drives_after : (p : Plate) (e b : Event) (g : List Event) → LongReset p e (b ∷ g) → drives (state_of p (e ∷ (b ∷ g))) ≡ true
drives_after p e b g long =
    let found = held_from p 14500 (time b) (b ∷ g) long.held_long in
    let r = found.0 in
    let st = state_of p (b ∷ g) in
    let k = kept p (b ∷ g) in
    let lit = quiet_on p e (b ∷ g) long.calm in
    let was = held_on p r (b ∷ g) found.2 in
    let w : well p (e ∷ (b ∷ g)) ≡ true = and_from (on e) _ lit long.no_fault in
    let l = leading p r (b ∷ g) found.2 (well_before p e b g st lit was k w) in
    let operating = arrives p (b ∷ g) e st.time st.entered st.test (sound p e b g st lit was k w) (quiet_calm p e (b ∷ g) long.calm) r st.mode _ (moves (seen p (b ∷ g) e st.entered st.test) st.mode) (omega (arith, found.1, k.time_is)) l.leads in
    let operates : operate (moved p st e.step e.reading).signal ≡ true = carried p e b g st lit was k w (λ m sig x. operate sig ≡ true) (operates_up _ e.step.reset st.signal operating (not-true e.step.reset long.let_go)) in
    let step_is = next_moved p e (b ∷ g) st k lit was in
    let watch = (and_parts _ (watched (state_of p (e ∷ (b ∷ g))).watchdog) ((kept p (e ∷ (b ∷ g))).key ∙ w)).1 in
    and_from _ _ (ap (λ x. operate x.signal) step_is ∙ operates) watch

pub long_reset_drives : (p : Plate) (e : Event) (h : List Event) → LongReset p e h → drives (state_of p (e ∷ h)) ≡ true
long_reset_drives p e [] long = absurd (both_ways false refl long.held_long)
long_reset_drives p e (b ∷ g) long = drives_after p e b g long
