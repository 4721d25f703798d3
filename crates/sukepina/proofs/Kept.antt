-- What every accepted step keeps of a monitor's state and panel.
use Rattle.std.proofs.Common.{◌≡◌, ℕ, Bool, true, false, not, ◌&&◌, ◌||◌, leb, refl, arith}
use mathlib.Core.Bool.{beq}
use Rattle.std.proofs.lemmas.Bool.{and_parts, and_from, cond_both}
use Rattle.std.proofs.lemmas.Slice.Eq.{bytes_eq-Decides}
use Rattle.std.proofs.lemmas.Bool.Decides.{nat_tests}
use Rattle.base.specs.Limits.{time_limit}
use Rattle.control.specs.Button.{pressed}
use Rattle.control.specs.Modes.{allok, is}
use Rattle.control.specs.ModeTable.{next_mode}
use Rattle.control.specs.State.{dark, operate}
use Rattle.control.specs.Transition.{bad_reading, clock_fails, conditions, mode_after, moved, next_signal, next_state, started, worse}
use Rattle.control.specs.declared.button.Button.{Button}
use Rattle.control.specs.declared.mode.FailureMode.{FailureMode}
use Rattle.control.specs.declared.mode.Mode.{Mode}
use Rattle.control.specs.declared.mode.Mode.TheVariants as mode
use Rattle.control.specs.declared.mode.Signal.{Signal}
use Rattle.control.specs.declared.mode_table.Conditions.{Conditions}
use Rattle.control.specs.declared.plate.Plate.{Plate}
use Rattle.control.specs.declared.state.State.{State}
use Rattle.display.specs.Figure.{figure_of}
use Rattle.display.specs.Panel.{next_panel}
use Rattle.display.specs.Warnings.{next_warnings}
use Rattle.display.specs.declared.panel.Panel.{Panel}
use Rattle.display.specs.declared.warnings.Warnings.{Warnings}
use Rattle.gauges.specs.Model.{Reading}
use Rattle.records.specs.declared.step.Step.{Step}
use Rattle.sukepina.specs.Possible.{button_possible, implies, panel_possible, reading_possible, same, same_warnings, signal_possible, state_possible, times_possible}

abbrev Lit : Mode → Type 0
Lit m = is m mode.Dark ≡ false

-- ---- the panel

-- `==` on flags
pub same_beq : (x y : Bool) → beq x y ≡ same x y
same_beq x y = grind (arith, nat_tests)

warnings_again : (p : Plate) (w : Warnings) (before : Mode) (st : State) (r : Reading)
    → same_warnings (next_warnings p (next_warnings p w before st r) st.mode st r) (next_warnings p w before st r) ≡ true
warnings_again p w before st r = grind (arith, nat_tests)

pub panel_kept : (p : Plate) (d : Panel) (before : Mode) (st : State) (r : Reading) → panel_possible p st (next_panel p d before st r) r ≡ true
panel_kept p d before st r = and_from _ _ (warnings_again p d.warnings before st r) ((bytes_eq-Decides (figure_of st r) (figure_of st r)).1 refl)

-- ---- the state

button_kept : (b : Button) (down : Bool) (t : ℕ) → leb b.since time_limit ≡ true → leb t time_limit ≡ true → button_possible (pressed b down t) t ≡ true
button_kept b down t since now = grind (arith, nat_tests)

pub implies_true : (x : Bool) → implies x true ≡ true
implies_true x = grind (arith, nat_tests)

signal_kept : (m : Mode) (f : FailureMode) (reset : Bool) (sg : Signal) → implies (operate (next_signal m f reset sg)) (allok f && (is m mode.Operating || is m mode.Shutdown)) ≡ true
signal_kept m f reset sg = grind (arith, nat_tests)

never_dark : (m : Mode) (c : Conditions) → is m mode.Dark ≡ false → is (next_mode m c) mode.Dark ≡ false
never_dark m c e = grind (arith, nat_tests)

lit_after : (st : State) (f : FailureMode) (c : Conditions) → is st.mode mode.Dark ≡ false → is (mode_after st f c) mode.Dark ≡ false
lit_after st f c e = grind (arith, nat_tests, never_dark st.mode c)

-- a state that is not dark, by its parts
lit_possible : (st : State) → times_possible st ≡ true → signal_possible st ≡ true → is st.mode mode.Dark ≡ false → state_possible st ≡ true
lit_possible st times signal lit = grind (arith, nat_tests)

module _ (p : Plate) (st : State) (s : Step) (r : Reading) (e : times_possible st ≡ true) (t : leb s.time time_limit ≡ true) where
  dark_kept : state_possible (dark s.time) ≡ true
  dark_kept = grind (arith, nat_tests)

  started_kept : state_possible (started p s r) ≡ true
  started_kept = grind (arith, nat_tests)

  moved_kept : is st.mode mode.Dark ≡ false → state_possible (moved p st s r) ≡ true
  moved_kept lit =
      let after = moved p st s r in
      let reset : leb st.reset.since time_limit ≡ true = grind (arith, nat_tests) in
      let test : leb st.test.since time_limit ≡ true = grind (arith, nat_tests) in
      let was : leb st.entered time_limit ≡ true = grind (arith, nat_tests) in
      let entered : leb after.entered time_limit ≡ true = cond_both (is after.mode st.mode) _ _ (λ x. leb x time_limit ≡ true) (λ _. was) (λ _. t) in
      lit_possible after
      (and_from _ _ t (and_from _ _ entered (and_from _ _ (button_kept st.reset s.reset s.time reset t) (button_kept st.test s.self_test s.time test t))))
      (signal_kept after.mode after.failure s.reset st.signal)
      (lit_after st after.failure (conditions p st r s.time (pressed st.reset s.reset s.time) (pressed st.test s.self_test s.time)) lit)

pub state_kept : (p : Plate) (st : State) (s : Step) (r : Reading) → state_possible st ≡ true → leb s.time time_limit ≡ true → state_possible (next_state p st s r) ≡ true
state_kept p st s r e t =
    let times = (and_parts (times_possible st) _ e).0 in
    cond_both s.power _ _ (λ n. state_possible n ≡ true)
    (λ _.
    cond_both (is st.mode mode.Dark) _ _ (λ n. state_possible n ≡ true)
    (λ _. started_kept p st s r times t)
    (λ lit. moved_kept p st s r times t lit))
    (λ _. dark_kept p st s r times t)

-- ---- the reading

bad_fails : (f : FailureMode) (failed bad : Bool) → implies bad (not (allok (worse f failed bad)) || false) ≡ true
bad_fails f failed bad = grind (arith, nat_tests)

failing : (bad : Bool) (f : FailureMode) (b : Bool) → implies bad (not (allok f) || false) ≡ true → implies bad (not (allok f) || b) ≡ true
failing bad f b e = grind (arith, nat_tests)

pub reading_kept : (p : Plate) (st : State) (s : Step) (r : Reading) → reading_possible p (next_state p st s r) r ≡ true
reading_kept p st s r =
    cond_both {A = State} s.power _ _ (λ n. reading_possible p n r ≡ true)
    (λ _.
    cond_both {A = State} (is st.mode mode.Dark) _ _ (λ n. reading_possible p n r ≡ true)
    (λ _. grind (arith, nat_tests))
    (λ _. failing (bad_reading p r) (moved p st s r).failure _ (bad_fails st.failure (s.memory_failed || clock_fails st s) (bad_reading p r))))
    (λ _. grind (arith, nat_tests))

-- ---- an accepted step

-- a step with power, or without
abbrev pub powered : Bool → Step → Step
powered b s = record {
  time = s.time;
  a = s.a;
  b = s.b;
  power = b;
  reset = s.reset;
  self_test = s.self_test;
  memory_failed = s.memory_failed;
  clock_failed = s.clock_failed;
}
