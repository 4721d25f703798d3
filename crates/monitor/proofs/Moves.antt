-- The mode table as a relation: which row was taken, and what is known where none was.
use Rattle.std.proofs.Common.{◌≡◌, ◌<◌, ◌≤◌, true, false, not, ◌&&◌, ltb, leb, refl, arith}
use Rattle.std.proofs.lemmas.Bool.Decides.{nat_tests}
use Rattle.control.specs.ModeTable.{next_mode}
use Rattle.control.specs.Modes.{is}
use Rattle.control.specs.declared.mode.Mode.{Mode}
use Rattle.control.specs.declared.mode.Mode.TheVariants.{Dark, Standby, Operating, Shutdown, Test}
use Rattle.control.specs.declared.mode_table.Conditions.{Conditions}
use Rattle.std.proofs.lemmas.Bool.{cond_both, ltb-true, ltb-false, and_parts, not-true}

pub data Moves (c : Conditions) : Mode → Mode → Type 0 where
  stays_dark : Moves c Dark Dark
  tests : {m : Mode} → is Dark m ≡ false → is Test m ≡ false → 500 < c.tested → Moves c m Test
  waits : c.tested ≤ 500 → (3000 < c.reset → c.settled ≡ false) → Moves c Standby Standby
  resets : c.tested ≤ 500 → 3000 < c.reset → c.settled ≡ true → Moves c Standby Operating
  runs : c.tested ≤ 500 → (c.testing ≡ false → c.out ≡ false) → Moves c Operating Operating
  shuts : c.tested ≤ 500 → c.testing ≡ false → c.out ≡ true → Moves c Operating Shutdown
  stays_shut : c.tested ≤ 500 → (c.testing ≡ false → (c.dwell < 200) × (c.settled ≡ false)) → Moves c Shutdown Shutdown
  recovers : c.tested ≤ 500 → c.testing ≡ false → c.settled ≡ true → Moves c Shutdown Operating
  gives_up : c.testing ≡ false → Moves c Shutdown Standby
  tests_on : c.dwell ≤ 14000 → Moves c Test Test
  tested : Moves c Test Standby

module _ (c : Conditions) where
  from_standby : Moves c Standby (next_mode Standby c)
  from_standby =
      cond_both (ltb 500 c.tested) _ _ (Moves c Standby) (λ t. tests refl refl (ltb-true _ _ t)) (λ t.
      cond_both (ltb 3000 c.reset && c.settled) _ _ (Moves c Standby)
      (λ r. let parts = and_parts _ _ r in resets (ltb-false _ _ t) (ltb-true _ _ parts.0) parts.1)
      (λ r. waits (ltb-false _ _ t) (λ long. grind (arith, nat_tests))))

  from_operating : Moves c Operating (next_mode Operating c)
  from_operating =
      cond_both (ltb 500 c.tested) _ _ (Moves c Operating) (λ t. tests refl refl (ltb-true _ _ t)) (λ t.
      cond_both (not c.testing && c.out) _ _ (Moves c Operating)
      (λ o. let parts = and_parts _ _ o in shuts (ltb-false _ _ t) (not-true _ parts.0) parts.1)
      (λ o. runs (ltb-false _ _ t) (λ up. grind (arith, nat_tests))))

  from_shutdown : Moves c Shutdown (next_mode Shutdown c)
  from_shutdown =
      cond_both (ltb 500 c.tested) _ _ (Moves c Shutdown) (λ t. tests refl refl (ltb-true _ _ t)) (λ t.
      cond_both (not c.testing && leb 200 c.dwell) _ _ (Moves c Shutdown)
      (λ o. gives_up (not-true _ (and_parts _ _ o).0))
      (λ o.
      cond_both (not c.testing && (ltb c.dwell 200 && c.settled)) _ _ (Moves c Shutdown)
      (λ s. let parts = and_parts _ _ s in recovers (ltb-false _ _ t) (not-true _ parts.0) (and_parts _ _ parts.1).1)
      (λ s. stays_shut (ltb-false _ _ t) (λ up. (grind (arith, nat_tests), grind (arith, nat_tests))))))

  from_test : Moves c Test (next_mode Test c)
  from_test =
      cond_both (ltb 14000 c.dwell) _ _ (Moves c Test) (λ t. tested) (λ t. tests_on (ltb-false _ _ t))

  pub moves : (m : Mode) → Moves c m (next_mode m c)
  moves Dark = stays_dark
  moves Standby = from_standby
  moves Operating = from_operating
  moves Shutdown = from_shutdown
  moves Test = from_test

  -- no row leads out of the dark
  pub from_dark : (n : Mode) → Moves c Dark n → n ≡ Dark
  from_dark _ stays_dark = refl
  from_dark _ (tests lit other long) = cc

  -- nor into it
  pub not_dark : (m n : Mode) → Moves c m n → is m Dark ≡ false → is n Dark ≡ false
  not_dark _ _ stays_dark lit = lit
  not_dark _ _ (tests a b l) lit = refl
  not_dark _ _ (waits a b) lit = refl
  not_dark _ _ (resets a b d) lit = refl
  not_dark _ _ (runs a b) lit = refl
  not_dark _ _ (shuts a b d) lit = refl
  not_dark _ _ (stays_shut a b) lit = refl
  not_dark _ _ (recovers a b d) lit = refl
  not_dark _ _ (gives_up a) lit = refl
  not_dark _ _ (tests_on a) lit = refl
  not_dark _ _ tested lit = refl
