-- A state that drives the pump: no fault, a reset let go since the trip, and no long spell of bad level.
use Rattle.std.proofs.Common.{◌≡◌, ℕ, true, List, [], ◌∷◌, arith}
use Rattle.control.specs.Modes.{allok}
use Rattle.control.specs.State.{drives, operate, watched}
use Rattle.control.specs.declared.button.Button.{Button}
use Rattle.control.specs.declared.mode.Mode.{Mode}
use Rattle.control.specs.declared.mode.Mode.TheVariants.{Dark, Standby, Operating, Shutdown, Test}
use Rattle.control.specs.declared.mode.Signal.{Signal}
use Rattle.control.specs.declared.plate.Plate.{Plate}
use Rattle.control.specs.declared.state.State.{State}
use Rattle.std.proofs.lemmas.Bool.Decides.{nat_tests}
use Rattle.monitor.specs.History.{Event}
use Rattle.monitor.specs.Promises.{ClosedRightly}
use Rattle.monitor.specs.Words.{amiss, faultless, lasted, let_go_since_trip, powered, since, time}
use Rattle.monitor.proofs.Bounds.{bad_bound}
use Rattle.monitor.proofs.Fold.{kept, state_of, well}
use Rattle.monitor.proofs.Invariant.{ByMode}
use Rattle.monitor.proofs.Logic.{still_well}
use Rattle.std.proofs.lemmas.Bool.{and_parts}

module _ (p : Plate) (h : List Event) (sig : Signal) (now entered : ℕ) (test : Button) (on : operate sig ≡ true) where
  let_go_by_mode : (m : Mode) → ByMode p m h sig now entered test → let_go_since_trip p h ≡ true
  let_go_by_mode Dark b = absurd b
  let_go_by_mode Standby b = cc
  let_go_by_mode Operating b = b.ready.let_go on
  let_go_by_mode Shutdown b = b.ready.let_go on
  let_go_by_mode Test b = cc

  -- 500 ms in operating, 2,197 in shutdown
  spell_by_mode : (m : Mode) (t : ℕ) → ByMode p m h sig now entered test → now ≡ t → since (amiss p) 2700 t h ≡ true → ⊥
  spell_by_mode Dark t b is s = b
  spell_by_mode Standby t b is s = cc
  spell_by_mode Operating t b is s = omega (arith, bad_bound p test.since 0 2700 t h b.bad s)
  spell_by_mode Shutdown t b is s = omega (arith, bad_bound p entered 999 2700 t h b.bad s)
  spell_by_mode Test t b is s = cc

module _ (p : Plate) (h : List Event) (d : drives (state_of p h) ≡ true) where
  abbrev st : State
  st = state_of p h

  operates : operate st.signal ≡ true
  operates = grind (arith, nat_tests)

  stays_well : well p h ≡ true
  stays_well = still_well (operate st.signal) (allok st.failure) (watched st.watchdog) (well p h) d (kept p h).silent (kept p h).key

  pub driven_rightly : ClosedRightly p h
  driven_rightly = record {
    no_fault = (and_parts (powered h) (faultless p h) stays_well).1;
    let_go = let_go_by_mode p h st.signal st.time st.entered st.test operates st.mode ((kept p h).by_mode stays_well);
  }

  spell_now : (t : ℕ) → st.time ≡ t → since (amiss p) 2700 t h ≡ true → ⊥
  spell_now t = spell_by_mode p h st.signal st.time st.entered st.test operates st.mode t ((kept p h).by_mode stays_well)

pub no_long_spell : (p : Plate) (h : List Event) → lasted (amiss p) 2700 h ≡ true → drives (state_of p h) ≡ true → ⊥
no_long_spell p [] l d = cc
no_long_spell p (e ∷ h) l d = spell_now p (e ∷ h) d (time e) (kept p (e ∷ h)).time_is l
