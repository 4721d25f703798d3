-- The three promises over every run of calls on one monitor.
use Rattle.std.specs.Prelude.{◌≡◌, ℕ, Bool, true, false, List, ◌∷◌, Some}
use Rattle.control.specs.declared.plate.Plate.{Plate}
use Rattle.gauges.specs.Model as gauge
use Rattle.records.specs.declared.step.Step.{Step}
use Rattle.switches.specs.Model as switch
use Rattle.monitor.specs.History.{Call, Event, accepted_steps, after_calls, brings, event, history}
use Rattle.monitor.specs.Words.{amiss, faultless, held, lasted, let_go_since_trip, lets_go, quiet}
use Rattle.monitor.specs.declared.monitor.Monitor.{Monitor}

-- A closed contact: there was a start, no accepted step from the last start on showed a fault, and a full
-- reset, let go again, followed the last trip.
pub record ClosedRightly (p : Plate) (h : List Event) : Type 0 where
  pub no_fault : faultless p h ≡ true
  pub let_go : let_go_since_trip p h ≡ true

-- A long reset let go at the newest step: reset was held over 14,500 ms or more of quiet steps, the newest
-- step is quiet with reset up, and there was no fault since the start.
pub record LongReset (p : Plate) (e : Event) (h : List Event) : Type 0 where
  pub held_long : held p 14500 h ≡ true
  pub calm : quiet p e h ≡ true
  pub let_go : lets_go e ≡ true
  pub no_fault : faultless p (e ∷ h) ≡ true

module _ {G S : Type 0} (gm : gauge.Model G) (sm : switch.Model S) (p : Plate) (g : G) (m : Monitor G S) where
  abbrev steps_of : List Call → List Event
  steps_of cs = history gm g (accepted_steps cs)

  abbrev contact_after : List Call → Bool
  contact_after cs = sm.contact (after_calls gm sm m cs).switch

  -- whether the switch is free after these calls and then a tick with that time: before a close
  abbrev free_at : List Call → ℕ → Bool
  free_at cs t = sm.free (sm.ticked (after_calls gm sm m cs).switch t)

  -- of the monitor m with plate p, set up with the gauge g, after every list of calls
  pub record Promises : Type 0 where
    pub closed_rightly : (cs : List Call) → contact_after cs ≡ true → ClosedRightly p (steps_of cs)
    -- 2,700 ms of bad level, whatever the buttons
    pub opens : (cs : List Call) → lasted (amiss p) 2700 (steps_of cs) ≡ true → contact_after cs ≡ false
    -- a long reset let go: closed exactly when the switch was free, judged after the step's tick and before its close
    pub closes : (c : Call) (cs : List Call) (s : Step) → brings c ≡ Some s
        → LongReset p (event gm g s (accepted_steps cs)) (steps_of cs)
        → contact_after (c ∷ cs) ≡ free_at cs s.time
