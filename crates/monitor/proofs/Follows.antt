-- The monitor follows the history, and so keeps the three promises.
use Rattle.std.proofs.Common.{◌≡◌, Bool, true, false, List, [], ◌∷◌, Some, None, Ok, Err, Option, Result, refl, ap, ◌∙◌, arith}
use Rattle.control.specs.State.{drives}
use Rattle.control.specs.Transition.{next_state}
use Rattle.control.specs.declared.plate.Plate.{Plate}
use Rattle.gauges.specs.Model as gauge
use Rattle.records.specs.Record.{read_at}
use Rattle.records.specs.declared.fault.RecordFault.{RecordFault}
use Rattle.records.specs.declared.step.Step.{Step}
use Rattle.std.specs.List.{cons_option}
use Rattle.std.specs.Result.{result_ok}
use Rattle.switches.specs.Model as switch
use Rattle.monitor.specs.Calls.{accepted, gauge_after, set_up, with_record, worked}
use Rattle.monitor.specs.History.{Call, step, feed, readout, Event, accepted_steps, after_call, after_calls, brings, event, gauge_at, history}
use Rattle.monitor.specs.Promises.{LongReset, Promises}
use Rattle.monitor.specs.Words.{amiss, lasted}
use Rattle.monitor.specs.declared.monitor.Monitor.{Monitor}
use Rattle.monitor.proofs.Fold.{state_of}
use Rattle.monitor.proofs.Held.{long_reset_drives, quiet_on}
use Rattle.monitor.proofs.Safety.{driven_rightly, no_long_spell}
use Rattle.std.proofs.lemmas.Bool.Decides.{nat_tests}
use Rattle.std.proofs.lemmas.Bool.{false_from_ne_true, and_from, and_parts, both_ways}

-- the laws of a switch that the promises rest on
pub record Lawful {S : Type 0} (sm : switch.Model S) : Type 0 where
  pub free_closes : (s : S) → sm.free s ≡ true → sm.contact (sm.closed s) ≡ true
  pub open_opens : (s : S) → sm.contact (sm.opened s) ≡ false
  pub closed_is_free : (s : S) → sm.contact s ≡ true → sm.free s ≡ true

module _ {G S : Type 0} (gm : gauge.Model G) (sm : switch.Model S) where
  -- a call does what the step does that it brings, and nothing if it brings none
  abbrev with_brought : Monitor G S → Option Step → Monitor G S
  with_brought m None = m
  with_brought m (Some s) = accepted gm sm m s

  fed_is : (m : Monitor G S) (r : Result Step RecordFault) → with_record gm sm m r ≡ with_brought m (result_ok r)
  fed_is m (Ok s) = refl
  fed_is m (Err e) = refl

  pub called_is : (m : Monitor G S) (c : Call) → after_call gm sm m c ≡ with_brought m (brings c)
  called_is m (step s) = grind (arith, nat_tests)
  called_is m (feed bytes place) = fed_is m (read_at bytes place)
  called_is m (readout out) = refl

  module _ (laws : Lawful sm) (p : Plate) (g : G) where
    abbrev seen_by : List Step → List Event
    seen_by ss = history gm g ss

    record Follows (ss : List Step) (m : Monitor G S) : Type 0 where
      plate_is : m.plate ≡ p
      gauge_is : m.gauge ≡ gauge_at gm g ss
      state_is : m.state ≡ state_of p (seen_by ss)
      driven : sm.contact m.switch ≡ true → drives (state_of p (seen_by ss)) ≡ true

    -- worked to be closed, the contact is closed exactly when the switch was free; worked to be open, it is open
    closed_if_free : (s : S) → sm.contact (worked sm s true) ≡ sm.free s
    closed_if_free s = grind (arith, nat_tests, laws.free_closes s, laws.closed_is_free s)

    closed_if_worked : (s : S) (close : Bool) → sm.contact (worked sm s close) ≡ true → close ≡ true
    closed_if_worked s close c = grind (arith, nat_tests, laws.open_opens s)

    next_is : (ss : List Step) (m : Monitor G S) (s : Step) → Follows ss m
        → next_state m.plate m.state s (gm.reading (gauge_after gm m.gauge s)) ≡ state_of p (seen_by (s ∷ ss))
    next_is ss m s f = rw (f.plate_is, f.state_is, f.gauge_is)

    follows_step : (ss : List Step) (m : Monitor G S) (s : Step) → Follows ss m → Follows (s ∷ ss) (accepted gm sm m s)
    follows_step ss m s f =
        let st = next_state m.plate m.state s (gm.reading (gauge_after gm m.gauge s)) in
        record {
          plate_is = f.plate_is;
          gauge_is = rw f.gauge_is;
          state_is = next_is ss m s f;
          driven = λ c. rw (← next_is ss m s f) (and_parts s.power (drives st) (closed_if_worked (sm.ticked m.switch s.time) _ c)).1;
        }

    follows_brought : (ss : List Step) (m : Monitor G S) (o : Option Step) → Follows ss m → Follows (cons_option o ss) (with_brought m o)
    follows_brought ss m None f = f
    follows_brought ss m (Some s) f = follows_step ss m s f

    module _ (s₀ : S) where
      abbrev at : List Call → Monitor G S
      at cs = after_calls gm sm (set_up sm g s₀ p) cs

      follows : (cs : List Call) → Follows (accepted_steps cs) (at cs)
      follows [] = record {
        plate_is = refl;
        gauge_is = refl;
        state_is = refl;
        driven = λ c. absurd (both_ways _ (laws.open_opens s₀) c);
      }
      follows (c ∷ cs) = rw (called_is (at cs) c) (follows_brought (accepted_steps cs) (at cs) (brings c) (follows cs))

      opens_in_time : (cs : List Call) → lasted (amiss p) 2700 (seen_by (accepted_steps cs)) ≡ true → sm.contact (at cs).switch ≡ false
      opens_in_time cs bad = false_from_ne_true _ (λ closed. no_long_spell p (seen_by (accepted_steps cs)) bad ((follows cs).driven closed))

      closes_if_free : (c : Call) (cs : List Call) (s : Step) → brings c ≡ Some s
          → LongReset p (event gm g s (accepted_steps cs)) (seen_by (accepted_steps cs))
          → sm.contact (at (c ∷ cs)).switch ≡ sm.free (sm.ticked (at cs).switch s.time)
      closes_if_free c cs s brought long =
          let ss = accepted_steps cs in
          let e = event gm g s ss in
          let m = at cs in
          let st = next_state m.plate m.state s (gm.reading (gauge_after gm m.gauge s)) in
          let drive = ap drives (next_is ss m s (follows cs)) ∙ long_reset_drives p e (seen_by ss) long in
          let close = and_from _ _ (quiet_on p e (seen_by ss) long.calm) drive in
          rw (called_is m c, brought, close) (closed_if_free (sm.ticked m.switch s.time))

      set_up_keeps : Promises gm sm p g (set_up sm g s₀ p)
      set_up_keeps = record {
        closed_rightly = λ cs closed. driven_rightly p (seen_by (accepted_steps cs)) ((follows cs).driven closed);
        opens = opens_in_time;
        closes = closes_if_free;
      }

      pub promises : (m : Monitor G S) → m ≡ set_up sm g s₀ p → Promises gm sm p g m
      promises m made = rw made set_up_keeps
