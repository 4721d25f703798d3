-- What accepted steps keep, the boundary's calls keep.
use Rattle.std.proofs.Common.{◌≡◌, refl, Ok, Err, ℕ, zero, suc, ◌+◌, ◌-◌, Bool, true, false, not, ltb, leb, List, length, get_or, take, drop, Result, arith}
use Rattle.std.proofs.lemmas.Bool.{cond_both}
use Rattle.std.proofs.lemmas.Bool.Decides.{nat_tests}
use Rattle.base.specs.Limits.{time_limit}
use Rattle.base.specs.declared.refusal.Refusal.{Refusal}
use Rattle.gauges.specs.Model as gauge
use Rattle.monitor.specs.Calls.{accepted, after_feed, after_step, next_place, step_answer, with_record}
use Rattle.monitor.specs.declared.monitor.Monitor.{Monitor}
use Rattle.records.specs.Record.{marked, number_at, placed, step_in, step_with}
use Rattle.records.specs.declared.fault.RecordFault.{RecordFault}
use Rattle.records.specs.declared.step.Step.{Step}
use Rattle.report.specs.Lines.{Lines, lines, next_turn, turn_text, turns_left}
use Rattle.switches.specs.Model as switch
use Rattle.sukepina.specs.Calls.{after_batch, cramped, told, with_step}
use Rattle.sukepina.specs.declared.numbers.StepNumbers.{StepNumbers}

in_time : (t : ℕ) → ltb time_limit t ≡ false → leb t time_limit ≡ true
in_time t e = grind (arith, nat_tests)

-- where a call is not refused it does what is asked, and a refused record leaves the monitor
pub stepped : {G S : Type 0} (gm : gauge.Model G) (sm : switch.Model S) (m : Monitor G S) (s : Step) (r : Result Step Refusal) (done : Unit {0})
    → Ok s ≡ r → Ok done ≡ step_answer s → after_step gm sm m s ≡ with_step gm sm r m
stepped gm sm m s r done is value = grind (arith, nat_tests)

pub unfed : {G S : Type 0} (gm : gauge.Model G) (sm : switch.Model S) (m : Monitor G S) (place : ℕ) (r : Result Step RecordFault) (why : RecordFault)
    → Err why ≡ next_place place r → with_record gm sm m r ≡ m
unfed gm sm m place (Ok s) why e = cc
unfed gm sm m place (Err w) why e = refl

module _ {G S : Type 0} (gm : gauge.Model G) (sm : switch.Model S) (possible : Monitor G S → Bool)
    (kept : (m : Monitor G S) (s : Step) → leb s.time time_limit ≡ true → possible m ≡ true → possible (accepted gm sm m s) ≡ true) where
  pub step_kept : (s : StepNumbers) (m : Monitor G S) → possible m ≡ true → possible (with_step gm sm (told s) m) ≡ true
  step_kept s m can =
      cond_both (leb 32 s.facts) _ _ (λ r. possible (with_step gm sm r m) ≡ true) (λ _. can) (λ _.
      cond_both (ltb time_limit s.time) _ _ (λ r. possible (with_step gm sm r m) ≡ true) (λ _. can) (λ t. kept m (step_with s.facts s.time s.a s.b) (in_time s.time t) can))

  pub feed_kept : (bytes : List ℕ) (place : ℕ) (m : Monitor G S) → possible m ≡ true → possible (after_feed gm sm m bytes place) ≡ true
  feed_kept bytes place m can =
      let w = take 19 (drop place bytes) in
      let P : Result Step Refusal → Type 0 = λ r. possible (with_record gm sm m (placed place r)) ≡ true in
      cond_both (ltb (length bytes) (place + 19)) _ _ P (λ _. can) (λ _.
      cond_both (not (marked w)) _ _ P (λ _. can) (λ _.
      cond_both (leb 32 (get_or w 2 0)) _ _ P (λ _. can) (λ _.
      cond_both (ltb time_limit (number_at w 3 8)) _ _ P (λ _. can) (λ t. kept m (step_in w) (in_time (number_at w 3 8) t) can))))

  lines_kept : (n : ℕ) (bytes : List ℕ) (place room : ℕ) (m : Monitor G S) → possible m ≡ true → possible (lines gm sm n m bytes place room).monitor ≡ true
  unfolding lines
  lines_kept zero bytes place room m can = can
  lines_kept (suc n) bytes place room m can =
      cond_both {A = Lines G S} (leb 64 room) _ _ (λ l. possible l.monitor ≡ true)
      (λ _. lines_kept n bytes (next_turn bytes place) (room - length (turn_text gm sm m bytes place)) (after_feed gm sm m bytes place) (feed_kept bytes place m can))
      (λ _. can)

  pub batch_kept : (bytes : List ℕ) (place : ℕ) (out : List ℕ) (m : Monitor G S) → possible m ≡ true → possible (after_batch gm sm bytes place out m) ≡ true
  batch_kept bytes place out m can =
      cond_both (cramped bytes place out) _ _ (λ x. possible x ≡ true) (λ _. can) (λ _. lines_kept (turns_left bytes place) bytes place (length out) m can)
