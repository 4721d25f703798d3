-- From the contracts of the calls to the promises. Nothing that the monitor does is unfolded.
use Rattle.std.proofs.Common.{◌≡◌, ℕ, ◌≤◌, List, [], ◌∷◌, length, take, sym, refl, ap, ◌∙◌}
use Rattle.std.proofs.lemmas.List.{take_all}
use Rattle.control.specs.declared.plate.Plate.{Plate}
use Rattle.gauges.specs.Model as gauge
use Rattle.monitor.specs.History.{Call, after_call, after_calls}
use Rattle.monitor.specs.Promises.{Promises}
use Rattle.monitor.specs.declared.monitor.Monitor.{Monitor}
use Rattle.records.specs.declared.step.Step.{Step}
use Rattle.switches.specs.Model as switch
use Rattle.outsider.specs.Runs.{Kept, Run, told}

module _ {G S : Type 0} {gm : gauge.Model G} {sm : switch.Model S} {p : Plate} {g : G} where
  pub begun : {m : Monitor G S} → Promises gm sm p g m → Run gm sm p g [] m
  begun ps = record { start = _; promises = ps; reached = refl }

  pub and_then : {m n : Monitor G S} {cs : List Call} → Run gm sm p g cs m → (call : Call) → n ≡ after_call gm sm m call → Run gm sm p g (call ∷ cs) n
  and_then r call e = record { start = r.start; promises = r.promises; reached = e ∙ ap (λ x. after_call gm sm x call) r.reached }

  pub kept : {m : Monitor G S} {cs : List Call} → Run gm sm p g cs m → Kept gm sm p g cs m
  kept {cs = cs} r = record {
    closed_rightly = λ closed. r.promises.closed_rightly cs (ap (λ x. sm.contact x.switch) (sym r.reached) ∙ closed);
    opens = λ bad. ap (λ x. sm.contact x.switch) r.reached ∙ r.promises.opens cs bad;
  }

-- a list of steps, all told one after the other
module _ {G S : Type 0} (gm : gauge.Model G) (sm : switch.Model S) (start m : Monitor G S) (ss : List Step) (i : ℕ) where
  pub told_all : length ss ≤ i → m ≡ after_calls gm sm start (told (take i ss)) → m ≡ after_calls gm sm start (told ss)
  told_all done before = before ∙ ap (λ l. after_calls gm sm start (told l)) (take_all i ss done)
