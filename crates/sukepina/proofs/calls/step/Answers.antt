use Rattle.std.proofs.Common.{◌≡◌, Ok, ap, ◌∙◌, rules}
use Rattle.sukepina.proofs.Serving.{served_call}
use Rattle.sukepina.proofs.Steps.{step_kept, stepped}
use Rattle.sukepina.proofs.calls.step.Goals as goal
use Rattle.sukepina.specs.Calls.{answered, told}

pub returns : goal.returns
returns g c =
    let has = c.in-Some.ensures in
    let is : Ok c.in_ok-step.step ≡ told c.args.facts.now = search rules in
    let gm = g.N.G.Gauge.model in
    let sm = g.N.S.Switch.model in
    served_call _ _ _ _ _ c.laws.ensures.distinct (step_kept gm sm _ c.laws.ensures.stays c.args.facts.now) _ c.in-Some.monitor has.0 has.1
    _ (ap answered is)
    _ (c.of.ensures ∙ ap g.N.MonitorNumbers.numbers (c.step.ensures.after ∙ stepped gm sm c.in-Some.monitor _ _ _ is c.in_ok-step-2.ensures.value))
