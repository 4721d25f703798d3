use Rattle.std.proofs.Common.{ap, sym, ◌∙◌, rules}
use Rattle.sukepina.proofs.Serving.{served_call}
use Rattle.sukepina.proofs.Steps.{feed_kept, unfed}
use Rattle.sukepina.proofs.calls.feed.Goals as goal
use Rattle.sukepina.specs.Calls.{placed}

pub returns-in_err-place : goal.returns-in_err-place
returns-in_err-place g c =
    let has = c.in-Some.ensures in
    let gm = g.N.G.Gauge.model in
    let sm = g.N.S.Switch.model in
    served_call _ _ _ _ _ c.laws.ensures.distinct (feed_kept gm sm _ c.laws.ensures.stays c.args.bytes.now c.args.place.now) _ c.in-Some.monitor has.0 has.1
    _ (search rules)
    _ (sym has.0 ∙ ap g.N.MonitorNumbers.numbers (sym (unfed gm sm c.in-Some.monitor _ _ _ c.in_err-place.ensures.value)))

pub returns : goal.returns
returns g c =
    let has = c.in-Some.ensures in
    let gm = g.N.G.Gauge.model in
    let sm = g.N.S.Switch.model in
    served_call _ _ _ _ _ c.laws.ensures.distinct (feed_kept gm sm _ c.laws.ensures.stays c.args.bytes.now c.args.place.now) _ c.in-Some.monitor has.0 has.1
    _ (ap (placed c.args.place.now) c.in_ok-place.ensures.value)
    _ (c.of.ensures ∙ ap g.N.MonitorNumbers.numbers c.feed.ensures.after)
