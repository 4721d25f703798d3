use Rattle.std.proofs.Common.{rules}
use Rattle.sukepina.proofs.Serving.{served_call}
use Rattle.sukepina.proofs.Steps.{batch_kept}
use Rattle.sukepina.proofs.calls.lines.Goals as goal

pub returns : goal.returns
returns g c =
    let has = c.in-Some.ensures in
    let gm = g.N.G.Gauge.model in
    let sm = g.N.S.Switch.model in
    served_call _ _ _ _ _ c.laws.ensures.distinct (batch_kept gm sm _ c.laws.ensures.stays c.args.bytes.now c.args.place.now c.args.out.now) _ c.in-Some.monitor has.0 has.1
    _ (search rules)
    _ (search rules)
