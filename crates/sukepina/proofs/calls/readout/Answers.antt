use Rattle.std.proofs.Common.{sym, rules}
use Rattle.sukepina.proofs.Serving.{served_call}
use Rattle.sukepina.proofs.calls.readout.Goals as goal

pub returns-in_err-len : goal.returns-in_err-len
returns-in_err-len g c =
    let has = c.in-Some.ensures in
    served_call _ _ _ _ _ c.laws.ensures.distinct (λ m can. can) _ c.in-Some.monitor has.0 has.1 _ (search rules) _ (sym has.0)

pub returns : goal.returns
returns g c =
    let has = c.in-Some.ensures in
    served_call _ _ _ _ _ c.laws.ensures.distinct (λ m can. can) _ c.in-Some.monitor has.0 has.1 _ (search rules) _ (sym has.0)
