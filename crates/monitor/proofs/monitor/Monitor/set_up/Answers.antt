use Rattle.std.proofs.Common.{rules}
use Rattle.monitor.proofs.Follows.{Lawful, promises as kept-promises}
use Rattle.monitor.proofs.monitor.Monitor.set_up.Goals as goal

pub returns-clause-promises : goal.returns-clause-promises
returns-clause-promises g c =
    let law = g.met.S.Switch in
    let laws : Lawful g.S.Switch.model = record { free_closes = law.free_closes; open_opens = law.open_opens; closed_is_free = law.closed_is_free } in
    kept-promises g.G.Gauge.model g.S.Switch.model laws c.args.plate c.args.gauge c.args.switch _ (search rules)
