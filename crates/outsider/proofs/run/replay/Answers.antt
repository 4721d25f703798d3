use Rattle.outsider.proofs.Runs.{told_all}
use Rattle.outsider.proofs.run.replay.Goals as goal

pub returns-clause-run : goal.returns-clause-run
returns-clause-run g c =
    record {
      start = c.set_up-monitor.result;
      promises = c.set_up-monitor.ensures.promises;
      reached =
          told_all g.G.Gauge.model g.S.Switch.model c.set_up-monitor.result c.loop-step.monitor c.args.steps.now c.loop-step.step-index
          c.loop-step-test.false c.loop-step.invariant;
    }
