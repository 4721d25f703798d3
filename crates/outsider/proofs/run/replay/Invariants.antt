use Rattle.std.proofs.Common.{◌≡◌, take}
use Rattle.monitor.specs.History.{after_calls}
use Rattle.outsider.specs.Runs.{told}
use Rattle.outsider.proofs.run.replay.Given as goal

abbrev pub invariant-loop-step : goal.invariant-loop-step
invariant-loop-step g l = l.monitor ≡ after_calls g.G.Gauge.model g.S.Switch.model l.initial.monitor (told (take l.step-index l.steps))
