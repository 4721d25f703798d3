use Rattle.monitor.specs.History.{step}
use Rattle.outsider.specs.Runs.{told}
use Rattle.outsider.proofs.LowWater.{low_water}
use Rattle.outsider.proofs.Runs.{and_then, kept}
use Rattle.outsider.proofs.dry.run_dry.Goals as goal

pub returns : goal.returns
returns c = λ low low' long early.
    let x = c.args in
    let r₀ = rw c.standard.ensures at c.replay-monitor.ensures.run in
    let r₁ = and_then r₀ (step x.first) c.step.ensures.after in
    let r₂ = and_then r₁ (step x.last) c.step-2.ensures.after in
    (kept r₂).opens (low_water _ x.first x.last (told x.before.now) low low' long early)
