use Rattle.std.proofs.Common.{refl}
use Rattle.monitor.specs.History.{step, feed, readout}
use Rattle.outsider.proofs.Runs.{begun, and_then, kept}
use Rattle.outsider.proofs.run.four_calls.Goals as goal

pub returns : goal.returns
returns c =
    let x = c.args in
    let r₀ = begun c.set_up-monitor.ensures.promises in
    let r₁ = and_then r₀ (step x.first) c.step.ensures.after in
    let r₂ = and_then r₁ (feed x.bytes.now x.place) c.feed.ensures.after in
    let r₃ = and_then r₂ (readout x.out.now) refl in
    let r₄ = and_then r₃ (step x.last) c.step-2.ensures.after in
    rw (c.standard.ensures, c.new.ensures) at (kept r₄)
