-- At word 583 the float is out of the standard plate's limits: two such steps, far enough apart, are amiss.
use Rattle.std.proofs.Common.{◌≡◌, ◌+◌, ◌≤◌, true, List, ◌∷◌, arith}
use Rattle.base.specs.Limits.{time_limit}
use Rattle.std.proofs.lemmas.Bool.Decides.{nat_tests}
use Rattle.control.specs.Plate.{standard}
use Rattle.monitor.specs.History.{Call, accepted_steps, history, step}
use Rattle.monitor.specs.Words.{amiss, lasted}
use Rattle.records.specs.declared.step.Step.{Step}
use Rattle.outsider.specs.FloatArm.{float_arm}
use Rattle.outsider.specs.declared.float_arm.FloatArm.{FloatArm}

pub low_water : (g : FloatArm) (first last : Step) (cs : List Call) → first.a ≤ 583 → last.a ≤ 583 → first.time + 2700 ≤ last.time → last.time ≤ time_limit → lasted (amiss standard) 2700 (history float_arm g (accepted_steps (step last ∷ step first ∷ cs))) ≡ true
low_water g first last cs low low' long early = grind (arith, nat_tests)
