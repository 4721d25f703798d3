use Rattle.std.proofs.Common.{refl, arith, rules}
use Rattle.sukepina.proofs.Cores.{core_made, failure_same, flag_same, mode_same, signal_same, watchdog_same}
use Rattle.sukepina.proofs.numbers.CoreNumbers.parts.Goals as goal

pub returns : goal.returns
returns c = (
  core_made c.args.self.now c.in_ok-ok.field-0 _ _ _ _ _ _ _ _ _ _ _ _ _ _
      (search rules) (search rules) (search rules) (search rules) (search rules)
      (grind (arith, mode_same)) (grind (arith, failure_same)) (grind (arith, signal_same)) (grind (arith, watchdog_same))
      (grind (arith, flag_same)) (grind (arith, flag_same)) (grind (arith, flag_same)) (grind (arith, flag_same)) (grind (arith, flag_same))
      (search rules),
  refl,
)
