use Rattle.std.proofs.Common.{◌^◌, ◌<◌, ◌/◌, ◌%◌, length, decimal, ap, append_assoc, arith, length-append, rules}
use Rattle.std.proofs.lemmas.Fmt.{decimal_digit}
use Rattle.display.specs.Pair.{pair}
use Rattle.display.proofs.Front.{two_step, two_only, two_lengths, within}
use Rattle.display.proofs.buffer.Buffer.before_number.Goals as goal

pub before-requires : goal.before-requires
before-requires c =
    let fits : c.loop-left.left < 2 ^ 64 = search rules in
    let room = simp length-append at (within _ _ _ (search rules) c.loop-left.invariant) in
    let longer = two_lengths c.loop-left.left c.loop-left-test.true fits in
    omega (arith, ap length c.two_digits.ensures)

pub loop-left-preserved : goal.loop-left-preserved
loop-left-preserved c =
    let n = c.loop-left.left in
    let fits : n < 2 ^ 64 = search rules in
    cc (two_step n c.loop-left-test.true fits, append_assoc (decimal (n / 100)) (pair (n % 100)) c.loop-left.self)

pub before-requires-then-left-ge10 : goal.before-requires-then-left-ge10
before-requires-then-left-ge10 c =
    let room = simp length-append at (within _ _ _ (search rules) c.loop-left.invariant) in
    let last = two_only c.loop-left.left c.if-left-ge10.true c.loop-left-test.false in
    omega (arith, ap length last, ap length c.two_digits-then-left-ge10.ensures)

pub before-requires-else-left-ge10 : goal.before-requires-else-left-ge10
before-requires-else-left-ge10 c =
    let room = simp length-append at (within _ _ _ (search rules) c.loop-left.invariant) in
    let last = decimal_digit c.loop-left.left c.if-left-ge10.false in
    omega (arith, ap length last)
