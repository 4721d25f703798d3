-- What is left of the number, written before the digits so far, is the whole number before the old text.
use Rattle.std.proofs.Common.{◌≡◌, ◌++◌, decimal}
use Rattle.display.proofs.buffer.Buffer.before_number.Given as goal

abbrev pub invariant-loop-left : goal.invariant-loop-left
invariant-loop-left l = decimal l.left ++ l.self ≡ decimal l.initial.left ++ l.initial.self

abbrev pub decreases-loop-left : goal.decreases-loop-left
decreases-loop-left l = l.left
