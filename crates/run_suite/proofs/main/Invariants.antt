-- Each run takes its header, at least, from the input that is left.
use Rattle.std.proofs.Common.{length}
use Rattle.run_suite.proofs.main.Given as goal

abbrev pub decreases-loop-header : goal.decreases-loop-header
decreases-loop-header l = length l.left
