use Rattle.std.proofs.Common.{refl}
use lib.Ieee.{add, eq, le, lt, neg, odd, of_bits, of_fields, round, size, sub, sum, units}
use Rattle.monitor.proofs.laws.edges_hold.Goals as goal

pub returns : goal.returns
unfolding add eq le lt neg odd of_bits of_fields round size sub sum units
returns c = refl
