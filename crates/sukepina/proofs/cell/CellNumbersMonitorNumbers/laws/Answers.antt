use Rattle.sukepina.proofs.Cells.{cell_kept, cell_one}
use Rattle.sukepina.proofs.cell.CellNumbersMonitorNumbers.laws.Goals as goal

pub returns-clause-distinct : goal.returns-clause-distinct
returns-clause-distinct c = λ m m' _ _. cell_one m m'

pub returns-clause-stays : goal.returns-clause-stays
returns-clause-stays c = cell_kept
