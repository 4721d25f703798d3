use Rattle.std.proofs.Common.{arith, false, sym, ap, ◌∙◌, true≢false, rules}
use Rattle.std.proofs.lemmas.Bool.Decides.{nat_tests}
use Rattle.sukepina.proofs.Cells.{cell_one, cell_made}
use Rattle.sukepina.proofs.Cores.{flag_same}
use Rattle.sukepina.proofs.Missing.{there_flag}
use Rattle.sukepina.proofs.Serving.{none_stands, stands}
use Rattle.sukepina.proofs.cell.CellNumbersMonitorNumbers.monitor.Goals as goal
use Rattle.sukepina.specs.Cell.{cell_numbers, cell_possible}
use Rattle.sukepina.specs.Core.{core_of}

pub returns-in_err-core : goal.returns-in_err-core
returns-in_err-core c =
    none_stands cell_numbers cell_possible _ (λ m _ e. true≢false (c.in_err-core.ensures (core_of m) (ap (λ n. n.core) e))) _ c.from_residual.ensures

pub returns-then-not-is_cell_possible : goal.returns-then-not-is_cell_possible
returns-then-not-is_cell_possible c =
    let n = c.args.self.now in
    let m = c.restore-monitor.result in
    let has = cell_made n m c.in_ok-core.core (search rules) c.in_ok-core.ensures.0 (grind (arith, nat_tests, there_flag, flag_same)) (grind (arith, nat_tests)) (grind (arith, nat_tests, flag_same)) in
    stands cell_numbers cell_possible n m has (λ k _ e. cell_one k m (e ∙ sym has)) false (sym c.if-not-is_cell_possible.ensures)
