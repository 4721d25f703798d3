use Rattle.std.proofs.Common.{◌≡◌, false, sym, refl, ap, ◌∙◌, subst}
use Rattle.std.proofs.lemmas.Bool.{false≢true}
use Rattle.sukepina.proofs.Cores.{same_plate}
use Rattle.gauges.specs.Cell.{cell, nothing_taken}
use Rattle.control.specs.declared.plate.Plate.{Plate}
use Rattle.monitor.specs.Calls.{set_up}
use Rattle.monitor.specs.Promises.{Promises}
use Rattle.switches.specs.Direct.{contact_at, direct}
use Rattle.sukepina.proofs.Cells.{cell_dark}
use Rattle.sukepina.proofs.cell.set_up.Goals as goal
use Rattle.sukepina.specs.Cell.{cell_numbers, cell_possible}

abbrev kept_by : Plate → Type 0
kept_by p = Promises cell direct p nothing_taken (set_up direct nothing_taken (contact_at false) p)

pub returns : goal.returns
returns c =
    let plate = c.in_ok-plate.plate in
    let new = c.in_ok-plate.ensures in
    let made : c.set_up-monitor.result ≡ set_up direct nothing_taken (contact_at false) plate = cc in
    record {
      refused = λ bad. absurd (false≢true (sym bad ∙ new.1));
      made = λ p e. (refl, c.of.ensures ∙ ap cell_numbers made ∙ ap (λ q. cell_numbers (set_up direct nothing_taken (contact_at false) q)) (same_plate plate p (new.0 ∙ sym e)));
      leaves = λ _. (c.set_up-monitor.result, (sym c.of.ensures, ap cell_possible made ∙ cell_dark plate));
      promises = λ p e. subst kept_by (same_plate plate p (new.0 ∙ sym e)) (subst (λ g. Promises cell direct plate g (set_up direct nothing_taken (contact_at false) plate)) c.new-2.ensures (subst (λ m. Promises cell direct plate c.new-2.result m) made c.set_up-monitor.ensures.promises));
    }
