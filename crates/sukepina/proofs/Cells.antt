-- The cell monitor's numbers tell all of it, and every monitor's numbers fit.
use Rattle.std.proofs.Common.{arith, ◌≡◌, Bool, true, false, ◌&&◌, eqb, leb, refl, ap, ◌∙◌}
use Rattle.std.proofs.lemmas.Bool.Decides.{nat_tests}
use Rattle.std.proofs.lemmas.Bool.{and_parts, and_from}
use Rattle.base.specs.Limits.{time_limit}
use Rattle.control.specs.Modes.{is}
use Rattle.control.specs.State.{drives}
use Rattle.control.specs.Transition.{next_state}
use Rattle.control.specs.declared.mode.Mode.TheVariants.{Dark}
use Rattle.control.specs.declared.plate.Plate.{Plate}
use Rattle.gauges.specs.Cell.{cell, nothing_taken}
use Rattle.monitor.specs.Calls.{accepted, gauge_after, set_up, worked}
use Rattle.records.specs.declared.step.Step.{Step}
use Rattle.switches.specs.Direct.{contact_at, direct}
use Rattle.switches.specs.declared.direct.DirectContact.{DirectContact}
use Rattle.sukepina.proofs.Cores.{core_one, flag_one}
use Rattle.sukepina.specs.Core.{core_of}
use Rattle.sukepina.proofs.Kept.{panel_kept, powered, reading_kept, state_kept}
use Rattle.sukepina.proofs.Missing.{missing_one}
use Rattle.sukepina.specs.Cell.{CellMonitor, cell_numbers, cell_possible}
use Rattle.sukepina.specs.Core.{flag, numbers_of}
use Rattle.sukepina.specs.Maybe.{or_0, there}
use Rattle.sukepina.specs.declared.core_numbers.Core.{Core}
use Rattle.sukepina.specs.declared.numbers.CellNumbers.{CellNumbers}
use Rattle.sukepina.specs.Possible.{core_possible, implies, same, state_possible}

-- monitors that have the same numbers are the same
pub cell_one : (m m' : CellMonitor) → cell_numbers m ≡ cell_numbers m' → m ≡ m'
cell_one m m' e =
    let core = core_one (core_of m) (core_of m') (ap (λ n. n.core) e) in
    λ i. record {
      gauge = record { word = missing_one m.gauge.word m'.gauge.word (ap (λ n. n.taken) e) (ap (λ n. n.word) e) i };
      switch = record { closed = flag_one m.switch.closed m'.switch.closed (ap (λ n. n.closed) e) i };
      plate = (core i).plate;
      state = (core i).state;
      panel = (core i).panel;
    }

-- the numbers of a monitor, each part of which stands for one of n
pub cell_made : (n : CellNumbers) (m : CellMonitor) (x : Core) → core_of m ≡ x → numbers_of x ≡ n.core
    → there m.gauge.word ≡ n.taken → or_0 m.gauge.word ≡ n.word → flag m.switch.closed ≡ n.closed → cell_numbers m ≡ n
cell_made n m x parts core taken word closed = λ i. record { core = (ap numbers_of parts ∙ core) i; taken = taken i; word = word i; closed = closed i }

contact_kept : (sw : DirectContact) (close : Bool) → same (worked direct sw close).closed close ≡ true
contact_kept sw close = grind (arith, nat_tests)

-- only a dark monitor's cell took nothing, and the contact is closed exactly if the state drives the pump
cell_rules : (m : CellMonitor) (s : Step) (power : Bool) → let after = accepted cell direct m (powered power s) in
    (implies (eqb (there after.gauge.word) 0) (is after.state.mode Dark) && same after.switch.closed (drives after.state)) ≡ true
cell_rules m s true = contact_kept m.switch (drives (accepted cell direct m (powered true s)).state)
cell_rules m s false = grind (arith, nat_tests)

-- an accepted step leaves what a monitor can be
pub cell_kept : (m : CellMonitor) (s : Step) → leb s.time time_limit ≡ true → cell_possible m ≡ true → cell_possible (accepted cell direct m s) ≡ true
cell_kept m s t e =
    let reading = cell.reading (gauge_after cell m.gauge s) in
    let before = (and_parts (state_possible m.state) _ (and_parts (core_possible m.plate m.state m.panel (cell.reading m.gauge)) _ e).0).0 in
    and_from _ _
    (and_from _ _ (state_kept m.plate m.state s reading before t) (and_from _ _ (reading_kept m.plate m.state s reading) (panel_kept m.plate m.panel m.state.mode (next_state m.plate m.state s reading) reading)))
    (cell_rules m s s.power)

pub cell_dark : (p : Plate) → cell_possible (set_up direct nothing_taken (contact_at false) p) ≡ true
cell_dark p = refl
