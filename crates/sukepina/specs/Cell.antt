-- The monitor with a pressure cell and a direct contact, as plain numbers.
use Rattle.std.specs.Prelude.{◌≡◌, ℕ, Bool, false, ◌&&◌, ◌==◌}
use Rattle.control.specs.Modes.{is}
use Rattle.control.specs.PlateRules.{keeps_rules}
use Rattle.control.specs.State.{drives}
use Rattle.control.specs.declared.mode.Mode.TheVariants.{Dark}
use Rattle.control.specs.declared.plate.Plate.{Plate}
use Rattle.control.specs.declared.plate_numbers.PlateNumbers.{PlateNumbers}
use Rattle.gauges.specs.Cell.{cell, nothing_taken}
use Rattle.gauges.specs.declared.cell.Cell.{Cell}
use Rattle.monitor.specs.Calls.{set_up}
use Rattle.monitor.specs.Promises.{Promises}
use Rattle.monitor.specs.declared.monitor.Monitor.{Monitor}
use Rattle.switches.specs.Direct.{contact_at, direct}
use Rattle.switches.specs.declared.direct.DirectContact.{DirectContact}
use Rattle.sukepina.specs.Boundary.{Accepted}
use Rattle.sukepina.specs.Core.{core_numbers, flag}
use Rattle.sukepina.specs.Maybe.{or_0, there}
use Rattle.sukepina.specs.Possible.{core_possible, implies, same}
use Rattle.sukepina.specs.declared.numbers.CellNumbers.{CellNumbers}

abbrev pub CellMonitor : Type 0
CellMonitor = Monitor Cell DirectContact

abbrev pub cell_numbers : CellMonitor → CellNumbers
cell_numbers m = record {
  core = core_numbers m.plate m.state m.panel;
  taken = there m.gauge.word;
  word = or_0 m.gauge.word;
  closed = flag m.switch.closed;
}

-- only a dark monitor's cell took nothing yet; the contact is closed exactly if the state drives the pump
abbrev pub cell_possible : CellMonitor → Bool
cell_possible m =
    core_possible m.plate m.state m.panel (cell.reading m.gauge)
    && (implies (there m.gauge.word == 0) (is m.state.mode Dark)
    && same m.switch.closed (drives m.state))

-- A set-up that answered r and left n': 6, and nothing changed, if the plate breaks a rule; else the numbers of a dark
-- monitor with that plate, which the next call accepts, and which keeps the three promises over every run of calls.
pub record CellSetUp (plate : PlateNumbers) (n : CellNumbers) (r : ℕ) (n' : CellNumbers) : Type 0 where
  pub refused : keeps_rules plate ≡ false → (r ≡ 6) × (n' ≡ n)
  pub made : (p : Plate) → p.numbers ≡ plate → (r ≡ 0) × (n' ≡ cell_numbers (set_up direct nothing_taken (contact_at false) p))
  pub leaves : r ≡ 0 → Accepted cell_numbers cell_possible n'
  pub promises : (p : Plate) → p.numbers ≡ plate → Promises cell direct p nothing_taken (set_up direct nothing_taken (contact_at false) p)
