-- The display: warnings and figure.
use Rattle.control.specs.declared.mode.Mode.{Mode}
use Rattle.control.specs.declared.plate.Plate.{Plate}
use Rattle.control.specs.declared.state.State.{State}
use Rattle.gauges.specs.Model.{Reading}
use Rattle.display.specs.Figure.{blank, figure_of}
use Rattle.display.specs.Warnings.{off, next_warnings}
use Rattle.display.specs.declared.panel.Panel.{Panel}

abbrev pub dark_panel : Panel
dark_panel = record { warnings = off; figure = blank }

-- after a step that led from the mode `before` to the state st
abbrev pub next_panel : Plate → Panel → Mode → State → Reading → Panel
next_panel p d before st r = record { warnings = next_warnings p d.warnings before st r; figure = figure_of st r }
