-- What every run of calls keeps of a monitor. Numbers that break this are no state that a monitor can have.
use Rattle.std.specs.Prelude.{ℕ, Bool, true, cond, not, ◌&&◌, ◌||◌, List, ◌==◌, nat_le}
use Rattle.std.specs.Str.{bytes_eq}
use Rattle.base.specs.Limits.{time_limit}
use Rattle.control.specs.Modes.{allok, is}
use Rattle.control.specs.State.{operate, watched}
use Rattle.control.specs.Transition.{bad_reading}
use Rattle.control.specs.declared.button.Button.{Button}
use Rattle.control.specs.declared.mode.Mode.TheVariants.{Dark, Operating, Shutdown}
use Rattle.control.specs.declared.plate.Plate.{Plate}
use Rattle.control.specs.declared.state.State.{State}
use Rattle.display.specs.Panel.{next_panel}
use Rattle.display.specs.declared.panel.Panel.{Panel}
use Rattle.display.specs.declared.warnings.Warnings.{Warnings}
use Rattle.gauges.specs.Model.{Reading}

abbrev pub same : Bool → Bool → Bool
same x y = cond x y (not y)

abbrev pub implies : Bool → Bool → Bool
implies x y = cond x y true

-- times within the limit; an up button has the last step's time
abbrev pub button_possible : Button → ℕ → Bool
button_possible b time = nat_le b.since time_limit && (b.down || b.since == time)

abbrev pub times_possible : State → Bool
times_possible st = nat_le st.time time_limit && (nat_le st.entered time_limit && (button_possible st.reset st.time && button_possible st.test st.time))

-- nothing goes on in the dark
abbrev pub dark_possible : State → Bool
dark_possible st = allok st.failure && (not (operate st.signal) && (not (watched st.watchdog) && (not st.reset.down && (not st.test.down && st.entered == st.time))))

-- only operating and shutdown, in allok, have the signal operate
abbrev pub signal_possible : State → Bool
signal_possible st = implies (operate st.signal) (allok st.failure && (is st.mode Operating || is st.mode Shutdown))

abbrev pub state_possible : State → Bool
state_possible st = times_possible st && (signal_possible st && implies (is st.mode Dark) (dark_possible st))

abbrev pub same_warnings : Warnings → Warnings → Bool
same_warnings v w = same v.high w.high && (same v.low w.low && same v.alarm w.alarm)

abbrev pub same_figure : List ℕ → List ℕ → Bool
same_figure f g = bytes_eq f g

abbrev pub same_panel : Panel → Panel → Bool
same_panel d e = same_warnings d.warnings e.warnings && same_figure d.figure e.figure

-- showing the last step again changes nothing
abbrev pub panel_possible : Plate → State → Panel → Reading → Bool
panel_possible p st d r = same_panel (next_panel p d st.mode st r) d

-- a faulty gauge or a level past a mark leaves no allok, except in the dark
abbrev pub reading_possible : Plate → State → Reading → Bool
reading_possible p st r = implies (bad_reading p r) (not (allok st.failure) || is st.mode Dark)

abbrev pub core_possible : Plate → State → Panel → Reading → Bool
core_possible p st d r = state_possible st && (reading_possible p st r && panel_possible p st d r)
