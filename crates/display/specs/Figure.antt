-- The level figure: four characters, built from tenths of a centimetre.
use Rattle.std.specs.Prelude.{ℕ, ◌+◌, ◌-◌, ◌*◌, ◌/◌, ◌%◌, cond, ◌&&◌, List, [], ◌∷◌, Ok, Err, codes, nat_le, nat_lt}
use Rattle.control.specs.Modes.{allok}
use Rattle.control.specs.declared.mode.Mode.{Mode}
use Rattle.control.specs.declared.mode.Mode.TheVariants.{Dark, Standby, Operating, Shutdown, Test}
use Rattle.control.specs.declared.state.State.{State}
use Rattle.gauges.specs.Model.{Reading}

abbrev pub blank : List ℕ
blank = codes "--.-"

-- two digits, a point, one digit
abbrev pub tenths_figure : ℕ → List ℕ
tenths_figure n = (48 + n / 100 % 10) ∷ (48 + n / 10 % 10) ∷ 46 ∷ (48 + n % 10) ∷ []

-- to the nearest 10,000 units, halves up
abbrev pub level_figure : Reading → List ℕ
level_figure (Ok units) = tenths_figure ((units + 5000) / 10000)
level_figure (Err f) = blank

-- 00.0, but from 4,000 to below 13,000 it is 11.1 for each whole second since 4,000
abbrev pub test_figure : ℕ → List ℕ
test_figure dwell = cond (nat_le 4000 dwell && nat_lt dwell 13000) (tenths_figure (111 * ((dwell - 4000) / 1000))) (tenths_figure 0)

abbrev in_allok : State → Reading → Mode → List ℕ
in_allok st r Dark = blank
in_allok st r Standby = level_figure r
in_allok st r Operating = level_figure r
in_allok st r Shutdown = level_figure r
in_allok st r Test = test_figure (st.time - st.entered)

abbrev pub figure_of : State → Reading → List ℕ
figure_of st r = cond (allok st.failure) (in_allok st r st.mode) blank
