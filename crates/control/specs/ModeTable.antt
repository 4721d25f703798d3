-- The mode table, row by row. The first row that applies is taken; if none does, the mode stays.
use Rattle.std.specs.Prelude.{Bool, cond, not, ◌&&◌, ◌||◌, List, [], ◌∷◌, nat_le, nat_lt}
use Rattle.control.specs.Modes.{is}
use Rattle.control.specs.declared.mode.Mode.{Mode}
use Rattle.control.specs.declared.mode.Mode.TheVariants.{Standby, Operating, Shutdown, Test}
use Rattle.control.specs.declared.mode_table.Conditions.{Conditions}

pub record Row : Type 0 where
  pub from : Mode → Bool
  pub when : Conditions → Bool
  pub to : Mode

abbrev row : (Mode → Bool) → (Conditions → Bool) → Mode → Row
row f w t = record { from = f; when = w; to = t }

abbrev pub table : List Row
table =
    row (λ m. is m Operating || (is m Shutdown || is m Standby)) (λ c. nat_lt 500 c.tested) Test
    ∷ row (λ m. is m Operating) (λ c. not c.testing && c.out) Shutdown
    ∷ row (λ m. is m Shutdown) (λ c. not c.testing && nat_le 200 c.dwell) Standby
    ∷ row (λ m. is m Shutdown) (λ c. not c.testing && (nat_lt c.dwell 200 && c.settled)) Operating
    ∷ row (λ m. is m Standby) (λ c. nat_lt 3000 c.reset && c.settled) Operating
    ∷ row (λ m. is m Test) (λ c. nat_lt 14000 c.dwell) Standby
    ∷ []

abbrev first_row : List Row → Mode → Conditions → Mode
first_row [] m c = m
first_row (r ∷ rs) m c = cond (r.from m && r.when c) r.to (first_row rs m c)

abbrev pub next_mode : Mode → Conditions → Mode
next_mode = first_row table
