-- The pressure cell.
use Rattle.std.specs.Prelude.{ℕ, ◌+◌, ◌*◌, ◌/◌, cond, Some, None, Option, Ok, nat_lt}
use Rattle.gauges.specs.declared.cell.Cell.{Cell}
use Rattle.gauges.specs.declared.reading.Cause.TheVariants.{Scale, Nothing}
use Rattle.gauges.specs.Model.{Model, Reading, fresh}

-- the level at a word of the scale, 0 to 255
abbrev pub cell_level : ℕ → ℕ
cell_level a = 1273372 + 1453242 * a / 255

abbrev pub cell_reading : ℕ → Reading
cell_reading a = cond (nat_lt 255 a) (fresh Scale) (Ok (cell_level a))

-- what it reads after its last word, if it took one
abbrev pub last_reading : Option ℕ → Reading
last_reading None = fresh Nothing
last_reading (Some a) = cell_reading a

abbrev pub last_took : Option ℕ → Cell
last_took word = record { word = word }

abbrev pub nothing_taken : Cell
nothing_taken = record { word = None }

abbrev pub cell : Model Cell
cell = record {
  reading = λ g. last_reading g.word;
  taken = λ g a b. record { word = Some a };
}
