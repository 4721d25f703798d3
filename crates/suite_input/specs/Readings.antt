-- What a gauge reads, as the suites print it.
use Rattle.std.specs.Prelude.{ℕ, List, ◌++◌, codes, decimal, Ok, Err}
use Rattle.gauges.specs.Causes.{cause_number}
use Rattle.gauges.specs.Model.{Reading}

abbrev pub reading_text : Reading → List ℕ
reading_text (Ok units) = codes " level " ++ decimal units
reading_text (Err f) = codes " fault " ++ decimal (cause_number f.cause) ++ codes " height " ++ decimal f.height
