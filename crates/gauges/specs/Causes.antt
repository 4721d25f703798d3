-- The number and the text of each cause of a fault.
use Rattle.std.specs.Prelude.{ℕ, List, ◌++◌, codes, decimal}
use Rattle.gauges.specs.declared.reading.Cause.{Cause}
use Rattle.gauges.specs.declared.reading.Cause.TheVariants.{Scale, Lost, Reach, Apart, Nothing}
use Rattle.gauges.specs.declared.reading.Fault.{Fault}

abbrev pub cause_number : Cause → ℕ
cause_number Scale = 1
cause_number Lost = 2
cause_number Reach = 3
cause_number Apart = 4
cause_number Nothing = 5

abbrev pub cause_text : Cause → List ℕ
cause_text Scale = codes "a word beyond the scale"
cause_text Lost = codes "the echo is lost"
cause_text Reach = codes "the gap is out of reach"
cause_text Apart = codes "two gauges read too far apart"
cause_text Nothing = codes "nothing taken yet"

abbrev pub fault_text : Fault → List ℕ
fault_text fault = cause_text fault.cause ++ codes " (height " ++ decimal fault.height ++ codes ")"
