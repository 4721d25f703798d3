-- The float on an arm.
use Rattle.std.specs.Prelude.{ℕ, ◌*◌, cond, Some, None, Option, Ok, nat_lt}
use Rattle.gauges.specs.Model.{Model, Reading, fresh}
use Rattle.gauges.specs.declared.reading.Cause.TheVariants.{Scale, Nothing}
use Rattle.outsider.specs.declared.float_arm.FloatArm.{FloatArm}

-- a word above 4095 is beyond the encoder; a step of it is 2400 units
abbrev pub arm_reading : ℕ → Reading
arm_reading a = cond (nat_lt 4095 a) (fresh Scale) (Ok (2400 * a))

-- what it reads after its last word, if it took one
abbrev pub last_reading : Option ℕ → Reading
last_reading None = fresh Nothing
last_reading (Some a) = arm_reading a

abbrev pub new_arm : FloatArm
new_arm = record { word = None }

abbrev pub float_arm : Model FloatArm
float_arm = record {
  reading = λ g. last_reading g.word;
  taken = λ g a b. record { word = Some a };
}
