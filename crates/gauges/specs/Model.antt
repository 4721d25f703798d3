-- What a gauge means.
use Rattle.std.specs.Prelude.{ℕ, ◌≤◌, Bool, true, nat_le, Ok, Err, Result}
use Rattle.base.specs.Limits.{level_limit}
use Rattle.gauges.specs.declared.reading.Cause.{Cause}
use Rattle.gauges.specs.declared.reading.Fault.{Fault}

-- a level in units of 0.00001 cm, or a fault
abbrev pub Reading : Type 0
Reading = Result ℕ Fault

pub record Model (G : Type 0) : Type 0 where
  -- what the gauge reads in a state
  pub reading : G → Reading
  -- the state after it took the words A and B
  pub taken : G → ℕ → ℕ → G

-- a level is at most 10,000,000 units
abbrev pub InRange : Reading → Type 0
InRange (Ok units) = units ≤ level_limit
InRange (Err f) = Unit {0}

-- the same as a test, for a ghost field
abbrev pub is_in_range : Reading → Bool
is_in_range (Ok units) = nat_le units level_limit
is_in_range (Err f) = true

-- a fault where it arises
abbrev pub arisen : Cause → Fault
arisen c = record { cause = c; height = 0 }

-- the same as a reading
abbrev pub fresh : Cause → Reading
fresh c = Err (arisen c)
