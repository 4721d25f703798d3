-- A number that may be missing, as two numbers: whether it is there, and itself or 0.
use Rattle.std.specs.Prelude.{ℕ, Some, None, Option, unwrap_or}

abbrev pub there : {A : Type 0} → Option A → ℕ
there None = 0
there (Some x) = 1

abbrev pub or_0 : Option ℕ → ℕ
or_0 x = unwrap_or x 0
