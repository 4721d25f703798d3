-- The largest time (milliseconds) and the largest level (units of 0.00001 cm).
use Rattle.std.specs.Prelude.{ℕ}

abbrev pub time_limit : ℕ
time_limit = 10000000000000

abbrev pub level_limit : ℕ
level_limit = 10000000
