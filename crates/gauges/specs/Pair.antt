-- The pair of any two gauges.
use Rattle.std.specs.Prelude.{ℕ, ◌+◌, ◌/◌, min, cond, ◌||◌, Ok, Err, nat_lt}
use Rattle.gauges.specs.Model.{Model, Reading, fresh}
use Rattle.gauges.specs.declared.pair.Pair.{Pair}
use Rattle.gauges.specs.declared.reading.Cause.TheVariants.{Apart}
use Rattle.gauges.specs.declared.reading.Fault.{Fault}

-- a fault passed on: one higher, 255 at most
abbrev pub raised : Fault → Fault
raised f = record { cause = f.cause; height = min 255 (f.height + 1) }

-- more than 50,000 apart is a fault; otherwise half the sum, rounded down
abbrev pub middle : ℕ → ℕ → Reading
middle x y = cond (nat_lt (x + 50000) y || nat_lt (y + 50000) x) (fresh Apart) (Ok ((x + y) / 2))

-- a fault of the first, or else of the second, is the pair's
abbrev pub joined : Reading → Reading → Reading
joined (Err f) second = Err (raised f)
joined (Ok x) (Err f) = Err (raised f)
joined (Ok x) (Ok y) = middle x y

abbrev pub new_pair : {F S : Type 0} → F → S → Pair F S
new_pair f s = record { first = f; second = s }

-- the second takes the words swapped
abbrev pub paired : {F S : Type 0} → Model F → Model S → Model (Pair F S)
paired m n = record {
  reading = λ g. joined (m.reading g.first) (n.reading g.second);
  taken = λ g a b. new_pair (m.taken g.first a b) (n.taken g.second b a);
}
