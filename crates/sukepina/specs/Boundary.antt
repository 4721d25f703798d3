-- What stands between C's numbers and a monitor: N are the numbers of a configuration, M its monitors.
use Rattle.std.specs.Prelude.{◌≡◌, Bool, true, false, Some, None, Option, nat_le}
use Rattle.base.specs.Limits.{time_limit}
use Rattle.gauges.specs.Model as gauge
use Rattle.monitor.specs.Calls.{accepted}
use Rattle.monitor.specs.declared.monitor.Monitor.{Monitor}
use Rattle.records.specs.declared.step.Step.{Step}
use Rattle.switches.specs.Model as switch

-- Numbers that are accepted: some monitor can have them.
abbrev pub Accepted : {N M : Type 0} → (M → N) → (M → Bool) → N → Type 0
Accepted {M = M} numbers possible n = (m : M) × ((numbers m ≡ n) × (possible m ≡ true))

-- What the numbers n stand for: something possible that has them, or none if there is no such thing.
abbrev pub StandsFor : {N M : Type 0} → (M → N) → (M → Bool) → N → Option M → Type 0
StandsFor numbers possible n (Some m) = (numbers m ≡ n) × (possible m ≡ true)
StandsFor {M = M} numbers possible n None = (m : M) → numbers m ≡ n → possible m ≡ false

-- No two possible things have the same numbers.
abbrev pub Distinct : {N M : Type 0} → (M → N) → (M → Bool) → Type 0
Distinct {M = M} numbers possible = (m m' : M) → possible m ≡ true → possible m' ≡ true → numbers m ≡ numbers m' → m ≡ m'

-- An accepted step leaves a possible monitor possible.
abbrev pub StaysPossible : {G S : Type 0} → gauge.Model G → switch.Model S → (Monitor G S → Bool) → Type 0
StaysPossible {G = G} {S = S} gm sm possible =
    (m : Monitor G S) (s : Step) → nat_le s.time time_limit ≡ true → possible m ≡ true → possible (accepted gm sm m s) ≡ true

-- A call on the numbers n that answered r and left n'. `unserved` is the answer to numbers that no monitor can
-- have; `answer` and `after` are what the monitor's own call does.
pub record Call {N M R : Type 0} (numbers : M → N) (possible : M → Bool) (unserved : R) (answer : M → R) (after : M → M) (n : N) (r : R) (n' : N) : Type 0 where
  -- of a monitor that can be: its own call
  pub served : (m : M) → numbers m ≡ n → possible m ≡ true → (r ≡ answer m) × (n' ≡ numbers (after m))
  -- of no such monitor: refused, and left as it was
  pub refused : ((m : M) → numbers m ≡ n → possible m ≡ false) → (r ≡ unserved) × (n' ≡ n)
  -- what a call left is accepted by the next
  pub leaves : Accepted numbers possible n → Accepted numbers possible n'
