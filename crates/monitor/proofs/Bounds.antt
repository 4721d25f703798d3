-- Lower bounds on the times of the newest steps that are amiss, or out of limits and not settled since.
use Rattle.std.proofs.Common.{◌≡◌, ℕ, ◌+◌, ◌≤◌, Bool, true, false, not, ◌&&◌, List, [], ◌∷◌, Ok, Err, arith}
use Rattle.control.specs.Plate.{out_of_limits}
use Rattle.control.specs.Plate as plate
use Rattle.control.specs.declared.plate.Plate.{Plate}
use Rattle.gauges.specs.Model.{Reading}
use Rattle.monitor.specs.History.{Event}
use Rattle.monitor.specs.Words.{amiss, out, out_before, settled, since, test_down, time}
use Rattle.std.proofs.lemmas.Bool.Decides.{nat_tests}

-- a settled level is within its limits
pub settled_within : (p : Plate) (r : Reading) → plate.settled p r ≡ true → out_of_limits p r ≡ false
settled_within p (Ok u) s = let rules = p.ok in grind (arith, nat_tests)
settled_within p (Err f) s = cc

pub settled_in : (p : Plate) (e : Event) → settled p e ≡ true → out p e ≡ false
settled_in p e s = grind (arith, nat_tests, settled_within)

-- the newest steps, as long as they are amiss, came at x - k or later
abbrev pub BadFrom : Plate → ℕ → ℕ → List Event → Type 0
BadFrom p x k [] = Unit {0}
BadFrom p x k (e ∷ h) = amiss p e h ≡ true → (x ≤ time e + k) × BadFrom p x k h

pub bad_weaker : (p : Plate) (x k y j : ℕ) (h : List Event) → ((n : ℕ) → x ≤ n + k → y ≤ n + j) → BadFrom p x k h → BadFrom p y j h
bad_weaker p x k y j [] w b = tt
bad_weaker p x k y j (e ∷ h) w b = λ a. (w (time e) (b a).0, bad_weaker p x k y j h w (b a).1)

pub bad_bound : (p : Plate) (x k d t : ℕ) (h : List Event) → BadFrom p x k h → since (amiss p) d t h ≡ true → x + d ≤ t + k
bad_bound p x k d t [] b s = cc
bad_bound p x k d t (e ∷ h) b s = grind (arith, nat_tests, b, bad_bound p x k d t h)

-- the newest step is not amiss
abbrev pub HeadFine : Plate → List Event → Type 0
HeadFine p [] = Unit {0}
HeadFine p (e ∷ h) = amiss p e h ≡ false

pub bad_none : (p : Plate) (x k : ℕ) (h : List Event) → HeadFine p h → BadFrom p x k h
bad_none p x k [] f = tt
bad_none p x k (e ∷ h) f = λ a. cc

-- out of limits with self test up
abbrev pub untested_out : Plate → Event → Bool
untested_out p e = out p e && not (test_down e)

-- such steps, with none settled since, came at x or later
abbrev pub OutsFrom : Plate → ℕ → List Event → Type 0
OutsFrom p x [] = Unit {0}
OutsFrom p x (e ∷ h) = (untested_out p e ≡ true → x ≤ time e) × (settled p e ≡ false → OutsFrom p x h)

pub outs_bound : (p : Plate) (x t : ℕ) (h : List Event) → OutsFrom p x h → out_before p t h ≡ true → x + 200 ≤ t
outs_bound p x t [] o b = cc
outs_bound p x t (e ∷ h) o b = grind (arith, nat_tests, outs_bound p x t h)
