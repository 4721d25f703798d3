-- On floats a range's order is `<=`.
use Rattle.std.proofs.Common.{◌≡◌, Bool, true, false, cond, ◌||◌, Some, None, Less, Equal, Greater, is_le, refl}
use lib.Ieee.{Float, le, lt, eq}
use Rattle.std.specs.Ordering.{float_partial_cmp, is_some_and, partial_le}

answered : (l e g : Bool) → is_some_and is_le (cond l (Some Less) (cond e (Some Equal) (cond g (Some Greater) None))) ≡ (l || e)
answered true e g = refl
answered false true g = refl
answered false false true = refl
answered false false false = refl

pub at_most : (x y : Float) → partial_le float_partial_cmp x y ≡ le x y
unfolding le
at_most x y = answered (lt x y) (eq x y) (lt y x)
