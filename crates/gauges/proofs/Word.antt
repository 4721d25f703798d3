-- Where the exponent bits are not all ones there is no NaN.
use Rattle.std.proofs.Common.{◌≡◌, ℕ, false, not, T, eqb, ap, ◌∙◌}
use lib.Pow.{field}
use lib.Ieee.{binary32, nan_bits}
use Rattle.std.proofs.lemmas.Bool.{and_left, not_from_false}
use Rattle.std.proofs.lemmas.Float.{T_from_true}
use Rattle.gauges.specs.EchoWord.{lost}

pub no_nan : (a : ℕ) → lost a ≡ false → T (not (nan_bits binary32 a))
unfolding nan_bits
no_nan a h = T_from_true _ (not_from_false _ (and_left _ _ (ap (λ (x : ℕ). eqb x 255) (field a 8 23) ∙ h)))
