-- The table of the numbers from 00 to 99, tested at each of them.
use Rattle.std.proofs.Common.{◌≡◌, ℕ, zero, suc, ◌+◌, ◌*◌, ◌<◌, Bool, true, ◌&&◌, List, [], ◌∷◌, get_or, codes, refl}
use Rattle.std.proofs.lemmas.Bool.Decides.{Decides-below_and}
use Rattle.std.proofs.lemmas.Slice.Eq.{bytes_eq-Decides}
use Rattle.std.specs.Str.{bytes_eq}
use Rattle.display.specs.Pair.{pair}

abbrev pairs : List ℕ
pairs = codes "00010203040506070809101112131415161718192021222324252627282930313233343536373839404142434445464748495051525354555657585960616263646566676869707172737475767778798081828384858687888990919293949596979899"

abbrev entry : ℕ → List ℕ
entry n = get_or pairs (2 * n) 0 ∷ get_or pairs (2 * n + 1) 0 ∷ []

abbrev right_below : ℕ → Bool
right_below zero = true
right_below (suc n) = bytes_eq (entry n) (pair n) && right_below n

pub pair_at : (n : ℕ) → n < 100 → entry n ≡ pair n
pair_at =
    (Decides-below_and (λ n. bytes_eq (entry n) (pair n)) (λ n. entry n ≡ pair n) right_below (λ n. bytes_eq-Decides (entry n) (pair n)) refl (λ _. refl) 100).0 refl
