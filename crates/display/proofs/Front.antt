-- A number's decimal digits, two at a time from the last, before a text.
use Rattle.std.proofs.Common.{◌≡◌, ℕ, ◌+◌, ◌/◌, ◌%◌, ◌^◌, ◌<◌, ◌≤◌, List, [], ◌∷◌, ◌++◌, length, decimal, ap, ◌∙◌, append_assoc, arith, length-append}
use Rattle.std.proofs.lemmas.Fmt.{decimal_step, decimal_digit, length-decimal-le}
use Rattle.display.specs.Pair.{pair}

-- the last two digits of a number, and both where it has two
pub two_step : (n : ℕ) → 100 ≤ n → n < 2 ^ 64 → decimal n ≡ decimal (n / 100) ++ pair (n % 100)
two_step n more fits =
    let hundreds : n / 10 / 10 ≡ n / 100 = omega arith in
    let tens : n / 10 % 10 ≡ n % 100 / 10 = omega arith in
    let ones : n % 10 ≡ n % 100 % 10 = omega arith in
    decimal_step n (omega arith) fits
    ∙ ap (λ z. z ++ ((48 + n % 10) ∷ [])) (decimal_step (n / 10) (omega arith) (omega arith))
    ∙ append_assoc (decimal (n / 10 / 10)) ((48 + n / 10 % 10) ∷ []) ((48 + n % 10) ∷ [])
    ∙ cc

pub two_only : (n : ℕ) → 10 ≤ n → n < 100 → decimal n ≡ pair n
two_only n more less = decimal_step n more (omega arith) ∙ ap (λ z. z ++ ((48 + n % 10) ∷ [])) (decimal_digit (n / 10) (omega arith))

pub two_lengths : (n : ℕ) → 100 ≤ n → n < 2 ^ 64 → length (decimal n) ≡ length (decimal (n / 100)) + 2
two_lengths n more fits = ap length (two_step n more fits) ∙ length-append (decimal (n / 100)) (pair (n % 100))

-- a text with a number before the old one
pub within : (n : ℕ) (text old : List ℕ) → n < 2 ^ 64 → text ≡ decimal n ++ old → length text ≤ 20 + length old
within n text old fits is =
    let digits = length-decimal-le 20 n (omega arith) (omega arith) fits in
    let whole = simp length-append at (ap length is) in
    omega arith
