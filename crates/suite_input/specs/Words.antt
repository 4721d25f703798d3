-- Numbers in the suites' inputs.
use Rattle.std.specs.Prelude.{ℕ, ◌+◌, ◌*◌, Bool, cond, List, ltb, length, get_or}

-- the number in the four bytes from a place on, high byte first; 0 if they are not all there
abbrev pub word_at : List ℕ → ℕ → ℕ
word_at bytes at =
    cond (ltb (length bytes) (at + 4)) 0
    (((get_or bytes at 0 * 256 + get_or bytes (at + 1) 0) * 256 + get_or bytes (at + 2) 0) * 256 + get_or bytes (at + 3) 0)

abbrev pub bit : Bool → ℕ
bit b = cond b 1 0
