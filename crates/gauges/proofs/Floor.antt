-- From the fields of an `f32`'s bits to the exact floor of 100,000 times its value.
use Rattle.std.proofs.Common.{◌≡◌, ℕ, zero, suc, ◌+◌, ◌-◌, ◌*◌, ◌/◌, ◌%◌, ◌^◌, ◌<◌, ◌≤◌, Bool, true, false, cond, T, eqb, leb, sym, ap, ◌∙◌, subst, le-add_right, mul-le-mul_right, mod-lt, mul_assoc, lt_of_not-le, mul_right_comm, le_of_mul-le-mul_right, arith, lit<, lit≤, pow_pos, pow_mono, pow-add}
use native.Mathlib.Nat.{div-eq_of_lt, eq_of_mul-eq-mul_right}
use lib.Pow.{field}
use lib.Ieee.{Float, nan, inf, fin, binary32, fits, of_bits, of_fields, odd, to_bits, sub}
use lib.Ieee.Bits.{of_bits-to_bits}
use lib.Ieee.Digits.{Equals, back, odd_val}
use lib.Ieee.Fits.{sub-fits}
use lib.Ieee.Nearest.{div_same}
use lib.Ieee.Positive.{num, den, den_pos}
use lib.Ieee.Scale.{finite}
use Rattle.gauges.specs.EchoRange.{at_most_100, height_finite}
use Rattle.gauges.specs.Height.{in_height, units}

-- x is the exponent's field, t the digits' field
pub record Floor (v : Float) (x t : ℕ) : Type 0 where
  pub low : x ≤ 133
  pub none : 40 < 150 - x → 0 ≡ units v
  pub some : 150 - x ≤ 40 → (8388608 + t) * 100000 / 2 ^ (150 - x) ≡ units v

-- ---- v is q / 2 ^ k

module _ (v : Float) (q k : ℕ) (is : num v * 2 ^ k ≡ q * den v) where
  shifted : q * 100000 / 2 ^ k ≡ units v
  shifted = div_same (q * 100000) (2 ^ k) (num v * 100000) (den v) (pow_pos k) (den_pos v) (mul_right_comm q 100000 (den v) ∙ ap (λ (z : ℕ). z * 100000) (sym is) ∙ mul_right_comm (num v) (2 ^ k) 100000)

  gone : q < 16777216 → 40 < k → 0 ≡ units v
  gone small big = sym (div-eq_of_lt (let p : 2 ^ 41 ≤ 2 ^ k = pow_mono big in omega arith)) ∙ shifted

-- ---- what the fields stand for

cross : (v : Float) (a c : ℕ) → Equals v a c → num v * c ≡ a * den v
cross nan a c h = absurd h
cross (inf s) a c h = absurd h
cross (fin s m e) a c h = h

no_number : (b s : Bool) → T (finite (cond b (inf s) nan)) → ⊥
no_number true s f = f
no_number false s f = f

normal : (s : Bool) (y t : ℕ) → T (finite (of_fields binary32 s (suc y) t)) → Equals (of_fields binary32 s (suc y) t) ((8388608 + t) * 2 ^ y) (2 ^ 149)
unfolding of_fields
normal s y t f = go (eqb (suc y) 255) f
  where
    v : Bool → Float
    v b = cond b (cond (eqb t 0) (inf s) nan) (odd 24 s (8388608 + t) y 149)

    go : (b : Bool) → T (finite (v b)) → Equals (v b) ((8388608 + t) * 2 ^ y) (2 ^ 149)
    go true f = absurd (no_number (eqb t 0) s f)
    go false f = odd_val 24 s (8388608 + t) y 149

-- digits shifted up by 133 or more would stand for 128 at least
low_enough : (v : Float) (y t : ℕ) → num v * 2 ^ 149 ≡ (8388608 + t) * 2 ^ y * den v → num v ≤ 100 * den v → y < 133
low_enough v y t is top =
    lt_of_not-le (λ (g : 133 ≤ y).
    let a : (8388608 + t) * 2 ^ y * den v ≤ 100 * 2 ^ 149 * den v = omega (arith, is) in
    let b : (8388608 + t) * 2 ^ y ≤ 100 * 2 ^ 149 = le_of_mul-le-mul_right a (den_pos v) in
    let p : 2 ^ 133 ≤ 2 ^ y = pow_mono g in
    let d : 8388608 * 2 ^ y ≤ (8388608 + t) * 2 ^ y = mul-le-mul_right (2 ^ y) (le-add_right 8388608 t) in
    omega arith)

cancelled : (v : Float) (q y : ℕ) → y ≤ 149 → num v * 2 ^ 149 ≡ q * 2 ^ y * den v → num v * 2 ^ (149 - y) ≡ q * den v
cancelled v q y h is =
    eq_of_mul-eq-mul_right (2 ^ y) (pow_pos y) (num v * 2 ^ (149 - y)) (q * den v)
    (mul_assoc (num v) (2 ^ (149 - y)) (2 ^ y)
    ∙ ap (λ (z : ℕ). num v * z) (sym (pow-add 2 (149 - y) y) ∙ ap (λ (z : ℕ). 2 ^ z) (back 149 y h))
    ∙ is
    ∙ mul_right_comm q (2 ^ y) (den v))

fields_floor : (s : Bool) (x t : ℕ) → t < 8388608 → in_height (of_fields binary32 s x t) ≡ true → Floor (of_fields binary32 s x t) x t
unfolding of_fields
fields_floor s zero t l h =
    let v = odd 24 s t 0 149 in
    let is = cancelled v t 0 (lit≤ tt) (cross v (t * 1) (2 ^ 149) (odd_val 24 s t 0 149)) in
    record { low = lit≤ tt; none = λ _. gone v t 149 is (omega arith) (lit< tt); some = λ g. absurd (no_less g) }
  where
    no_less : 150 ≤ 40 → ⊥
    no_less g = omega arith
fields_floor s (suc y) t l h =
    let v = of_fields binary32 s (suc y) t in
    let is = cross v ((8388608 + t) * 2 ^ y) (2 ^ 149) (normal s y t (height_finite v h)) in
    let y-lt : y < 133 = low_enough v y t is (at_most_100 v h) in
    let k : 149 - y ≡ 150 - suc y = omega arith in
    let shift = subst (λ (z : ℕ). num v * 2 ^ z ≡ (8388608 + t) * den v) k (cancelled v (8388608 + t) y (omega arith) is) in
    record {
      low = y-lt;
      none = gone v (8388608 + t) (150 - suc y) shift (omega arith);
      some = λ _. shifted v (8388608 + t) (150 - suc y) shift;
    }

bits_floor : (b : ℕ) → in_height (of_bits binary32 b) ≡ true → Floor (of_bits binary32 b) (b % 2147483648 / 8388608) (b % 8388608)
unfolding of_bits
bits_floor b h = fields_floor (leb 2147483648 b) (b % 2147483648 / 8388608) (b % 8388608) (mod-lt b (lit< tt)) h

pub floor : (h : Float) → T (fits binary32 h) → in_height h ≡ true → Floor h (to_bits binary32 h / 8388608 % 256) (to_bits binary32 h % 8388608)
floor h f e =
    let b = to_bits binary32 h in
    let same : of_bits binary32 b ≡ h = of_bits-to_bits binary32 h f in
    subst (λ v. Floor v (b / 8388608 % 256) (b % 8388608)) same
    (subst (λ (x : ℕ). Floor (of_bits binary32 b) x (b % 8388608)) (field b 8 23) (bits_floor b (subst (λ v. in_height v ≡ true) (sym same) e)))

pub level_floor : (mount gap : Float) → in_height (sub binary32 mount gap) ≡ true → let h = sub binary32 mount gap in Floor h (to_bits binary32 h / 8388608 % 256) (to_bits binary32 h % 8388608)
level_floor mount gap ok = floor (sub binary32 mount gap) (sub-fits binary32 mount gap) ok
