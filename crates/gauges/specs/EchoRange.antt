-- A proof, which the echo gauge's model needs for its ghost field: what the gauge reads is in range.
use Rattle.std.specs.Prelude.{◌≡◌, ℕ, zero, suc, ◌+◌, ◌-◌, ◌*◌, ◌<◌, ◌≤◌, Bool, true, false, cond, ◌&&◌, ◌||◌, T, ℤ, ◌==◌, nat_eq, nat_lt, refl, Ok, Err, Float}
use Rattle.std.proofs.Common.{inl, inr, sym, ap, ◌∙◌, le_of_eq, le_trans, mul_assoc, mul-le-mul_right, mul-pos, lit<}
use Rattle.std.proofs.Math.Path.{subst}
use Rattle.std.proofs.Math.Nat.{zero-mul}
use native.Mathlib.Omega.{arith}
use Rattle.std.proofs.Math.Pow.{field}
use Rattle.std.specs.Float.{nan, inf, fin}
use Rattle.std.specs.Float.Ieee.{binary32, of_bits, of_fields, odd, up, down, lt, le, sub, sum, round}
use Rattle.std.specs.Float.Ieee.Bits.{is_true}
use Rattle.std.specs.Float.Ieee.Fits.{down_pos}
use Rattle.std.specs.Float.Ieee.Nearest.{div_mono}
use Rattle.std.specs.Float.Ieee.Order.{round_mono}
use Rattle.std.specs.Float.Ieee.Positive.{num, den, den_pos, positive, between, le→cross}
use Rattle.std.specs.Float.Ieee.Scale.{finite}
use Rattle.std.proofs.lemmas.Float.{T_from_true}
use Rattle.std.proofs.lemmas.Bool.{and_parts, and_from, cond-false, eqb-true, false≢true, le-leb, le-ltb, ltb-false, ltb-true, or_cases, or_parts}
use Rattle.base.specs.Limits.{level_limit}
use Rattle.gauges.specs.declared.reading.Cause.TheVariants.{Lost, Reach}
use Rattle.gauges.specs.EchoWord.{echo_reading, gap_reading, lost, out_of_reach}
use Rattle.gauges.specs.Height.{cm_1, cm_100, in_height, in_mount, units}
use Rattle.gauges.specs.Model.{is_in_range}

-- ---- a height's size is at most 100, so its units are at most 10,000,000

at_or_below : (a b : ℕ) (r : Bool) → (nat_lt a b || (a == b && r)) ≡ true → a ≤ b
at_or_below a b r h = elim (or_cases (nat_lt a b) (a == b && r) h) [
  | inl l ↦ omega (arith, ltb-true a b l)
  | inr q ↦ omega (arith, eqb-true a b (and_parts (a == b) r q).0)
]

pub at_most_100 : (h : Float) → in_height h ≡ true → num h ≤ 100 * den h
unfolding of_bits le
at_most_100 nan e = absurd (false≢true e)
at_most_100 (inf true) e = absurd (false≢true e)
at_most_100 (inf false) e = absurd (false≢true e)
at_most_100 (fin true m k) e = let z : 0 * down k ≡ m * up k * 1 = eqb-true _ _ (and_parts _ _ (and_parts _ _ e).0).0 in omega arith
at_most_100 (fin false m k) e = omega (arith, at_or_below (m * up k * 1) (100 * down k) true (and_parts _ _ e).1)

pub height_finite : (h : Float) → in_height h ≡ true → T (finite h)
unfolding of_bits le
height_finite nan e = absurd (false≢true e)
height_finite (inf true) e = absurd (false≢true e)
height_finite (inf false) e = absurd (false≢true e)
height_finite (fin s m k) e = tt

pub units_limit : (h : Float) → in_height h ≡ true → units h ≤ level_limit
units_limit h e = let top = at_most_100 h e in div_mono (num h * 100000) (den h) level_limit 1 (den_pos h) (lit< tt) (omega arith)

-- ---- a word that is not lost is finite

odd_finite : (d : ℕ) (s : Bool) (q k l : ℕ) → T (finite (odd d s q k l))
unfolding odd
odd_finite d s zero k l = tt
odd_finite d s (suc q) k l = tt

fields_finite : (s : Bool) (x t : ℕ) → (x == 255) ≡ false → T (finite (of_fields binary32 s x t))
unfolding of_fields
fields_finite s zero t h = odd_finite 24 s t 0 149
fields_finite s (suc x) t h = subst (λ v. T (finite v)) (sym (cond-false _ _ _ h)) (odd_finite 24 s (8388608 + t) x 149)

word_finite : (a : ℕ) → lost a ≡ false → T (finite (of_bits binary32 a))
unfolding of_bits
word_finite a h = fields_finite _ _ _ (ap (λ (x : ℕ). nat_eq x 255) (field a 8 23) ∙ h)

-- ---- a mount less a good gap is a fraction from 0 to 100, rounded

rounded : (z c : ℕ) → 0 < c → z ≤ 100 * c → in_height (round binary32 false z c) ≡ true
unfolding of_bits round
rounded z c C h =
    and_from _ _ (is_true _ (round_mono binary32 0 1 z c (lit< tt) C (omega arith))) (is_true _ (round_mono binary32 z c 100 1 C (lit< tt) (omega arith)))

module _ (a b c : ℕ) (C : 0 < c) (top : a ≤ 100 * c) where
  added : b ≡ 0 → in_height (sum binary32 false a false b c) ≡ true
  unfolding sum
  added e = rounded (a + b) c C (omega arith)

  taken_off : b ≤ a → in_height (sum binary32 false a true b c) ≡ true
  unfolding sum
  taken_off l =
      subst (λ v. in_height v ≡ true) (sym (cond-false (nat_lt a b) (round binary32 true (b - a) c) (round binary32 false (a - b) c) (le-ltb a b l)))
      (rounded (a - b) c C (omega arith))

module _ (m n : ℕ) (e d : ℤ) (top : m * up e ≤ 100 * down e) where
  scaled : m * up e * down d ≤ 100 * (down e * down d)
  scaled = le_trans (mul-le-mul_right (down d) top) (le_of_eq (mul_assoc 100 (down e) (down d)))

  less : (t : Bool) → out_of_reach (fin t n d) (fin false m e) ≡ false → in_height (sub binary32 (fin false m e) (fin t n d)) ≡ true
  unfolding of_bits lt sub
  less true h =
      let l : n * up d * 1 + 0 * down d ≤ 0 = ltb-false _ _ (or_parts _ _ h).0 in
      let z : n * up d ≡ 0 = omega arith in
      added (m * up e * down d) (n * up d * down e) (down e * down d) (mul-pos (down_pos e) (down_pos d)) scaled (ap (λ (x : ℕ). x * down e) z ∙ zero-mul (down e))
  less false h =
      let l : n * up d * down e ≤ m * up e * down d = ltb-false _ _ (or_parts _ _ h).1 in
      taken_off (m * up e * down d) (n * up d * down e) (down e * down d) (mul-pos (down_pos e) (down_pos d)) scaled l

lowered : (mount gap : Float) → T (positive mount) → num mount * 1 ≤ 100 * den mount → T (finite gap) → out_of_reach gap mount ≡ false
    → in_height (sub binary32 mount gap) ≡ true
lowered nan gap p top q r = absurd p
lowered (inf s) gap p top q r = absurd p
lowered (fin true m e) gap p top q r = absurd p
lowered (fin false m e) nan p top q r = absurd q
lowered (fin false m e) (inf t) p top q r = absurd q
lowered (fin false m e) (fin t n d) p top q r = less m n e d (omega arith) t r

mount_positive : (mount : Float) → in_mount mount ≡ true → T (positive mount)
unfolding of_bits
mount_positive mount h =
    let b = and_parts _ _ h in between cm_1 mount cm_100 tt tt (T_from_true _ b.0) (T_from_true _ b.1)

mount_at_most_100 : (mount : Float) → in_mount mount ≡ true → num mount * 1 ≤ 100 * den mount
unfolding of_bits
mount_at_most_100 mount h = le→cross mount cm_100 (mount_positive mount h) tt (T_from_true _ (and_parts _ _ h).1)

pub height_in : (mount : Float) (a : ℕ) → in_mount mount ≡ true → lost a ≡ false → out_of_reach (of_bits binary32 a) mount ≡ false
    → in_height (sub binary32 mount (of_bits binary32 a)) ≡ true
height_in mount a h p q = lowered mount (of_bits binary32 a) (mount_positive mount h) (mount_at_most_100 mount h) (word_finite a p) q

-- ---- what a word reads

pub echo_in_range : (mount : Float) (a : ℕ) → in_mount mount ≡ true → is_in_range (echo_reading mount a) ≡ true
echo_in_range mount a h = by_word (lost a) refl (out_of_reach (of_bits binary32 a) mount) refl
  where
    by_word : (l : Bool) → lost a ≡ l → (o : Bool) → out_of_reach (of_bits binary32 a) mount ≡ o
        → is_in_range (gap_reading mount (cond l (Err Lost) (cond o (Err Reach) (Ok (of_bits binary32 a))))) ≡ true
    by_word true p o q = refl
    by_word false p true q = refl
    by_word false p false q = le-leb _ _ (units_limit (sub binary32 mount (of_bits binary32 a)) (height_in mount a h p q))
