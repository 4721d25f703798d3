-- A call served, and a call refused because no monitor can have the numbers.
use Rattle.std.proofs.Common.{◌≡◌, ℕ, Bool, true, false, cond, Some, None, Option, sym, ap, ◌∙◌, subst}
use Rattle.std.proofs.lemmas.Bool.{false_from_ne_true, false≢true}
use Rattle.sukepina.specs.Boundary.{Call, StandsFor}

-- ---- what numbers stand for

module _ {N M : Type 0} (numbers : M → N) (possible : M → Bool) (n : N) where
  -- nothing, if part of it is missing
  pub none_stands : ((m : M) → possible m ≡ true → numbers m ≡ n → ⊥) → (r : Option M) → r ≡ None → StandsFor numbers possible n r
  none_stands without r none = subst (StandsFor numbers possible n) (sym none) (λ m e. false_from_ne_true (possible m) (λ can. without m can e))

  -- the one thing that has the numbers if it is possible, and else nothing
  pub stands : (m : M) → numbers m ≡ n → ((k : M) → possible k ≡ true → numbers k ≡ n → k ≡ m) → (can : Bool) → possible m ≡ can → StandsFor numbers possible n (cond can (Some m) None)
  stands m has only true can = (has, can)
  stands m has only false cannot = λ k e. false_from_ne_true (possible k) (λ can. false≢true (sym cannot ∙ ap possible (sym (only k can e)) ∙ can))

-- ---- calls

module _ {N M R : Type 0} (numbers : M → N) (possible : M → Bool) (unserved : R) (answer : M → R) (after : M → M) where
  pub served_call : ((m m' : M) → possible m ≡ true → possible m' ≡ true → numbers m ≡ numbers m' → m ≡ m') → ((m : M) → possible m ≡ true → possible (after m) ≡ true)
      → (n : N) (m : M) → numbers m ≡ n → possible m ≡ true → (r : R) → r ≡ answer m → (n' : N) → n' ≡ numbers (after m)
      → Call numbers possible unserved answer after n r n'
  served_call one kept n m e can r value n' left = record {
    served = λ k ek ok. let same = one m k can ok (e ∙ sym ek) in (value ∙ ap answer same, left ∙ ap (λ x. numbers (after x)) same);
    refused = λ none. absurd (false≢true (sym (none m e) ∙ can));
    leaves = λ _. (after m, (sym left, kept m can));
  }

  -- the same told in other words
  pub told_call : (n : N) (r r' : R) (n' : N) → r' ≡ r → Call numbers possible unserved answer after n r n' → Call numbers possible unserved answer after n r' n'
  told_call n r r' n' same call = subst (λ x. Call numbers possible unserved answer after n x n') (sym same) call

-- an answer with a place beside it, its number told in other words
pub told_placed : {N M : Type 0} (numbers : M → N) (possible : M → Bool) (unserved : ℕ × ℕ) (answer : M → ℕ × ℕ) (after : M → M) (n : N) (k k' p : ℕ) (n' : N)
    → Call numbers possible unserved answer after n (k, p) n' → k' ≡ k → Call numbers possible unserved answer after n (k', p) n'
told_placed numbers possible unserved answer after n k k' p n' call same = told_call numbers possible unserved answer after n (k, p) (k', p) n' (ap (λ x. (x, p)) same) call
