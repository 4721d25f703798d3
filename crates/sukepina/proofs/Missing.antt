-- A number that may be missing as two numbers, and back.
use Rattle.std.proofs.Common.{arith, ◌≡◌, ℕ, Bool, Some, None, Option, sym, refl, Ok, Err, Result, subst}
use Rattle.std.proofs.lemmas.Bool.Decides.{nat_tests}
use Rattle.std.specs.Prelude.{MatchResult}
use Rattle.std.specs.Result.{OkIff, result_ok}
use Rattle.std.proofs.lemmas.Result.{OkIff-at_err}
use Rattle.std.specs.Bool.{then_some}
use Rattle.sukepina.specs.Core.{flag}
use Rattle.sukepina.specs.Maybe.{or_0, there}

pub there_flag : (b : Bool) (x : ℕ) → there (then_some b x) ≡ flag b
there_flag b x = grind (arith, nat_tests)

pub missing_one : (o q : Option ℕ) → there o ≡ there q → or_0 o ≡ or_0 q → o ≡ q
missing_one None None t e = cc
missing_one None (Some y) t e = cc
missing_one (Some x) None t e = cc
missing_one (Some x) (Some y) t e = cc

-- what is said of a result that is one
pub ok_is : {A E : Type 0} (P : A → Type 0) (Q : E → Type 0) (r : Result A E) (x : A) → Some x ≡ result_ok r → MatchResult r P Q → P x
ok_is P Q (Ok y) x e p = let same : x ≡ y = cc in subst P (sym same) p
ok_is P Q (Err why) x e p = absurd (cc)

-- what a result is that is one just where P holds
pub ok_at : {A E : Type 0} (P : Type 0) (v : A) (r : Result A E) (x : A) → OkIff r P v → Some x ≡ result_ok r → x ≡ v
ok_at P v (Ok y) x just e = cc
ok_at P v (Err why) x just e = absurd (cc)

-- of a result that is none though it is one just where P holds
pub none_if : {A E : Type 0} (P : Type 0) (v : A) (r : Result A E) → OkIff r P v → result_ok r ≡ None → P → ⊥
none_if P v (Ok x) just e p = cc
none_if P v (Err why) just e p = OkIff-at_err (Err why) P v why just refl p
