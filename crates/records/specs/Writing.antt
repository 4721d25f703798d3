-- What writing a step's record does: which answer, what the output holds, and that it reads back as the same step.
use Rattle.std.specs.Prelude.{◌≡◌, ℕ, cond, List, ◌++◌, length, drop, is_ok, IfOk, Ok, Err, Result, nat_lt}
use Rattle.base.specs.Limits.{time_limit}
use Rattle.base.specs.declared.refusal.Refusal.{Refusal}
use Rattle.base.specs.declared.refusal.Refusal.TheVariants.{Time, Output}
use Rattle.records.specs.Record.{step_bytes, read_at}
use Rattle.records.specs.declared.step.Step.{Step}

abbrev pub write_answer : Step → List ℕ → Result ℕ Refusal
write_answer s out = cond (nat_lt time_limit s.time) (Err Time) (cond (nat_lt (length out) 19) (Err Output) (Ok 19))

pub record Written (s : Step) (out : List ℕ) (r : Result ℕ Refusal) (out' : List ℕ) : Type 0 where
  pub value : r ≡ write_answer s out
  pub after : out' ≡ cond (is_ok r) (step_bytes s ++ drop 19 out) out
  pub reads_back : IfOk r (λ _. read_at out' 0 ≡ Ok s)
