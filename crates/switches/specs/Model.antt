-- What a pump switch means.
use Rattle.std.specs.Prelude.{ℕ, Bool, cond, Ok, Err, Result}
use Rattle.switches.specs.declared.held.Held.{Held}

pub record Model (S : Type 0) : Type 0 where
  -- true: the contact is closed
  pub contact : S → Bool
  -- true: a closing would close it
  pub free : S → Bool
  -- the state after a tick with that time
  pub ticked : S → ℕ → S
  -- the state after a closing that was not held
  pub closed : S → S
  -- the state after an opening
  pub opened : S → S

-- the state after a closing, held or not
abbrev pub asked_to_close : {S : Type 0} → Model S → S → S
asked_to_close m s = cond (m.free s) (m.closed s) s

-- what a closing answers: an error if the switch is not free
abbrev pub answer : {S : Type 0} → Model S → S → Result Unit Held
answer m s = cond (m.free s) (Ok tt) (Err (record {}))
