-- The starter with a thermal cut-out.
use Rattle.std.specs.Prelude.{ℕ, ◌+◌, true, false, cond, ◌&&◌, ◌||◌, nat_le}
use Rattle.switches.specs.Model.{Model}
use Rattle.outsider.specs.declared.soft_starter.SoftStarter.{SoftStarter}

abbrev pub new_starter : SoftStarter
new_starter = record { closed = false; last = 0; since = 0 }

-- opened, and closed, at the last tick
abbrev pub cut : SoftStarter → SoftStarter
cut s = record { closed = false; last = s.last; since = s.last }

abbrev pub started : SoftStarter → SoftStarter
started s = record { closed = true; last = s.last; since = s.last }

abbrev pub told : SoftStarter → ℕ → SoftStarter
told s t = record { closed = s.closed; last = t; since = s.since }

-- a run of four hours is cut; ten minutes after an opening it is free
abbrev pub soft_starter : Model SoftStarter
soft_starter = record {
  contact = λ s. s.closed;
  free = λ s. s.closed || nat_le (s.since + 600000) s.last;
  ticked = λ s t. cond (s.closed && nat_le (s.since + 14400000) t) (cut (told s t)) (told s t);
  closed = λ s. cond s.closed s (started s);
  opened = λ s. cond s.closed (cut s) s;
}
