-- The rest layer over any switch.
use Rattle.std.specs.Prelude.{ℕ, ◌+◌, Bool, true, false, cond, not, ◌&&◌, ◌||◌, Some, None, Option, nat_le, nat_lt}
use Rattle.switches.specs.Model.{Model}
use Rattle.switches.specs.declared.rest.Rest.{Rest}
use Rattle.switches.specs.declared.rest_time.RestTime.{RestTime}

abbrev pub rest_with : {S : Type 0} → S → RestTime → ℕ → Option ℕ → Rest S
rest_with below rest last opening = record { below = below; rest = rest; last = last; opening = opening }

abbrev pub new_rest : {S : Type 0} → S → RestTime → Rest S
new_rest below rest = record { below = below; rest = rest; last = 0; opening = None }

-- the last tick is at least the rest after the opening tick, if there is one
abbrev rested_since : Option ℕ → ℕ → ℕ → Bool
rested_since None rest last = true
rested_since (Some opening) rest last = nat_le (opening + rest) last

abbrev pub rested : {S : Type 0} → Rest S → Bool
rested s = rested_since s.opening s.rest.millis s.last

-- the opening tick after a call at that time: a new one if the contact opened; moved there if the time went
-- back and there was one
abbrev if_back : Option ℕ → Bool → ℕ → Option ℕ
if_back None back time = None
if_back (Some opening) back time = cond back (Some time) (Some opening)

abbrev pub opening_after : Option ℕ → Bool → Bool → ℕ → Option ℕ
opening_after opening opened back time = cond opened (Some time) (if_back opening back time)

abbrev pub resting : {S : Type 0} → Model S → Model (Rest S)
resting m = record {
  contact = λ s. m.contact s.below;
  free = λ s. m.contact s.below || (m.free s.below && rested s);
  ticked = λ s t. record {
    below = m.ticked s.below t;
    rest = s.rest;
    last = t;
    opening = opening_after s.opening (m.contact s.below && not (m.contact (m.ticked s.below t))) (nat_lt t s.last) t;
  };
  closed = λ s. record { below = m.closed s.below; rest = s.rest; last = s.last; opening = s.opening };
  opened = λ s. record {
    below = m.opened s.below;
    rest = s.rest;
    last = s.last;
    opening = opening_after s.opening (m.contact s.below) false s.last;
  };
}
