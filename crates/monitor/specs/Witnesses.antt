-- Runs that meet what the promises suppose, so that none of them is empty: a cell, a direct contact, the
-- standard plate, and a step each 400 ms.
use Rattle.std.specs.Prelude.{◌≡◌, ℕ, zero, suc, ◌+◌, ◌*◌, Bool, true, false, List, [], ◌∷◌}
use Rattle.control.specs.Plate.{standard}
use Rattle.gauges.specs.Cell.{cell, nothing_taken}
use Rattle.records.specs.declared.step.Step.{Step}
use Rattle.switches.specs.Direct.{contact_at, direct}
use Rattle.monitor.specs.Calls.{set_up}
use Rattle.monitor.specs.History.{Call, Event, accepted_steps, after_calls, event, history, step}
use Rattle.monitor.specs.Promises.{LongReset}
use Rattle.monitor.specs.Words.{amiss, lasted}

-- a power-on step with that word, at that time, with reset down or up
abbrev pub at : ℕ → ℕ → Bool → Step
at word t reset = record {
  time = t;
  a = word;
  b = 0;
  power = true;
  reset = reset;
  self_test = false;
  memory_failed = false;
  clock_failed = false;
}

-- reset held at a settled level from 1,000 on, over n steps more
abbrev held : ℕ → List Call
held zero = step (at 128 1000 true) ∷ []
held (suc n) = step (at 128 (1400 + 400 * n) true) ∷ held n

-- held over 14,800 ms, then let go: the pump runs
abbrev let_go : Step
let_go = at 128 16200 false

abbrev pub running : List Call
running = step let_go ∷ held 37

-- then n steps more of high water
abbrev flooding : ℕ → List Call
flooding zero = running
flooding (suc n) = step (at 240 (16600 + 400 * n) false) ∷ flooding n

abbrev pub flooded : List Call
flooded = flooding 8

abbrev contact_after : List Call → Bool
contact_after cs = direct.contact (after_calls cell direct (set_up direct nothing_taken (contact_at true) standard) cs).switch

abbrev steps_of : List Call → List Event
steps_of cs = history cell nothing_taken (accepted_steps cs)

pub record Witnessed : Type 0 where
  -- a closed contact
  pub closed : contact_after running ≡ true
  -- 2,800 ms of high water after it
  pub bad : lasted (amiss standard) 2700 (steps_of flooded) ≡ true
  -- a long reset let go, after which the contact is closed
  pub long : LongReset standard (event cell nothing_taken let_go (accepted_steps (held 37))) (steps_of (held 37))
