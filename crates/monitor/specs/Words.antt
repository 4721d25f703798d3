-- The words of the promises. Each is said of an accepted step e and of the accepted steps h before it, the
-- newest first.
use Rattle.std.specs.Prelude.{ℕ, ◌+◌, ◌-◌, Bool, false, cond, not, ◌&&◌, ◌||◌, List, [], ◌∷◌, is_err, nat_le, nat_lt}
use Rattle.control.specs.Plate.{past_mark, out_of_limits}
use Rattle.control.specs.Plate as plate
use Rattle.control.specs.declared.plate.Plate.{Plate}
use Rattle.monitor.specs.History.{Event}

-- the step's time; power is on; a button is down with power on
abbrev pub time : Event → ℕ
time e = e.step.time

abbrev pub on : Event → Bool
on e = e.step.power

abbrev pub reset_down : Event → Bool
reset_down e = on e && e.step.reset

abbrev pub test_down : Event → Bool
test_down e = on e && e.step.self_test

-- what the step's reading is; a step with power off has none
abbrev pub faulty : Event → Bool
faulty e = on e && is_err e.reading

abbrev pub past : Plate → Event → Bool
past p e = on e && past_mark p e.reading

abbrev pub out : Plate → Event → Bool
out p e = on e && out_of_limits p e.reading

abbrev pub settled : Plate → Event → Bool
settled p e = on e && plate.settled p e.reading

-- Start: power is on, and was not at the step before; the first step of all counts as one after power off.
abbrev pub powered : List Event → Bool
powered [] = false
powered (e ∷ h) = on e

abbrev pub start : Event → List Event → Bool
start e h = on e && not (powered h)

-- Not later than the step before, or 500 ms or more later.
abbrev pub ill_timed : Event → List Event → Bool
ill_timed e [] = false
ill_timed e (b ∷ h) = nat_le (time e) (time b) || nat_le (time b + 500) (time e)

-- Shows a fault: with power on, memory or clock failed, the gauge is faulty, the level is past a mark, or, at
-- no start, the step is ill-timed.
abbrev pub shows_fault : Plate → Event → List Event → Bool
shows_fault p e h =
    on e
    && (e.step.memory_failed
    || (e.step.clock_failed
    || (faulty e
    || (past p e
    || (not (start e h) && ill_timed e h)))))

-- A button's time: since the first of the unbroken run of steps with it down.
abbrev pub began : (Event → Bool) → List Event → ℕ → ℕ
began down [] t = t
began down (b ∷ h) t = cond (down b) (began down h (time b)) t

abbrev pub button_time : (Event → Bool) → Event → List Event → ℕ
button_time down e h = cond (down e) (time e - began down h (time e)) 0

-- Some step is `hit`, and it and all steps since are `kept`.
abbrev pub lately : (Event → List Event → Bool) → (Event → List Event → Bool) → List Event → Bool
lately kept hit [] = false
lately kept hit (e ∷ h) = kept e h && (hit e h || lately kept hit h)

-- Level trip: e and an earlier step, 200 ms or more apart, both with self test up, the earlier out of limits, e
-- and all between not settled, all with power on. (A level out of limits is not settled.)
abbrev pub out_before : Plate → ℕ → List Event → Bool
out_before p t = lately (λ b h. on b && not (settled p b)) (λ b h. out p b && (not (test_down b) && nat_le (time b + 200) t))

abbrev pub level_trip : Plate → Event → List Event → Bool
level_trip p e h = on e && (not (test_down e) && (not (settled p e) && out_before p (time e) h))

-- Trip: a start, a step with self test time above 500, or a level trip.
abbrev pub trip : Plate → Event → List Event → Bool
trip p e h = start e h || (nat_lt 500 (button_time test_down e h) || level_trip p e h)

-- Full reset: reset time above 3,000 and a settled level.
abbrev pub full_reset : Plate → Event → List Event → Bool
full_reset p e h = nat_lt 3000 (button_time reset_down e h) && settled p e

-- After the last trip came a full reset; and after that it was let go.
abbrev pub no_trip : Plate → Event → List Event → Bool
no_trip p e h = not (trip p e h)

abbrev pub reset_since_trip : Plate → List Event → Bool
reset_since_trip p = lately (no_trip p) (full_reset p)

-- Let go: a step with reset up.
abbrev pub lets_go : Event → Bool
lets_go e = not e.step.reset

abbrev pub let_go_since_trip : Plate → List Event → Bool
let_go_since_trip p = lately (no_trip p) (λ e h. lets_go e && reset_since_trip p h)

-- There was a start, and no step from then on shows a fault.
abbrev pub faultless : Plate → List Event → Bool
faultless p = lately (λ e h. not (shows_fault p e h)) start

-- Quiet: power on, no fault, settled, self test up.
abbrev pub quiet : Plate → Event → List Event → Bool
quiet p e h = on e && (not (shows_fault p e h) && (settled p e && not (test_down e)))

abbrev pub quiet_reset : Plate → Event → List Event → Bool
quiet_reset p e h = quiet p e h && reset_down e

-- Amiss: faulty, out of limits, or without power.
abbrev pub amiss : Plate → Event → List Event → Bool
amiss p e h = not (on e) || (faulty e || out p e)

-- From some step that came d ms or more before t, it and all since are such.
abbrev pub since : (Event → List Event → Bool) → ℕ → ℕ → List Event → Bool
since such d t = lately such (λ e h. nat_le (time e + d) t)

-- From one step to the newest, d ms or more later, all are such.
abbrev pub lasted : (Event → List Event → Bool) → ℕ → List Event → Bool
lasted such d [] = false
lasted such d (e ∷ h) = since such d (time e) (e ∷ h)

-- Held: the newest steps, over d ms or more, are quiet with reset down.
abbrev pub held : Plate → ℕ → List Event → Bool
held p d = lasted (quiet_reset p) d
