-- Buttons: since when one is down. An up button counts from the step itself, so that its time is 0.
use Rattle.std.specs.Prelude.{ℕ, Bool, false, cond, ◌&&◌}
use Rattle.control.specs.declared.button.Button.{Button}

abbrev pub released : ℕ → Button
released time = record { down = false; since = time }

-- the button after a power-on step: the run of steps with it down goes on, or a new one begins here
abbrev pub pressed : Button → Bool → ℕ → Button
pressed b down time = record { down = down; since = cond (down && b.down) b.since time }
