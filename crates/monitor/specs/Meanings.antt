-- What the recursive words of the promises mean, by places in the history.
use Rattle.std.specs.Prelude.{◌≡◌, ℕ, Bool, true, false, List, [], ◌∷◌, ◌++◌}
use Rattle.monitor.specs.History.{Event}
use Rattle.monitor.specs.Words.{began, lately, time}

-- each of the newer steps, with the steps before it, meets the test
abbrev pub Each : (Event → List Event → Bool) → List Event → List Event → Type 0
Each test newer rest = (a : List Event) (x : Event) (b : List Event) → newer ≡ a ++ (x ∷ b) → test x (b ++ rest) ≡ true

-- a step of the history that is hit; it and each newer one are kept
pub record Found (kept hit : Event → List Event → Bool) (h : List Event) : Type 0 where
  pub newer : List Event
  pub step : Event
  pub older : List Event
  pub splits : h ≡ newer ++ (step ∷ older)
  pub hits : hit step older ≡ true
  pub keeps : kept step older ≡ true
  pub since : Each kept newer (step ∷ older)

-- `lately` says just that there is such a step
abbrev pub LatelyMeans : Type 0
LatelyMeans = (kept hit : Event → List Event → Bool) (h : List Event) → (lately kept hit h ≡ true → Found kept hit h) × (Found kept hit h → lately kept hit h ≡ true)

-- the newest step of these is up, or there is none
abbrev pub Ended : (Event → Bool) → List Event → Type 0
Ended down [] = Unit {0}
Ended down (e ∷ h) = down e ≡ false

-- the time of the oldest of these, or t if there is none
abbrev pub oldest : List Event → ℕ → ℕ
oldest [] t = t
oldest (e ∷ h) t = oldest h (time e)

-- a history is a run of steps with the button down, and what came before it
pub record Presses (down : Event → Bool) (h : List Event) (t first : ℕ) : Type 0 where
  pub run : List Event
  pub before : List Event
  pub splits : h ≡ run ++ before
  pub down_all : Each (λ e _. down e) run before
  pub ended : Ended down before
  pub first_is : first ≡ oldest run t

-- `began` is the time of the first step of that run
abbrev pub BeganMeans : Type 0
BeganMeans = (down : Event → Bool) (h : List Event) (t first : ℕ) → (began down h t ≡ first → Presses down h t first) × (Presses down h t first → began down h t ≡ first)
