-- The recursive words mean what the plain words say, both ways.
use Rattle.std.proofs.Common.{◌≡◌, ℕ, Bool, true, List, [], ◌∷◌, ◌++◌, sym, refl, inl, inr, arith}
use Rattle.monitor.specs.History.{Event}
use Rattle.monitor.specs.Meanings.{BeganMeans, Each, Ended, Found, LatelyMeans, Presses, oldest}
use Rattle.monitor.specs.Words.{began, lately, time}
use Rattle.std.proofs.lemmas.Bool.Decides.{nat_tests}
use Rattle.std.proofs.lemmas.Bool.{and_parts, cases_Bool, or_cases}

-- nothing holds a step in no steps
each_none : (test : Event → List Event → Bool) (rest : List Event) → Each test [] rest
each_none test rest [] x b e = cc
each_none test rest (c ∷ a) x b e = cc

each_more : (test : Event → List Event → Bool) (e : Event) (newer rest : List Event) → test e (newer ++ rest) ≡ true → Each test newer rest → Each test (e ∷ newer) rest
each_more test e newer rest here each [] x b is =
    let head : e ≡ x = cc in
    let tail : newer ≡ b = cc in
    rw (← head, ← tail) here
each_more test e newer rest here each (c ∷ a) x b is = each a x b (cc)

-- the newest, and the others
each_first : (test : Event → List Event → Bool) (e : Event) (newer rest : List Event) → Each test (e ∷ newer) rest → test e (newer ++ rest) ≡ true
each_first test e newer rest each = each [] e newer refl

each_rest : (test : Event → List Event → Bool) (e : Event) (newer rest : List Event) → Each test (e ∷ newer) rest → Each test newer rest
each_rest test e newer rest each a x b is = each (e ∷ a) x b (cc)

module _ (kept hit : Event → List Event → Bool) where
  found_next : (e : Event) (h : List Event) → kept e h ≡ true → Found kept hit h → Found kept hit (e ∷ h)
  found_next e h keeps f = record {
    newer = e ∷ f.newer;
    step = f.step;
    older = f.older;
    splits = cc;
    hits = f.hits;
    keeps = f.keeps;
    since = each_more kept e f.newer (f.step ∷ f.older) (rw (← f.splits) keeps) f.since;
  }

  to_found : (h : List Event) → lately kept hit h ≡ true → Found kept hit h
  to_found [] l = cc
  to_found (e ∷ h) l =
      let parts = and_parts (kept e h) _ l in
      elim (or_cases (hit e h) _ parts.1) [
        | inl here ↦ record { newer = []; step = e; older = h; splits = refl; hits = here; keeps = parts.0; since = each_none kept (e ∷ h) }
        | inr more ↦ found_next e h parts.0 (to_found h more)
      ]

  from_split : (newer : List Event) (s : Event) (older : List Event) → hit s older ≡ true → kept s older ≡ true → Each kept newer (s ∷ older) → lately kept hit (newer ++ (s ∷ older)) ≡ true
  from_split [] s older hits keeps each = grind (arith, nat_tests)
  from_split (e ∷ newer) s older hits keeps each =
      let here = each_first kept e newer (s ∷ older) each in
      let more = from_split newer s older hits keeps (each_rest kept e newer (s ∷ older) each) in
      grind (arith, nat_tests)

pub lately_means : LatelyMeans
lately_means kept hit h = (
  to_found kept hit h,
  λ f. rw f.splits (from_split kept hit f.newer f.step f.older f.hits f.keeps f.since),
)

module _ (down : Event → Bool) where
  pressed_next : (e : Event) (h : List Event) (t first : ℕ) → down e ≡ true → Presses down h (time e) first → Presses down (e ∷ h) t first
  pressed_next e h t first d p = record {
    run = e ∷ p.run;
    before = p.before;
    splits = cc;
    down_all = each_more (λ x _. down x) e p.run p.before d p.down_all;
    ended = p.ended;
    first_is = p.first_is;
  }

  to_presses : (h : List Event) (t first : ℕ) → began down h t ≡ first → Presses down h t first
  to_presses [] t first b = record { run = []; before = []; splits = refl; down_all = each_none (λ x _. down x) []; ended = tt; first_is = sym b }
  to_presses (e ∷ h) t first b =
      elim (cases_Bool (down e)) [
        | inl d ↦ pressed_next e h t first d (to_presses h (time e) first (grind (arith, nat_tests)))
        | inr u ↦ record { run = []; before = e ∷ h; splits = refl; down_all = each_none (λ x _. down x) (e ∷ h); ended = u; first_is = grind (arith, nat_tests) }
      ]

  ended_began : (h : List Event) (t : ℕ) → Ended down h → began down h t ≡ t
  ended_began [] t u = refl
  ended_began (e ∷ h) t u = grind (arith, nat_tests)

  from_run : (run before : List Event) (t : ℕ) → Each (λ x _. down x) run before → Ended down before → began down (run ++ before) t ≡ oldest run t
  from_run [] before t each u = ended_began before t u
  from_run (e ∷ run) before t each u =
      let here = each_first (λ x _. down x) e run before each in
      let more = from_run run before (time e) (each_rest (λ x _. down x) e run before each) u in
      grind (arith, nat_tests)

pub began_means : BeganMeans
began_means down h t first = (
  to_presses down h t first,
  λ p. rw (p.splits, p.first_is) (from_run down p.run p.before t p.down_all p.ended),
)
