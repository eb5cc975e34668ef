-- What holds along a run, said once: it holds of the state that a run has come to, if what a turn makes keeps it and every push does.
use mathlib.Core.Path.{◌≡◌, refl, sym, ap, subst, ◌∙◌}
use Prim.Native.Nat.{ℕ, zero, suc, ◌<◌}
use mathlib.Core.Bool.{Bool, true, false}
use mathlib.Core.List.{List, [], ◌∷◌}
use mathlib.Core.Option.{some}
use lib.Dec.{leb, ltb}
use lib.ListN.{length}
use borrow.Author.Tests.{ltb-true, leb-false}
use Rattle.laws.specs.ListLaws.{All, all_head, all_tail}
use Rattle.definition.specs.Score.{Scoring}
use Rattle.definition.specs.Search.{SearchInput, Path, State, Made, at_end, broken, made, Turn, more, ended, failed, full, push, push_all, advance, push_made, turn, run}
use Rattle.theorems.proofs.Runs.{run-ended, run-failed, run-full}
use Rattle.theorems.proofs.Turns.{last_of, same_some, no-some}

module _ {S : Type 0} (𝓢 : Scoring S) (f : SearchInput) (asked limit : ℕ) {P : State S → Type 0} {Q : Path S → Type 0}
    (pushes : (p : Path S) (s : State S) → s.pushes < limit → P s → Q p → P (push 𝓢 p s))
    (makes : (s s' : State S) (ps : List (Path S)) → length s.closed < asked → P s → advance 𝓢 f s s.waiting s.pivotal ≡ made s' ps → P s' × All Q ps) where
  pub push-along : (ps : List (Path S)) (s s' : State S) → P s → All Q ps → last_of (push_all 𝓢 limit ps s) ≡ some s' → P s'
  unfolding push_all
  push-along [] s s' h a t = subst P (same_some t) h
  push-along (p ∷ ps) s s' h a t = go (ltb s.pushes limit) refl (push-along ps (push 𝓢 p s) s')
    where
      go : (b : Bool) → ltb s.pushes limit ≡ b → (P (push 𝓢 p s) → All Q ps → last_of (push_all 𝓢 limit ps (push 𝓢 p s)) ≡ some s' → P s') → P s'
      go true e ih = ih (pushes p s (ltb-true s.pushes limit e) h (all_head a)) (all_tail a) (rw (e, push_all) at t)
      go false e ih = subst P (same_some (rw (e, push_all) at t)) h

  pub turn_along : (s s' : State S) → P s → last_of (turn 𝓢 f asked limit s) ≡ some s' → P s'
  unfolding turn push_made
  turn_along s s' h t = go (leb asked (length s.closed)) refl
    where
      after : length s.closed < asked → (m : Made S) → advance 𝓢 f s s.waiting s.pivotal ≡ m → last_of (push_made 𝓢 limit s m) ≡ some s' → P s'
      after k at_end e w = subst P (same_some w) h
      after k (broken n) e w = no-some w
      after k (made s₁ ps) e w = let r = makes s s₁ ps k h e in push-along ps s₁ s' r.0 r.1 w

      go : (b : Bool) → leb asked (length s.closed) ≡ b → P s'
      go true e = subst P (same_some (rw (e, turn) at t)) h
      go false e = after (leb-false asked (length s.closed) e) (advance 𝓢 f s s.waiting s.pivotal) refl (rw (e, turn) at t)

  pub run_along : (n : ℕ) (s s' : State S) → P s → last_of (run 𝓢 f asked limit n (more s)) ≡ some s' → P s'
  unfolding run
  run_along zero s s' h t = subst P (same_some t) h
  run_along (suc n) s s' h t = go (turn 𝓢 f asked limit s) refl (λ x. run_along n x s')
    where
      go : (u : Turn S) → turn 𝓢 f asked limit s ≡ u → ((x : State S) → P x → last_of (run 𝓢 f asked limit n (more x)) ≡ some s' → P s') → P s'
      go (more x) e ih = ih x (turn_along s x h (ap last_of e)) (rw e at t)
      go (ended x) e ih = turn_along s s' h (ap last_of (e ∙ sym (run-ended 𝓢 f asked limit n x)) ∙ (rw e at t))
      go (failed m) e ih = no-some (ap last_of (sym (run-failed 𝓢 f asked limit n m)) ∙ (rw e at t))
      go (full x ps) e ih = turn_along s s' h (ap last_of (e ∙ sym (run-full 𝓢 f asked limit n x ps)) ∙ (rw e at t))
