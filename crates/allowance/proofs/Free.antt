-- The search with no maximum on pushes is that of every maximum that it does not meet.
use Rattle.std.specs.Prelude.{◌≡◌, Bool, leb, length}
use Rattle.std.proofs.Math.Path.{refl, sym}
use Rattle.std.proofs.Common.{subst, ◌∙◌}
use Prim.Native.Nat.{ℕ, zero, suc}
use Rattle.std.proofs.Math.Bool.{true, false}
use mathlib.Core.List.{List, [], ◌∷◌}
use Rattle.std.proofs.Math.Dec.{ltb}
use Rattle.definition.specs.Score.{Scoring}
use Rattle.definition.specs.Search.{SearchInput, Path, State, Made, at_end, broken, made, Turn, more, ended, failed, full, push, push_all, advance, push_made, turn, run}
use Rattle.definition.specs.Enough.{push_every, push_freely, free_turn, free_run}
use Rattle.theorems.proofs.Runs.{run-ended, run-failed, run-full}
use Rattle.theorems.proofs.Allowance.{NotFull}

module _ {S : Type 0} (𝓢 : Scoring S) (f : SearchInput) (asked : ℕ) where
  free_ended : (n : ℕ) (s : State S) → free_run 𝓢 f asked n (ended s) ≡ ended s
  unfolding free_run
  free_ended zero s = refl
  free_ended (suc n) s = refl

  free-failed : (n k : ℕ) → free_run 𝓢 f asked n (failed k) ≡ failed k
  unfolding free_run
  free-failed zero k = refl
  free-failed (suc n) k = refl

  push-free : (limit : ℕ) (ps : List (Path S)) (s : State S) → NotFull (push_all 𝓢 limit ps s) → push_all 𝓢 limit ps s ≡ more (push_every 𝓢 ps s)
  unfolding push_all push_every
  push-free limit [] s h = refl
  push-free limit (p ∷ ps) s h = go (ltb s.pushes limit) refl (push-free limit ps (push 𝓢 p s))
    where
      go : (b : Bool) → ltb s.pushes limit ≡ b → (NotFull (push_all 𝓢 limit ps (push 𝓢 p s)) → push_all 𝓢 limit ps (push 𝓢 p s) ≡ more (push_every 𝓢 ps (push 𝓢 p s)))
          → push_all 𝓢 limit (p ∷ ps) s ≡ more (push_every 𝓢 ps (push 𝓢 p s))
      go false e ih = absurd (rw (e, push_all) at h)
      go true e ih = rw (e, push_all) (ih (rw (e, push_all) at h))

  turn-free : (limit : ℕ) (s : State S) → NotFull (turn 𝓢 f asked limit s) → turn 𝓢 f asked limit s ≡ free_turn 𝓢 f asked s
  unfolding turn push_made free_turn push_freely
  turn-free limit s h = go (leb asked (length s.closed)) refl
    where
      after : (m : Made S) → NotFull (push_made 𝓢 limit s m) → push_made 𝓢 limit s m ≡ push_freely 𝓢 s m
      after at_end k = refl
      after (broken n) k = refl
      after (made s₁ ps) k = push-free limit ps s₁ k

      go : (b : Bool) → leb asked (length s.closed) ≡ b → turn 𝓢 f asked limit s ≡ free_turn 𝓢 f asked s
      go true e = rw (e, turn, free_turn)
      go false e = rw (e, turn, free_turn) (after (advance 𝓢 f s s.waiting s.pivotal) (rw (e, turn) at h))

  -- after any number of turns
  pub run-free : (limit n : ℕ) (s : State S) → NotFull (run 𝓢 f asked limit n (more s)) → run 𝓢 f asked limit n (more s) ≡ free_run 𝓢 f asked n (more s)
  unfolding run free_run
  run-free limit zero s h = refl
  run-free limit (suc n) s h = go (turn 𝓢 f asked limit s) refl (run-free limit n)
    where
      go : (t : Turn S) → turn 𝓢 f asked limit s ≡ t → ((x : State S) → NotFull (run 𝓢 f asked limit n (more x)) → run 𝓢 f asked limit n (more x) ≡ free_run 𝓢 f asked n (more x))
          → run 𝓢 f asked limit n (turn 𝓢 f asked limit s) ≡ free_run 𝓢 f asked n (free_turn 𝓢 f asked s)
      go (more x) e ih = rw (← turn-free limit s (rw e tt), e) (ih x (rw e at h))
      go (ended x) e ih = rw (← turn-free limit s (rw e tt), e) (run-ended 𝓢 f asked limit n x ∙ sym (free_ended n x))
      go (failed k) e ih = rw (← turn-free limit s (rw e tt), e) (run-failed 𝓢 f asked limit n k ∙ sym (free-failed n k))
      go (full x ps) e ih = absurd (subst NotFull (run-full 𝓢 f asked limit n x ps) (rw e at h))
