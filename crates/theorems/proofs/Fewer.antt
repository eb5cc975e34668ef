-- Where a search for more paths is not refused, one for fewer is not either: it makes the same turns and stops earlier.
use mathlib.Core.Path.{◌≡◌, refl, sym, ◌∙◌}
use Prim.Native.Nat.{ℕ, zero, suc, ◌≤◌}
use native.Mathlib.Omega.{arith}
use mathlib.Core.Bool.{Bool, true, false}
use lib.Dec.{leb, eqb}
use lib.ListN.{length}
use borrow.Author.Tests.{eqb-true, eq-eqb}
use Rattle.laws.specs.ListLaws.{clash}
use Rattle.definition.specs.Refusal.{Result, ok, refused}
use Rattle.definition.specs.Score.{Scoring}
use Rattle.definition.specs.Limits.{Input}
use Rattle.definition.specs.Search.{SearchInput, State, Turn, more, ended, failed, full, turn, run, search}
use Rattle.definition.specs.Building.{Built}
use Rattle.definition.specs.Listing.{Answer, refusal, listed, list_of, search_input, answer_of, after_build}
use Rattle.theorems.proofs.Runs.{turn-fewer, turn-stop, run-ended, run-failed, run-full}
use Rattle.theorems.proofs.Found.{with_asked, same-input}

-- an answer that is a list
abbrev pub IsList : {S : Type 0} → Answer S → Type 0
IsList (refusal n) = ⊥
IsList (listed rs p q) = Unit {0}

-- a search that was not refused
abbrev Sound : {S : Type 0} → Turn S → Type 0
Sound (more s) = Unit {0}
Sound (ended s) = Unit {0}
Sound (failed n) = ⊥
Sound (full s ps) = ⊥

module _ {S : Type 0} (𝓢 : Scoring S) (f : SearchInput) (limit n m : ℕ) (le : n ≤ m) where
  run_sound : (fuel : ℕ) (s : State S) → Sound (run 𝓢 f m limit fuel (more s)) → Sound (run 𝓢 f n limit fuel (more s))
  unfolding run
  run_sound zero s h = tt
  run_sound (suc fuel) s h = go (leb n (length s.closed)) refl (run_sound fuel)
    where
      go : (b : Bool) → leb n (length s.closed) ≡ b
          → ((x : State S) → Sound (run 𝓢 f m limit fuel (more x)) → Sound (run 𝓢 f n limit fuel (more x))) → Sound (run 𝓢 f n limit fuel (turn 𝓢 f n limit s))
      go true e ih = rw (turn-stop 𝓢 f n limit s e, run-ended 𝓢 f n limit fuel s) tt
      go false e ih = after (turn 𝓢 f n limit s) refl
        where
          same : turn 𝓢 f m limit s ≡ turn 𝓢 f n limit s
          same = turn-fewer 𝓢 f n m limit s le e

          after : (u : Turn S) → turn 𝓢 f n limit s ≡ u → Sound (run 𝓢 f n limit fuel u)
          after (more x) t = ih x (rw (same ∙ t) at h)
          after (ended x) t = rw (run-ended 𝓢 f n limit fuel x) tt
          after (failed k) t = absurd (rw (same ∙ t, run-failed 𝓢 f m limit fuel k) at h)
          after (full x ps) t = absurd (rw (same ∙ t, run-full 𝓢 f m limit fuel x ps) at h)

  pub search-sound : (recovery : Bool) → Sound (search 𝓢 f m limit recovery) → Sound (search 𝓢 f n limit recovery)
  unfolding search
  search-sound recovery h = run_sound _ _ h

module _ {S : Type 0} (𝓢 : Scoring S) where
  sound-list : (b : Built) (u : Turn S) → IsList (answer_of 𝓢 b u) → Sound u
  unfolding answer_of
  sound-list b (more s) h = tt
  sound-list b (ended s) h = tt
  sound-list b (failed n) h = h
  sound-list b (full s ps) h = h

  list-sound : (b : Built) (u : Turn S) → Sound u → IsList (answer_of 𝓢 b u)
  unfolding answer_of list_of
  list-sound b (more s) h = tt
  list-sound b (ended s) h = tt
  list-sound b (failed n) h = h
  list-sound b (full s ps) h = h

  -- the same of what the build and the search answer
  pub build-fewer : (i : Input) (n m : ℕ) (r : Result Built) → n ≤ m → IsList (after_build 𝓢 (with_asked i m) r) → IsList (after_build 𝓢 (with_asked i n) r)
  unfolding after_build
  build-fewer i n m (refused k) le h = h
  build-fewer i n m (ok b) le h = go (eqb n 0) (eqb m 0) refl refl
    where
      go : (x y : Bool) → eqb n 0 ≡ x → eqb m 0 ≡ y → IsList (after_build 𝓢 (with_asked i n) (ok b))
      go true y e d = rw (e, after_build) tt
      go false true e d = let z : m ≡ 0 = eqb-true m 0 d in clash (sym (eq-eqb n 0 (omega arith)) ∙ e)
      go false false e d =
          let a : IsList (answer_of 𝓢 b (search 𝓢 (search_input i b) m i.search_maxima.pushes i.recovery)) = rw (d, after_build, same-input i m b) at h in
          rw (e, after_build, same-input i n b)
          (list-sound b _ (search-sound 𝓢 (search_input i b) i.search_maxima.pushes n m le i.recovery (sound-list b _ a)))
