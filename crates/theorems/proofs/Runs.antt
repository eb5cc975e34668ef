-- Laws of the waiting list and of the iteration `run`.
use mathlib.Core.Path.{◌≡◌, refl, sym}
use Prim.Native.Nat.{ℕ, zero, suc, ◌+◌, ◌≤◌}
use native.Mathlib.Omega.{arith}
use native.Mathlib.Nat.{zero-add, suc-add}
use mathlib.Core.Bool.{true, false}
use mathlib.Core.List.{List}
use lib.Dec.{leb}
use lib.ListN.{length}
use borrow.Author.Tests.{leb-false, lt-leb}
use Rattle.laws.specs.ListLaws.{All}
use Rattle.laws.specs.Insertion.{length-insert, all_insert}
use Rattle.definition.specs.Score.{Scoring}
use Rattle.definition.specs.Search.{SearchInput, Path, State, Turn, more, ended, failed, full, ahead, wait, turn, run}

module _ {S : Type 0} where
  pub length-wait : (𝓢 : Scoring S) (p : Path S) (qs : List (Path S)) → length (wait 𝓢 p qs) ≡ suc (length qs)
  unfolding wait
  length-wait 𝓢 p qs = length-insert (ahead 𝓢) p qs

  pub all-wait : {P : Path S → Type 0} (𝓢 : Scoring S) (p : Path S) {qs : List (Path S)} → P p → All P qs → All P (wait 𝓢 p qs)
  unfolding wait
  all-wait 𝓢 p h a = all_insert (ahead 𝓢) p h a

  -- While fewer paths have closed than either run asks for, both make the same turn.
  turn-asked : (𝓢 : Scoring S) (f : SearchInput) (a b limit : ℕ) (s : State S) → leb a (length s.closed) ≡ false → leb b (length s.closed) ≡ false
      → turn 𝓢 f a limit s ≡ turn 𝓢 f b limit s
  unfolding turn
  turn-asked 𝓢 f a b limit s ha hb = rw (ha, hb, turn)

  pub turn-fewer : (𝓢 : Scoring S) (f : SearchInput) (n m limit : ℕ) (s : State S) → n ≤ m → leb n (length s.closed) ≡ false → turn 𝓢 f m limit s ≡ turn 𝓢 f n limit s
  turn-fewer 𝓢 f n m limit s le e =
      let lt = leb-false n (length s.closed) e in
      turn-asked 𝓢 f m n limit s (lt-leb m (length s.closed) (omega arith)) e

  -- as many paths as asked have closed
  pub turn-stop : (𝓢 : Scoring S) (f : SearchInput) (a limit : ℕ) (s : State S) → leb a (length s.closed) ≡ true → turn 𝓢 f a limit s ≡ ended s
  unfolding turn
  turn-stop 𝓢 f a limit s e = rw (e, turn)

  -- a search that has ended, failed or filled up stays so, and turns may be made in two parts
  pub run-ended : (𝓢 : Scoring S) (f : SearchInput) (a limit m : ℕ) (s : State S) → run 𝓢 f a limit m (ended s) ≡ ended s
  unfolding run
  run-ended 𝓢 f a limit zero s = refl
  run-ended 𝓢 f a limit (suc m) s = refl

  pub run-failed : (𝓢 : Scoring S) (f : SearchInput) (a limit m k : ℕ) → run 𝓢 f a limit m (failed k) ≡ failed k
  unfolding run
  run-failed 𝓢 f a limit zero k = refl
  run-failed 𝓢 f a limit (suc m) k = refl

  pub run-full : (𝓢 : Scoring S) (f : SearchInput) (a limit m : ℕ) (s : State S) (ps : List (Path S)) → run 𝓢 f a limit m (full s ps) ≡ full s ps
  unfolding run
  run-full 𝓢 f a limit zero s ps = refl
  run-full 𝓢 f a limit (suc m) s ps = refl

  pub run-add : (𝓢 : Scoring S) (f : SearchInput) (a limit n m : ℕ) (t : Turn S) → run 𝓢 f a limit (n + m) t ≡ run 𝓢 f a limit m (run 𝓢 f a limit n t)
  unfolding run
  run-add 𝓢 f a limit zero m t = rw zero-add
  run-add 𝓢 f a limit (suc n) m (more s) = rw suc-add (run-add 𝓢 f a limit n m (turn 𝓢 f a limit s))
  run-add 𝓢 f a limit (suc n) m (ended s) = rw suc-add (sym (run-ended 𝓢 f a limit m s))
  run-add 𝓢 f a limit (suc n) m (failed k) = rw suc-add (sym (run-failed 𝓢 f a limit m k))
  run-add 𝓢 f a limit (suc n) m (full s ps) = rw suc-add (sym (run-full 𝓢 f a limit m s ps))
