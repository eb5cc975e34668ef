-- The maximum of pushes only says when 12 is met: an answer other than 12 stays the same under any greater maximum.
use mathlib.Core.Path.{◌≡◌, refl, sym, ap, subst, ◌∙◌}
use Prim.Native.Nat.{ℕ, zero, suc, ◌+◌, ◌-◌, ◌≤◌, ◌<◌}
use native.Mathlib.Omega.{arith}
use mathlib.Core.Bool.{Bool, true, false}
use mathlib.Core.List.{List, [], ◌∷◌}
use lib.Dec.{leb, ltb, eqb}
use lib.ListN.{length}
use borrow.Author.Tests.{ltb-true, lt-ltb}
use Rattle.definition.specs.Refusal.{Result, ok, refused}
use Rattle.definition.specs.Score.{Scoring}
use Rattle.definition.specs.Limits.{Input}
use Rattle.definition.specs.Threading.{Ends}
use Rattle.definition.specs.Search.{SearchInput, Path, State, Made, at_end, broken, made, Turn, more, ended, failed, full, push, push_all, advance, push_made, turn, run, pivotal_edges, first_state, search}
use Rattle.definition.specs.Building.{Built, built}
use Rattle.definition.specs.Listing.{search_input, refusal, answer_of, after_build}
use Rattle.theorems.proofs.Runs.{run-ended, run-failed, run-full, run-add}
use Rattle.theorems.proofs.Order.{Keeps}
use Rattle.theorems.proofs.Turns.{search-enough}

-- no push was beyond the maximum
abbrev pub NotFull : {S : Type 0} → Turn S → Type 0
NotFull (more s) = Unit {0}
NotFull (ended s) = Unit {0}
NotFull (failed n) = Unit {0}
NotFull (full s ps) = ⊥

module _ {S : Type 0} (𝓢 : Scoring S) (f : SearchInput) (asked l m : ℕ) (le : l ≤ m) where
  push-allowed : (ps : List (Path S)) (s : State S) → NotFull (push_all 𝓢 l ps s) → push_all 𝓢 m ps s ≡ push_all 𝓢 l ps s
  unfolding push_all
  push-allowed [] s h = refl
  push-allowed (p ∷ ps) s h = go (ltb s.pushes l) refl (push-allowed ps (push 𝓢 p s))
    where
      go : (b : Bool) → ltb s.pushes l ≡ b → (NotFull (push_all 𝓢 l ps (push 𝓢 p s)) → push_all 𝓢 m ps (push 𝓢 p s) ≡ push_all 𝓢 l ps (push 𝓢 p s))
          → push_all 𝓢 m (p ∷ ps) s ≡ push_all 𝓢 l (p ∷ ps) s
      go false e ih = absurd (rw (e, push_all) at h)
      go true e ih =
          let k : s.pushes < l = ltb-true s.pushes l e in
          rw (e, lt-ltb s.pushes m (omega arith), push_all) (ih (rw (e, push_all) at h))

  turn-allowed : (s : State S) → NotFull (turn 𝓢 f asked l s) → turn 𝓢 f asked m s ≡ turn 𝓢 f asked l s
  unfolding turn push_made
  turn-allowed s h = go (leb asked (length s.closed)) refl
    where
      after : (x : Made S) → NotFull (push_made 𝓢 l s x) → push_made 𝓢 m s x ≡ push_made 𝓢 l s x
      after at_end k = refl
      after (broken n) k = refl
      after (made s₁ ps) k = push-allowed ps s₁ k

      go : (b : Bool) → leb asked (length s.closed) ≡ b → turn 𝓢 f asked m s ≡ turn 𝓢 f asked l s
      go true e = rw (e, turn)
      go false e = rw (e, turn) (after (advance 𝓢 f s s.waiting s.pivotal) (rw (e, turn) at h))

  run-allowed : (n : ℕ) (s : State S) → NotFull (run 𝓢 f asked l n (more s)) → run 𝓢 f asked m n (more s) ≡ run 𝓢 f asked l n (more s)
  unfolding run
  run-allowed zero s h = refl
  run-allowed (suc n) s h = go (turn 𝓢 f asked l s) refl (run-allowed n)
    where
      go : (u : Turn S) → turn 𝓢 f asked l s ≡ u → ((x : State S) → NotFull (run 𝓢 f asked l n (more x)) → run 𝓢 f asked m n (more x) ≡ run 𝓢 f asked l n (more x))
          → run 𝓢 f asked m n (turn 𝓢 f asked m s) ≡ run 𝓢 f asked l n (turn 𝓢 f asked l s)
      go (more x) e ih = rw (turn-allowed s (rw e tt), e) (ih x (rw e at h))
      go (ended x) e ih = rw (turn-allowed s (rw e tt), e) (run-ended 𝓢 f asked m n x ∙ sym (run-ended 𝓢 f asked l n x))
      go (failed k) e ih = rw (turn-allowed s (rw e tt), e) (run-failed 𝓢 f asked m n k ∙ sym (run-failed 𝓢 f asked l n k))
      go (full x ps) e ih = absurd (subst NotFull (run-full 𝓢 f asked l n x ps) (rw e at h))

-- a greater maximum of pushes makes the same search, where no push was beyond the smaller
pub search-allowed : {S : Type 0} {𝓢 : Scoring S} {Fine : S → Type 0} → Keeps 𝓢 Fine → (f : SearchInput) (asked l m : ℕ) (recovery : Bool) → 0 < l → l ≤ m
    → NotFull (search 𝓢 f asked l recovery) → search 𝓢 f asked m recovery ≡ search 𝓢 f asked l recovery
search-allowed {S} {𝓢} K f asked l m recovery pos le h = go (search 𝓢 f asked l recovery) refl
  where
    pivotal : List Ends
    pivotal = elim recovery [ true ↦ pivotal_edges f | false ↦ [] ]

    first : Turn S
    first = more (first_state 𝓢 pivotal)

    n : ℕ
    n = suc (l + length pivotal)

    small : search 𝓢 f asked l recovery ≡ run 𝓢 f asked l n first
    small = unfold search in refl

    split : search 𝓢 f asked m recovery ≡ run 𝓢 f asked m (m - l) (run 𝓢 f asked m n first)
    split =
        let e : suc (m + length pivotal) ≡ n + (m - l) = omega arith in
        (let w : search 𝓢 f asked m recovery ≡ run 𝓢 f asked m (suc (m + length pivotal)) first = unfold search in refl in w)
        ∙ ap (λ (x : ℕ). run 𝓢 f asked m x first) e
        ∙ run-add 𝓢 f asked m n (m - l) first

    front : run 𝓢 f asked m n first ≡ search 𝓢 f asked l recovery
    front = run-allowed 𝓢 f asked l m le n (first_state 𝓢 pivotal) (subst NotFull small h) ∙ sym small

    go : (u : Turn S) → search 𝓢 f asked l recovery ≡ u → search 𝓢 f asked m recovery ≡ search 𝓢 f asked l recovery
    go (more s) e = absurd (search-enough K f l asked recovery s pos e)
    go (ended s) e = split ∙ ap (run 𝓢 f asked m (m - l)) (front ∙ e) ∙ run-ended 𝓢 f asked m (m - l) s ∙ sym e
    go (failed k) e = split ∙ ap (run 𝓢 f asked m (m - l)) (front ∙ e) ∙ run-failed 𝓢 f asked m (m - l) k ∙ sym e
    go (full s ps) e = absurd (subst NotFull e h)

-- ---- the answer

-- the same input, with another maximum of pushes
abbrev pub with_pushes : Input → ℕ → Input
with_pushes i n =
    record {
      sample = i.sample;
      asked = i.asked;
      threshold = i.threshold;
      recovery = i.recovery;
      graph_maxima = i.graph_maxima;
      search_maxima = record { path_edges = i.search_maxima.path_edges; active = i.search_maxima.active; pushes = n };
      column = i.column;
    }

-- what the search looks at does not depend on it
same-input : (i : Input) (n : ℕ) (b : Built) → search_input (with_pushes i n) b ≡ search_input i b
unfolding search_input
same-input i n b = refl

module _ {S : Type 0} {𝓢 : Scoring S} {Fine : S → Type 0} (K : Keeps 𝓢 Fine) (i : Input) (l m : ℕ) (pos : 0 < l) (le : l ≤ m) where
  not_full : (b : Built) (u : Turn S) → (answer_of 𝓢 b u ≡ refusal 12 → ⊥) → NotFull u
  unfolding answer_of
  not_full b (more s) h = tt
  not_full b (ended s) h = tt
  not_full b (failed n) h = tt
  not_full b (full s ps) h = h refl

  allowed-after : (r : Result Built) → (after_build 𝓢 (with_pushes i l) r ≡ refusal 12 → ⊥) → after_build 𝓢 (with_pushes i m) r ≡ after_build 𝓢 (with_pushes i l) r
  unfolding after_build
  allowed-after (refused n) h = refl
  allowed-after (ok b) h = go (eqb i.asked 0) refl
    where
      go : (z : Bool) → eqb i.asked 0 ≡ z → after_build 𝓢 (with_pushes i m) (ok b) ≡ after_build 𝓢 (with_pushes i l) (ok b)
      go true e = rw (e, after_build)
      go false e =
          let f : SearchInput = search_input i b in
          let k : answer_of 𝓢 b (search 𝓢 f i.asked l i.recovery) ≡ refusal 12 → ⊥ = rw (e, after_build, same-input i l b) at h in
          rw (e, after_build, same-input i m b, same-input i l b)
          (ap (answer_of 𝓢 b) (search-allowed K f i.asked l m i.recovery pos le (not_full b (search 𝓢 f i.asked l i.recovery) k)))

  -- An answer other than 12 stays the same under a greater maximum of pushes.
  pub greater-maximum : (after_build 𝓢 (with_pushes i l) (built i.sample i.graph_maxima) ≡ refusal 12 → ⊥)
      → after_build 𝓢 (with_pushes i m) (built i.sample i.graph_maxima) ≡ after_build 𝓢 (with_pushes i l) (built i.sample i.graph_maxima)
  greater-maximum h = allowed-after (built i.sample i.graph_maxima) h
