-- What an accepted answer stays within: rows, edges of a path, pushes, and the longest waiting list.
use mathlib.Core.Path.{◌≡◌, refl, ap, ◌∙◌}
use mathlib.Core.Logic.{inl, inr}
use Prim.Native.Nat.{ℕ, suc, ◌+◌, ◌≤◌, ◌<◌}
use native.Mathlib.Omega.{arith}
use mathlib.Core.Bool.{Bool}
use mathlib.Core.List.{List, map}
use mathlib.Core.Option.{some}
use lib.ListN.{length, length-append, length-map}
use Rattle.laws.specs.Insertion.{length-sorted}
use Rattle.laws.specs.ListLaws.{All, nil, all_map}
use Rattle.definition.specs.Score.{Scoring}
use Rattle.definition.specs.Limits.{Input}
use Rattle.definition.specs.Search.{SearchInput, Path, State, made, wait, push, advance, first_state, search}
use Rattle.definition.specs.Building.{Built}
use Rattle.definition.specs.Listing.{search_input, Row, row_of, above, list_order}
use Rattle.theorems.proofs.Runs.{length-wait, all-wait}
use Rattle.theorems.proofs.Order.{Keeps}
use Rattle.theorems.proofs.Walks.{Good, GoodState, advance-made}
use Rattle.theorems.proofs.Turns.{last_of, first_good}
use Rattle.theorems.proofs.Along.{run_along}
use Rattle.theorems.proofs.Found.{Listing, all_listed, found-good}

-- the waiting list is no longer than it has been, that is no more than the pushes, and they are within the limit; no more have closed than are asked
pub record Counted {S : Type 0} (asked limit : ℕ) (s : State S) : Type 0 where
  pub waiting : length s.waiting ≤ s.longest
  pub longest : s.longest ≤ s.pushes
  pub pushes : s.pushes ≤ limit
  pub closed : length s.closed ≤ asked

module _ {S : Type 0} {𝓢 : Scoring S} {Fine : S → Type 0} (K : Keeps 𝓢 Fine) (f : SearchInput) (asked limit : ℕ) where
  pub push-counted : (p : Path S) (s : State S) → s.pushes < limit → GoodState Fine f s × Counted asked limit s → Good Fine f p → GoodState Fine f (push 𝓢 p s) × Counted asked limit (push 𝓢 p s)
  unfolding push
  push-counted p s h (g, c) gp =
      let l : length (wait 𝓢 p s.waiting) ≡ suc (length s.waiting) = length-wait 𝓢 p s.waiting in
      let w : length s.waiting ≤ s.longest = c.waiting in
      let m : s.longest ≤ s.pushes = c.longest in (
        record { waiting = all-wait 𝓢 p gp g.waiting; closed = g.closed; pivotal = g.pivotal },
        record { waiting = omega arith; longest = omega arith; pushes = omega arith; closed = c.closed },
      )

  pub made_counted : (s s₁ : State S) (ps : List (Path S)) → length s.closed < asked → GoodState Fine f s × Counted asked limit s
      → advance 𝓢 f s s.waiting s.pivotal ≡ made s₁ ps → (GoodState Fine f s₁ × Counted asked limit s₁) × All (Good Fine f) ps
  made_counted s s₁ ps k (g, c) e =
      let r = advance-made K f s s₁ s.waiting s.pivotal ps refl refl g e in
      let l : length s₁.closed ≡ length s.closed + length r.extra = ap length r.closed ∙ length-append s.closed r.extra in
      let x : length r.extra ≤ 1 = r.few in
      let u : s₁.pushes ≡ s.pushes = r.pushes in
      let v : s₁.longest ≡ s.longest = r.longest in
      let y : length s₁.waiting ≤ length s.waiting = r.fewer in
      let a : length s.waiting ≤ s.longest = c.waiting in
      let b : s.longest ≤ s.pushes = c.longest in
      let d : s.pushes ≤ limit = c.pushes in
      ((r.good, record { waiting = omega arith; longest = omega arith; pushes = omega arith; closed = omega arith }), r.paths)

  pub search-counted : (recovery : Bool) (s : State S) → 1 ≤ limit → last_of (search 𝓢 f asked limit recovery) ≡ some s → Counted asked limit s
  unfolding search first_state
  search-counted recovery s h t =
      (run_along 𝓢 f asked limit {P = λ x. GoodState Fine f x × Counted asked limit x} {Q = Good Fine f} push-counted made_counted _ _ s
      (first_good K f recovery, record { waiting = omega arith; longest = omega arith; pushes = h; closed = omega arith }) t
      ).1

-- ---- the answer

-- No more rows than paths asked, no more edges in a row than the maximum, no more pushes than the maximum, and the waiting list never longer than the pushes.
pub record Bounded {S : Type 0} (i : Input) (rows : List (Row S)) (pushes longest : ℕ) : Type 0 where
  pub rows_fit : length rows ≤ i.asked
  pub edges_fit : All (λ r. r.edges ≤ i.search_maxima.path_edges) rows
  pub pushes-fit : pushes ≤ i.search_maxima.pushes
  pub waiting-fit : longest ≤ pushes

short-rows : {S : Type 0} {Fine : S → Type 0} (i : Input) (b : Built) (s : State S) → GoodState Fine (search_input i b) s
    → All (λ r. r.edges ≤ i.search_maxima.path_edges) (map (row_of b) s.closed)
unfolding row_of search_input
short-rows i b s g = all_map (row_of b) (λ c h. h.short) g.closed

pub bounded-listing : {S : Type 0} {𝓢 : Scoring S} {Fine : S → Type 0} → Keeps 𝓢 Fine → (i : Input) (rows : List (Row S)) (p q : ℕ) → 1 ≤ i.search_maxima.pushes
    → Listing 𝓢 i rows p q → Bounded i rows p q
unfolding list_order
bounded-listing K i rows p q one (inl h) =
    record { rows_fit = rw h.1 (omega arith); edges_fit = rw h.1 nil; pushes-fit = rw h.2 (omega arith); waiting-fit = rw h.3 (omega arith) }
bounded-listing {𝓢 = 𝓢} K i rows p q one (inr h) =
    let n : Counted i.asked i.search_maxima.pushes h.state = search-counted K (search_input i h.graph) i.asked i.search_maxima.pushes i.recovery h.state one h.reached in
    let l : length rows ≡ length h.state.closed =
    ap length h.are ∙ length-sorted (above 𝓢) (map (row_of h.graph) h.state.closed) ∙ length-map h.state.closed (row_of h.graph) in
    record {
      rows_fit = rw l n.closed;
      edges_fit = rw h.are (all_listed 𝓢 (short-rows i h.graph h.state (found-good K h).0));
      pushes-fit = rw h.pushes-are n.pushes;
      waiting-fit = rw (h.pushes-are, h.longest-is) n.longest;
    }
