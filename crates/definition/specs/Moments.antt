-- "The waiting mark made exact": the waiting list at every moment of a search "between pushes and takings", of which the mark is the greatest length.
use Rattle.std.specs.Prelude.{◌≡◌, ◌⊎◌, ℕ, zero, suc, ◌+◌, ◌≤◌, Bool, true, false, List, [], ◌∷◌, ◌++◌, leb, ltb, length}
use Rattle.laws.specs.ListLaws.{All, Mem}
use Rattle.definition.specs.Refusal.{ok}
use Rattle.definition.specs.Score.{Scoring}
use Rattle.definition.specs.Limits.{Input}
use Rattle.definition.specs.Threading.{Ends}
use Rattle.definition.specs.Search.{SearchInput, Path, State, Made, at_end, broken, made, Turn, more, ended, failed, full, push, advance, turn, pivotal_edges, first_state}
use Rattle.definition.specs.Building.{Built, built}
use Rattle.definition.specs.Listing.{search_input}

module _ {S : Type 0} where
  -- after each push, as many as the maximum allows
  unfoldable pub push_moments : Scoring S → ℕ → List (Path S) → State S → List (List (Path S))
  push_moments 𝓢 limit [] s = []
  push_moments 𝓢 limit (p ∷ ps) s =
      elim (ltb s.pushes limit) [ true ↦ let s' = push 𝓢 p s in s'.waiting ∷ push_moments 𝓢 limit ps s' | false ↦ [] ]

  -- after the taking, when the path in hand waits no more, and then after each push of what was made of it
  unfoldable pub made_moments : Scoring S → ℕ → Made S → List (List (Path S))
  made_moments 𝓢 limit at_end = []
  made_moments 𝓢 limit (broken n) = []
  made_moments 𝓢 limit (made s ps) = s.waiting ∷ push_moments 𝓢 limit ps s

  -- of one turn
  unfoldable pub turn_moments : Scoring S → SearchInput → ℕ → ℕ → State S → List (List (Path S))
  turn_moments 𝓢 f asked limit s =
      elim (leb asked (length s.closed)) [ true ↦ [] | false ↦ made_moments 𝓢 limit (advance 𝓢 f s s.waiting s.pivotal) ]

  -- of turn after turn
  unfoldable pub run_moments : Scoring S → SearchInput → ℕ → ℕ → ℕ → Turn S → List (List (Path S))
  run_moments 𝓢 f asked limit zero t = []
  run_moments 𝓢 f asked limit (suc n) (more s) = turn_moments 𝓢 f asked limit s ++ run_moments 𝓢 f asked limit n (turn 𝓢 f asked limit s)
  run_moments 𝓢 f asked limit (suc n) (ended s) = []
  run_moments 𝓢 f asked limit (suc n) (failed m) = []
  run_moments 𝓢 f asked limit (suc n) (full s ps) = []

  -- Of the whole search, from the push of the start path on. The turns are those of `search`, and as many, so the last moment is its end (theorems: Mark).
  unfoldable pub moments : Scoring S → SearchInput → ℕ → ℕ → Bool → List (List (Path S))
  moments 𝓢 f asked limit recovery =
      let pivotal : List Ends = elim recovery [ true ↦ pivotal_edges f | false ↦ [] ] in
      let s = first_state 𝓢 pivotal in
      s.waiting ∷ run_moments 𝓢 f asked limit (suc (limit + length pivotal)) (more s)

-- "exactly the greatest number of paths waiting at any moment": at none do more wait, and at one as many do
pub record IsMark {S : Type 0} (mark : ℕ) (ms : List (List (Path S))) : Type 0 where
  pub never-more : All (λ w. length w ≤ mark) ms
  pub as_many : (w : List (Path S)) × Mem w ms × (length w ≡ mark)

-- the mark of the search that a call makes, over the graph built of its sample
pub record SearchMark {S : Type 0} (𝓢 : Scoring S) (i : Input) (mark : ℕ) : Type 0 where
  pub graph : Built
  pub is-built : built i.sample i.graph_maxima ≡ ok graph
  pub is-mark : IsMark mark (moments 𝓢 (search_input i graph) i.asked i.search_maxima.pushes i.recovery)

-- what an accepted list tells: with no path asked 0, else the mark of its search
abbrev pub MarkTold : {S : Type 0} → Scoring S → Input → ℕ → Type 0
MarkTold 𝓢 i mark = ((i.asked ≡ 0) × (mark ≡ 0)) ⊎ ((1 ≤ i.asked) × SearchMark 𝓢 i mark)

-- A key: to unfold it is to unfold every definition of this file. The worked cases compute with it; a proof names only what it needs.
unfoldable pub open_moments : Unit {0}
unfolding push_moments made_moments turn_moments run_moments moments
open_moments = tt
