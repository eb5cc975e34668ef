-- "An allowance that always suffices": the formula, and the search with no maximum on pushes of which it is said.
use Rattle.std.specs.Prelude.{◌≡◌, ◌⊎◌, ℕ, zero, suc, ◌+◌, ◌*◌, ◌^◌, ◌≤◌, min, Bool, true, false, List, [], ◌∷◌, leb, length}
use Rattle.std.proofs.Math.Option.{none}
use Rattle.definition.specs.Score.{Scoring}
use Rattle.definition.specs.Threading.{Ends}
use Rattle.definition.specs.Search.{SearchInput, Path, State, Made, at_end, broken, made, Turn, more, ended, failed, full, push, advance, pivotal_edges, first_state}

-- "a whole-number formula": the start path, and one recovered path for each edge. Below each, at most five ways on at a fork, as many forks as a path can
-- decide at, and as many edges as it may have. A path decides six times without guidance; a tree of n nodes guides it once, and brings at most 3 n decisions.
unfoldable pub enough : ℕ → ℕ → ℕ → ℕ
enough edges nodes path_edges = suc edges * suc (path_edges * 5 ^ min path_edges (3 * nodes + 6))

-- ---- "the definition with no maximum on pushes": as in Search, but that every path is pushed

module _ {S : Type 0} where
  unfoldable pub push_every : Scoring S → List (Path S) → State S → State S
  push_every 𝓢 [] s = s
  push_every 𝓢 (p ∷ ps) s = push_every 𝓢 ps (push 𝓢 p s)

  unfoldable pub push_freely : Scoring S → State S → Made S → Turn S
  push_freely 𝓢 s at_end = ended s
  push_freely 𝓢 s (broken n) = failed n
  push_freely 𝓢 s (made s' ps) = more (push_every 𝓢 ps s')

  unfoldable pub free_turn : Scoring S → SearchInput → ℕ → State S → Turn S
  free_turn 𝓢 f asked s = elim (leb asked (length s.closed)) [ true ↦ ended s | false ↦ push_freely 𝓢 s (advance 𝓢 f s s.waiting s.pivotal) ]

  unfoldable pub free_run : Scoring S → SearchInput → ℕ → ℕ → Turn S → Turn S
  free_run 𝓢 f asked zero t = t
  free_run 𝓢 f asked (suc n) (more s) = free_run 𝓢 f asked n (free_turn 𝓢 f asked s)
  free_run 𝓢 f asked (suc n) (ended s) = ended s
  free_run 𝓢 f asked (suc n) (failed m) = failed m
  free_run 𝓢 f asked (suc n) (full s ps) = full s ps

  -- what the search has come to after n turns
  unfoldable pub free_search : Scoring S → SearchInput → ℕ → Bool → ℕ → Turn S
  free_search 𝓢 f asked recovery n = let pivotal : List Ends = elim recovery [ true ↦ pivotal_edges f | false ↦ [] ] in free_run 𝓢 f asked n (more (first_state 𝓢 pivotal))

-- ---- what is said of it

-- "A column covering all counts": no part of a total up to n is without its penalty
abbrev pub Covers : {S : Type 0} → Scoring S → ℕ → Type 0
Covers 𝓢 n = (count out_of : ℕ) → count ≤ out_of → out_of ≤ n → 𝓢.penalty count out_of ≡ none → ⊥

-- "the search never pushes more than it, whether it ends or meets 11": it does one of both, and after no number of turns has it made more pushes
pub record Suffices {S : Type 0} (𝓢 : Scoring S) (f : SearchInput) (asked : ℕ) (recovery : Bool) (most : ℕ) : Type 0 where
  pub turns : ℕ
  pub comes : ((s : State S) × (free_search 𝓢 f asked recovery turns ≡ ended s)) ⊎ (free_search 𝓢 f asked recovery turns ≡ failed 11)
  pub few : (n : ℕ) (s : State S) → (free_search 𝓢 f asked recovery n ≡ more s) ⊎ (free_search 𝓢 f asked recovery n ≡ ended s) → s.pushes ≤ most

-- A key: to unfold it is to unfold every definition of this file. The worked cases compute with it; a proof names only what it needs.
unfoldable pub open_enough : Unit {0}
unfolding enough push_every push_freely free_turn free_run free_search
open_enough = tt
