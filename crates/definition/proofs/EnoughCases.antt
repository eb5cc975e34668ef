-- Runs of the search with no maximum on pushes, computed from the definitions: each stays within the formula, and each passes a smaller one, so that no such formula holds.
use mathlib.Core.Path.{◌≡◌, refl}
use Prim.Native.Nat.{ℕ, suc, ◌+◌, ◌*◌, ◌^◌, min}
use mathlib.Core.Bool.{Bool, true, false}
use mathlib.Core.List.{List, [], ◌∷◌, ◌++◌, map}
use lib.Dec.{leb}
use lib.ListN.{length, replicate}
use lib.Ieee.{Float, add, sub, lt, eq, le}
use Rattle.definition.specs.Refusal.{Result, ok, refused, open_refusal}
use Rattle.definition.specs.Score.{column_scoring, open_score}
use Rattle.definition.specs.Limits.{Input, float_zero, open_limits}
use Rattle.definition.specs.Stretch.{open_stretch}
use Rattle.definition.specs.Threading.{open_threading}
use Rattle.definition.specs.Evidence.{nodes, open_evidence}
use Rattle.definition.specs.Search.{Turn, more, ended, failed, full, open_search}
use Rattle.definition.specs.Building.{Built, built, open_building}
use Rattle.definition.specs.Listing.{search_input, open_listing}
use Rattle.definition.specs.Enough.{enough, free_search, open_enough}
use Rattle.definition.proofs.Examples.{A, C, G, T, room, allowance, sample, ask, asking, recovering, within, over}

-- an input and a number of turns
pub record Run : Type 0 where
  pub input : Input
  pub turns : ℕ

-- what the search has come to: its pushes, and the graph's edges and tree nodes
pub record Came : Type 0 where
  pub pushes : ℕ
  pub edges : ℕ
  pub nodes : ℕ

abbrev pushes_of : Turn Float → ℕ
pushes_of (more s) = s.pushes
pushes_of (ended s) = s.pushes
pushes_of (failed n) = 0
pushes_of (full s ps) = 0

abbrev came_of : Run → Result Built → Came
came_of r (refused n) = record { pushes = 0; edges = 0; nodes = 0 }
came_of r (ok b) =
    record {
      pushes = pushes_of (free_search (column_scoring r.input.column) (search_input r.input b) r.input.asked r.input.recovery r.turns);
      edges = length b.edges;
      nodes = length (nodes b.trees);
    }

unfoldable pub came : Run → Came
unfolding open_refusal open_score open_limits open_stretch open_threading open_evidence open_search open_building open_listing open_enough add sub lt eq le
came r = came_of r (built r.input.sample r.input.graph_maxima)

-- ---- the inputs: no tree reaches the threshold, and the column holds zeros, so that all scores are equal and the earlier push goes first

abbrev N : ℕ
N = 78

-- k, the path-edge maximum, the reference and the reads
abbrev searched : ℕ → ℕ → List ℕ → List (List ℕ) → Input
searched k path_edges reference reads =
    within (room 128 256 256) (allowance path_edges 8 128) (over (replicate 64 float_zero) (asking 128 (ask (sample k reference reads) 1000)))

-- a read that goes round and round: its trees guide a path through the same forks again and again, until the turn after these meets 11
abbrev rounds : Run
rounds = record { input = searched 2 6 (C ∷ A ∷ []) ((A ∷ A ∷ C ∷ A ∷ C ∷ A ∷ C ∷ A ∷ A ∷ A ∷ A ∷ A ∷ A ∷ C ∷ C ∷ []) ∷ []); turns = 38 }

-- five ways on behind each of three vertices, and fewer behind two: recovery tries those that no closed path took
abbrev five : ℕ → List (List ℕ)
five x = map (λ (y : ℕ). A ∷ A ∷ C ∷ x ∷ y ∷ []) (A ∷ C ∷ G ∷ T ∷ N ∷ [])

abbrev recovered : Run
recovered = record { input = recovering (searched 3 2 (A ∷ A ∷ C ∷ A ∷ []) (five A ++ five C ++ five G ++ (A ∷ A ∷ C ∷ T ∷ A ∷ []) ∷ (A ∷ A ∷ C ∷ N ∷ []) ∷ [])); turns = 32 }

-- a reference that passes most of its steps twice, and no read: no tree is there, and a path decides six times
abbrev unguided : Run
unguided =
    record {
      input = recovering (searched 2 7 (C ∷ G ∷ G ∷ A ∷ A ∷ C ∷ A ∷ A ∷ G ∷ C ∷ A ∷ C ∷ A ∷ A ∷ G ∷ C ∷ A ∷ C ∷ C ∷ A ∷ G ∷ G ∷ A ∷ C ∷ A ∷ G ∷ C ∷ G ∷ A ∷ G ∷ A ∷ G ∷ C ∷ C ∷ A ∷ G ∷ A ∷ A ∷ C ∷ C ∷ A ∷ G ∷ C ∷ G ∷ C ∷ C ∷ A ∷ G ∷ G ∷ C ∷ G ∷ C ∷ G ∷ G ∷ C ∷ G ∷ A ∷ C ∷ []) []);
      turns = 182;
    }

-- ---- what they come to

pub runs : List Run
runs = rounds ∷ recovered ∷ unguided ∷ []

abbrev within_of : (ℕ → ℕ → ℕ → ℕ) → Run → Bool
within_of formula r = leb (came r).pushes (formula (came r).edges (came r).nodes r.input.search_maxima.path_edges)

-- every run stays within the formula
pub runs-within : map (within_of enough) runs ≡ true ∷ true ∷ true ∷ []
unfolding runs came
runs-within = refl

pub runs-came : map came runs
    ≡ record { pushes = 57; edges = 7; nodes = 81 } ∷ record { pushes = 27; edges = 22; nodes = 39 } ∷ record { pushes = 193; edges = 23; nodes = 0 } ∷ []
unfolding runs came
runs-came = refl

-- no polynomial of edges and path edges
pub rounds-pass : within_of (λ edges nodes path_edges. suc edges * suc path_edges) rounds ≡ false
unfolding came
rounds-pass = refl

-- not without what is recovered
pub recovered-pass : within_of (λ edges nodes path_edges. suc (5 ^ min path_edges (3 * nodes + 6))) recovered ≡ false
unfolding came
recovered-pass = refl

-- not without the six decisions of a path that no tree guides
pub unguided-pass : within_of (λ edges nodes path_edges. suc edges * suc (path_edges * 5 ^ min path_edges (3 * nodes))) unguided ≡ false
unfolding came
unguided-pass = refl
