-- The list: the rows of the closed paths, in the list's order, and the answer of a run whose checks have passed.
use Rattle.std.specs.Prelude.{ℕ, zero, suc, Bool, true, false, not, ◌&&◌, ◌||◌, List, [], ◌++◌, map, eqb, length, get_or, Float}
use Rattle.std.proofs.Math.Option.{none, some}
use Rattle.laws.specs.Lists.{find}
use Rattle.laws.specs.Numbers.{compare_list, is_gt}
use Rattle.laws.specs.Insertion.{insert, sorted}
use Rattle.definition.specs.Refusal.{Result, ok, refused, first_broken}
use Rattle.definition.specs.Score.{Scoring, column_scoring}
use Rattle.definition.specs.Limits.{Input, list_rules}
use Rattle.definition.specs.Threading.{Ends, eq_ends, Origin, Edge, Graph, last_base, sink_of, symbolic_of}
use Rattle.definition.specs.Search.{SearchInput, Closed, State, Turn, more, ended, failed, full, search}
use Rattle.definition.specs.Building.{Built, built}

-- what the search looks at; the source is the reference's first vertex
unfoldable pub search_input : Input → Built → SearchInput
search_input i b =
    record {
      edges = b.edges;
      trees = b.trees;
      source = 0;
      sink = sink_of i.sample b.graph;
      symbolic = symbolic_of i.sample b.graph;
      threshold = i.threshold;
      path_edges = i.search_maxima.path_edges;
      active = i.search_maxima.active;
    }

-- ---- the rows of the list

-- "path rows holding score, closing number, edge count and flag"; "bases and, per edge, the origin go beside"
pub record Row (S : Type 0) : Type 0 where
  pub score : S
  pub closing : ℕ
  pub edges : ℕ
  pub is_ref : Bool
  pub bases : List ℕ
  pub origins : List Origin

-- "A path of e edges has k+e bases": the first kmer, then the last base of each vertex reached (Rust: path_bases)
unfoldable pub path_bases : Graph → List Ends → List ℕ
path_bases g es = get_or g.kmers 0 [] ++ map (λ (e : Ends). last_base g.kmers e.to) es

unfoldable pub origin_at : List Edge → Ends → Origin
origin_at es e = elim (find (λ (d : Edge). eq_ends e d.ends) es) [ none ↦ record { sequence = 0; place = 0 } | some d ↦ d.origin ]

module _ {S : Type 0} where
  -- "The Rust's reference flag is always false; so is ours."
  unfoldable pub row_of : Built → Closed S → Row S
  row_of b c =
      record {
        score = c.score;
        closing = c.closing;
        edges = length c.edges;
        is_ref = false;
        bases = path_bases b.graph c.edges;
        origins = map (origin_at b.edges) c.edges;
      }

  -- "The list: falling score, then falling bases": a stands before b whatever their closing
  unfoldable pub above : Scoring S → Row S → Row S → Bool
  above 𝓢 a b = 𝓢.less b.score a.score || not (𝓢.less a.score b.score) && is_gt (compare_list a.bases b.bases)

  -- "then earlier closing": closed paths come in the order of closing, and sorting keeps equals in it
  unfoldable pub list_order : Scoring S → List (Row S) → List (Row S)
  list_order 𝓢 rs = sorted (above 𝓢) rs

-- ---- the answer

-- A refusal; or the list, the pushes made, and the greatest length of the waiting list, which the waiting mark told is not below.
pub data Answer (S : Type 0) : Type 0 where
  refusal : ℕ → Answer S
  listed : List (Row S) → ℕ → ℕ → Answer S

module _ {S : Type 0} where
  unfoldable pub list_of : Scoring S → Built → State S → Answer S
  list_of 𝓢 b s = listed (list_order 𝓢 (map (row_of b) s.closed)) s.pushes s.longest

  -- `more` is not met: the search has turns enough (theorems: Fuel). A push beyond the maximum is 12.
  unfoldable pub answer_of : Scoring S → Built → Turn S → Answer S
  answer_of 𝓢 b (more s) = list_of 𝓢 b s
  answer_of 𝓢 b (ended s) = list_of 𝓢 b s
  answer_of 𝓢 b (failed n) = refusal n
  answer_of 𝓢 b (full s ps) = refusal 12

  -- "Paths asked 0, where none of 1 to 9 applies: empty list, 0 pushes, mark 0."
  unfoldable pub after_build : Scoring S → Input → Result Built → Answer S
  after_build 𝓢 i (refused n) = refusal n
  after_build 𝓢 i (ok b) =
      elim (eqb i.asked 0) [
        | true ↦ listed [] 0 0
        | false ↦ answer_of 𝓢 b (search 𝓢 (search_input i b) i.asked i.search_maxima.pushes i.recovery)
      ]

  -- the number of the first rule broken, or the build and the search
  unfoldable pub after_checks : Scoring S → Input → ℕ → Answer S
  after_checks 𝓢 i zero = after_build 𝓢 i (built i.sample i.graph_maxima)
  after_checks 𝓢 i (suc n) = refusal (suc n)

-- the answer of the call for the list: `told` are the lengths told, `lent` those of the slices handed in
unfoldable pub answer : Input → List ℕ → List ℕ → Answer Float
answer i told lent = after_checks (column_scoring i.column) i (first_broken (list_rules i told lent))

-- A key: to unfold it is to unfold every definition of this file. The worked cases compute with it; a proof names only what it needs.
unfoldable pub open_listing : Unit {0}
unfolding insert sorted search_input path_bases origin_at row_of above list_order list_of answer_of after_build after_checks answer
open_listing = tt
