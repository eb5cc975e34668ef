-- The calls, whole: what each answers and what each lent slice holds at exit, as functions of what was handed in and of what the slices held.
-- Free are the waiting mark, which lies between `longest` and `pushes` of ListAnswer, and the workspace's lengths, which are each program's own.
use Rattle.std.specs.Prelude.{ℕ, zero, suc, ◌+◌, Bool, true, false, cond, List, [], ◌∷◌, ◌++◌, map, length, take, drop, replicate, Float}
use Rattle.definition.specs.Refusal.{Result, ok, refused, keeps_workspace, first_broken}
use Rattle.definition.specs.Limits.{Sample, GraphMaxima, SearchMaxima, Input, origin_rules, lengths_rules, graph_rules, told_edges, told_nodes, told_bases, told_origins, bases_stride, graph_told, list_told}
use Rattle.definition.specs.Threading.{Edge, Origin, support_of}
use Rattle.definition.specs.Evidence.{Node, nodes}
use Rattle.definition.specs.Building.{Built, built}
use Rattle.definition.specs.Listing.{Row, Answer, refusal, listed, answer}
use Rattle.definition.specs.Origins.{bytes_in}

-- ---- slices

module _ {A : Type 0} where
  -- xs from place p on; "Output beyond what is used is unchanged"
  unfoldable pub written_at : ℕ → List A → List A → List A
  written_at p xs old = take p old ++ (xs ++ drop (p + length xs) old)

  -- one row after the other, the first from place p on and each `stride` places after the one before
  unfoldable pub written_rows : ℕ → ℕ → List (List A) → List A → List A
  written_rows stride p [] old = old
  written_rows stride p (x ∷ xs) old = written_rows stride (p + stride) xs (written_at p x old)

  -- "Workspace after", by the number returned: unchanged where the table says so, else z, the zero of its elements. "The workspace is zero after
  -- acceptance too; zero covers the length told, and what is beyond is never touched."
  unfoldable pub workspace_after : A → ℕ → ℕ → List A → List A
  workspace_after z number told w = elim (keeps_workspace number) [ true ↦ w | false ↦ written_at 0 (replicate told z) w ]

-- the rows of all elements, one behind the other
unfoldable pub flat : {A : Type 0} → (A → List ℕ) → List A → List ℕ
flat f [] = []
flat f (x ∷ xs) = f x ++ flat f xs

-- ---- the call for lengths

-- "A refused answer holds 0 in every other field." `edges` and `nodes` are lengths of flat slices; there are two slices of `origins` numbers.
pub record LengthsAnswer : Type 0 where
  pub refusal : ℕ
  pub edges : ℕ
  pub nodes : ℕ
  pub paths : ℕ
  pub bases : ℕ
  pub origins : ℕ

unfoldable pub lengths_of : ℕ → ℕ → GraphMaxima → SearchMaxima → ℕ → LengthsAnswer
lengths_of k asked g s zero =
    record { refusal = 0; edges = told_edges g; nodes = told_nodes g; paths = asked; bases = told_bases k asked s; origins = told_origins asked s }
lengths_of k asked g s (suc n) = record { refusal = suc n; edges = 0; nodes = 0; paths = 0; bases = 0; origins = 0 }

unfoldable pub lengths_call : ℕ → ℕ → GraphMaxima → SearchMaxima → LengthsAnswer
lengths_call k asked g s = lengths_of k asked g s (first_broken (lengths_rules k asked g s))

-- ---- the call for edges and trees

-- edges and nodes are the numbers of rows written
pub record GraphOutcome : Type 0 where
  pub refusal : ℕ
  pub edges : ℕ
  pub nodes : ℕ
  pub edge_slice : List ℕ
  pub node_slice : List ℕ

-- "ends, support, reference mark, origin"
unfoldable pub edge_row : Edge → List ℕ
edge_row e = e.ends.from ∷ e.ends.to ∷ support_of e ∷ cond e.is_ref 1 0 ∷ e.origin.sequence ∷ e.origin.place ∷ []

-- "edge, count, depth"
unfoldable pub node_row : Node → List ℕ
node_row n = n.ends.from ∷ n.ends.to ∷ n.count ∷ n.depth ∷ []

-- "rising by ends": the edges stand in that order
unfoldable pub graph_of : Result Built → List ℕ → List ℕ → GraphOutcome
graph_of (refused n) es ns = record { refusal = n; edges = 0; nodes = 0; edge_slice = es; node_slice = ns }
graph_of (ok b) es ns =
    record {
      refusal = 0;
      edges = length b.edges;
      nodes = length (nodes b.trees);
      edge_slice = written_at 0 (flat edge_row b.edges) es;
      node_slice = written_at 0 (flat node_row (nodes b.trees)) ns;
    }

unfoldable pub after_graph_checks : Sample → GraphMaxima → ℕ → Result Built
after_graph_checks s m zero = built s m
after_graph_checks s m (suc n) = refused (suc n)

-- `workspace` are the lengths told of the workspace slices, `lent` theirs; es and ns are the output slices
unfoldable pub graph_call : Sample → GraphMaxima → List ℕ → List ℕ → List ℕ → List ℕ → GraphOutcome
graph_call s m workspace lent es ns =
    graph_of (after_graph_checks s m (first_broken (graph_rules s m (graph_told m workspace) (length es ∷ length ns ∷ lent)))) es ns

-- ---- the call for the list

-- a path row of the lent slice of records
pub record PathRow : Type 0 where
  pub score : Float
  pub closing : ℕ
  pub edges : ℕ
  pub is_ref : Bool

pub record ListSlices : Type 0 where
  pub rows : List PathRow
  pub bases : List ℕ
  pub sequences : List ℕ
  pub places : List ℕ

-- The waiting mark told is "no less than the longest waiting list, no more than the pushes".
pub record ListAnswer : Type 0 where
  pub refusal : ℕ
  pub paths : ℕ
  pub pushes : ℕ
  pub longest : ℕ

pub record ListOutcome : Type 0 where
  pub answer : ListAnswer
  pub slices : ListSlices

unfoldable pub path_row : Row Float → PathRow
path_row r = record { score = r.score; closing = r.closing; edges = r.edges; is_ref = r.is_ref }

-- "Row r, from 0, has its bases from r times (k plus the path-edge maximum) and its origins from r times that maximum."
unfoldable pub listed_slices : Input → List (Row Float) → ListSlices → ListSlices
listed_slices i rs old =
    record {
      rows = written_at 0 (map path_row rs) old.rows;
      bases = written_rows (bases_stride i.sample.k i.search_maxima) 0 (map (λ (r : Row Float). r.bases) rs) old.bases;
      sequences = written_rows i.search_maxima.path_edges 0 (map (λ (r : Row Float). map (λ (o : Origin). o.sequence) r.origins) rs) old.sequences;
      places = written_rows i.search_maxima.path_edges 0 (map (λ (r : Row Float). map (λ (o : Origin). o.place) r.origins) rs) old.places;
    }

unfoldable pub list_outcome : Input → Answer Float → ListSlices → ListOutcome
list_outcome i (refusal n) old = record { answer = record { refusal = n; paths = 0; pushes = 0; longest = 0 }; slices = old }
list_outcome i (listed rs pushes longest) old =
    record { answer = record { refusal = 0; paths = length rs; pushes = pushes; longest = longest }; slices = listed_slices i rs old }

unfoldable pub list_lent : ListSlices → List ℕ → List ℕ
list_lent o lent = length o.rows ∷ length o.bases ∷ length o.sequences ∷ length o.places ∷ lent

unfoldable pub list_call : Input → List ℕ → List ℕ → ListSlices → ListOutcome
list_call i workspace lent old = list_outcome i (answer i (list_told i workspace) (list_lent old lent)) old

-- ---- the call for the bytes at an origin

-- "On refusal that part is empty; a call beside it tells the number."
pub record OriginOutcome : Type 0 where
  pub refusal : ℕ
  pub bytes : List ℕ

unfoldable pub origin_of : Result (List ℕ) → OriginOutcome
origin_of (ok bs) = record { refusal = 0; bytes = bs }
origin_of (refused n) = record { refusal = n; bytes = [] }

-- "13 after them"
unfoldable pub after_origin_checks : ℕ → List ℕ → List ℕ → List ℕ → Origin → ℕ → Result (List ℕ)
after_origin_checks k reference ends bases o zero = bytes_in k reference ends bases o
after_origin_checks k reference ends bases o (suc n) = refused (suc n)

unfoldable pub origin_call : ℕ → List ℕ → List ℕ → List ℕ → Origin → OriginOutcome
origin_call k reference ends bases o = origin_of (after_origin_checks k reference ends bases o (first_broken (origin_rules k reference ends bases)))

-- A key: to unfold it is to unfold every definition of this file. The worked cases compute with it; a proof names only what it needs.
unfoldable pub open_calls : Unit {0}
unfolding written_at written_rows workspace_after flat lengths_of lengths_call edge_row node_row graph_of after_graph_checks graph_call path_row listed_slices list_outcome list_lent list_call origin_of after_origin_checks origin_call
open_calls = tt
