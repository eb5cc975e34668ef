-- The answer of the call for the list in the definition's words, over columns: a row of the list stands at one place of three columns. Assumes nothing.
use Rattle.std.specs.Prelude.{◌≡◌, refl, List, [], map, ℕ, ◌≤◌, length, Float}
use Rattle.std.proofs.Common.{arith}
use Rattle.definition.specs.Limits.{Input, bases_stride}
use Rattle.definition.specs.Threading.{Origin}
use Rattle.definition.specs.Score.{column_scoring}
use Rattle.definition.specs.Building.{built}
use Rattle.definition.specs.Listing.{Row, Answer, refusal, listed, after_build}
use Rattle.definition.specs.Calls.{written_at, written_rows, ListAnswer}
use Rattle.list_interface.specs.declared.ListAnswer as declared
use Rattle.list_interface.specs.Answers.{refused_answer}

-- ---- the output

-- columns of scores, closing numbers and edge counts, and the bases and origins beside them
pub record Outputs : Type 0 where
  pub scores : List Float
  pub closings : List ℕ
  pub edges : List ℕ
  pub bases : List ℕ
  pub sequences : List ℕ
  pub places : List ℕ

abbrev pub outputs_of : List Float → List ℕ → List ℕ → List ℕ → List ℕ → List ℕ → Outputs
outputs_of scores closings edges bases sequences places =
    record { scores = scores; closings = closings; edges = edges; bases = bases; sequences = sequences; places = places }

-- "Row r, from 0, has its bases from r times (k plus the path-edge maximum) and its origins from r times that maximum."
unfoldable pub written_list : Input → List (Row Float) → Outputs → Outputs
written_list i rs old =
    record {
      scores = written_at 0 (map (λ (r : Row Float). r.score) rs) old.scores;
      closings = written_at 0 (map (λ (r : Row Float). r.closing) rs) old.closings;
      edges = written_at 0 (map (λ (r : Row Float). r.edges) rs) old.edges;
      bases = written_rows (bases_stride i.sample.k i.search_maxima) 0 (map (λ (r : Row Float). r.bases) rs) old.bases;
      sequences = written_rows i.search_maxima.path_edges 0 (map (λ (r : Row Float). map (λ (o : Origin). o.sequence) r.origins) rs) old.sequences;
      places = written_rows i.search_maxima.path_edges 0 (map (λ (r : Row Float). map (λ (o : Origin). o.place) r.origins) rs) old.places;
    }

unfoldable pub outputs_after : Input → Answer Float → Outputs → Outputs
outputs_after i (refusal n) old = old
outputs_after i (listed rs pushes longest) old = written_list i rs old

-- ---- the answer

-- what the definition answers, once nothing of 1 to 7 is broken
abbrev pub found : Input → Answer Float
found i = after_build (column_scoring i.column) i (built i.sample i.graph_maxima)

unfoldable pub summary : Answer Float → ListAnswer
summary (refusal n) = record { refusal = n; paths = 0; pushes = 0; longest = 0 }
summary (listed rs pushes longest) = record { refusal = 0; paths = length rs; pushes = pushes; longest = longest }

-- the answer told, with the outputs before and after; the waiting mark is "no less than the longest waiting list, no more than the pushes"
pub record Listed (i : Input) (o : Answer Float) (r : declared.ListAnswer) (old new : Outputs) : Type 0 where
  pub refusal : r.refusal ≡ (summary o).refusal
  pub paths : r.paths ≡ (summary o).paths
  pub pushes : r.pushes ≡ (summary o).pushes
  pub mark-low : (summary o).longest ≤ r.mark
  pub mark-high : r.mark ≤ (summary o).pushes
  pub outputs : new ≡ outputs_after i o old

-- a refused answer
pub listed-refused : (i : Input) (o : Answer Float) (n : ℕ) (r : declared.ListAnswer) (old : Outputs) → o ≡ refusal n → r ≡ refused_answer n → Listed i o r old old
unfolding summary outputs_after
listed-refused i o n r old e f =
    rw (e, f) (record { refusal = refl; paths = refl; pushes = refl; mark-low = omega arith; mark-high = omega arith; outputs = refl })

-- a list
pub listed-done : (i : Input) (o : Answer Float) (rs : List (Row Float)) (pushes longest : ℕ) (r : declared.ListAnswer) (old new : Outputs) → o ≡ listed rs pushes longest → r.refusal ≡ 0
    → r.paths ≡ length rs → r.pushes ≡ pushes → longest ≤ r.mark → r.mark ≤ pushes → new ≡ written_list i rs old → Listed i o r old new
unfolding summary outputs_after
listed-done i o rs pushes longest r old new e a b c d f h = rw e (record { refusal = a; paths = b; pushes = c; mark-low = d; mark-high = f; outputs = h })

-- the empty list
pub listed-none : (i : Input) (o : Answer Float) (r : declared.ListAnswer) (old : Outputs) → o ≡ listed [] 0 0 → r ≡ refused_answer 0 → Listed i o r old old
unfolding written_list written_at written_rows
listed-none i o r old e f = rw f (listed-done i o [] 0 0 (refused_answer 0) old old e refl refl refl (omega arith) (omega arith) refl)

-- ---- the workspace

pub record Tables : Type 0 where
  pub vertices : List ℕ
  pub edges : List ℕ
  pub index : List ℕ
  pub nodes : List ℕ
  pub targets : List ℕ
  pub paths : List ℕ
  pub scores : List Float
  pub active : List ℕ
  pub queue : List ℕ
  pub closed : List ℕ
  pub order : List ℕ
  pub marks : List ℕ
  pub walks : List ℕ

abbrev pub tables_of : List ℕ → List ℕ → List ℕ → List ℕ → List ℕ → List ℕ → List Float → List ℕ → List ℕ → List ℕ → List ℕ → List ℕ → List ℕ → Tables
tables_of vertices edges index nodes targets paths scores active queue closed order marks walks =
    record {
      vertices = vertices;
      edges = edges;
      index = index;
      nodes = nodes;
      targets = targets;
      paths = paths;
      scores = scores;
      active = active;
      queue = queue;
      closed = closed;
      order = order;
      marks = marks;
      walks = walks;
    }
