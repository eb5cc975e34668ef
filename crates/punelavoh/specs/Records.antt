-- The call for the list with its rows in a lent slice of records. Assumes nothing.
use Rattle.std.specs.Prelude.{◌≡◌, List, map, ℕ, ◌≤◌, length, replicate, Float}
use Rattle.std.proofs.Common.{ap, ◌∙◌}
use Rattle.definition.specs.Limits.{Input}
use Rattle.definition.specs.Calls.{written_at, workspace_after, ListSlices, ListOutcome, list_call}
use Rattle.slice_lengths.specs.Workspaces.{row_columns}
use Rattle.list_interface.specs.declared.ListAnswer.{ListAnswer}
use Rattle.list_work.specs.Outcome.{Outputs, Tables}
use Rattle.list_call.specs.Outcome.{tables_after, float_zero}
use Rattle.slice_lengths.specs.Lengths.{list_workspace_told}
use Rattle.list_lent.specs.Lent.{workspace_lent}
use Rattle.list_call.specs.Within.{lengths_of}
use Rattle.path_rows.specs.declared.PathRow.{PathRow}
use Rattle.path_rows.specs.Rows.{told}

pub record ColumnsFit (n : ℕ) (ss : List Float) (cs es : List ℕ) : Type 0 where
  pub scores : n ≤ length ss
  pub closings : n ≤ length cs
  pub edges : n ≤ length es

-- the first n places of each column are zero
pub record Cleared (n : ℕ) (ss ss' : List Float) (cs cs' es es' : List ℕ) : Type 0 where
  pub scores : ss' ≡ written_at 0 (replicate n float_zero) ss
  pub closings : cs' ≡ written_at 0 (replicate n 0) cs
  pub edges : es' ≡ written_at 0 (replicate n 0) es

pub cleared_by : (n m : ℕ) (ss ss' : List Float) (cs cs' es es' : List ℕ) → m ≡ n → ss' ≡ written_at 0 (replicate m float_zero) ss → cs' ≡ written_at 0 (replicate m 0) cs
    → es' ≡ written_at 0 (replicate m 0) es → Cleared n ss ss' cs cs' es es'
cleared_by n m ss ss' cs cs' es es' e a b c =
    record {
      scores = a ∙ ap (λ (j : ℕ). written_at 0 (replicate j float_zero) ss) e;
      closings = b ∙ ap (λ (j : ℕ). written_at 0 (replicate j 0) cs) e;
      edges = c ∙ ap (λ (j : ℕ). written_at 0 (replicate j 0) es) e;
    }

-- the output slices, in the definition's words
abbrev pub slices_of : List PathRow → Outputs → ListSlices
slices_of rs o = record { rows = map told rs; bases = o.bases; sequences = o.sequences; places = o.places }

-- what the call answers and leaves, where l is what the definition says of it; the waiting mark is "no less than the longest waiting list, no more than the pushes"
pub record CalledFor (i : Input) (l : ListOutcome) (r : ListAnswer) (rs' : List PathRow) (o o' : Outputs) (w w' : Tables) : Type 0 where
  pub refusal : r.refusal ≡ l.answer.refusal
  pub paths : r.paths ≡ l.answer.paths
  pub pushes : r.pushes ≡ l.answer.pushes
  pub mark-low : l.answer.longest ≤ r.mark
  pub mark-high : r.mark ≤ l.answer.pushes
  pub slices : slices_of rs' o' ≡ l.slices
  pub tables : w' ≡ tables_after r.refusal i w
  pub scores : o'.scores ≡ workspace_after float_zero r.refusal (row_columns i.asked) o.scores
  pub closings : o'.closings ≡ workspace_after 0 r.refusal (row_columns i.asked) o.closings
  pub edges : o'.edges ≡ workspace_after 0 r.refusal (row_columns i.asked) o.edges

-- the whole call: the definition's answer and output; the columns are workspace too
abbrev pub ListCalled : Input → ListAnswer → List PathRow → List PathRow → Outputs → Outputs → Tables → Tables → Type 0
ListCalled i r rs rs' o o' w w' =
    CalledFor i (list_call i (list_workspace_told i.asked i.graph_maxima i.search_maxima) (workspace_lent (lengths_of (length rs) o w)) (slices_of rs o)) r rs' o o' w w'
