-- Request m of document 02, of the exported call: `punelavoh_list` with a maximum of pushes that is not below the formula never answers 12, and no list that it leaves was
-- made with more pushes. Of the call only its contract is used. Assumes nothing.
use Rattle.std.specs.Prelude.{◌≡◌, ℕ, suc, ◌≤◌, List, length}
use Rattle.std.proofs.Common.{sym, ◌∙◌}
use Rattle.definition.specs.Refusal.{ok}
use Rattle.definition.specs.Limits.{Input, list_told}
use Rattle.definition.specs.Evidence.{nodes}
use Rattle.definition.specs.Building.{Built, built}
use Rattle.definition.specs.Listing.{refusal, answer}
use Rattle.definition.specs.Calls.{list_outcome, list_lent}
use Rattle.definition.specs.Enough.{enough}
use Rattle.allowance.proofs.Answers.{enough_for, never-twelve-built, never-twelve, listed-few, never-ten}
use Rattle.slice_lengths.specs.Lengths.{list_workspace_told}
use Rattle.list_interface.specs.declared.ListAnswer.{ListAnswer}
use Rattle.list_work.specs.Outcome.{Outputs, Tables}
use Rattle.list_lent.specs.Lent.{workspace_lent}
use Rattle.list_call.specs.Within.{lengths_of}
use Rattle.path_rows.specs.declared.PathRow.{PathRow}
use Rattle.punelavoh.specs.Records.{slices_of, ListCalled}
use Rattle.promises.proofs.Accepted.{made, outcome, refused-is}

module _ (i : Input) (r : ListAnswer) (rs rs' : List PathRow) (o o' : Outputs) (w w' : Tables) (called : ListCalled i r rs rs' o o' w w') where
  abbrev told : List ℕ
  told = list_workspace_told i.asked i.graph_maxima i.search_maxima

  abbrev lent : List ℕ
  lent = workspace_lent (lengths_of (length rs) o w)

  -- what the call answers is what the definition answers
  answered : (n : ℕ) → r.refusal ≡ suc n → answer i (list_told i told) (list_lent (slices_of rs o) lent) ≡ refusal (suc n)
  answered n e = refused-is i told lent (slices_of rs o) n (sym called.refusal ∙ e)

  -- With a maximum of pushes that is not below the formula of its maxima, the call never answers 12.
  pub list-never-twelve : enough_for i ≤ i.search_maxima.pushes → r.refusal ≡ 12 → ⊥
  list-never-twelve h e = never-twelve i (list_told i told) (list_lent (slices_of rs o) lent) h (answered 11 e)

  -- Nor where it is not below the formula of the edges and tree nodes that the graph has.
  pub list-never-twelve-built :
      ((b : Built) → built i.sample i.graph_maxima ≡ ok b → enough (length b.edges) (length (nodes b.trees)) i.search_maxima.path_edges ≤ i.search_maxima.pushes)
      → r.refusal ≡ 12 → ⊥
  list-never-twelve-built h e = never-twelve-built i (list_told i told) (list_lent (slices_of rs o) lent) h (answered 11 e)

  -- Whatever its maximum: the pushes that an accepted call tells are no more than the formula.
  pub list-pushes-few : r.refusal ≡ 0 → r.pushes ≤ enough_for i
  unfolding list_outcome
  list-pushes-few e =
      let m = made i told lent (slices_of rs o) (sym called.refusal ∙ e) in
      rw (called.pushes, outcome i told lent (slices_of rs o) m) (listed-few i (list_told i told) (list_lent (slices_of rs o) lent) m.rows m.pushes m.longest m.is)

  -- With a column of 65,536 places the call never answers 10.
  pub list-never-ten : 65536 ≤ length i.column → r.refusal ≡ 10 → ⊥
  list-never-ten h e = never-ten i (list_told i told) (list_lent (slices_of rs o) lent) h (answered 9 e)
