-- What the call for lengths tells is what refusal 7 of the other two calls compares with, slice by slice: who lends that is never refused by 7. Assumes nothing.
use Rattle.std.specs.Prelude.{◌≡◌, ℕ, true, List, [], ◌∷◌, length}
use Rattle.std.proofs.Common.{sym, ap, ◌∙◌}
use Rattle.definition.specs.Limits.{Sample, GraphMaxima, SearchMaxima, Input, is_long_enough, list_told, graph_told}
use Rattle.definition.specs.Calls.{GraphOutcome, ListSlices, list_lent, list_call}
use Rattle.theorems.proofs.Late.{list-not-7, graph-not-7}
use Rattle.slice_lengths.specs.declared.LengthsTold.{LengthsTold}
use Rattle.slice_lengths.specs.Lengths.{list_slices, graph_slices, list_workspace_told, graph_workspace_told, accepted_lengths, Told, accepted-is}
use Rattle.graph_call.specs.declared.GraphAnswer.{GraphAnswer}
use Rattle.graph_call.specs.Outcome.{Graphed}
use Rattle.list_interface.specs.declared.ListAnswer.{ListAnswer}
use Rattle.list_work.specs.Outcome.{Outputs, Tables}
use Rattle.list_lent.specs.Lent.{workspace_lent, told_of, lent_of, slices-told}
use Rattle.list_call.specs.Within.{lengths_of}
use Rattle.path_rows.specs.declared.PathRow.{PathRow}
use Rattle.punelavoh.specs.Records.{slices_of, ListCalled}
use Rattle.promises.specs.Told.{ToldFor}
use Rattle.promises.proofs.Accepted.{refused-is}
use Rattle.promises.proofs.Exported.{lent_is}

-- ---- the call for the list

-- Its slices, in the order in which the call is lent them, are told as long as rule 7 asks.
pub list-asks : (i : Input) (t : LengthsTold) → ToldFor i t → t.refusal ≡ 0 → list_slices t ≡ told_of i
list-asks i t h e = ap list_slices (accepted-is i.sample.k i.asked i.graph_maxima i.search_maxima t h e) ∙ slices-told i

not-7 : (i : Input) (workspace lent : List ℕ) (old : ListSlices) → is_long_enough (list_told i workspace) (list_lent old lent) ≡ true
    → (list_call i workspace lent old).answer.refusal ≡ 7 → ⊥
not-7 i workspace lent old l t = list-not-7 i (list_told i workspace) (list_lent old lent) l (refused-is i workspace lent old 6 t)

-- Who lends slices at least as long as told is not refused by 7.
pub list-never-seven : (i : Input) (t : LengthsTold) (r : ListAnswer) (rs rs' : List PathRow) (o o' : Outputs) (w w' : Tables) → ToldFor i t → t.refusal ≡ 0
    → is_long_enough (list_slices t) (lent_of (lengths_of (length rs) o w)) ≡ true → ListCalled i r rs rs' o o' w w' → r.refusal ≡ 7 → ⊥
list-never-seven i t r rs rs' o o' w w' h e l c s =
    not-7 i (list_workspace_told i.asked i.graph_maxima i.search_maxima) (workspace_lent (lengths_of (length rs) o w)) (slices_of rs o)
    ((λ j. is_long_enough (sym (list-asks i t h e) j) (lent_is rs o w j)) ∙ l) (sym c.refusal ∙ s)

-- ---- the call for edges and trees

-- The same of its slices, whatever k, the paths asked and the search's maxima are: they do not bear on them.
pub graph-asks : (k asked : ℕ) (g : GraphMaxima) (s : SearchMaxima) (t : LengthsTold) → Told k asked g s t → t.refusal ≡ 0
    → graph_slices t ≡ graph_told g (graph_workspace_told g)
unfolding accepted_lengths graph_told
graph-asks k asked g s t h e = ap graph_slices (accepted-is k asked g s t h e)

pub graph-never-seven : (k asked : ℕ) (sample : Sample) (g : GraphMaxima) (s : SearchMaxima) (t : LengthsTold) (r : GraphAnswer)
    (es es' ns ns' wv wv' we we' wi wi' wx wx' wo wo' : List ℕ) → Told k asked g s t → t.refusal ≡ 0
    → is_long_enough (graph_slices t) (length es ∷ length ns ∷ length wv ∷ length we ∷ length wi ∷ length wx ∷ length wo ∷ []) ≡ true
    → Graphed sample g r es es' ns ns' wv wv' we we' wi wi' wx wx' wo wo' → r.refusal ≡ 7 → ⊥
graph-never-seven k asked sample g s t r es es' ns ns' wv wv' we we' wi wi' wx wx' wo wo' h e l c f =
    let lent : List ℕ = length wv ∷ length we ∷ length wi ∷ length wx ∷ length wo ∷ [] in
    graph-not-7 sample g (graph_workspace_told g) lent es ns (ap (λ (n : List ℕ). is_long_enough n (length es ∷ length ns ∷ lent)) (sym (graph-asks k asked g s t h e)) ∙ l)
    (ap (λ (x : GraphOutcome). x.refusal) (sym c.is) ∙ f)
