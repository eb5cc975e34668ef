-- Demand 3 of the exported calls: what holds of the rows in the slices that `punelavoh_list` leaves, and of the bytes that `punelavoh_origin` names for their
-- edges. Of each call only its contract is used: `ListCalled` of the one, `Names` of the other. Assumes nothing.
use Rattle.std.specs.Prelude.{◌≡◌, refl, ℕ, zero, suc, ◌≤◌, List, leb, length, Float}
use Rattle.std.proofs.Common.{sym, ap, ◌∙◌}
use Rattle.std.proofs.Math.Path.{subst}
use Rattle.std.proofs.lemmas.List.{length-map}
use Rattle.laws.specs.Lists.{keep}
use Rattle.laws.specs.ListLaws.{All, all-mono}
use Rattle.definition.specs.Limits.{Sample, Input, is_long_enough}
use Rattle.definition.specs.Listing.{Row}
use Rattle.definition.specs.Calls.{ListSlices, OriginOutcome, list_lent}
use Rattle.definition.specs.Promises.{Spelled, AllElseEqual}
use Rattle.slice_lengths.specs.Lengths.{list_workspace_told}
use Rattle.list_interface.specs.declared.ListAnswer.{ListAnswer}
use Rattle.list_work.specs.Outcome.{Outputs, Tables}
use Rattle.list_lent.specs.Lent.{workspace_lent, told_of, lent_of}
use Rattle.list_call.specs.Within.{lengths_of}
use Rattle.path_rows.specs.declared.PathRow.{PathRow}
use Rattle.path_rows.specs.Rows.{told}
use Rattle.punelavoh.specs.Records.{slices_of, ListCalled}
use Rattle.promises.specs.Reading.{read_from, read_rows}
use Rattle.promises.specs.Demand.{Promised, Meets}
use Rattle.promises.specs.Exported.{rows_left, LentTold, EdgesNamed}
use Rattle.promises.proofs.Accepted.{made, lent-long}
use Rattle.promises.proofs.Fewer.{fewer-long}
use Rattle.promises.proofs.Demand.{rows_told, called-3a, called-3b, called-fewer}

-- ---- what is read and lent

pub lent_is : (rows : List PathRow) (o : Outputs) (w : Tables)
    → list_lent (slices_of rows o) (workspace_lent (lengths_of (length rows) o w)) ≡ lent_of (lengths_of (length rows) o w)
unfolding list_lent
lent_is rows o w = ap (λ (n : ℕ). lent_of (lengths_of n o w)) (length-map rows told)

-- n rows are read where n are to be
read_count : (i : Input) (o : ListSlices) (from n : ℕ) → length (read_from i o from n) ≡ n
unfolding read_from
read_count i o from zero = refl
read_count i o from (suc n) = ap suc (read_count i o (suc from) n)

-- ---- what the call for an origin names

edges-named : (s : Sample) (row : Row Float) → Spelled s row → EdgesNamed s row
edges-named s row h none e l a n =
    let c = h.spells none e l in
    (n.refusal ∙ ap (λ (x : OriginOutcome). x.refusal) c, n.bytes ∙ ap (λ (x : OriginOutcome). x.bytes) c)

-- ---- one call

module _ (i : Input) (r : ListAnswer) (rs rs' : List PathRow) (o o' : Outputs) (w w' : Tables) (called : ListCalled i r rs rs' o o' w w') where
  -- the exported call meets what demand 3 asks of a program
  pub meets : Meets i (list_workspace_told i.asked i.graph_maxima i.search_maxima) (workspace_lent (lengths_of (length rs) o w)) (slices_of rs o) r.refusal r.paths (slices_of rs' o')
  meets = record { refusal_is = called.refusal; paths-are = called.paths; slices-are = called.slices }

  -- Accepted, it was lent what it is told.
  pub lent-told : r.refusal ≡ 0 → LentTold i rs o w
  lent-told e =
      let m = made i _ _ _ (sym called.refusal ∙ e) in
      ap (is_long_enough (told_of i)) (sym (lent_is rs o w)) ∙ lent-long i _ _ _ m

  -- Demand 3, first half, of the rows that the call left.
  pub list-3a : r.refusal ≡ 0 → Promised i (rows_left i r rs' o')
  list-3a e = called-3a meets e

  -- Accepted, it left no more rows than asked.
  pub only-asked : r.refusal ≡ 0 → length (rows_left i r rs' o') ≤ i.asked
  unfolding read_rows
  only-asked e =
      subst (λ (n : ℕ). n ≤ i.asked) (sym (read_count i (slices_of rs' o') 0 r.paths ∙ called.paths))
      (rows_told i _ _ _ (sym called.refusal ∙ e)).paths-fit

  -- Every edge of every row that the call left is spelled by the bytes that the call for an origin names.
  pub edge-bytes : r.refusal ≡ 0 → All (EdgesNamed i.sample) (rows_left i r rs' o')
  edge-bytes e = all-mono (edges-named i.sample) (list-3a e).0

-- ---- two calls

module _ (a b : Input) (r q : ListAnswer) (rs rs' qs qs' : List PathRow) (o o' u u' : Outputs) (w w' x x' : Tables) (same : AllElseEqual a b)
    (few : a.asked ≤ b.asked) (fewer : ListCalled a r rs rs' o o' w w') (more : ListCalled b q qs qs' u u' x x') where
  -- Demand 3, second half, of the rows that two accepted calls left.
  pub list-3b : r.refusal ≡ 0 → q.refusal ≡ 0
      → rows_left a r rs' o' ≡ keep (λ y. leb y.closing a.asked) (rows_left b q qs' u')
  list-3b e f = called-3b same few (meets a r rs rs' o o' w w' fewer) (meets b q qs qs' u u' x x' more) e f

  -- Where the call for more paths was accepted, the call for fewer is accepted too, if it is lent what it is told.
  pub fewer-accepted : LentTold a rs o w → q.refusal ≡ 0 → r.refusal ≡ 0
  fewer-accepted long f =
      called-fewer same few (meets a r rs rs' o o' w w' fewer) (meets b q qs qs' u u' x x' more)
      (ap (is_long_enough (told_of a)) (lent_is rs o w) ∙ long) f

  -- So it is where the call for fewer is lent slices of the same lengths.
  pub fewer-again : lent_of (lengths_of (length rs) o w) ≡ lent_of (lengths_of (length qs) u x) → q.refusal ≡ 0 → r.refusal ≡ 0
  fewer-again lengths f =
      fewer-accepted (ap (is_long_enough (told_of a)) lengths ∙ fewer-long a b (lent_of (lengths_of (length qs) u x)) same few (lent-told b q qs qs' u u' x x' more f)) f
