-- How much of each slice is lent. Assumes nothing.
use Rattle.std.specs.Prelude.{◌≡◌, ℕ, ◌≤◌, List, ◌++◌, length, take, drop, replicate}
use Rattle.std.proofs.Common.{sym, subst, ◌∙◌, length-take-le}
use Rattle.std.proofs.lemmas.List.{length-replicate}
use Rattle.std.proofs.Math.Seq.{length_front}
use Rattle.list_lent.specs.declared.Lent.{Lent}

-- Each length is at most that of its slice.
pub record Fits (l : Lent) (of-row-scores of-row-closings of-row-edges of-bases of-sequences of_places of-vertices of-edges of-index of-nodes of-targets of-paths of-scores of-active of-queue of-closed of-order of-marks of-walks : ℕ) : Type 0 where
  pub row-scores : l.row_scores ≤ of-row-scores
  pub row-closings : l.row_closings ≤ of-row-closings
  pub row-edges : l.row_edges ≤ of-row-edges
  pub bases : l.bases ≤ of-bases
  pub sequences : l.sequences ≤ of-sequences
  pub places : l.places ≤ of_places
  pub vertices : l.vertices ≤ of-vertices
  pub edges : l.edges ≤ of-edges
  pub index : l.index ≤ of-index
  pub nodes : l.nodes ≤ of-nodes
  pub targets : l.targets ≤ of-targets
  pub paths : l.paths ≤ of-paths
  pub scores : l.scores ≤ of-scores
  pub active : l.active ≤ of-active
  pub queue : l.queue ≤ of-queue
  pub closed : l.closed ≤ of-closed
  pub order : l.order ≤ of-order
  pub marks : l.marks ≤ of-marks
  pub walks : l.walks ≤ of-walks

-- a part of an array lies within it, and is as long as told
pub array-part : {A : Type 0} (v : A) (m : ℕ) {n : ℕ} → n ≤ m → n ≤ length (replicate m v)
array-part v m {n} h = subst (λ (k : ℕ). n ≤ k) (sym (length-replicate m v)) h

pub part_count : {A : Type 0} (v : A) (m : ℕ) {n : ℕ} → n ≤ m → n ≡ length (take n (replicate m v))
part_count v m {n} h = sym (length-take-le n (replicate m v) (array-part v m h))

-- an array of which a part was lent for writing keeps its length
pub array-kept : {A : Type 0} (v : A) (m n : ℕ) (e : List A) → length e ≡ length (take n (replicate m v)) → m ≡ length (e ++ drop n (replicate m v))
array-kept v m n e h = sym (length_front (replicate m v) e n h ∙ length-replicate m v)
