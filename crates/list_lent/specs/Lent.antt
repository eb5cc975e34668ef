-- What the call for the list is lent, and when all slices are as long as told. Assumes nothing.
use Rattle.std.specs.Prelude.{◌≡◌, refl, Bool, true, false, ◌&&◌, List, [], ◌∷◌, ◌++◌, ℕ, ◌+◌, ◌*◌, ◌≤◌, leb, length}
use Rattle.std.proofs.Common.{sym, ap, ◌∙◌, arith}
use Rattle.definition.specs.Limits.{GraphMaxima, SearchMaxima, Input, is_long_enough, bases_stride, told_bases, told_origins, list_told}
use Rattle.slice_lengths.specs.Workspaces.{vertex_table, edge_table, kmer_index, node_table, target_table, path_table, path_scores, active_nodes, waiting_queue, closed_paths, pivotal_order, pivotal_marks, path_walks, row_columns}
use Rattle.slice_lengths.specs.Lengths.{list_slices, list_workspace_told, accepted_lengths}
use Rattle.limits.specs.Long.{long-head}
use Rattle.slice_lengths.specs.declared.Workspace.{Workspace}
use Rattle.slice_lengths.specs.declared.LengthsTold.{LengthsTold}
use Rattle.list_lent.specs.declared.Lent as lent

-- what rule 7 compares with
abbrev pub told_of : Input → List ℕ
told_of i = list_told i (list_workspace_told i.asked i.graph_maxima i.search_maxima)

-- the lengths lent of the workspace slices, and of all
abbrev pub workspace_lent : lent.Lent → List ℕ
workspace_lent l =
    l.vertices
    ∷ l.edges
    ∷ l.index
    ∷ l.nodes
    ∷ l.targets
    ∷ l.paths
    ∷ l.scores
    ∷ l.active
    ∷ l.queue
    ∷ l.closed
    ∷ l.order
    ∷ l.marks
    ∷ l.walks
    ∷ l.row_scores
    ∷ l.row_closings
    ∷ l.row_edges
    ∷ []

abbrev pub lent_of : lent.Lent → List ℕ
lent_of l = l.rows ∷ l.bases ∷ l.sequences ∷ l.places ∷ workspace_lent l

-- each slice is as long as told
pub record Long (k asked : ℕ) (g : GraphMaxima) (s : SearchMaxima) (l : lent.Lent) : Type 0 where
  pub rows : asked ≤ l.rows
  pub bases : asked * (k + s.path_edges) ≤ l.bases
  pub sequences : asked * s.path_edges ≤ l.sequences
  pub places : asked * s.path_edges ≤ l.places
  pub vertices : vertex_table g ≤ l.vertices
  pub edges : edge_table g ≤ l.edges
  pub index : kmer_index g ≤ l.index
  pub nodes : node_table g ≤ l.nodes
  pub targets : target_table g ≤ l.targets
  pub paths : path_table asked s ≤ l.paths
  pub scores : path_scores asked s ≤ l.scores
  pub active : active_nodes asked s ≤ l.active
  pub queue : waiting_queue s ≤ l.queue
  pub closed : closed_paths asked ≤ l.closed
  pub order : pivotal_order g ≤ l.order
  pub marks : pivotal_marks g ≤ l.marks
  pub walks : path_walks asked g s ≤ l.walks
  pub row-scores : row_columns asked ≤ l.row_scores
  pub row-closings : row_columns asked ≤ l.row_closings
  pub row-edges : row_columns asked ≤ l.row_edges

-- ---- the parts of the test, as the code makes them

-- the output slices
abbrev pub outputs_told : LengthsTold → List ℕ
outputs_told t = t.paths ∷ t.bases ∷ t.origins ∷ t.origins ∷ []

abbrev pub outputs_lent : lent.Lent → List ℕ
outputs_lent l = l.rows ∷ l.bases ∷ l.sequences ∷ l.places ∷ []

-- the tables of the graph
abbrev pub graph_told : Workspace → List ℕ
graph_told w = w.vertices ∷ w.edges ∷ w.index ∷ w.nodes ∷ w.targets ∷ []

abbrev pub graph_lent : lent.Lent → List ℕ
graph_lent l = l.vertices ∷ l.edges ∷ l.index ∷ l.nodes ∷ l.targets ∷ []

-- the tables of the search
abbrev pub search_told : Workspace → List ℕ
search_told w =
    w.paths
    ∷ w.scores
    ∷ w.active
    ∷ w.queue
    ∷ w.closed
    ∷ w.order
    ∷ w.marks
    ∷ w.walks
    ∷ w.columns
    ∷ w.columns
    ∷ w.columns
    ∷ []

abbrev pub search_lent : lent.Lent → List ℕ
search_lent l =
    l.paths
    ∷ l.scores
    ∷ l.active
    ∷ l.queue
    ∷ l.closed
    ∷ l.order
    ∷ l.marks
    ∷ l.walks
    ∷ l.row_scores
    ∷ l.row_closings
    ∷ l.row_edges
    ∷ []

-- two parts of lists of equal lengths
long-parts : (a b c d : List ℕ) → length a ≡ length c → is_long_enough (a ++ b) (c ++ d) ≡ (is_long_enough a c && is_long_enough b d)
unfolding is_long_enough
long-parts [] b [] d e = refl
long-parts [] b (y ∷ c) d e = absurd (omega arith)
long-parts (x ∷ a) b [] d e = absurd (omega arith)
long-parts (x ∷ a) b (y ∷ c) d e = rw (long-parts a b c d (omega arith)) (and_assoc (leb x y) (is_long_enough a c) (is_long_enough b d))
  where
    and_assoc : (p q r : Bool) → (p && (q && r)) ≡ ((p && q) && r)
    and_assoc true q r = refl
    and_assoc false q r = refl

-- what rule 7 compares with is what the call for lengths tells of settings within the limits
pub slices-told : (i : Input) → list_slices (accepted_lengths i.sample.k i.asked i.graph_maxima i.search_maxima) ≡ told_of i
unfolding accepted_lengths list_told
slices-told i = refl

-- what is told and lent in all, in those parts
pub long-is : (i : Input) (l : lent.Lent) (t : LengthsTold) → t ≡ accepted_lengths i.sample.k i.asked i.graph_maxima i.search_maxima
    → is_long_enough (told_of i) (lent_of l)
    ≡ (is_long_enough (outputs_told t) (outputs_lent l) && (is_long_enough (graph_told t.workspace) (graph_lent l) && is_long_enough (search_told t.workspace) (search_lent l)))
long-is i l t e =
    let o = outputs_told t in
    let g = graph_told t.workspace in
    let s = search_told t.workspace in
    ap (λ (n : List ℕ). is_long_enough n (lent_of l)) (sym (ap list_slices e ∙ slices-told i))
    ∙ long-parts o (g ++ s) (outputs_lent l) (graph_lent l ++ search_lent l) refl
    ∙ ap (λ (b : Bool). is_long_enough o (outputs_lent l) && b) (long-parts g s (graph_lent l) (search_lent l) refl)

pub long_of : (i : Input) (l : lent.Lent) → is_long_enough (told_of i) (lent_of l) ≡ true → Long i.sample.k i.asked i.graph_maxima i.search_maxima l
unfolding list_told told_bases told_origins bases_stride
long_of i l h =
    let a1 = long-head _ _ _ _ h in
    let a2 = long-head _ _ _ _ a1.1 in
    let a3 = long-head _ _ _ _ a2.1 in
    let a4 = long-head _ _ _ _ a3.1 in
    let b1 = long-head _ _ _ _ a4.1 in
    let b2 = long-head _ _ _ _ b1.1 in
    let b3 = long-head _ _ _ _ b2.1 in
    let b4 = long-head _ _ _ _ b3.1 in
    let b5 = long-head _ _ _ _ b4.1 in
    let c1 = long-head _ _ _ _ b5.1 in
    let c2 = long-head _ _ _ _ c1.1 in
    let c3 = long-head _ _ _ _ c2.1 in
    let c4 = long-head _ _ _ _ c3.1 in
    let c5 = long-head _ _ _ _ c4.1 in
    let c6 = long-head _ _ _ _ c5.1 in
    let c7 = long-head _ _ _ _ c6.1 in
    let c8 = long-head _ _ _ _ c7.1 in
    let d1 = long-head _ _ _ _ c8.1 in
    let d2 = long-head _ _ _ _ d1.1 in
    let d3 = long-head _ _ _ _ d2.1 in
    record {
      rows = a1.0;
      bases = a2.0;
      sequences = a3.0;
      places = a4.0;
      vertices = b1.0;
      edges = b2.0;
      index = b3.0;
      nodes = b4.0;
      targets = b5.0;
      paths = c1.0;
      scores = c2.0;
      active = c3.0;
      queue = c4.0;
      closed = c5.0;
      order = c6.0;
      marks = c7.0;
      walks = c8.0;
      row-scores = d1.0;
      row-closings = d2.0;
      row-edges = d3.0;
    }
