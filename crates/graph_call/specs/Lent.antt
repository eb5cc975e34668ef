-- What the call for edges and trees is lent: when all slices are as long as told. Assumes nothing.
use Rattle.std.specs.Prelude.{◌≡◌, refl, Bool, true, ◌&&◌, List, [], ◌∷◌, ℕ, ◌*◌, ◌≤◌, length}
use Rattle.std.proofs.Common.{ap}
use Rattle.definition.specs.Refusal.{first_broken}
use Rattle.definition.specs.Limits.{Sample, GraphMaxima, sample_rules, graph_maxima_fit, search_maxima_fit, settings_fit, is_long_enough, graph_told, told_edges, told_nodes, edge_width, node_width}
use Rattle.slice_lengths.specs.Workspaces.{vertex_table, edge_table, kmer_index, node_table, open_trees}
use Rattle.slice_lengths.specs.declared.Workspace.{Workspace}
use Rattle.slice_lengths.specs.declared.LengthsTold.{LengthsTold}
use Rattle.slice_lengths.specs.Bounds.{InLimits, settings-most}
use Rattle.slice_lengths.specs.Lengths.{graph_slices, graph_workspace_told, accepted_lengths}
use Rattle.limits.specs.Long.{long-head}
use Rattle.graph_call.specs.declared.GraphLent.{GraphLent}

-- what is told of the slices of this call: of no path, and of the least search within the limits
abbrev pub told_for : ℕ → GraphMaxima → LengthsTold
told_for k m = accepted_lengths k 0 m (record { path_edges = 1; active = 1; pushes = 1 })

-- what rule 7 compares with, and what it compares
abbrev pub told_of : GraphMaxima → List ℕ
told_of m = graph_told m (graph_workspace_told m)

abbrev pub lent_of : GraphLent → List ℕ
lent_of l = l.edge_rows ∷ l.node_rows ∷ l.vertices ∷ l.edges ∷ l.index ∷ l.nodes ∷ l.«open» ∷ []

pub slices-told : (k : ℕ) (m : GraphMaxima) → graph_slices (told_for k m) ≡ told_of m
unfolding accepted_lengths graph_told
slices-told k m = refl

pub told-within : (k : ℕ) (m : GraphMaxima) → (k ≤ 128) × (graph_maxima_fit m ≡ true) → (k ≤ 128) × InLimits 0 m (record { path_edges = 1; active = 1; pushes = 1 })
unfolding settings_fit search_maxima_fit
told-within k m h =
    let e : settings_fit 0 m (record { path_edges = 1; active = 1; pushes = 1 }) ≡ true = ap (λ (b : Bool). true && b && true) h.1 in
    (h.0, settings-most 0 m (record { path_edges = 1; active = 1; pushes = 1 }) e)

-- each slice is as long as told
pub record Long (m : GraphMaxima) (es ns wv we wi wx wo : ℕ) : Type 0 where
  pub edges : m.edges * edge_width ≤ es
  pub nodes : m.nodes * node_width ≤ ns
  pub w-vertices : vertex_table m ≤ wv
  pub w-edges : edge_table m ≤ we
  pub w-index : kmer_index m ≤ wi
  pub w-nodes : node_table m ≤ wx
  pub w-open : open_trees m ≤ wo

pub long_of : (m : GraphMaxima) (es ns wv we wi wx wo : ℕ) → is_long_enough (told_of m) (es ∷ ns ∷ wv ∷ we ∷ wi ∷ wx ∷ wo ∷ []) ≡ true → Long m es ns wv we wi wx wo
unfolding graph_told told_edges told_nodes
long_of m es ns wv we wi wx wo h =
    let a = long-head _ _ _ _ h in
    let b = long-head _ _ _ _ a.1 in
    let c = long-head _ _ _ _ b.1 in
    let d = long-head _ _ _ _ c.1 in
    let e = long-head _ _ _ _ d.1 in
    let f = long-head _ _ _ _ e.1 in
    let g = long-head _ _ _ _ f.1 in
    record { edges = a.0; nodes = b.0; w-vertices = c.0; w-edges = d.0; w-index = e.0; w-nodes = f.0; w-open = g.0 }

-- the workspace has at least the lengths told
pub record Room (t : Workspace) (wv we wi wx wo : List ℕ) : Type 0 where
  pub vertices : t.vertices ≤ length wv
  pub edges : t.edges ≤ length we
  pub index : t.index ≤ length wi
  pub nodes : t.nodes ≤ length wx
  pub «open» : t.«open» ≤ length wo

-- all is in order, and the workspace has just the lengths told
pub record Lent (s : Sample) (m : GraphMaxima) (es ns wv we wi wx wo : List ℕ) : Type 0 where
  pub rules : first_broken (sample_rules s) ≡ 0
  pub maxima : graph_maxima_fit m ≡ true
  pub edges : m.edges * edge_width ≤ length es
  pub nodes : m.nodes * node_width ≤ length ns
  pub w-vertices : length wv ≡ vertex_table m
  pub w-edges : length we ≡ edge_table m
  pub w-index : length wi ≡ kmer_index m
  pub w-nodes : length wx ≡ node_table m
  pub w-open : length wo ≡ open_trees m
