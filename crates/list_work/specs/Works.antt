-- What the work is handed: an input in order, output slices that are long enough, and a workspace of just the lengths told. Assumes nothing.
use Rattle.std.specs.Prelude.{◌≡◌, true, ◌&&◌, ◌+◌, ◌*◌, ◌≤◌, leb, length}
use Rattle.std.proofs.Common.{leb-true}
use Rattle.laws.specs.ListLaws.{and_left, and_right}
use Rattle.laws.specs.Numbers.{within}
use Rattle.definition.specs.Limits.{Input, graph_maxima_fit, search_maxima_fit, settings_fit}
use Rattle.theorems.proofs.Checks.{Checked}
use Rattle.slice_lengths.specs.Workspaces.{vertex_table, edge_table, kmer_index, node_table, target_table, path_table, path_scores, active_nodes, waiting_queue, closed_paths, pivotal_order, pivotal_marks, path_walks}
use Rattle.list_work.specs.Outcome.{Outputs, Tables}

-- the output slices are long enough
pub record Outs (i : Input) (o : Outputs) : Type 0 where
  pub scores : i.asked ≤ length o.scores
  pub closings : i.asked ≤ length o.closings
  pub edges : i.asked ≤ length o.edges
  pub bases : i.asked * (i.sample.k + i.search_maxima.path_edges) ≤ length o.bases
  pub sequences : i.asked * i.search_maxima.path_edges ≤ length o.sequences
  pub places : i.asked * i.search_maxima.path_edges ≤ length o.places

-- all is in order, and the workspace has just the lengths told
pub record Works (i : Input) (o : Outputs) (w : Tables) : Type 0 where
  pub checks : Checked i
  pub outs : Outs i o
  pub vertices : length w.vertices ≡ vertex_table i.graph_maxima
  pub edges : length w.edges ≡ edge_table i.graph_maxima
  pub index : length w.index ≡ kmer_index i.graph_maxima
  pub nodes : length w.nodes ≡ node_table i.graph_maxima
  pub targets : length w.targets ≡ target_table i.graph_maxima
  pub paths : length w.paths ≡ path_table i.asked i.search_maxima
  pub scores : length w.scores ≡ path_scores i.asked i.search_maxima
  pub active : length w.active ≡ active_nodes i.asked i.search_maxima
  pub queue : length w.queue ≡ waiting_queue i.search_maxima
  pub closed : length w.closed ≡ closed_paths i.asked
  pub order : length w.order ≡ pivotal_order i.graph_maxima
  pub marks : length w.marks ≡ pivotal_marks i.graph_maxima
  pub walks : length w.walks ≡ path_walks i.asked i.graph_maxima i.search_maxima

-- ---- what the checks give

pub checked-maxima : (i : Input) → Checked i → graph_maxima_fit i.graph_maxima ≡ true
unfolding settings_fit
checked-maxima i c =
    and_right (leb i.asked 128) (graph_maxima_fit i.graph_maxima) (and_left (leb i.asked 128 && graph_maxima_fit i.graph_maxima) (search_maxima_fit i.search_maxima) c.settings-fit)

pub active-some : (i : Input) → Checked i → 1 ≤ i.search_maxima.active
unfolding settings_fit search_maxima_fit
active-some i c =
    let x = i.search_maxima in
    let m : (within 1 4096 x.path_edges && within 1 64 x.active && within 1 32768 x.pushes) ≡ true =
    and_right (leb i.asked 128 && graph_maxima_fit i.graph_maxima) _ c.settings-fit in
    let n = and_right (within 1 4096 x.path_edges) (within 1 64 x.active) (and_left (within 1 4096 x.path_edges && within 1 64 x.active) (within 1 32768 x.pushes) m) in
    leb-true 1 x.active (and_left (leb 1 x.active) (leb x.active 64) n)
