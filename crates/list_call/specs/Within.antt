-- The whole call for the list: refused by the rules with nothing touched, or the work over the parts told, which are zero afterwards. Assumes nothing.
use Rattle.std.specs.Prelude.{◌≡◌, ℕ, ◌≤◌, length}
use Rattle.definition.specs.Limits.{Input}
use Rattle.definition.specs.Listing.{answer}
use Rattle.theorems.proofs.Checks.{Checked}
use Rattle.slice_lengths.specs.declared.Workspace.{Workspace}
use Rattle.list_interface.specs.declared.ListAnswer.{ListAnswer}
use Rattle.list_work.specs.Works.{Outs}
use Rattle.list_lent.specs.declared.Lent as lent
use Rattle.list_lent.specs.Lent.{told_of, lent_of}
use Rattle.list_work.specs.Outcome.{Outputs, Tables, Listed, found}
use Rattle.list_call.specs.Outcome.{told_for, cleared_tables, tables_after}

-- the lengths of all slices, and of the slice of rows
abbrev pub lengths_of : ℕ → Outputs → Tables → lent.Lent
lengths_of rows o w =
    record {
      rows = rows;
      bases = length o.bases;
      sequences = length o.sequences;
      places = length o.places;
      vertices = length w.vertices;
      edges = length w.edges;
      index = length w.index;
      nodes = length w.nodes;
      targets = length w.targets;
      paths = length w.paths;
      scores = length w.scores;
      active = length w.active;
      queue = length w.queue;
      closed = length w.closed;
      order = length w.order;
      marks = length w.marks;
      walks = length w.walks;
      row_scores = length o.scores;
      row_closings = length o.closings;
      row_edges = length o.edges;
    }

-- the workspace has at least the lengths told
pub record Room (t : Workspace) (w : Tables) : Type 0 where
  pub vertices : t.vertices ≤ length w.vertices
  pub edges : t.edges ≤ length w.edges
  pub index : t.index ≤ length w.index
  pub nodes : t.nodes ≤ length w.nodes
  pub targets : t.targets ≤ length w.targets
  pub paths : t.paths ≤ length w.paths
  pub scores : t.scores ≤ length w.scores
  pub active : t.active ≤ length w.active
  pub queue : t.queue ≤ length w.queue
  pub closed : t.closed ≤ length w.closed
  pub order : t.order ≤ length w.order
  pub marks : t.marks ≤ length w.marks
  pub walks : t.walks ≤ length w.walks

-- all is in order
pub record Within (i : Input) (o : Outputs) (w : Tables) : Type 0 where
  pub checks : Checked i
  pub outs : Outs i o
  pub room : Room (told_for i) w

-- the work is done, and the workspace is zero as far as told
pub record Done (i : Input) (r : ListAnswer) (o o' : Outputs) (w w' : Tables) : Type 0 where
  pub listed : Listed i (found i) r o o'
  pub tables : w' ≡ cleared_tables i w

-- the whole call: the definition's answer, and the workspace as 01 says
pub record Called (i : Input) (rows : ℕ) (r : ListAnswer) (o o' : Outputs) (w w' : Tables) : Type 0 where
  pub listed : Listed i (answer i (told_of i) (lent_of (lengths_of rows o w))) r o o'
  pub tables : w' ≡ tables_after r.refusal i w
