-- The answer of `lengths` as the definition has it, the workspace told beside it, and all of it in bytes.
use Rattle.std.specs.Prelude.{◌≡◌, refl, List, [], ◌∷◌}
use Rattle.std.proofs.Common.{sym, ◌∙◌, arith}
use Rattle.std.proofs.Math.Path.{ap}
use Prim.Native.Nat.{ℕ, zero, suc, ◌+◌, ◌*◌, ◌<◌, ◌≤◌}
use Rattle.definition.specs.Refusal.{first_broken}
use Rattle.definition.specs.Limits.{GraphMaxima, SearchMaxima, told_edges, told_nodes, told_bases, told_origins, lengths_rules}
use Rattle.definition.specs.Calls.{LengthsAnswer, lengths_of, lengths_call}
use Rattle.slice_lengths.specs.Workspaces.{vertex_table, edge_table, kmer_index, node_table, open_trees, target_table, path_table, path_scores, active_nodes, waiting_queue, closed_paths, pivotal_order, pivotal_marks, path_walks, row_columns}
use Rattle.slice_lengths.specs.declared.Workspace.{Workspace}
use Rattle.slice_lengths.specs.declared.LengthsTold.{LengthsTold}

abbrev pub answer_of : LengthsTold → LengthsAnswer
answer_of r =
    record { refusal = r.refusal; edges = r.edges; nodes = r.nodes; paths = r.paths; bases = r.bases; origins = r.origins }

-- a workspace whose walks are w numbers
abbrev with_walks : Workspace → ℕ → Workspace
with_walks t w =
    record {
      vertices = t.vertices;
      edges = t.edges;
      index = t.index;
      nodes = t.nodes;
      «open» = t.«open»;
      targets = t.targets;
      paths = t.paths;
      scores = t.scores;
      active = t.active;
      queue = t.queue;
      closed = t.closed;
      order = t.order;
      marks = t.marks;
      walks = w;
      columns = t.columns;
    }

abbrev pub workspace_told : ℕ → GraphMaxima → SearchMaxima → Workspace
workspace_told asked g s =
    record {
      vertices = vertex_table g;
      edges = edge_table g;
      index = kmer_index g;
      nodes = node_table g;
      «open» = open_trees g;
      targets = target_table g;
      paths = path_table asked s;
      scores = path_scores asked s;
      active = active_nodes asked s;
      queue = waiting_queue s;
      closed = closed_paths asked;
      order = pivotal_order g;
      marks = pivotal_marks g;
      walks = path_walks asked g s;
      columns = row_columns asked;
    }

pub told-walks : (asked : ℕ) (g : GraphMaxima) (s : SearchMaxima) (w : ℕ) → w ≡ path_walks asked g s → with_walks (workspace_told asked g s) w ≡ workspace_told asked g s
told-walks asked g s w e = rw e

unfoldable pub no_workspace : Workspace
no_workspace =
    record { vertices = 0; edges = 0; index = 0; nodes = 0; «open» = 0; targets = 0; paths = 0; scores = 0; active = 0; queue = 0; closed = 0; order = 0; marks = 0; walks = 0; columns = 0 }

-- "A refused answer holds 0 in every other field", in the workspace too.
unfoldable pub workspace_of : ℕ → GraphMaxima → SearchMaxima → ℕ → Workspace
workspace_of asked g s zero = workspace_told asked g s
workspace_of asked g s (suc n) = no_workspace

unfoldable pub workspace_call : ℕ → ℕ → GraphMaxima → SearchMaxima → Workspace
workspace_call k asked g s = workspace_of asked g s (first_broken (lengths_rules k asked g s))

-- ---- rule 7: the slices told, in the order in which a call is lent them

-- the workspace of the call for the list, which is lent no open trees and three columns
abbrev pub list_workspace : Workspace → List ℕ
list_workspace w =
    w.vertices
    ∷ w.edges
    ∷ w.index
    ∷ w.nodes
    ∷ w.targets
    ∷ w.paths
    ∷ w.scores
    ∷ w.active
    ∷ w.queue
    ∷ w.closed
    ∷ w.order
    ∷ w.marks
    ∷ w.walks
    ∷ w.columns
    ∷ w.columns
    ∷ w.columns
    ∷ []

-- the workspace of the call for edges and trees
abbrev pub graph_workspace : Workspace → List ℕ
graph_workspace w = w.vertices ∷ w.edges ∷ w.index ∷ w.nodes ∷ w.«open» ∷ []

-- all slices of the call for the list: path rows, bases, the origins' sequences and their places, then the workspace
abbrev pub list_slices : LengthsTold → List ℕ
list_slices r = r.paths ∷ r.bases ∷ r.origins ∷ r.origins ∷ list_workspace r.workspace

-- all slices of the call for edges and trees: edge rows, node rows, then the workspace
abbrev pub graph_slices : LengthsTold → List ℕ
graph_slices r = r.edges ∷ r.nodes ∷ graph_workspace r.workspace

-- what each call's rule 7 compares the workspace with; that of edges and trees does not depend on the paths, which its call is told nothing of
abbrev pub list_workspace_told : ℕ → GraphMaxima → SearchMaxima → List ℕ
list_workspace_told asked g s = list_workspace (workspace_told asked g s)

abbrev pub graph_workspace_told : GraphMaxima → List ℕ
graph_workspace_told g = graph_workspace (workspace_told 0 g (record { path_edges = 0; active = 0; pushes = 0 }))

-- ---- the call

-- The contract of `lengths`: every field is told.
pub record Told (k asked : ℕ) (g : GraphMaxima) (s : SearchMaxima) (r : LengthsTold) : Type 0 where
  pub answer : answer_of r ≡ lengths_call k asked g s
  pub workspace : r.workspace ≡ workspace_call k asked g s

-- ---- the two kinds of answer

-- a workspace whose every field is 0
pub zero-workspace : (w : Workspace) → w.vertices ≡ 0 → w.edges ≡ 0 → w.index ≡ 0 → w.nodes ≡ 0 → w.open ≡ 0 → w.targets ≡ 0 → w.paths ≡ 0 → w.scores ≡ 0 → w.active ≡ 0 → w.queue ≡ 0 → w.closed ≡ 0 → w.order ≡ 0 → w.marks ≡ 0 → w.walks ≡ 0 → w.columns ≡ 0 → w ≡ no_workspace
unfolding no_workspace
zero-workspace w a0 a1 a2 a3 a4 a5 a6 a7 a8 a9 a10 a11 a12 a13 a14 =
    let e : ◌≡◌ {A = Workspace} w (record { vertices = w.vertices; edges = w.edges; index = w.index; nodes = w.nodes; «open» = w.open; targets = w.targets; paths = w.paths; scores = w.scores; active = w.active; queue = w.queue; closed = w.closed; order = w.order; marks = w.marks; walks = w.walks; columns = w.columns }) = refl in
    e ∙ cc

unfoldable pub refused_lengths : ℕ → LengthsTold
refused_lengths n = record { refusal = n; edges = 0; nodes = 0; paths = 0; bases = 0; origins = 0; workspace = no_workspace }

unfoldable pub accepted_lengths : ℕ → ℕ → GraphMaxima → SearchMaxima → LengthsTold
accepted_lengths k asked g s =
    record {
      refusal = 0;
      edges = told_edges g;
      nodes = told_nodes g;
      paths = asked;
      bases = told_bases k asked s;
      origins = told_origins asked s;
      workspace = workspace_told asked g s;
    }

-- n is what the code's check answered
module _ (k asked : ℕ) (g : GraphMaxima) (s : SearchMaxima) (r : LengthsTold) where
  pub told-refused : (n : ℕ) → n ≡ first_broken (lengths_rules k asked g s) → 0 < n → r ≡ refused_lengths n → Told k asked g s r
  unfolding lengths_of lengths_call workspace_of workspace_call refused_lengths
  told-refused zero c h e = absurd (omega arith)
  told-refused (suc n) c h e =
      record {
        answer = ap answer_of e ∙ ap (lengths_of k asked g s) c;
        workspace = ap (λ (t : LengthsTold). t.workspace) e ∙ ap (workspace_of asked g s) c;
      }

  pub told-accepted : (n : ℕ) → n ≡ first_broken (lengths_rules k asked g s) → n ≤ 0 → r ≡ accepted_lengths k asked g s → Told k asked g s r
  unfolding lengths_of lengths_call workspace_of workspace_call accepted_lengths
  told-accepted (suc n) c h e = absurd (omega arith)
  told-accepted zero c h e =
      record {
        answer = ap answer_of e ∙ ap (lengths_of k asked g s) c;
        workspace = ap (λ (t : LengthsTold). t.workspace) e ∙ ap (workspace_of asked g s) c;
      }

-- the refusal told is the number of the rule broken
pub told-number : (k asked : ℕ) (g : GraphMaxima) (s : SearchMaxima) (n : ℕ) → (lengths_of k asked g s n).refusal ≡ n
unfolding lengths_of
told-number k asked g s zero = refl
told-number k asked g s (suc n) = refl

abbrev told_by : LengthsAnswer → Workspace → LengthsTold
told_by a w = record { refusal = a.refusal; edges = a.edges; nodes = a.nodes; paths = a.paths; bases = a.bases; origins = a.origins; workspace = w }

-- what is told without a refusal is told of settings within the limits
pub accepted-is : (k asked : ℕ) (g : GraphMaxima) (s : SearchMaxima) (r : LengthsTold) → Told k asked g s r → r.refusal ≡ 0 → r ≡ accepted_lengths k asked g s
unfolding lengths_of lengths_call workspace_of workspace_call accepted_lengths
accepted-is k asked g s r t e =
    let n = first_broken (lengths_rules k asked g s) in
    let z : n ≡ 0 = sym (told-number k asked g s n) ∙ ap (λ (a : LengthsAnswer). a.refusal) (sym t.answer) ∙ e in
    (λ j. told_by (t.answer j) (t.workspace j)) ∙ ap (λ (m : ℕ). told_by (lengths_of k asked g s m) (workspace_of asked g s m)) z

-- ---- in bytes

-- numbers of 4 bytes, the slots of active nodes of 2, scores of 8; there is a column of scores and two of numbers
unfoldable pub workspace_bytes : Workspace → ℕ
workspace_bytes w =
    4 * (w.vertices + w.edges + w.index + w.nodes + w.«open» + w.targets + w.paths + w.queue + w.closed + w.order + w.marks + w.walks + 2 * w.columns)
    + 2 * w.active
    + 8 * (w.scores + w.columns)

-- Edge and node rows are numbers of 4 bytes, a path row is a record of 24, a base is a byte, and there are two slices of origins, of 4 bytes a number.
unfoldable pub told_bytes : LengthsAnswer → Workspace → ℕ
told_bytes a w = 4 * a.edges + 4 * a.nodes + 24 * a.paths + a.bases + 2 * (4 * a.origins) + workspace_bytes w
