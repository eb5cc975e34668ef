-- The answer of the call for edges and trees in the definition's words, and its contract. Assumes nothing.
use Rattle.std.specs.Prelude.{◌≡◌, List, [], ◌∷◌, ℕ, length, Result, Ok, Err}
use Rattle.refusals.specs.declared.Refusal.{Refusal}
use Rattle.refusals.specs.Numbers.{number}
use Rattle.definition.specs.Limits.{Sample, GraphMaxima}
use Rattle.definition.specs.Calls.{GraphOutcome, graph_call, workspace_after}
use Rattle.slice_lengths.specs.Workspaces.{vertex_table, edge_table, kmer_index, node_table, open_trees}
use Rattle.slice_lengths.specs.Lengths.{graph_workspace_told}
use Rattle.graph_call.specs.declared.GraphAnswer.{GraphAnswer}

abbrev pub outcome : GraphAnswer → List ℕ → List ℕ → GraphOutcome
outcome r es ns = record { refusal = r.refusal; edges = r.edges; nodes = r.nodes; edge_slice = es; node_slice = ns }

abbrev pub refused_answer : ℕ → GraphAnswer
refused_answer n = record { refusal = n; edges = 0; nodes = 0 }

-- what C is told of an answer or a refusal
abbrev pub answer_of : Result GraphAnswer Refusal → GraphAnswer
answer_of (Ok a) = a
answer_of (Err e) = refused_answer (number e)

-- the answer and the output are those of the definition's call, and so is each workspace slice, by the number returned
pub record Graphed (s : Sample) (m : GraphMaxima) (r : GraphAnswer) (es es' ns ns' wv wv' we we' wi wi' wx wx' wo wo' : List ℕ) : Type 0 where
  pub is : outcome r es' ns' ≡ graph_call s m (graph_workspace_told m) (length wv ∷ length we ∷ length wi ∷ length wx ∷ length wo ∷ []) es ns
  pub w-vertices : wv' ≡ workspace_after 0 r.refusal (vertex_table m) wv
  pub w-edges : we' ≡ workspace_after 0 r.refusal (edge_table m) we
  pub w-index : wi' ≡ workspace_after 0 r.refusal (kmer_index m) wi
  pub w-nodes : wx' ≡ workspace_after 0 r.refusal (node_table m) wx
  pub w-open : wo' ≡ workspace_after 0 r.refusal (open_trees m) wo
