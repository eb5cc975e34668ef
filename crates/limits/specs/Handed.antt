-- What the calls are handed, as the definition has it.
use Rattle.std.specs.Prelude.{ℕ, Bool, List, ℤ, Float}
use Rattle.definition.specs.Limits.{Sample, GraphMaxima, SearchMaxima, Input}
use Rattle.limits.specs.declared.GraphMaxima as graph
use Rattle.limits.specs.declared.SearchMaxima as search

abbrev pub graph_maxima_of : graph.GraphMaxima → GraphMaxima
graph_maxima_of g = record { vertices = g.vertices; edges = g.edges; nodes = g.nodes }

abbrev pub search_maxima_of : search.SearchMaxima → SearchMaxima
search_maxima_of s = record { path_edges = s.path_edges; active = s.active; pushes = s.pushes }

abbrev pub sample_of : ℕ → ℕ → List ℕ → List ℕ → List ℕ → List ℕ → Sample
sample_of k quality reference ends bases qualities =
    record { k = k; quality = quality; reference = reference; ends = ends; bases = bases; qualities = qualities }

abbrev pub input_of : Sample → ℕ → ℤ → Bool → GraphMaxima → SearchMaxima → List Float → Input
input_of sample asked threshold recovery g s column =
    record {
      sample = sample;
      asked = asked;
      threshold = threshold;
      recovery = recovery;
      graph_maxima = g;
      search_maxima = s;
      column = column;
    }
