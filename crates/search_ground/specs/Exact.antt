-- The edge table cut off behind the symbolic edge holds the built graph as well. Assumes nothing.
use Rattle.std.specs.Prelude.{◌≡◌, List, ◌++◌, ℕ, ◌+◌, ◌<◌, ◌≤◌, take}
use Rattle.std.proofs.Common.{◌∙◌, arith, get_or-take}
use Rattle.definition.specs.Limits.{Sample}
use Rattle.assembly.specs.Fields.{edge_field, IsEdgeField, edge_cell, from_field, to_field, support_field, mark_field, sequence_field, place_field}
use Rattle.tables.specs.Widths.{edge_numbers}
use Rattle.assembly.specs.Table.{table_same}
use Rattle.assembly.specs.Store.{edge_at, edges_of, graph_of}
use Rattle.assembly.specs.Moves.{good-front}
use Rattle.junction_tree_graph.specs.Built.{BuiltAt}

module _ (es : List ℕ) (m : ℕ) where
  abbrev exact : List ℕ
  exact = take (edge_numbers (m + 1)) es

  pub exact-field : (i c : ℕ) → i < m + 1 → IsEdgeField c → edge_field (take (edge_numbers (m + 1)) es) i c ≡ edge_field es i c
  exact-field i c h l = get_or-take (edge_numbers (m + 1)) es (edge_cell i c) 0 (omega arith)

  exact-edge : (i : ℕ) → i < m + 1 → edge_at exact i ≡ edge_at es i
  exact-edge i h =
      rw (exact-field i from_field h (omega arith), exact-field i to_field h (omega arith), exact-field i support_field h (omega arith), exact-field i mark_field h (omega arith), exact-field i sequence_field h (omega arith), exact-field i place_field h (omega arith))

  exact-edges : (n : ℕ) → n ≤ m + 1 → edges_of exact n ≡ edges_of es n
  unfolding edges_of
  exact-edges n h = table_same (edge_at es) (edge_at exact) n (λ j l. exact-edge j (omega arith))

  module _ {s : Sample} {v e : ℕ} {vs : List ℕ} {n sink : ℕ} (a : BuiltAt s v e vs es n m sink) where
    graph_is : graph_of s.k (s.reference ++ s.bases) vs n exact m ≡ graph_of s.k (s.reference ++ s.bases) vs n es m
    unfolding graph_of
    graph_is = rw (exact-edges m (omega arith))

    pub built-exact : BuiltAt s v e vs (take (edge_numbers (m + 1)) es) n m sink
    built-exact =
        record {
          fits = a.fits;
          graph = graph_is ∙ a.graph;
          edges = exact-edges (m + 1) (omega arith) ∙ a.edges;
          sink-is = a.sink-is;
          inside = a.inside;
          vertices-fit = a.vertices-fit;
          edges_fit = a.edges_fit;
          good = good-front (λ j h. exact-field j from_field (omega arith) (omega arith)) (λ j h. exact-field j to_field (omega arith) (omega arith)) a.good;
          from = exact-field m from_field (omega arith) (omega arith) ∙ a.from;
          to = exact-field m to_field (omega arith) (omega arith) ∙ a.to;
          supports = λ i h. rw (exact-field i support_field (omega arith) (omega arith)) (a.supports i h);
        }
