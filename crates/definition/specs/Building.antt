-- The graph with its trees, or refusal 8 or 9: "vertex or edge above its maximum", "tree node above its maximum".
use Rattle.std.specs.Prelude.{suc, true, false, ◌&&◌, List, leb, length}
use Rattle.definition.specs.Refusal.{Result, ok, refused}
use Rattle.definition.specs.Limits.{Sample, GraphMaxima}
use Rattle.definition.specs.Threading.{Edge, Graph, threaded, with_symbolic}
use Rattle.definition.specs.Evidence.{Tree, evidence, nodes}

-- `graph` is that before the symbolic vertex and edge; `edges` holds the symbolic edge too
pub record Built : Type 0 where
  pub graph : Graph
  pub edges : List Edge
  pub trees : List Tree

-- "Symbolic vertex and edge count", and so do the roots among the tree nodes.
unfoldable pub built_of : Sample → GraphMaxima → Graph → Result Built
built_of s m g =
    let es = with_symbolic s g in
    let ts = evidence s g in
    elim (leb (suc (length g.kmers)) m.vertices && leb (length es) m.edges) [
      | false ↦ refused 8
      | true ↦ elim (leb (length (nodes ts)) m.nodes) [ false ↦ refused 9 | true ↦ ok (record { graph = g; edges = es; trees = ts }) ]
    ]

unfoldable pub built : Sample → GraphMaxima → Result Built
built s m = built_of s m (threaded s)

-- A key: to unfold it is to unfold every definition of this file. The worked cases compute with it; a proof names only what it needs.
unfoldable pub open_building : Unit {0}
unfolding built_of built
open_building = tt
