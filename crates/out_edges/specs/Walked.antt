-- The walk over the out-edges of a vertex: what may be asked, and what a step gives. Assumes nothing.
use Rattle.std.specs.Prelude.{◌≡◌, ℕ, ◌+◌, ◌<◌, List, Option, IfSome}
use Rattle.std.proofs.Common.{◌∙◌}
use Rattle.assembly.specs.Fields.{HasVertex, out_edge, HasEdges, edge_to}
use Rattle.out_edges.specs.declared.Graph.{Graph}
use Rattle.out_edges.specs.declared.OutEdges.{OutEdges}
use Rattle.out_edges.specs.Outs.{Names, Slots, Nexts, slots-names}

-- the table has the vertex, and its slots name edges
abbrev pub Named : List ℕ → List ℕ → ℕ → Type 0
Named vs es v = (HasVertex vs v) × ((c : ℕ) → c < 8 → Names es (out_edge vs v c))

pub named : {vs es : List ℕ} {m v : ℕ} → HasVertex vs v → Slots vs es m v → HasEdges es m → Named vs es v
named h s r = (h, slots-names s r)

-- the walk is over the out-edges of v
pub record Over (g : Graph) (v : ℕ) (s : OutEdges) : Type 0 where
  pub graph : s.graph ≡ g
  pub vertex : s.vertex ≡ v

pub over-named : {g : Graph} {v : ℕ} {s : OutEdges} → Over g v s → Named g.vertices.now g.edges.now v → Named s.graph.vertices.now s.graph.edges.now s.vertex
over-named o h = rw (o.graph, o.vertex) h

-- and none of them is taken yet
pub record Begun (g : Graph) (v : ℕ) (s : OutEdges) : Type 0 where
  pub over : Over g v s
  pub first : s.from ≡ 0

pub begun : {g : Graph} {v : ℕ} {s r : OutEdges} → r ≡ s → Begun g v s → Begun g v r
begun e b = rw e b

-- a step gave r and left t: r is the next out-edge, and those behind it are left
pub record Steps (s : OutEdges) (r : Option ℕ) (t : OutEdges) : Type 0 where
  pub over : Over s.graph s.vertex t
  pub next : (m : ℕ) → Slots s.graph.vertices.now s.graph.edges.now m s.vertex → Nexts s.graph.edges.now m s.vertex s.from r
  pub behind : IfSome r (λ i. t.from ≡ edge_to s.graph.edges.now i + 1)

-- the same of a walk over the out-edges of v in g, whose slots hold them all
pub record Turned (g : Graph) (m v : ℕ) (s : OutEdges) (r : Option ℕ) (t : OutEdges) : Type 0 where
  pub over : Over g v t
  pub next : Nexts g.edges.now m v s.from r
  pub behind : IfSome r (λ i. t.from ≡ edge_to g.edges.now i + 1)

pub turned : {g : Graph} {m v : ℕ} {s t : OutEdges} {r : Option ℕ} → Slots g.vertices.now g.edges.now m v → Over g v s → Steps s r t → Turned g m v s r t
turned {m = m} h o x =
    record {
      over = record { graph = x.over.graph ∙ o.graph; vertex = x.over.vertex ∙ o.vertex };
      next = (rw (o.graph, o.vertex) at (x.next m)) h;
      behind = rw o.graph at x.behind;
    }
