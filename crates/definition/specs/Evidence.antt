-- "Evidence": the junction trees. A tree stands at a vertex; its nodes below the root stand for edges taken, with a count.
-- Each read stretch longer than k is walked again over the graph as it was before the symbolic edge, and the walk counts in the trees that it has opened.
use Prim.Native.Nat.{Ordering}
use Prim.Native.Nat.{ℕ, suc, compare}
use Rattle.std.specs.Prelude.{Bool, true, false, ◌||◌, cond, List, [], ◌∷◌, ◌++◌, map, ltb, eqb, length, take, drop}
use Rattle.std.proofs.Math.Option.{Option, none, some}
use Rattle.laws.specs.Lists.{any, is_empty}
use Rattle.definition.specs.Limits.{Sample}
use Rattle.definition.specs.Stretch.{Stretch, stretches}
use Rattle.definition.specs.Threading.{Ends, eq_ends, compare_ends, Edge, Graph, leaving, entering, number_of, follow, sink_of, symbolic_of}

-- The branches below a node, in rising order of their edges: the first branch's edge, its node's count, the branches below that node, and the
-- branches after it. This is the first child and the next sibling of a node store, and it is one inductive type.
pub data Branches : Type 0 where
  bare : Branches
  branch : Ends → ℕ → Branches → Branches → Branches

-- the tree of a vertex: `count` is its root's
pub record Tree : Type 0 where
  pub vertex : ℕ
  pub count : ℕ
  pub below : Branches

unfoldable pub has_branch : Branches → Bool
has_branch bare = false
has_branch (branch e c below next) = true

-- ---- counting

-- a child of the node whose branches these are is reached by the edge e: it gains 1, and is made where it is not there
unfoldable pub reach : Ends → Branches → Branches
reach e bare = branch e 1 bare bare
reach e (branch f c below next) =
    elim (compare_ends e f) [
      | Ordering.lt ↦ branch e 1 bare (branch f c below next)
      | Ordering.eq ↦ branch f (suc c) below next
      | Ordering.gt ↦ branch f c below (reach e next)
    ]

-- "the node left and the child reached each gain 1": the node at the end of the path p takes the edge e. (At an empty path the node is the root,
-- whose own count stands in the tree.)
unfoldable pub take_at : Branches → List Ends → Ends → Branches
take_at bare [] e = reach e bare
take_at bare (d ∷ p) e = bare
take_at (branch f c below next) [] e = reach e (branch f c below next)
take_at (branch f c below next) (d ∷ p) e =
    elim (eq_ends d f) [ true ↦ branch f (cond (is_empty p) (suc c) c) (take_at below p e) next | false ↦ branch f c below (take_at next (d ∷ p) e) ]

-- ---- the table of trees, in rising order of their vertices

-- The tree at v changes by f; where there is none, a tree with count 0 is put in its place first.
unfoldable pub at_tree : ℕ → (Tree → Tree) → List Tree → List Tree
at_tree v f [] = f (record { vertex = v; count = 0; below = bare }) ∷ []
at_tree v f (t ∷ ts) =
    elim (compare v t.vertex) [
      | Ordering.lt ↦ f (record { vertex = v; count = 0; below = bare }) ∷ t ∷ ts
      | Ordering.eq ↦ f t ∷ ts
      | Ordering.gt ↦ t ∷ at_tree v f ts
    ]

unfoldable pub tree_at : List Tree → ℕ → Option Branches
tree_at [] v = none
tree_at (t ∷ ts) v = elim (eqb t.vertex v) [ true ↦ some t.below | false ↦ tree_at ts v ]

-- ---- one walk

-- an open tree of this walk: its vertex, and the edges taken since it was opened
pub record Opened : Type 0 where
  pub vertex : ℕ
  pub path : List Ends

pub record Walk : Type 0 where
  pub trees : List Tree
  pub opened : List Opened

-- "Leaving a vertex opens its tree if the vertex has two or more out-edges, or if a target has two or more in-edges."
-- (Rust: vertex_warrants_junction_tree)
unfoldable pub opens : List Edge → ℕ → Bool
opens es v = ltb 1 (length (leaving es v)) || any (λ e. ltb 1 (length (entering es e.ends.to))) (leaving es v)

-- the tree of an open tree takes the edge e
unfoldable pub growth : List Ends → Ends → Tree → Tree
growth p e t = record { vertex = t.vertex; count = cond (is_empty p) (suc t.count) t.count; below = take_at t.below p e }

unfoldable pub grow_all : List Opened → Ends → List Tree → List Tree
grow_all [] e ts = ts
grow_all (o ∷ os) e ts = grow_all os e (at_tree o.vertex (growth o.path e) ts)

-- "every open tree takes the edge". (Rust: add_edge_to_junction_tree_nodes)
unfoldable pub take_edge : Ends → Walk → Walk
take_edge e w =
    record { trees = grow_all w.opened e w.trees; opened = map (λ o. record { vertex = o.vertex; path = o.path ++ e ∷ [] }) w.opened }

-- "the root's count rises and the tree joins this walk's open trees at its root, once for each opening"
unfoldable pub open_tree : ℕ → Walk → Walk
open_tree v w =
    record {
      trees = at_tree v (λ t. record { vertex = v; count = suc t.count; below = t.below }) w.trees;
      opened = w.opened ++ record { vertex = v; path = [] } ∷ [];
    }

-- the walk goes over the edge e of the graph with the edges es: "if the vertex has other than one out-edge, every open tree takes the edge"
unfoldable pub pass : List Edge → Ends → Walk → Walk
pass es e w =
    let w' : Walk = elim (opens es e.from) [ true ↦ open_tree e.from w | false ↦ w ] in
    elim (eqb (length (leaving es e.from)) 1) [ true ↦ w' | false ↦ take_edge e w' ]

-- The walk from the vertex v over the bases that follow: each base by the out-edge whose target ends in it, which threading made, so that none is
-- missing (theorems: Visits). "A walk ending at the sink takes the symbolic edge in its open trees."
unfoldable pub walk_bases : Graph → ℕ → Ends → ℕ → List ℕ → Walk → Walk
walk_bases g sink symbolic v [] w = elim (eqb v sink) [ true ↦ take_edge symbolic w | false ↦ w ]
walk_bases g sink symbolic v (b ∷ bs) w =
    elim (follow g v b) [ none ↦ w | some e ↦ walk_bases g sink symbolic e.ends.to bs (pass g.edges e.ends w) ]

-- ---- the whole pass

-- "Each read stretch longer than k is walked again", from the vertex of its first kmer; no tree is open at its start.
unfoldable pub walk_stretch : ℕ → Graph → ℕ → Ends → Stretch → List Tree → List Tree
walk_stretch k g sink symbolic r ts =
    elim (ltb k (length r.bytes)) [
      | true ↦ (walk_bases g sink symbolic (number_of g.kmers (take k r.bytes)) (drop k r.bytes) (record { trees = ts; opened = [] })).trees
      | false ↦ ts
    ]

unfoldable pub walk_all : ℕ → Graph → ℕ → Ends → List Stretch → List Tree → List Tree
walk_all k g sink symbolic [] ts = ts
walk_all k g sink symbolic (r ∷ rs) ts = walk_all k g sink symbolic rs (walk_stretch k g sink symbolic r ts)

-- the trees of the graph g, which is that before the symbolic edge (Rust: generate_junction_trees)
unfoldable pub evidence : Sample → Graph → List Tree
evidence s g = walk_all s.k g (sink_of s g) (symbolic_of s g) (stretches s) []

-- ---- the nodes as they are written: edge, count and depth, a root with its vertex as both ends at depth 0, each tree depth first in edge order

pub record Node : Type 0 where
  pub ends : Ends
  pub count : ℕ
  pub depth : ℕ

unfoldable pub nodes_below : ℕ → Branches → List Node
nodes_below d bare = []
nodes_below d (branch e c below next) = record { ends = e; count = c; depth = d } ∷ (nodes_below (suc d) below ++ nodes_below d next)

unfoldable pub nodes : List Tree → List Node
nodes [] = []
nodes (t ∷ ts) = record { ends = record { from = t.vertex; to = t.vertex }; count = t.count; depth = 0 } ∷ (nodes_below 1 t.below ++ nodes ts)

-- A key: to unfold it is to unfold every definition of this file. The worked cases compute with it; a proof names only what it needs.
unfoldable pub open_evidence : Unit {0}
unfolding has_branch reach take_at at_tree tree_at opens growth grow_all take_edge open_tree pass walk_bases walk_stretch walk_all evidence nodes_below nodes
open_evidence = tt
