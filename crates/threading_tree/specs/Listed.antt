-- The nodes as they are written: the definition's list is that of the one row of roots, so one depth-first walk from slot 0 writes it; and its length is
-- the number of nodes, which refusal 9 is about.
use Rattle.std.specs.Prelude.{◌≡◌, refl, ℕ, suc, ◌+◌, List, [], ◌∷◌, ◌++◌, length}
use Rattle.std.proofs.Common.{ap, ◌∙◌, arith, length-append}
use Rattle.definition.specs.Evidence.{Branches, bare, branch, Tree, Node, nodes_below, nodes}
use Rattle.threading_node.specs.Ends.{ends}
use Rattle.threading_node.specs.Nodes.{Nodes, nil, node, erase, size}
use Rattle.threading_tree.specs.Forest.{forest}

-- how many nodes the definition's branches have
unfoldable pub size_b : Branches → ℕ
size_b bare = 0
size_b (branch e c b x) = suc (size_b b + size_b x)

pub size-erase : (t : Nodes) → size_b (erase t) ≡ size t
unfolding erase size size_b
size-erase nil = refl
size-erase (node i e c b x) = let p = size-erase b in let q = size-erase x in omega arith

pub nodes-forest : (ts : List Tree) → nodes ts ≡ nodes_below 0 (forest ts)
unfolding nodes nodes_below forest
nodes-forest [] = refl
nodes-forest (t ∷ ts) = ap (λ (l : List Node). record { ends = ends t.vertex t.vertex; count = t.count; depth = 0 } ∷ (nodes_below 1 t.below ++ l)) (nodes-forest ts)

pub nodes-many : (d : ℕ) (b : Branches) → length (nodes_below d b) ≡ size_b b
unfolding nodes_below size_b
nodes-many d bare = refl
nodes-many d (branch e c b x) =
    let a = length-append (nodes_below (suc d) b) (nodes_below d x) in
    let p = nodes-many (suc d) b in
    let q = nodes-many d x in
    omega arith

pub forest-nodes : (ts : List Tree) → length (nodes ts) ≡ size_b (forest ts)
forest-nodes ts = ap length (nodes-forest ts) ∙ nodes-many 0 (forest ts)
