-- The definition's trees only grow, so a step that was refused for want of a node refuses the whole run; and how many open trees a step leaves.
use Rattle.std.specs.Prelude.{◌≡◌, refl, Bool, true, false, List, [], ◌∷◌, ◌++◌, map, ltb, eqb, length, take, drop, ℕ, suc, ◌+◌, ◌*◌, ◌^◌, ◌<◌, ◌≤◌}
use Rattle.std.proofs.Common.{ap, suc-mul, mul-suc, mul-le-mul_right, arith, length-append}
use Prim.Native.Nat.{compare, Ordering}
use Rattle.std.proofs.Math.Option.{Option, none, some}
use Rattle.definition.specs.Stretch.{Stretch}
use Rattle.definition.specs.Threading.{Ends, compare_ends, eq_ends, Edge, Graph, leaving, follow, number_of}
use Rattle.definition.specs.Evidence.{Branches, bare, branch, Tree, reach, take_at, at_tree, Opened, Walk, opens, growth, grow_all, take_edge, open_tree, pass, walk_bases, walk_stretch, walk_all, nodes}
use Rattle.threading_tree.specs.Forest.{forest}
use Rattle.threading_tree.specs.Listed.{size_b, forest-nodes}

-- ---- branches

reach-grows : (e : Ends) (b : Branches) → size_b b ≤ size_b (reach e b)
unfolding size_b reach
reach-grows e bare = omega arith
reach-grows e (branch f c b x) = go (compare_ends e f) refl (reach-grows e x)
  where
    go : (o : Ordering) → compare_ends e f ≡ o → size_b x ≤ size_b (reach e x) → size_b (branch f c b x) ≤ size_b (reach e (branch f c b x))
    go Ordering.lt h ih = rw (h, reach) (omega arith)
    go Ordering.eq h ih = rw (h, reach) (omega arith)
    go Ordering.gt h ih = rw (h, reach) (omega arith)

take-grows : (e : Ends) (b : Branches) (p : List Ends) → size_b b ≤ size_b (take_at b p e)
unfolding size_b take_at
take-grows e bare [] = reach-grows e bare
take-grows e bare (d ∷ p) = omega arith
take-grows e (branch f c b x) [] = reach-grows e (branch f c b x)
take-grows e (branch f c b x) (d ∷ p) = go (eq_ends d f) refl (take-grows e b p) (take-grows e x (d ∷ p))
  where
    go : (o : Bool) → eq_ends d f ≡ o → size_b b ≤ size_b (take_at b p e) → size_b x ≤ size_b (take_at x (d ∷ p) e) → size_b (branch f c b x) ≤ size_b (take_at (branch f c b x) (d ∷ p) e)
    go true h ihb ihx = rw (h, take_at) (omega arith)
    go false h ihb ihx = rw (h, take_at) (omega arith)

-- ---- the table of trees

at-grows : (v : ℕ) (f : Tree → Tree) → ((t : Tree) → size_b t.below ≤ size_b (f t).below) → (ts : List Tree) → size_b (forest ts) ≤ size_b (forest (at_tree v f ts))
unfolding size_b forest at_tree
at-grows v f h [] = omega arith
at-grows v f h (t ∷ ts) = go (compare v t.vertex) refl (at-grows v f h ts)
  where
    go : (o : Ordering) → compare v t.vertex ≡ o → size_b (forest ts) ≤ size_b (forest (at_tree v f ts)) → size_b (forest (t ∷ ts)) ≤ size_b (forest (at_tree v f (t ∷ ts)))
    go Ordering.lt z ih = rw (z, at_tree) (omega arith)
    go Ordering.eq z ih = let q = h t in rw (z, at_tree) (omega arith)
    go Ordering.gt z ih = rw (z, at_tree) (omega arith)

grow-grows : (os : List Opened) (e : Ends) (ts : List Tree) → size_b (forest ts) ≤ size_b (forest (grow_all os e ts))
unfolding grow_all growth
grow-grows [] e ts = omega arith
grow-grows (o ∷ os) e ts =
    let a = at-grows o.vertex (growth o.path e) (λ t. take-grows e t.below o.path) ts in
    let b = grow-grows os e (at_tree o.vertex (growth o.path e) ts) in
    omega arith

as-nodes : (ts us : List Tree) → size_b (forest ts) ≤ size_b (forest us) → length (nodes ts) ≤ length (nodes us)
as-nodes ts us h = let a = forest-nodes ts in let b = forest-nodes us in omega arith

-- ---- a walk

-- so many nodes have the walk's trees
abbrev pub many : Walk → ℕ
many w = length (nodes w.trees)

pub open-grows : (v : ℕ) (w : Walk) → many w ≤ many (open_tree v w)
unfolding open_tree
open-grows v w =
    as-nodes w.trees (open_tree v w).trees (at-grows v (λ t. record { vertex = v; count = suc t.count; below = t.below }) (λ t. omega arith) w.trees)

pub take-edge-grows : (e : Ends) (w : Walk) → many w ≤ many (take_edge e w)
unfolding take_edge
take-edge-grows e w = as-nodes w.trees (take_edge e w).trees (grow-grows w.opened e w.trees)

pub pass-grows : (es : List Edge) (e : Ends) (w : Walk) → many w ≤ many (pass es e w)
unfolding pass
pass-grows es e w = go (opens es e.from) (eqb (length (leaving es e.from)) 1) refl refl
  where
    go : (o q : Bool) → opens es e.from ≡ o → eqb (length (leaving es e.from)) 1 ≡ q → many w ≤ many (pass es e w)
    go true true y z = rw (z, pass, y) (open-grows e.from w)
    go true false y z = let a = open-grows e.from w in let b = take-edge-grows e (open_tree e.from w) in rw (z, pass, y) (omega arith)
    go false true y z = rw (z, pass, y) (omega arith)
    go false false y z = rw (z, pass, y) (take-edge-grows e w)

pub walk-grows : (g : Graph) (sink : ℕ) (symbolic : Ends) (v : ℕ) (bs : List ℕ) (w : Walk) → many w ≤ many (walk_bases g sink symbolic v bs w)
unfolding walk_bases
walk-grows g sink symbolic v [] w = go (eqb v sink) refl
  where
    go : (o : Bool) → eqb v sink ≡ o → many w ≤ many (walk_bases g sink symbolic v [] w)
    go true z = rw (z, walk_bases) (take-edge-grows symbolic w)
    go false z = rw (z, walk_bases) (omega arith)
walk-grows g sink symbolic v (b ∷ bs) w = go (follow g v b) refl (λ e. walk-grows g sink symbolic e.ends.to bs (pass g.edges e.ends w))
  where
    go : (o : Option Edge) → follow g v b ≡ o
        → ((e : Edge) → many (pass g.edges e.ends w) ≤ many (walk_bases g sink symbolic e.ends.to bs (pass g.edges e.ends w)))
        → many w ≤ many (walk_bases g sink symbolic v (b ∷ bs) w)
    go none z ih = rw (z, walk_bases) (omega arith)
    go (some e) z ih = let p = pass-grows g.edges e.ends w in let q = ih e in rw (z, walk_bases) (omega arith)

pub stretch-grows : (k : ℕ) (g : Graph) (sink : ℕ) (symbolic : Ends) (r : Stretch) (ts : List Tree) → length (nodes ts) ≤ length (nodes (walk_stretch k g sink symbolic r ts))
unfolding walk_stretch
stretch-grows k g sink symbolic r ts = go (ltb k (length r.bytes)) refl
  where
    go : (o : Bool) → ltb k (length r.bytes) ≡ o → length (nodes ts) ≤ length (nodes (walk_stretch k g sink symbolic r ts))
    go true z = rw (z, walk_stretch) (walk-grows g sink symbolic (number_of g.kmers (take k r.bytes)) (drop k r.bytes) (record { trees = ts; opened = [] }))
    go false z = rw (z, walk_stretch) (omega arith)

pub all-grows : (k : ℕ) (g : Graph) (sink : ℕ) (symbolic : Ends) (rs : List Stretch) (ts : List Tree) → length (nodes ts) ≤ length (nodes (walk_all k g sink symbolic rs ts))
unfolding walk_all
all-grows k g sink symbolic [] ts = omega arith
all-grows k g sink symbolic (r ∷ rs) ts =
    let a = stretch-grows k g sink symbolic r ts in
    let b = all-grows k g sink symbolic rs (walk_stretch k g sink symbolic r ts) in
    omega arith

-- ---- open trees, and the bound of the counts

pub open-many : (v : ℕ) (w : Walk) → length (open_tree v w).opened ≡ length w.opened + 1
unfolding open_tree
open-many v w = length-append w.opened (record { vertex = v; path = [] } ∷ [])

pub take-many : (e : Ends) (w : Walk) → length (take_edge e w).opened ≡ length w.opened
unfolding take_edge
take-many e w = map-many w.opened
  where
    step : Opened → Opened
    step o = record { vertex = o.vertex; path = o.path ++ e ∷ [] }

    map-many : (os : List Opened) → length (map step os) ≡ length os
    map-many [] = refl
    map-many (o ∷ os) = ap suc (map-many os)

-- After p steps of all walks, each an opening and a taking at most, no count is above p * (p + 1): one bound that a caller can keep.
pub bound-step : (p b o : ℕ) → b ≤ p * suc p → o ≤ p → (b + 1) + (o + 1) ≤ suc p * suc (suc p)
bound-step p b o h k =
    let a = mul-suc p p in
    let c = suc-mul p (suc (suc p)) in
    let d = mul-suc p (suc p) in
    omega arith

-- so many steps a run has at most, and then no count passes a u32
pub bound-fits : (p b o : ℕ) → p ≤ 32768 → b ≤ p * suc p → o ≤ p → b + (o + 2) < 2 ^ 32
bound-fits p b o h k q =
    let a : p * suc p ≤ 32768 * suc p = mul-le-mul_right (suc p) h in
    omega arith
