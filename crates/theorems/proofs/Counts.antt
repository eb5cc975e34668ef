-- Counts stay small: in the trees of a sample that passed its check no count of a node, and no sum of the counts of a node's children, passes 65,535.
-- At each depth the counts of all trees together are at most twice the openings of trees, and a stretch opens at most one for each base beyond its first k.
use mathlib.Core.Path.{◌≡◌, refl}
use Prim.Native.Nat.{ℕ, zero, suc, ◌+◌, ◌-◌, ◌*◌, ◌≤◌, compare, Ordering}
use native.Mathlib.Omega.{arith}
use mathlib.Core.Bool.{Bool, true, false, not, ◌&&◌, cond}
use mathlib.Core.List.{List, [], ◌∷◌, ◌++◌, map}
use mathlib.Core.Option.{Option, none, some}
use lib.Dec.{ltb, eqb}
use lib.ListN.{length, take, drop, length-drop}
use Rattle.laws.specs.Lists.{is_empty, keep, total}
use Rattle.laws.specs.Numbers.{reaches}
use Rattle.laws.specs.ListLaws.{All, nil, cons, all_head, all_tail, all_append, all_keep, all_map, total-append}
use Rattle.definition.specs.Limits.{Sample, reads_fit}
use Rattle.definition.specs.Stretch.{Stretch, stretches}
use Rattle.definition.specs.Threading.{Ends, eq_ends, compare_ends, Edge, support_of, Graph, leaving, number_of, follow, sink_of, symbolic_of}
use Rattle.definition.specs.Evidence.{Branches, bare, branch, has_branch, Tree, reach, take_at, at_tree, Opened, Walk, opens, growth, grow_all, take_edge, open_tree, pass, walk_bases, walk_stretch, walk_all, evidence}
use Rattle.definition.specs.Search.{SearchInput, Offer, among, sum_of, child, walk_trees, real_branches, unseen, by_support, offers}
use Rattle.theorems.proofs.Walks.{all-best}
use Rattle.theorems.proofs.Sizes.{size_of, stretches-size, bases-size}

-- ---- what is said

-- no count of a node and no sum of the counts of a row of siblings passes n
abbrev pub Small : ℕ → Branches → Type 0
Small n bare = Unit {0}
Small n (branch e c below next) = (c ≤ n) × (sum_of (branch e c below next) ≤ n) × Small n below × Small n next

-- nor does the root's count
pub record SmallTree (n : ℕ) (t : Tree) : Type 0 where
  pub root : t.count ≤ n
  pub children : sum_of t.below ≤ n
  pub below : Small n t.below

-- ---- the counts at one depth

-- of the nodes d rows below these branches
unfoldable pub depth_sum : ℕ → Branches → ℕ
depth_sum d bare = 0
depth_sum zero (branch e c below next) = c + depth_sum zero next
depth_sum (suc d) (branch e c below next) = depth_sum d below + depth_sum (suc d) next

-- of the nodes of a tree at depth d, where the root has depth 0
unfoldable pub tree_sum : ℕ → Tree → ℕ
tree_sum zero t = t.count
tree_sum (suc d) t = depth_sum d t.below

-- What an open tree at the end of this path may yet add at depth d: 2 where the path is shorter, 1 where it is as long, and else 0.
unfoldable pub due : ℕ → List Ends → ℕ
due zero [] = 1
due zero (e ∷ p) = 0
due (suc d) [] = 2
due (suc d) (e ∷ p) = due d p

unfoldable pub due_of : ℕ → Opened → ℕ
due_of d o = due d o.path

-- ---- a node takes an edge

due-longer : (d : ℕ) (p : List Ends) (e : Ends) → due d (p ++ e ∷ []) ≤ due d p
unfolding due
due-longer zero [] e = omega arith
due-longer zero (x ∷ p) e = omega arith
due-longer (suc zero) [] e = omega arith
due-longer (suc (suc d)) [] e = omega arith
due-longer (suc d) (x ∷ p) e = due-longer d p e

-- a child is reached: one more in the row itself
reach_here : (e : Ends) (b : Branches) → depth_sum 0 (reach e b) ≡ suc (depth_sum 0 b)
unfolding reach depth_sum
reach_here e bare = refl
reach_here e (branch f c below next) = go (compare_ends e f) refl (reach_here e next)
  where
    go : (o : Ordering) → compare_ends e f ≡ o → depth_sum 0 (reach e next) ≡ suc (depth_sum 0 next)
        → depth_sum 0 (reach e (branch f c below next)) ≡ suc (c + depth_sum 0 next)
    go Ordering.lt u ih = rw (u, reach) (omega arith)
    go Ordering.eq u ih = rw (u, reach) (omega arith)
    go Ordering.gt u ih = rw (u, reach) (omega arith)

reach-below : (d : ℕ) (e : Ends) (b : Branches) → depth_sum (suc d) (reach e b) ≡ depth_sum (suc d) b
unfolding reach depth_sum
reach-below d e bare = omega arith
reach-below d e (branch f c below next) = go (compare_ends e f) refl (reach-below d e next)
  where
    go : (o : Ordering) → compare_ends e f ≡ o → depth_sum (suc d) (reach e next) ≡ depth_sum (suc d) next
        → depth_sum (suc d) (reach e (branch f c below next)) ≡ depth_sum d below + depth_sum (suc d) next
    go Ordering.lt u ih = rw (u, reach) (omega arith)
    go Ordering.eq u ih = rw (u, reach) (omega arith)
    go Ordering.gt u ih = rw (u, reach) (omega arith)

-- the children of a node gain what is no longer due
reach-due : (d : ℕ) (e : Ends) (b : Branches) → depth_sum d (take_at b [] e) + due d [] ≤ depth_sum d b + 2
unfolding take_at due
reach-due zero e bare = omega (arith, reach_here e bare)
reach-due zero e (branch f c below next) = omega (arith, reach_here e (branch f c below next))
reach-due (suc d) e bare = omega (arith, reach-below d e bare)
reach-due (suc d) e (branch f c below next) = omega (arith, reach-below d e (branch f c below next))

take-due : (d : ℕ) (x : Ends) (p : List Ends) (e : Ends) (b : Branches) → depth_sum d (take_at b (x ∷ p) e) + due d (p ++ e ∷ []) ≤ depth_sum d b + due d p
unfolding take_at depth_sum due
take-due d x p e bare = omega (arith, due-longer d p e)
take-due zero x p e (branch f c below next) = go (eq_ends x f) refl (take-due zero x p e next)
  where
    here : (p : List Ends) → cond (is_empty p) (suc c) c + depth_sum 0 next + due 0 (p ++ e ∷ []) ≤ c + depth_sum 0 next + due 0 p
    here [] = omega arith
    here (y ∷ q) = omega arith

    go : (z : Bool) → eq_ends x f ≡ z → depth_sum 0 (take_at next (x ∷ p) e) + due 0 (p ++ e ∷ []) ≤ depth_sum 0 next + due 0 p
        → depth_sum 0 (take_at (branch f c below next) (x ∷ p) e) + due 0 (p ++ e ∷ []) ≤ c + depth_sum 0 next + due 0 p
    go true u ih = rw (u, take_at) (here p)
    go false u ih = rw (u, take_at) (omega arith)
take-due (suc d) x p e (branch f c below next) = go (eq_ends x f) refl (λ y q. take-due d y q e below) (take-due (suc d) x p e next)
  where
    under : (p : List Ends) → ((y : Ends) (q : List Ends) → depth_sum d (take_at below (y ∷ q) e) + due d (q ++ e ∷ []) ≤ depth_sum d below + due d q)
        → depth_sum d (take_at below p e) + due (suc d) (p ++ e ∷ []) ≤ depth_sum d below + due (suc d) p
    under [] ih = reach-due d e below
    under (y ∷ q) ih = ih y q

    go : (z : Bool) → eq_ends x f ≡ z → ((y : Ends) (q : List Ends) → depth_sum d (take_at below (y ∷ q) e) + due d (q ++ e ∷ []) ≤ depth_sum d below + due d q)
        → depth_sum (suc d) (take_at next (x ∷ p) e) + due (suc d) (p ++ e ∷ []) ≤ depth_sum (suc d) next + due (suc d) p
        → depth_sum (suc d) (take_at (branch f c below next) (x ∷ p) e) + due (suc d) (p ++ e ∷ []) ≤ depth_sum d below + depth_sum (suc d) next + due (suc d) p
    go true u ih jh = rw (u, take_at) (omega (arith, under p ih))
    go false u ih jh = rw (u, take_at) (omega arith)

growth-due : (d : ℕ) (p : List Ends) (e : Ends) (t : Tree) → tree_sum d (growth p e t) + due d (p ++ e ∷ []) ≤ tree_sum d t + due d p
unfolding growth tree_sum due
growth-due zero [] e t = omega arith
growth-due zero (x ∷ p) e t = omega arith
growth-due (suc d) [] e t = reach-due d e t.below
growth-due (suc d) (x ∷ p) e t = take-due d x p e t.below

-- ---- the table of trees

-- a new tree has no counts
fresh : ℕ → Tree
fresh v = record { vertex = v; count = 0; below = bare }

fresh-sum : (d v : ℕ) → tree_sum d (fresh v) ≡ 0
unfolding fresh tree_sum depth_sum
fresh-sum zero v = refl
fresh-sum (suc d) v = refl

-- Where a change of one tree takes away at least a and adds at most b, the sum of all trees changes no more, a new tree counting 0 before.
pub at_sum : (d v : ℕ) (f : Tree → Tree) (a b : ℕ) (ts : List Tree) → ((t : Tree) → tree_sum d (f t) + a ≤ tree_sum d t + b)
    → total (tree_sum d) (at_tree v f ts) + a ≤ total (tree_sum d) ts + b
unfolding at_tree fresh
at_sum d v f a b [] h = omega (arith, h (fresh v), fresh-sum d v)
at_sum d v f a b (t ∷ ts) h = go (compare v t.vertex) refl (at_sum d v f a b ts h)
  where
    go : (o : Ordering) → compare v t.vertex ≡ o → total (tree_sum d) (at_tree v f ts) + a ≤ total (tree_sum d) ts + b
        → total (tree_sum d) (at_tree v f (t ∷ ts)) + a ≤ tree_sum d t + total (tree_sum d) ts + b
    go Ordering.lt u ih = rw (u, at_tree) (omega (arith, h (fresh v), fresh-sum d v))
    go Ordering.eq u ih = rw (u, at_tree) (omega (arith, h t))
    go Ordering.gt u ih = rw (u, at_tree) (omega arith)

-- ---- a walk: the counts at depth d with what its open trees may yet add

unfoldable pub walk_sum : ℕ → Walk → ℕ
walk_sum d w = total (tree_sum d) w.trees + total (due_of d) w.opened

unfoldable pub longer : Ends → Opened → Opened
longer e o = record { vertex = o.vertex; path = o.path ++ e ∷ [] }

pub grow-sum : (d : ℕ) (e : Ends) (os : List Opened) (ts : List Tree)
    → total (tree_sum d) (grow_all os e ts) + total (due_of d) (map (longer e) os) ≤ total (tree_sum d) ts + total (due_of d) os
unfolding grow_all due_of longer
grow-sum d e [] ts = omega arith
grow-sum d e (o ∷ os) ts =
    let f : Tree → Tree = growth o.path e in
    omega (
      arith,
      grow-sum d e os (at_tree o.vertex f ts),
      at_sum d o.vertex f (due d (o.path ++ e ∷ [])) (due d o.path) ts (growth-due d o.path e),
    )

pub take-sum : (d : ℕ) (e : Ends) (w : Walk) → walk_sum d (take_edge e w) ≤ walk_sum d w
unfolding take_edge walk_sum longer
take-sum d e w = grow-sum d e w.opened w.trees

opening : ℕ → Tree → Tree
opening v t = record { vertex = v; count = suc t.count; below = t.below }

-- an opening adds at most 2
open-due : (d v : ℕ) (t : Tree) → tree_sum d (opening v t) + due d [] ≤ tree_sum d t + 2
unfolding opening tree_sum due
open-due zero v t = omega arith
open-due (suc d) v t = omega arith

pub open-sum : (d v : ℕ) (w : Walk) → walk_sum d (open_tree v w) ≤ walk_sum d w + 2
unfolding open_tree walk_sum opening due_of
open-sum d v w = rw (total-append (due_of d)) (omega (arith, at_sum d v (opening v) (due d []) 2 w.trees (open-due d v)))

pub pass-sum : (d : ℕ) (es : List Edge) (e : Ends) (w : Walk) → walk_sum d (pass es e w) ≤ walk_sum d w + 2
unfolding pass
pass-sum d es e w = go (opens es e.from) refl (eqb (length (leaving es e.from)) 1) refl
  where
    go : (y : Bool) → opens es e.from ≡ y → (z : Bool) → eqb (length (leaving es e.from)) 1 ≡ z → walk_sum d (pass es e w) ≤ walk_sum d w + 2
    go true a true b = rw (b, pass, a) (open-sum d e.from w)
    go true a false b = rw (b, pass, a) (omega (arith, take-sum d e (open_tree e.from w), open-sum d e.from w))
    go false a true b = rw (b, pass, a) (omega arith)
    go false a false b = rw (b, pass, a) (omega (arith, take-sum d e w))

-- the bases of a stretch beyond the first k
unfoldable pub beyond : ℕ → Stretch → ℕ
beyond k r = length r.bytes - k

-- those of all stretches are at least 2 fewer than all bases, unless there are none
pub beyond-size : (k : ℕ) (rs : List Stretch) → 2 ≤ k → total (beyond k) rs ≤ total size_of rs - 2
unfolding beyond
beyond-size k [] h = omega arith
beyond-size k (r ∷ rs) h = omega (arith, beyond-size k rs h)

module _ (d : ℕ) (g : Graph) (sink : ℕ) (symbolic : Ends) where
  pub bases-sum : (v : ℕ) (bs : List ℕ) (w : Walk) → walk_sum d (walk_bases g sink symbolic v bs w) ≤ walk_sum d w + 2 * length bs
  unfolding walk_bases
  bases-sum v [] w = go (eqb v sink) refl
    where
      go : (z : Bool) → eqb v sink ≡ z → walk_sum d (walk_bases g sink symbolic v [] w) ≤ walk_sum d w + 2 * 0
      go true u = rw (u, walk_bases) (omega (arith, take-sum d symbolic w))
      go false u = rw (u, walk_bases) (omega arith)
  bases-sum v (b ∷ bs) w = go (follow g v b) refl (λ x y. bases-sum x bs y)
    where
      go : (o : Option Edge) → follow g v b ≡ o
          → ((x : ℕ) (y : Walk) → walk_sum d (walk_bases g sink symbolic x bs y) ≤ walk_sum d y + 2 * length bs)
          → walk_sum d (walk_bases g sink symbolic v (b ∷ bs) w) ≤ walk_sum d w + 2 * suc (length bs)
      go none u ih = rw (u, walk_bases) (omega arith)
      go (some e) u ih =
          rw (u, walk_bases) (omega (arith, ih e.ends.to (pass g.edges e.ends w), pass-sum d g.edges e.ends w))

  -- a stretch adds at most 2 for each of its bases beyond the first k
  pub stretch-sum : (k : ℕ) (r : Stretch) (ts : List Tree)
      → total (tree_sum d) (walk_stretch k g sink symbolic r ts) ≤ total (tree_sum d) ts + 2 * (length r.bytes - k)
  unfolding walk_stretch walk_sum
  stretch-sum k r ts = go (ltb k (length r.bytes)) refl
    where
      go : (z : Bool) → ltb k (length r.bytes) ≡ z
          → total (tree_sum d) (walk_stretch k g sink symbolic r ts) ≤ total (tree_sum d) ts + 2 * (length r.bytes - k)
      go true u =
          rw (u, walk_stretch)
          (omega (
            arith,
            bases-sum (number_of g.kmers (take k r.bytes)) (drop k r.bytes) (record { trees = ts; opened = [] }),
            length-drop k r.bytes,
          ))
      go false u = rw (u, walk_stretch) (omega arith)

  pub walks-sum : (k : ℕ) (rs : List Stretch) (ts : List Tree)
      → total (tree_sum d) (walk_all k g sink symbolic rs ts) ≤ total (tree_sum d) ts + 2 * total (beyond k) rs
  unfolding walk_all beyond
  walks-sum k [] ts = omega arith
  walks-sum k (r ∷ rs) ts = omega (arith, walks-sum k rs (walk_stretch k g sink symbolic r ts), stretch-sum k r ts)

-- the counts of all trees at one depth
pub depth-sum : (s : Sample) (g : Graph) (d : ℕ) → reads_fit s ≡ true → 2 ≤ s.k → total (tree_sum d) (evidence s g) ≤ 65532
unfolding evidence
depth-sum s g d f h =
    omega (
      arith,
      walks-sum d g (sink_of s g) (symbolic_of s g) s.k (stretches s) [],
      beyond-size s.k (stretches s) h,
      stretches-size s,
      bases-size s f,
    )

-- ---- each count

row-sum : (b : Branches) → sum_of b ≡ depth_sum 0 b
unfolding sum_of depth_sum
row-sum bare = refl
row-sum (branch e c below next) = let h = row-sum next in omega arith

depth_small : (n : ℕ) (b : Branches) → ((d : ℕ) → depth_sum d b ≤ n) → Small n b
unfolding depth_sum sum_of
depth_small n bare h = tt
depth_small n (branch e c below next) h = (omega (arith, h 0), omega (arith, h 0, row-sum next), depth_small n below (λ d. omega (arith, h (suc d))), depth_small n next rest)
  where
    rest : (d : ℕ) → depth_sum d next ≤ n
    rest zero = omega (arith, h 0)
    rest (suc d) = omega (arith, h (suc d))

trees-small : (n : ℕ) (ts : List Tree) → ((d : ℕ) → total (tree_sum d) ts ≤ n) → All (SmallTree n) ts
unfolding tree_sum
trees-small n [] h = nil
trees-small n (t ∷ ts) h =
    let b : (d : ℕ) → depth_sum d t.below ≤ n = λ d. omega (arith, h (suc d)) in
    cons {x = t} (record { root = omega (arith, h 0); children = omega (arith, b 0, row-sum t.below); below = depth_small n t.below b })
    (trees-small n ts (λ d. omega (arith, h d)))

-- no count and no sum of siblings in the trees passes 65,535
pub counts-small : (s : Sample) (g : Graph) → reads_fit s ≡ true → 2 ≤ s.k → All (SmallTree 65535) (evidence s g)
counts-small s g f h = trees-small 65535 (evidence s g) (λ d. omega (arith, depth-sum s g d f h))

-- ---- what the search meets: the rows below a row of such a tree, and the offers of a fork

pub small-sum : (n : ℕ) (b : Branches) → Small n b → sum_of b ≤ n
unfolding sum_of
small-sum n bare h = omega arith
small-sum n (branch e c below next) h = h.1

pub small-child : (n : ℕ) (e : Ends) (b : Branches) → Small n b → Small n (child e b)
unfolding child
small-child n e bare h = tt
small-child n e (branch f c below next) h = go (eq_ends e f) refl (small-child n e next h.3)
  where
    go : (z : Bool) → eq_ends e f ≡ z → Small n (child e next) → Small n (child e (branch f c below next))
    go true u ih = rw (u, child) h.2
    go false u ih = rw (u, child) ih

pub small-walk : (n : ℕ) (e : Ends) (bs : List Branches) → All (Small n) bs → All (Small n) (walk_trees e bs)
unfolding walk_trees
small-walk n e bs a = all_keep has_branch (all_map (child e) (λ b h. small-child n e b h) a)

-- the total of a tree's real branches is the one handed in
real-total : (n : ℕ) (f : SearchInput) (outs : List Ends) (t : ℕ) (b : Branches) → t ≤ n → All (λ (o : Offer). o.out_of ≤ n) (real_branches f outs t b)
unfolding real_branches
real-total n f outs t bare h = nil
real-total n f outs t (branch e c below next) h = go (among e outs && not (eq_ends e f.symbolic)) (real-total n f outs t next h)
  where
    o : Offer
    o = record { ends = e; count = c; out_of = t; guided = true }

    go : (z : Bool) → All (λ (o : Offer). o.out_of ≤ n) (real_branches f outs t next)
        → All (λ (o : Offer). o.out_of ≤ n) (cond z (o ∷ real_branches f outs t next) (real_branches f outs t next))
    go true ih = cons {x = o} h ih
    go false ih = ih

support-total : (n : ℕ) (es ds : List Edge) → total support_of ds ≤ n
    → All (λ (o : Offer). o.out_of ≤ n) (map (λ (e : Edge). record { ends = e.ends; count = support_of e; out_of = total support_of ds; guided = false }) es)
support-total n [] ds h = nil
support-total n (e ∷ es) ds h = cons {x = record { ends = e.ends; count = support_of e; out_of = total support_of ds; guided = false }} h (support-total n es ds h)

-- no total of an offer passes n where no row of an active tree and no sum of the out-edges' supports does
pub offers-small : (n : ℕ) (f : SearchInput) (es : List Edge) (seen : List Ends) (bs : List Branches) → All (Small n) bs → total support_of es ≤ n
    → All (λ (o : Offer). o.out_of ≤ n) (offers f es seen bs)
unfolding offers unseen by_support
offers-small n f es seen [] a h = all_keep _ (support-total n (keep (λ (e : Edge). not (eqb (support_of e) 0) && not (e.is_ref && eqb (support_of e) 1)) es) es h)
offers-small n f es seen (b ∷ bs) a h = go (reaches (sum_of b) f.threshold) refl (λ l. offers-small n f es l bs (all_tail a) h)
  where
    real : All (λ (o : Offer). o.out_of ≤ n) (real_branches f (map (λ (e : Edge). e.ends) es) (sum_of b) b)
    real = real-total n f (map (λ (e : Edge). e.ends) es) (sum_of b) b (small-sum n b (all_head a))

    go : (z : Bool) → reaches (sum_of b) f.threshold ≡ z → ((l : List Ends) → All (λ (o : Offer). o.out_of ≤ n) (offers f es l bs))
        → All (λ (o : Offer). o.out_of ≤ n) (offers f es seen (b ∷ bs))
    go true e ih = rw (e, offers) (all_keep _ (all-best real))
    go false e ih = rw (e, offers) (all_append (all_keep _ real) (ih _))
