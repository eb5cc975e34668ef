-- The junction trees are in order: at every node the children strictly rise by their edges, the trees strictly rise by vertex, and every node has been counted.
use mathlib.Core.Path.{◌≡◌, refl, sym, ◌∙◌}
use Prim.Native.Nat.{ℕ, suc, ◌≤◌, ◌<◌, compare, Ordering}
use native.Mathlib.Omega.{arith}
use mathlib.Core.Bool.{Bool, true, false, cond}
use mathlib.Core.List.{List, [], ◌∷◌}
use mathlib.Core.Option.{Option, none, some}
use lib.Dec.{ltb, eqb}
use lib.ListN.{length, take, drop}
use Rattle.laws.specs.Lists.{is_empty}
use Rattle.laws.specs.Numbers.{lt-compare, eq-compare, gt-compare}
use Rattle.laws.specs.ListLaws.{All, nil, cons, all_head, all_tail, all_append, all-mono, all_map}
use Rattle.definition.specs.Limits.{Sample}
use Rattle.definition.specs.Stretch.{Stretch, stretches}
use Rattle.definition.specs.Threading.{Ends, eq_ends, compare_ends, Edge, Graph, leaving, number_of, follow, sink_of, symbolic_of}
use Rattle.definition.specs.Evidence.{Branches, bare, branch, Tree, reach, take_at, at_tree, Opened, Walk, opens, growth, grow_all, take_edge, open_tree, pass, walk_bases, walk_stretch, walk_all, evidence}
use Rattle.theorems.proofs.Tables.{ends-lt, ends-flip}

-- ---- what is said of branches and trees

-- the edges of all branches of a row come after the edge d
abbrev pub After : Ends → Branches → Type 0
After d bare = Unit {0}
After d (branch e c below next) = (compare_ends d e ≡ Ordering.lt) × After d next

-- the branches of a node strictly rise by their edges, and so do those of every node below
abbrev pub Rising : Branches → Type 0
Rising bare = Unit {0}
Rising (branch e c below next) = After e next × Rising below × Rising next

-- every node has a count of at least 1
abbrev pub Counted : Branches → Type 0
Counted bare = Unit {0}
Counted (branch e c below next) = (1 ≤ c) × Counted below × Counted next

-- a tree whose nodes are in order and counted, the root too
pub record Orderly (t : Tree) : Type 0 where
  pub root : 1 ≤ t.count
  pub rises : Rising t.below
  pub counted : Counted t.below

-- the trees strictly rise by vertex, so each vertex has at most one
abbrev pub TreesRise : List Tree → Type 0
TreesRise [] = Unit {0}
TreesRise (t ∷ ts) = All (λ (u : Tree). t.vertex < u.vertex) ts × TreesRise ts

-- a tree of the vertex v is there
data Stands (v : ℕ) : List Tree → Type 0 where
  first : {t : Tree} {ts : List Tree} → t.vertex ≡ v → Stands v (t ∷ ts)
  later : {t : Tree} {ts : List Tree} → Stands v ts → Stands v (t ∷ ts)

-- ---- a child is reached

after_less : (d e : Ends) (b : Branches) → compare_ends d e ≡ Ordering.lt → After e b → After d b
after_less d e bare h a = tt
after_less d e (branch f c below next) h a = (ends-lt d e f h a.0, after_less d e next h a.1)

reach-after : (d e : Ends) (b : Branches) → compare_ends d e ≡ Ordering.lt → After d b → After d (reach e b)
unfolding reach
reach-after d e bare h a = (h, tt)
reach-after d e (branch f c below next) h a = go (compare_ends e f) refl (reach-after d e next h a.1)
  where
    go : (o : Ordering) → compare_ends e f ≡ o → After d (reach e next) → After d (reach e (branch f c below next))
    go Ordering.lt u ih = rw (u, reach) (h, a)
    go Ordering.eq u ih = rw (u, reach) a
    go Ordering.gt u ih = rw (u, reach) (a.0, ih)

reach-rises : (e : Ends) (b : Branches) → Rising b → Rising (reach e b)
unfolding reach
reach-rises e bare r = (tt, tt, tt)
reach-rises e (branch f c below next) r = go (compare_ends e f) refl (reach-rises e next r.2)
  where
    go : (o : Ordering) → compare_ends e f ≡ o → Rising (reach e next) → Rising (reach e (branch f c below next))
    go Ordering.lt u ih = rw (u, reach) ((u, after_less e f next u r.0), tt, r)
    go Ordering.eq u ih = rw (u, reach) r
    go Ordering.gt u ih = rw (u, reach) (reach-after f e next (ends-flip e f u) r.0, r.1, ih)

reach-counted : (e : Ends) (b : Branches) → Counted b → Counted (reach e b)
unfolding reach
reach-counted e bare r = (omega arith, tt, tt)
reach-counted e (branch f c below next) r = go (compare_ends e f) refl (reach-counted e next r.2)
  where
    go : (o : Ordering) → compare_ends e f ≡ o → Counted (reach e next) → Counted (reach e (branch f c below next))
    go Ordering.lt u ih = rw (u, reach) (omega arith, tt, r)
    go Ordering.eq u ih = rw (u, reach) (omega arith, r.1, r.2)
    go Ordering.gt u ih = rw (u, reach) (r.0, r.1, ih)

-- ---- a node takes an edge

-- below the row itself nothing changes the row's edges
take_after : (x d : Ends) (p : List Ends) (e : Ends) (b : Branches) → After x b → After x (take_at b (d ∷ p) e)
unfolding take_at
take_after x d p e bare a = tt
take_after x d p e (branch f c below next) a = go (eq_ends d f) refl (take_after x d p e next a.1)
  where
    go : (z : Bool) → eq_ends d f ≡ z → After x (take_at next (d ∷ p) e) → After x (take_at (branch f c below next) (d ∷ p) e)
    go true u ih = rw (u, take_at) a
    go false u ih = rw (u, take_at) (a.0, ih)

take-rises : (p : List Ends) (e : Ends) (b : Branches) → Rising b → Rising (take_at b p e)
unfolding take_at
take-rises [] e bare r = reach-rises e bare r
take-rises [] e (branch f c below next) r = reach-rises e (branch f c below next) r
take-rises (d ∷ p) e bare r = tt
take-rises (d ∷ p) e (branch f c below next) r = go (eq_ends d f) refl (take-rises p e below r.1) (take-rises (d ∷ p) e next r.2)
  where
    go : (z : Bool) → eq_ends d f ≡ z → Rising (take_at below p e) → Rising (take_at next (d ∷ p) e) → Rising (take_at (branch f c below next) (d ∷ p) e)
    go true u ih jh = rw (u, take_at) (r.0, ih, r.2)
    go false u ih jh = rw (u, take_at) (take_after f d p e next r.0, r.1, jh)

more-counted : (z : Bool) (c : ℕ) → 1 ≤ c → 1 ≤ cond z (suc c) c
more-counted true c h = omega arith
more-counted false c h = h

take_counted : (p : List Ends) (e : Ends) (b : Branches) → Counted b → Counted (take_at b p e)
unfolding take_at
take_counted [] e bare r = reach-counted e bare r
take_counted [] e (branch f c below next) r = reach-counted e (branch f c below next) r
take_counted (d ∷ p) e bare r = tt
take_counted (d ∷ p) e (branch f c below next) r =
    go (eq_ends d f) refl (take_counted p e below r.1) (take_counted (d ∷ p) e next r.2)
  where
    go : (z : Bool) → eq_ends d f ≡ z → Counted (take_at below p e) → Counted (take_at next (d ∷ p) e) → Counted (take_at (branch f c below next) (d ∷ p) e)
    go true u ih jh = rw (u, take_at) (more-counted (is_empty p) c r.0, ih, r.2)
    go false u ih jh = rw (u, take_at) (r.0, r.1, jh)

growth-orderly : (p : List Ends) (e : Ends) (t : Tree) → Orderly t → Orderly (growth p e t)
unfolding growth
growth-orderly p e t h =
    record {
      root = more-counted (is_empty p) t.count h.root;
      rises = take-rises p e t.below h.rises;
      counted = take_counted p e t.below h.counted;
    }

-- ---- the table of trees, where the tree at v changes by f, which keeps the vertex

stands_after : (n v : ℕ) {ts : List Tree} → All (λ (u : Tree). n < u.vertex) ts → Stands v ts → n < v
stands_after n v nil m = elim m [ ]
stands_after n v (cons h a) (first e) = omega arith
stands_after n v (cons h a) (later m) = stands_after n v a m

module _ (v : ℕ) (f : Tree → Tree) (keeps : (t : Tree) → t.vertex ≡ v → (f t).vertex ≡ v) where
  new : Tree
  new = record { vertex = v; count = 0; below = bare }

  at_after : (n : ℕ) (ts : List Tree) → n < v → All (λ (u : Tree). n < u.vertex) ts → All (λ (u : Tree). n < u.vertex) (at_tree v f ts)
  unfolding at_tree new
  at_after n [] h a = let q : n < (f new).vertex = rw (keeps new refl) h in cons q nil
  at_after n (t ∷ ts) h a = go (compare v t.vertex) refl (at_after n ts h (all_tail a))
    where
      go : (o : Ordering) → compare v t.vertex ≡ o → All (λ (u : Tree). n < u.vertex) (at_tree v f ts)
          → All (λ (u : Tree). n < u.vertex) (at_tree v f (t ∷ ts))
      go Ordering.lt u ih = let q : n < (f new).vertex = rw (keeps new refl) h in rw (u, at_tree) (cons q a)
      go Ordering.eq u ih =
          let q : n < (f t).vertex = rw (keeps t (sym (eq-compare v t.vertex u))) h in
          rw (u, at_tree) (cons q (all_tail a))
      go Ordering.gt u ih = rw (u, at_tree) (cons (all_head a) ih)

  at-rise : (ts : List Tree) → TreesRise ts → TreesRise (at_tree v f ts)
  unfolding at_tree new
  at-rise [] r = (nil, tt)
  at-rise (t ∷ ts) r = go (compare v t.vertex) refl (at-rise ts r.1)
    where
      go : (o : Ordering) → compare v t.vertex ≡ o → TreesRise (at_tree v f ts) → TreesRise (at_tree v f (t ∷ ts))
      go Ordering.lt u ih =
          let l : v < t.vertex = lt-compare v t.vertex u in
          rw (u, at_tree) (rw (keeps new refl) (cons l (all-mono (λ (w : Tree) h. (let k : t.vertex < w.vertex = h in omega arith)) r.0)), r)
      go Ordering.eq u ih =
          let e : v ≡ t.vertex = eq-compare v t.vertex u in
          rw (u, at_tree) (rw (keeps t (sym e), e) r.0, r.1)
      go Ordering.gt u ih = rw (u, at_tree) (at_after t.vertex ts (gt-compare v t.vertex u) r.0, ih)

  -- a tree that is there stays
  at-stands : (w : ℕ) (ts : List Tree) → Stands w ts → Stands w (at_tree v f ts)
  unfolding at_tree
  at-stands w [] m = elim m [ ]
  at-stands w (t ∷ ts) m = go (compare v t.vertex) refl m (λ k. at-stands w ts k)
    where
      go : (o : Ordering) → compare v t.vertex ≡ o → Stands w (t ∷ ts) → (Stands w ts → Stands w (at_tree v f ts)) → Stands w (at_tree v f (t ∷ ts))
      go Ordering.lt u m ih = rw (u, at_tree) (later m)
      go Ordering.eq u (first e) ih = let x : v ≡ t.vertex = eq-compare v t.vertex u in rw (u, at_tree) (first (keeps t (sym x) ∙ x ∙ e))
      go Ordering.eq u (later k) ih = rw (u, at_tree) (later k)
      go Ordering.gt u (first e) ih = rw (u, at_tree) (first e)
      go Ordering.gt u (later k) ih = rw (u, at_tree) (later (ih k))

  -- the tree at v is there
  at_there : (ts : List Tree) → Stands v (at_tree v f ts)
  unfolding at_tree new
  at_there [] = first (keeps new refl)
  at_there (t ∷ ts) = go (compare v t.vertex) refl (at_there ts)
    where
      go : (o : Ordering) → compare v t.vertex ≡ o → Stands v (at_tree v f ts) → Stands v (at_tree v f (t ∷ ts))
      go Ordering.lt u ih = rw (u, at_tree) (first (keeps new refl))
      go Ordering.eq u ih = rw (u, at_tree) (first (keeps t (sym (eq-compare v t.vertex u))))
      go Ordering.gt u ih = rw (u, at_tree) (later ih)

  -- what f keeps holds of every tree still, where f makes it hold of a new one
  at_all : {P : Tree → Type 0} (ts : List Tree) → P (f new) → ((t : Tree) → P t → P (f t)) → All P ts → All P (at_tree v f ts)
  unfolding at_tree new
  at_all [] n k a = cons n nil
  at_all {P} (t ∷ ts) n k a = go (compare v t.vertex) refl (at_all ts n k (all_tail a))
    where
      go : (o : Ordering) → compare v t.vertex ≡ o → All P (at_tree v f ts) → All P (at_tree v f (t ∷ ts))
      go Ordering.lt u ih = rw (u, at_tree) (cons n a)
      go Ordering.eq u ih = rw (u, at_tree) (cons (k t (all_head a)) (all_tail a))
      go Ordering.gt u ih = rw (u, at_tree) (cons (all_head a) ih)

  -- the same where the tree at v is there, so that no new one is made
  at-all-there : {P : Tree → Type 0} (ts : List Tree) → ((t : Tree) → P t → P (f t)) → Stands v ts → TreesRise ts → All P ts → All P (at_tree v f ts)
  unfolding at_tree
  at-all-there {P} [] k m r a = elim m [ ]
  at-all-there {P} (t ∷ ts) k m r a = go (compare v t.vertex) refl m (λ h. at-all-there ts k h r.1 (all_tail a))
    where
      go : (o : Ordering) → compare v t.vertex ≡ o → Stands v (t ∷ ts) → (Stands v ts → All P (at_tree v f ts)) → All P (at_tree v f (t ∷ ts))
      go Ordering.lt u (first e) ih = let l = lt-compare v t.vertex u in absurd (omega arith)
      go Ordering.lt u (later h) ih =
          let l = lt-compare v t.vertex u in
          let q : t.vertex < v = stands_after t.vertex v r.0 h in
          absurd (omega arith)
      go Ordering.eq u h ih = rw (u, at_tree) (cons (k t (all_head a)) (all_tail a))
      go Ordering.gt u (first e) ih = let l = gt-compare v t.vertex u in absurd (omega arith)
      go Ordering.gt u (later h) ih = rw (u, at_tree) (cons (all_head a) (ih h))

-- ---- a walk

-- the trees of a walk are in order, and those that it has opened are there
record InOrder (opened : List Opened) (ts : List Tree) : Type 0 where
  rise : TreesRise ts
  orderly : All Orderly ts
  there : All (λ (o : Opened). Stands o.vertex ts) opened

-- the open trees os of a walk take the edge, out of all that it has opened
grow-order : (e : Ends) (os opened : List Opened) (ts : List Tree) → All (λ (o : Opened). Stands o.vertex ts) os → InOrder opened ts → InOrder opened (grow_all os e ts)
unfolding grow_all growth
grow-order e [] opened ts m h = h
grow-order e (o ∷ os) opened ts m h =
    let f : Tree → Tree = growth o.path e in
    let k : (t : Tree) → t.vertex ≡ o.vertex → (f t).vertex ≡ o.vertex = λ t q. q in
    grow-order e os opened (at_tree o.vertex f ts) (all-mono (λ (x : Opened) s. at-stands o.vertex f k x.vertex ts s) (all_tail m))
    (record {
      rise = at-rise o.vertex f k ts h.rise;
      orderly = at-all-there o.vertex f k ts (growth-orderly o.path e) (all_head m) h.rise h.orderly;
      there = all-mono (λ (x : Opened) s. at-stands o.vertex f k x.vertex ts s) h.there;
    })

take-order : (e : Ends) (w : Walk) → InOrder w.opened w.trees → InOrder (take_edge e w).opened (take_edge e w).trees
unfolding take_edge
take-order e w h =
    let g : InOrder w.opened (grow_all w.opened e w.trees) = grow-order e w.opened w.opened w.trees h.there h in
    record { rise = g.rise; orderly = g.orderly; there = all_map _ (λ o s. s) g.there }

open_order : (v : ℕ) (w : Walk) → InOrder w.opened w.trees → InOrder (open_tree v w).opened (open_tree v w).trees
unfolding open_tree new
open_order v w h =
    let f : Tree → Tree = λ t. record { vertex = v; count = suc t.count; below = t.below } in
    let k : (t : Tree) → t.vertex ≡ v → (f t).vertex ≡ v = λ t q. refl in
    record {
      rise = at-rise v f k w.trees h.rise;
      orderly =
          at_all v f k w.trees (record { root = omega arith; rises = tt; counted = tt })
          (λ t q. record { root = omega arith; rises = q.rises; counted = q.counted }) h.orderly;
      there = all_append (all-mono (λ (x : Opened) s. at-stands v f k x.vertex w.trees s) h.there) (cons (at_there v f k w.trees) nil);
    }

pass-order : (es : List Edge) (e : Ends) (w : Walk) → InOrder w.opened w.trees → InOrder (pass es e w).opened (pass es e w).trees
unfolding pass
pass-order es e w h = go (opens es e.from) refl (eqb (length (leaving es e.from)) 1) refl
  where
    go : (y : Bool) → opens es e.from ≡ y → (z : Bool) → eqb (length (leaving es e.from)) 1 ≡ z → InOrder (pass es e w).opened (pass es e w).trees
    go true a true b = rw (b, pass, a) (open_order e.from w h)
    go true a false b = rw (b, pass, a) (take-order e (open_tree e.from w) (open_order e.from w h))
    go false a true b = rw (b, pass, a) h
    go false a false b = rw (b, pass, a) (take-order e w h)

module _ (g : Graph) (sink : ℕ) (symbolic : Ends) where
  bases-order : (v : ℕ) (bs : List ℕ) (w : Walk) → InOrder w.opened w.trees
      → InOrder (walk_bases g sink symbolic v bs w).opened (walk_bases g sink symbolic v bs w).trees
  unfolding walk_bases
  bases-order v [] w h = go (eqb v sink) refl
    where
      go : (z : Bool) → eqb v sink ≡ z → InOrder (walk_bases g sink symbolic v [] w).opened (walk_bases g sink symbolic v [] w).trees
      go true u = rw (u, walk_bases) (take-order symbolic w h)
      go false u = rw (u, walk_bases) h
  bases-order v (b ∷ bs) w h = go (follow g v b) refl (λ x y q. bases-order x bs y q)
    where
      go : (o : Option Edge) → follow g v b ≡ o
          → ((x : ℕ) (y : Walk) → InOrder y.opened y.trees → InOrder (walk_bases g sink symbolic x bs y).opened (walk_bases g sink symbolic x bs y).trees)
          → InOrder (walk_bases g sink symbolic v (b ∷ bs) w).opened (walk_bases g sink symbolic v (b ∷ bs) w).trees
      go none u ih = rw (u, walk_bases) h
      go (some e) u ih = rw (u, walk_bases) (ih e.ends.to (pass g.edges e.ends w) (pass-order g.edges e.ends w h))

  stretch-order : (k : ℕ) (r : Stretch) (ts : List Tree) → InOrder [] ts → InOrder [] (walk_stretch k g sink symbolic r ts)
  unfolding walk_stretch
  stretch-order k r ts h = go (ltb k (length r.bytes)) refl
    where
      go : (z : Bool) → ltb k (length r.bytes) ≡ z → InOrder [] (walk_stretch k g sink symbolic r ts)
      go true u =
          let w = bases-order (number_of g.kmers (take k r.bytes)) (drop k r.bytes) (record { trees = ts; opened = [] }) h in
          rw (u, walk_stretch) (record { rise = w.rise; orderly = w.orderly; there = nil })
      go false u = rw (u, walk_stretch) h

  walks-order : (k : ℕ) (rs : List Stretch) (ts : List Tree) → InOrder [] ts → InOrder [] (walk_all k g sink symbolic rs ts)
  unfolding walk_all
  walks-order k [] ts h = h
  walks-order k (r ∷ rs) ts h = walks-order k rs (walk_stretch k g sink symbolic r ts) (stretch-order k r ts h)

evidence-order : (s : Sample) (g : Graph) → InOrder [] (evidence s g)
unfolding evidence
evidence-order s g = walks-order g (sink_of s g) (symbolic_of s g) s.k (stretches s) [] (record { rise = tt; orderly = nil; there = nil })

-- ---- the trees of any sample over any graph

pub trees-rise : (s : Sample) (g : Graph) → TreesRise (evidence s g)
trees-rise s g = (evidence-order s g).rise

pub trees-orderly : (s : Sample) (g : Graph) → All Orderly (evidence s g)
trees-orderly s g = (evidence-order s g).orderly

-- the branches of every tree strictly rise
abbrev pub AllRising : List Tree → Type 0
AllRising ts = All (λ t. Rising t.below) ts

pub evidence-rising : (s : Sample) (g : Graph) → AllRising (evidence s g)
evidence-rising s g = all-mono (λ t o. o.rises) (trees-orderly s g)
