-- The numbered tree against the definition: the trees of the definition are one row of branches whose edges are (v, v); to open a tree is to reach
-- (v, v) in that row, and to take an edge in the tree of v at a path is to take it at that path after (v, v).
use Rattle.std.specs.Prelude.{◌≡◌, refl, Bool, true, false, cond, List, [], ◌∷◌, ℕ, zero, suc, ◌+◌}
use Rattle.std.proofs.Common.{sym, ap, ◌∙◌, add-one, add-suc}
use Prim.Native.Nat.{compare, Ordering}
use Rattle.definition.specs.Threading.{Ends, compare_ends, eq_ends}
use Rattle.threading_node.specs.Ends.{ends, eq_self, cmp-eq}
use Rattle.laws.specs.Lists.{is_empty}
use Rattle.definition.specs.Evidence.{Branches, bare, branch, Tree, reach, take_at, at_tree, Opened}
use Rattle.threading_node.specs.Nodes.{Nodes, nil, node, erase, reach_n, take_n}

-- ---- one step of the definition, as a step of the numbered tree with multiplicity 1

pub erase-reach : (e : Ends) (k : ℕ) (t : Nodes) → erase (reach_n 1 e k t) ≡ reach e (erase t)
unfolding erase reach_n reach
erase-reach e k nil = refl
erase-reach e k (node i f c b x) = go (compare_ends e f) refl (erase-reach e k x)
  where
    go : (o : Ordering) → compare_ends e f ≡ o → erase (reach_n 1 e k x) ≡ reach e (erase x) → erase (reach_n 1 e k (node i f c b x)) ≡ reach e (erase (node i f c b x))
    go Ordering.lt h ih = rw (h, reach_n, reach)
    go Ordering.eq h ih = rw (h, reach_n, reach, add-one)
    go Ordering.gt h ih = rw (h, reach_n, reach, ih)

pub erase-take : (e : Ends) (k : ℕ) (t : Nodes) (p : List Ends) → erase (take_n 1 e k t p) ≡ take_at (erase t) p e
unfolding erase take_n take_at
erase-take e k nil [] = erase-reach e k nil
erase-take e k nil (d ∷ p) = refl
erase-take e k (node i f c b x) [] = erase-reach e k (node i f c b x)
erase-take e k (node i f c b x) (d ∷ p) = go (eq_ends d f) refl (erase-take e k b p) (erase-take e k x (d ∷ p))
  where
    go : (o : Bool) → eq_ends d f ≡ o → erase (take_n 1 e k b p) ≡ take_at (erase b) p e → erase (take_n 1 e k x (d ∷ p)) ≡ take_at (erase x) (d ∷ p) e
        → erase (take_n 1 e k (node i f c b x) (d ∷ p)) ≡ take_at (erase (node i f c b x)) (d ∷ p) e
    go true h ihb ihx = rw (h, take_n, take_at, ihb, add-one)
    go false h ihb ihx = rw (h, take_n, take_at, ihx)

-- one more
reach-more : (m : ℕ) (e : Ends) (k : ℕ) (t : Nodes) → erase (reach_n (suc m) e k t) ≡ reach e (erase (reach_n m e k t))
unfolding erase reach_n reach
reach-more m e k nil = rw (eq_self e, reach)
reach-more m e k (node i f c b x) = go (compare_ends e f) refl (reach-more m e k x)
  where
    go : (o : Ordering) → compare_ends e f ≡ o → erase (reach_n (suc m) e k x) ≡ reach e (erase (reach_n m e k x)) → erase (reach_n (suc m) e k (node i f c b x)) ≡ reach e (erase (reach_n m e k (node i f c b x)))
    go Ordering.lt h ih = rw (h, reach_n, eq_self e, reach)
    go Ordering.eq h ih = rw (h, reach_n, h, reach, add-suc)
    go Ordering.gt h ih = rw (h, reach_n, h, reach, ih)

pub take_more : (m : ℕ) (e : Ends) (k : ℕ) (t : Nodes) (p : List Ends) → erase (take_n (suc m) e k t p) ≡ take_at (erase (take_n m e k t p)) p e
unfolding erase take_n take_at
take_more m e k nil [] = reach-more m e k nil ∙ sym (take_at-here e (erase (reach_n m e k nil)))
  where
    take_at-here : (e : Ends) (b : Branches) → take_at b [] e ≡ reach e b
    take_at-here e bare = refl
    take_at-here e (branch f c b x) = refl
take_more m e k nil (d ∷ p) = refl
take_more m e k (node i f c b x) [] = reach-more m e k (node i f c b x) ∙ sym (take_at-here e (erase (reach_n m e k (node i f c b x))))
  where
    take_at-here : (e : Ends) (b : Branches) → take_at b [] e ≡ reach e b
    take_at-here e bare = refl
    take_at-here e (branch f c b x) = refl
take_more m e k (node i f c b x) (d ∷ p) = go (eq_ends d f) refl (take_more m e k b p) (take_more m e k x (d ∷ p))
  where
    counts : (q : List Ends) → cond (is_empty q) (c + suc m) c ≡ cond (is_empty q) (suc (cond (is_empty q) (c + m) c)) (cond (is_empty q) (c + m) c)
    counts [] = add-suc c m
    counts (y ∷ q) = refl

    go : (o : Bool) → eq_ends d f ≡ o → erase (take_n (suc m) e k b p) ≡ take_at (erase (take_n m e k b p)) p e → erase (take_n (suc m) e k x (d ∷ p)) ≡ take_at (erase (take_n m e k x (d ∷ p))) (d ∷ p) e
        → erase (take_n (suc m) e k (node i f c b x) (d ∷ p)) ≡ take_at (erase (take_n m e k (node i f c b x) (d ∷ p))) (d ∷ p) e
    go true h ihb ihx = rw (h, take_n, h, take_at, ihb, counts p)
    go false h ihb ihx = rw (h, take_n, h, take_at, ihx)

-- the definition's step, so many times over
unfoldable pub take_times : ℕ → Ends → List Ends → Branches → Branches
take_times zero e p b = b
take_times (suc m) e p b = take_at (take_times m e p b) p e

-- with multiplicity m it is m steps of the definition
pub erase-times : (m : ℕ) (e : Ends) (k : ℕ) (t : Nodes) (p : List Ends) → erase (take_n (suc m) e k t p) ≡ take_times (suc m) e p (erase t)
unfolding take_times
erase-times zero e k t p = erase-take e k t p
erase-times (suc m) e k t p = take_more (suc m) e k t p ∙ ap (λ (b : Branches). take_at b p e) (erase-times m e k t p)

-- ---- the trees as one row

unfoldable pub forest : List Tree → Branches
forest [] = bare
forest (t ∷ ts) = branch (ends t.vertex t.vertex) t.count t.below (forest ts)

abbrev pub root_path : Opened → List Ends
root_path o = ends o.vertex o.vertex ∷ o.path

pub forest-open : (v : ℕ) (ts : List Tree) → forest (at_tree v (λ t. record { vertex = v; count = suc t.count; below = t.below }) ts) ≡ reach (ends v v) (forest ts)
unfolding forest at_tree reach
forest-open v [] = refl
forest-open v (t ∷ ts) = go (compare v t.vertex) refl (forest-open v ts)
  where
    go : (o : Ordering) → compare v t.vertex ≡ o → forest (at_tree v (λ t. record { vertex = v; count = suc t.count; below = t.below }) ts) ≡ reach (ends v v) (forest ts)
        → forest (at_tree v (λ t. record { vertex = v; count = suc t.count; below = t.below }) (t ∷ ts)) ≡ reach (ends v v) (forest (t ∷ ts))
    go Ordering.lt h ih = rw (h, at_tree, reach)
    go Ordering.eq h ih = rw (h, at_tree, reach, cmp-eq v t.vertex h)
    go Ordering.gt h ih = rw (h, at_tree, reach, ih)
