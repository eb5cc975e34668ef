-- Distinct groups stand at distinct slots, so there are no more of them than nodes. And the walk as a whole: the groups take an edge as the definition's
-- open trees do.
use Rattle.std.specs.Prelude.{◌≡◌, refl, ℕ, zero, suc, ◌<◌, ◌≤◌, length, List, [], ◌∷◌, ◌++◌, map}
use Rattle.std.proofs.Common.{sym, ap, ◌∙◌, length-append, arith}
use Rattle.std.proofs.Math.Decide.{ℕ_discrete}
use Rattle.laws.specs.Records.{field}
use Rattle.definition.specs.Threading.{Ends}
use Rattle.threading_node.specs.Ends.{eq_ends-false}
use Rattle.definition.specs.Evidence.{Walk, take_edge}
use Rattle.threading_node.specs.Nodes.{Nodes, At, here, down, along, Rising, Fields}
use Rattle.threading_node.specs.Table.{snoc-front}
use Rattle.threading_node.specs.Good.{Good, own_at, at-live}
use Rattle.threading_tree.specs.Walks.{Group, onward, raise, Same, same-take}
use Rattle.threading_tree.specs.All.{grow_n, Standing, erase-grow, standing-stand}

-- ---- a walk takes an edge

pub walk-takes : (e : Ends) (w : Walk) (t : Nodes) (gs : List Group) (op : List ℕ) → Rising t → Standing t op 0 gs → Same w t gs
    → Same (take_edge e w) (grow_n e gs t) (map (onward e) gs)
walk-takes e w t gs op r s h = same-take e w t (grow_n e gs t) gs h r (standing-stand t op 0 gs s) (erase-grow e gs t op 0 r s)

-- ---- a path leads to one slot, and a slot is on one path

at-same : {t t' : Nodes} {q q' s s' : ℕ} {p p' : List Ends} → At t q p s → At t' q' p' s' → t ≡ t' → q ≡ q' → p ≡ p' → s ≡ s'
at-same here here u v w = v
at-same here (down b) u v w = absurd (let z = ap length w in omega arith)
at-same here (along m b) u v w = absurd (let z = ap length w in omega arith)
at-same (down a) here u v w = absurd (let z = ap length w in omega arith)
at-same (along n a) here u v w = absurd (let z = ap length w in omega arith)
at-same (down a) (down b) u v w = at-same a b (cc) (cc) (cc)
at-same (down {f = f} a) (along {f = f'} {d = d'} n b) u v w = let z : f' ≡ d' = cc in absurd (eq_ends-false d' f' n (sym z))
at-same (along {f = f} {d = d} n a) (down {f = f'} b) u v w = let z : f ≡ d = cc in absurd (eq_ends-false d f n (sym z))
at-same (along n a) (along m b) u v w = at-same a b (cc) v w

pub at_one : {t : Nodes} {q s s' : ℕ} {p : List Ends} → At t q p s → At t q p s' → s ≡ s'
at_one a b = at-same a b refl refl refl

pub path-one : (f : Fields) (n : ℕ) (t : Nodes) (s : ℕ) (p q : List Ends) → Good f n t → At t 0 p s → At t 0 q s → p ≡ q
path-one f n t s p q g a b = sym (own_at g.own [] a g.owned g.top) ∙ own_at g.own [] b g.owned g.top

-- ---- groups with paths that differ

unfoldable pub Differs : List Ends → List Group → Type 0
Differs p [] = Unit {0}
Differs p (h ∷ hs) = (p ≡ h.path → ⊥) × Differs p hs

-- the empty path is that of slot 0, which is no tree's
unfoldable pub Apart : List Group → Type 0
Apart [] = Unit {0}
Apart (g ∷ gs) = (g.path ≡ [] → ⊥) × Differs g.path gs × Apart gs

snoc-not : (p : List Ends) (e : Ends) → p ++ e ∷ [] ≡ [] → ⊥
snoc-not p e h = omega (arith, length-append p (e ∷ []), ap length h)

pub apart-onward : (e : Ends) (gs : List Group) → Apart gs → Apart (map (onward e) gs)
unfolding Apart Differs
apart-onward e [] h = tt
apart-onward e (g ∷ gs) h = (snoc-not g.path e, differ gs h.1, apart-onward e gs h.2)
  where
    differ : (hs : List Group) → Differs g.path hs → Differs (g.path ++ e ∷ []) (map (onward e) hs)
    differ [] d = tt
    differ (x ∷ hs) d = (λ z. d.0 (snoc-front g.path x.path e e z), differ hs d.1)

pub apart-new : (p : List Ends) (gs : List Group) → (p ≡ [] → ⊥) → Differs p gs → Apart gs → Apart (gs ++ record { path = p; mult = 1 } ∷ [])
unfolding Apart Differs
apart-new p [] n d h = (n, tt, tt)
apart-new p (g ∷ gs) n d h = (h.0, differ gs h.1, apart-new p gs n d.1 h.2)
  where
    differ : (hs : List Group) → Differs g.path hs → Differs g.path (hs ++ record { path = p; mult = 1 } ∷ [])
    differ [] y = (λ z. d.0 (sym z), tt)
    differ (x ∷ hs) y = (y.0, differ hs y.1)

pub apart-raise : (gs : List Group) (i : ℕ) → Apart gs → Apart (raise gs i)
unfolding Apart Differs raise
apart-raise [] i h = tt
apart-raise (g ∷ gs) zero h = h
apart-raise (g ∷ gs) (suc i) h = (h.0, differ gs i h.1, apart-raise gs i h.2)
  where
    differ : (hs : List Group) (j : ℕ) → Differs g.path hs → Differs g.path (raise hs j)
    differ [] j y = tt
    differ (x ∷ hs) zero y = y
    differ (x ∷ hs) (suc j) y = (y.0, differ hs j y.1)

-- ---- numbers that differ, all below n, are at most n

unfoldable NotIn : ℕ → List ℕ → Type 0
NotIn x [] = Unit {0}
NotIn x (y ∷ ys) = (x ≡ y → ⊥) × NotIn x ys

unfoldable Distinct : List ℕ → Type 0
Distinct [] = Unit {0}
Distinct (x ∷ xs) = NotIn x xs × Distinct xs

unfoldable Below : ℕ → List ℕ → Type 0
Below n [] = Unit {0}
Below n (x ∷ xs) = (x < n) × Below n xs

keep_not : (n x : ℕ) → Dec (n ≡ x) → List ℕ → List ℕ
keep_not n x (yes z) ys = ys
keep_not n x (no z) ys = x ∷ ys

without : ℕ → List ℕ → List ℕ
without n [] = []
without n (x ∷ xs) = keep_not n x (ℕ_discrete n x) (without n xs)

without-none : (n : ℕ) (xs : List ℕ) → NotIn n xs → length xs ≤ length (without n xs)
unfolding NotIn without keep_not
without-none n [] h = omega arith
without-none n (x ∷ xs) h = go (ℕ_discrete n x) (without-none n xs h.1)
  where
    go : (d : Dec (n ≡ x)) → length xs ≤ length (without n xs) → suc (length xs) ≤ length (keep_not n x d (without n xs))
    go (yes z) ih = absurd (h.0 z)
    go (no z) ih = omega arith

without-one : (n : ℕ) (xs : List ℕ) → Distinct xs → length xs ≤ suc (length (without n xs))
unfolding Distinct NotIn without keep_not
without-one n [] h = omega arith
without-one n (x ∷ xs) h = go (ℕ_discrete n x) (without-one n xs h.1)
  where
    go : (d : Dec (n ≡ x)) → length xs ≤ suc (length (without n xs)) → suc (length xs) ≤ suc (length (keep_not n x d (without n xs)))
    go (yes z) ih = let a : NotIn n xs = rw z h.0 in let b = without-none n xs a in omega arith
    go (no z) ih = omega arith

notin-without : (n y : ℕ) (xs : List ℕ) → NotIn y xs → NotIn y (without n xs)
unfolding NotIn without keep_not
notin-without n y [] h = tt
notin-without n y (x ∷ xs) h = go (ℕ_discrete n x) (notin-without n y xs h.1)
  where
    go : (d : Dec (n ≡ x)) → NotIn y (without n xs) → NotIn y (keep_not n x d (without n xs))
    go (yes z) ih = ih
    go (no z) ih = (h.0, ih)

distinct_without : (n : ℕ) (xs : List ℕ) → Distinct xs → Distinct (without n xs)
unfolding Distinct without keep_not
distinct_without n [] h = tt
distinct_without n (x ∷ xs) h = go (ℕ_discrete n x) (distinct_without n xs h.1)
  where
    go : (d : Dec (n ≡ x)) → Distinct (without n xs) → Distinct (keep_not n x d (without n xs))
    go (yes z) ih = ih
    go (no z) ih = (notin-without n x xs h.0, ih)

below-without : (n : ℕ) (xs : List ℕ) → Below (suc n) xs → Below n (without n xs)
unfolding Below without keep_not
below-without n [] h = tt
below-without n (x ∷ xs) h = go (ℕ_discrete n x) (below-without n xs h.1)
  where
    go : (d : Dec (n ≡ x)) → Below n (without n xs) → Below n (keep_not n x d (without n xs))
    go (yes z) ih = ih
    go (no z) ih = let a = h.0 in (omega arith, ih)

pigeon : (n : ℕ) (xs : List ℕ) → Distinct xs → Below n xs → length xs ≤ n
unfolding Below
pigeon zero [] h b = omega arith
pigeon zero (x ∷ xs) h b = absurd (let a = b.0 in omega arith)
pigeon (suc n) xs h b = let a = pigeon n (without n xs) (distinct_without n xs h) (below-without n xs b) in let c = without-one n xs h in omega arith

-- ---- no more groups than nodes

unfoldable places : List ℕ → ℕ → List Group → List ℕ
places op i [] = []
places op i (g ∷ gs) = field op 2 i 0 ∷ places op (suc i) gs

places-many : (op : List ℕ) (i : ℕ) (gs : List Group) → length (places op i gs) ≡ length gs
unfolding places
places-many op i [] = refl
places-many op i (g ∷ gs) = ap suc (places-many op (suc i) gs)

module _ (f : Fields) (n : ℕ) (t : Nodes) (v : Good f n t) (op : List ℕ) where
  not_in : (p : List Ends) (s i : ℕ) (gs : List Group) → At t 0 p s → Differs p gs → Standing t op i gs → NotIn s (places op i gs)
  unfolding Differs Standing NotIn places
  not_in p s i [] a d h = tt
  not_in p s i (g ∷ gs) a d h = (λ z. d.0 (path-one f n t (field op 2 i 0) p g.path v (rw z at a) h.0.at), not_in p s (suc i) gs a d.1 h.1)

  distinct : (i : ℕ) (gs : List Group) → Apart gs → Standing t op i gs → Distinct (places op i gs)
  unfolding Apart Standing Distinct places
  distinct i [] a h = tt
  distinct i (g ∷ gs) a h = (not_in g.path (field op 2 i 0) (suc i) gs h.0.at a.1 h.1, distinct (suc i) gs a.2 h.1)

  at_top : (s : ℕ) → 0 ≡ s → At t 0 [] s
  at_top s z = rw (sym z) here

  not_top : (i : ℕ) (gs : List Group) → Apart gs → Standing t op i gs → NotIn 0 (places op i gs)
  unfolding Apart Standing NotIn places
  not_top i [] a h = tt
  not_top i (g ∷ gs) a h = (λ z. a.0 (path-one f n t (field op 2 i 0) g.path [] v h.0.at (at_top (field op 2 i 0) z)), not_top (suc i) gs a.2 h.1)

  below : (i : ℕ) (gs : List Group) → Standing t op i gs → Below (suc n) (places op i gs)
  unfolding Standing Below places
  below i [] h = tt
  below i (g ∷ gs) h = let a = at-live f n (f.kid 0) h.0.at v.links (omega arith) in (omega arith, below (suc i) gs h.1)

  pub groups-few : (gs : List Group) → Apart gs → Standing t op 0 gs → length gs ≤ n
  unfolding Distinct Below
  groups-few gs a h =
      let p = pigeon (suc n) (0 ∷ places op 0 gs) (not_top 0 gs a h, distinct 0 gs a h) (omega arith, below 0 gs h) in
      let q = places-many op 0 gs in
      omega arith

  -- and fewer, where another node has none
  pub groups-fewer : (p : List Ends) (s : ℕ) → At t 0 p s → (p ≡ [] → ⊥) → (gs : List Group) → Differs p gs → Apart gs → Standing t op 0 gs → suc (length gs) ≤ n
  unfolding Distinct Below NotIn
  groups-fewer p s b ne gs d a h =
      let l = at-live f n (f.kid 0) b v.links (omega arith) in
      let q = pigeon (suc n) (0 ∷ s ∷ places op 0 gs) ((λ z. ne (path-one f n t s p [] v b (at_top s z)), not_top 0 gs a h), (not_in p s 0 gs b d h, distinct 0 gs a h)) (omega arith, (omega arith, below 0 gs h)) in
      let o = places-many op 0 gs in
      omega arith
