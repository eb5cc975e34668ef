-- Steps of the definition at paths that are there can be made in any order; so open trees may be counted instead of listed.
use Rattle.std.specs.Prelude.{◌≡◌, refl, true, false, cond, List, [], ◌∷◌, ℕ, suc}
use Rattle.std.proofs.Common.{sym, ap, ◌∙◌, arith}
use Prim.Native.Nat.{compare, Ordering}
use Rattle.definition.specs.Threading.{Ends, compare_ends, eq_ends}
use Rattle.threading_node.specs.Ends.{ends, compare_ends-same, lt_trans, lt-ne, eq_ends-self, eq_ends-ne, cmp-eq, cmp-lt, eq-cmp}
use Rattle.laws.specs.Lists.{is_empty}
use Rattle.definition.specs.Evidence.{Branches, bare, branch, Tree, reach, take_at, at_tree, growth}
use Rattle.threading_node.specs.Nodes.{Nodes, erase, At, here, down, along, Rising, at_above}
use Rattle.threading_tree.specs.Forest.{forest}

module _ (e f : Ends) (c : ℕ) (b x : Branches) where
  reach-lt : compare_ends e f ≡ Ordering.lt → reach e (branch f c b x) ≡ branch e 1 bare (branch f c b x)
  unfolding reach
  reach-lt h = rw (h, reach)

  reach-eq : compare_ends e f ≡ Ordering.eq → reach e (branch f c b x) ≡ branch f (suc c) b x
  unfolding reach
  reach-eq h = rw (h, reach)

  reach-gt : compare_ends e f ≡ Ordering.gt → reach e (branch f c b x) ≡ branch f c b (reach e x)
  unfolding reach
  reach-gt h = rw (h, reach)

take_at-here : (e : Ends) (b : Branches) → take_at b [] e ≡ reach e b
unfolding take_at
take_at-here e bare = refl
take_at-here e (branch f c b x) = refl

-- the count of a node that a path passes or ends at
abbrev bump : List Ends → ℕ → ℕ
bump p c = cond (is_empty p) (suc c) c

module _ (e f : Ends) (c : ℕ) (b x : Branches) (d : Ends) (p : List Ends) where
  take_at-down : eq_ends d f ≡ true → take_at (branch f c b x) (d ∷ p) e ≡ branch f (bump p c) (take_at b p e) x
  unfolding take_at
  take_at-down h = rw (h, take_at)

  take_at-along : eq_ends d f ≡ false → take_at (branch f c b x) (d ∷ p) e ≡ branch f c b (take_at x (d ∷ p) e)
  unfolding take_at
  take_at-along h = rw (h, take_at)

bump-suc : (p : List Ends) (c : ℕ) → bump p (suc c) ≡ suc (bump p c)
bump-suc [] c = refl
bump-suc (d ∷ p) c = refl

bump-bump : (p q : List Ends) (c : ℕ) → bump q (bump p c) ≡ bump p (bump q c)
bump-bump [] [] c = refl
bump-bump [] (d ∷ q) c = refl
bump-bump (d ∷ p) [] c = refl
bump-bump (d ∷ p) (g ∷ q) c = refl

-- a child reached at the node itself, and an edge taken further down
reach-take : (e : Ends) {t : Nodes} {q s : ℕ} {d : Ends} {p : List Ends} → At t q (d ∷ p) s → Rising t → take_at (reach e (erase t)) (d ∷ p) e ≡ reach e (take_at (erase t) (d ∷ p) e)
unfolding erase Rising
reach-take e (down {i = i} {c = c} {f = f} {b = b} {x = x} {p = p} a) r = go (compare_ends e f) refl
  where
    B : Branches
    B = erase b

    X : Branches
    X = erase x

    go : (o : Ordering) → compare_ends e f ≡ o → take_at (reach e (branch f c B X)) (f ∷ p) e ≡ reach e (take_at (branch f c B X) (f ∷ p) e)
    go Ordering.lt h =
        rw (reach-lt e f c B X h, take_at-along e e 1 bare (branch f c B X) f p (eq_ends-ne f e (λ z. lt-ne e f h (sym z))), take_at-down e f c B X f p (eq_ends-self f))
        (sym (reach-lt e f (bump p c) (take_at B p e) X h))
    go Ordering.eq h =
        rw (reach-eq e f c B X h, take_at-down e f (suc c) B X f p (eq_ends-self f), take_at-down e f c B X f p (eq_ends-self f), bump-suc)
        (sym (reach-eq e f (bump p c) (take_at B p e) X h))
    go Ordering.gt h =
        rw (reach-gt e f c B X h, take_at-down e f c B (reach e X) f p (eq_ends-self f), take_at-down e f c B X f p (eq_ends-self f))
        (sym (reach-gt e f (bump p c) (take_at B p e) X h))
reach-take e (along {i = i} {c = c} {f = f} {d = d} {b = b} {x = x} {p = p} n a) r = go (compare_ends e f) refl (reach-take e a r.2)
  where
    B : Branches
    B = erase b

    X : Branches
    X = erase x

    go : (o : Ordering) → compare_ends e f ≡ o → take_at (reach e X) (d ∷ p) e ≡ reach e (take_at X (d ∷ p) e) → take_at (reach e (branch f c B X)) (d ∷ p) e ≡ reach e (take_at (branch f c B X) (d ∷ p) e)
    go Ordering.lt h ih =
        rw (reach-lt e f c B X h, take_at-along e e 1 bare (branch f c B X) d p (eq_ends-ne d e (λ z. lt-ne e d (lt_trans e f d h (at_above f d a r.0)) (sym z))), take_at-along e f c B X d p n)
        (sym (reach-lt e f c B (take_at X (d ∷ p) e) h))
    go Ordering.eq h ih =
        rw (reach-eq e f c B X h, take_at-along e f (suc c) B X d p n, take_at-along e f c B X d p n)
        (sym (reach-eq e f c B (take_at X (d ∷ p) e) h))
    go Ordering.gt h ih =
        rw (reach-gt e f c B X h, take_at-along e f c B (reach e X) d p n, take_at-along e f c B X d p n, ih)
        (sym (reach-gt e f c B (take_at X (d ∷ p) e) h))

pub take-take : (e : Ends) {t : Nodes} {q s s' : ℕ} {p p' : List Ends} → At t q p s → At t q p' s' → Rising t → take_at (take_at (erase t) p e) p' e ≡ take_at (take_at (erase t) p' e) p e
unfolding erase Rising
take-take e here here r = refl
take-take e here (down {i = i} {c = c} {f = f} {b = b} {x = x} {p = p} a) r =
    rw (take_at-here e (branch f c (erase b) (erase x)), take_at-here e (take_at (branch f c (erase b) (erase x)) (f ∷ p) e)) (reach-take e (down {i = i} {c = c} {q = 0} {f = f} {b = b} {x = x} {p = p} a) r)
take-take e here (along {i = i} {c = c} {f = f} {d = d} {b = b} {x = x} {p = p} n a) r =
    rw (take_at-here e (branch f c (erase b) (erase x)), take_at-here e (take_at (branch f c (erase b) (erase x)) (d ∷ p) e)) (reach-take e (along {i = i} {c = c} {f = f} {d = d} {b = b} {x = x} {p = p} n a) r)
take-take e (down {i = i} {c = c} {f = f} {b = b} {x = x} {p = p} a) here r =
    rw (take_at-here e (branch f c (erase b) (erase x)), take_at-here e (take_at (branch f c (erase b) (erase x)) (f ∷ p) e)) (sym (reach-take e (down {i = i} {c = c} {q = 0} {f = f} {b = b} {x = x} {p = p} a) r))
take-take e (down {i = i} {c = c} {f = f} {b = b} {x = x} {p = p} a) (down {p = p'} a') r =
    let B : Branches = erase b in
    let X : Branches = erase x in
    rw (take_at-down e f c B X f p (eq_ends-self f), take_at-down e f c B X f p' (eq_ends-self f), take_at-down e f (bump p c) (take_at B p e) X f p' (eq_ends-self f), take_at-down e f (bump p' c) (take_at B p' e) X f p (eq_ends-self f), take-take e a a' r.1, bump-bump p p' c)
take-take e (down {i = i} {c = c} {f = f} {b = b} {x = x} {p = p} a) (along {d = d'} {p = p'} n' a') r =
    let B : Branches = erase b in
    let X : Branches = erase x in
    rw (take_at-down e f c B X f p (eq_ends-self f), take_at-along e f c B X d' p' n', take_at-along e f (bump p c) (take_at B p e) X d' p' n', take_at-down e f c B (take_at X (d' ∷ p') e) f p (eq_ends-self f))
take-take e (along {i = i} {c = c} {f = f} {d = d} {b = b} {x = x} {p = p} n a) here r =
    rw (take_at-here e (branch f c (erase b) (erase x)), take_at-here e (take_at (branch f c (erase b) (erase x)) (d ∷ p) e)) (sym (reach-take e (along {i = i} {c = c} {f = f} {d = d} {b = b} {x = x} {p = p} n a) r))
take-take e (along {i = i} {c = c} {f = f} {d = d} {b = b} {x = x} {p = p} n a) (down {p = p'} a') r =
    let B : Branches = erase b in
    let X : Branches = erase x in
    rw (take_at-along e f c B X d p n, take_at-down e f c B X f p' (eq_ends-self f), take_at-down e f c B (take_at X (d ∷ p) e) f p' (eq_ends-self f), take_at-along e f (bump p' c) (take_at B p' e) X d p n)
take-take e (along {i = i} {c = c} {f = f} {d = d} {b = b} {x = x} {p = p} n a) (along {d = d'} {p = p'} n' a') r =
    let B : Branches = erase b in
    let X : Branches = erase x in
    rw (take_at-along e f c B X d p n, take_at-along e f c B X d' p' n', take_at-along e f c B (take_at X (d ∷ p) e) d' p' n', take_at-along e f c B (take_at X (d' ∷ p') e) d p n, take-take e a a' r.2)

-- ---- in the trees of the definition

branch-ends : {f g : Ends} {c c' : ℕ} {b b' x x' : Branches} → branch f c b x ≡ branch g c' b' x' → f ≡ g
branch-ends h = cc

branch-next : {f g : Ends} {c c' : ℕ} {b b' x x' : Branches} → branch f c b x ≡ branch g c' b' x' → x ≡ x'
branch-next h = cc

branch-bare : {f : Ends} {c : ℕ} {b x : Branches} → branch f c b x ≡ bare → ⊥
branch-bare h = let z : ◌≡◌ {A = ℕ} 0 1 = cc in omega arith

pub forest-take : (e : Ends) (v : ℕ) {t : Nodes} {q s : ℕ} {d : Ends} {p : List Ends} → At t q (d ∷ p) s → d ≡ ends v v → Rising t → (ts : List Tree) → erase t ≡ forest ts
    → forest (at_tree v (growth p e) ts) ≡ take_at (forest ts) (d ∷ p) e
unfolding erase forest Rising at_tree growth
forest-take e v (down a) z r [] h = absurd (branch-bare h)
forest-take e v (down {i = i} {c = c} {f = f} {b = b} {x = x} {p = p} a) z r (u ∷ ts) h =
    let w : ends v v ≡ ends u.vertex u.vertex = sym z ∙ branch-ends h in
    let y : v ≡ u.vertex = ap (λ (g : Ends). g.from) w in
    rw (eq-cmp v u.vertex y, at_tree) (sym (take_at-down e (ends u.vertex u.vertex) u.count u.below (forest ts) f p (rw (branch-ends h) (eq_ends-self (ends u.vertex u.vertex)))))
forest-take e v (along n a) z r [] h = absurd (branch-bare h)
forest-take e v (along {i = i} {c = c} {f = f} {d = d} {b = b} {x = x} {p = p} n a) z r (u ∷ ts) h = go (compare v u.vertex) refl (forest-take e v a z r.2 ts (branch-next h))
  where
    U : Ends
    U = ends u.vertex u.vertex

    fu : f ≡ U
    fu = branch-ends h

    later : compare u.vertex v ≡ Ordering.lt
    later = sym (compare_ends-same u.vertex v) ∙ (rw (fu, z) at (at_above f d a r.0))

    go : (o : Ordering) → compare v u.vertex ≡ o → forest (at_tree v (growth p e) ts) ≡ take_at (forest ts) (d ∷ p) e → forest (at_tree v (growth p e) (u ∷ ts)) ≡ take_at (forest (u ∷ ts)) (d ∷ p) e
    go Ordering.lt y ih = absurd (let p = cmp-lt _ _ y in let q = cmp-lt _ _ later in omega arith)
    go Ordering.eq y ih = absurd (let p = cmp-eq _ _ y in let q = cmp-lt _ _ later in omega arith)
    go Ordering.gt y ih = rw (y, at_tree, ih) (sym (take_at-along e U u.count u.below (forest ts) d p (rw fu at n)))
