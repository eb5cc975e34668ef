-- What a path may still cost in pushes: at most five ways on at a fork, at most `decisions` forks, and at most the edges that are left to it.
use Rattle.std.specs.Prelude.{◌≡◌, ◌⊎◌, Bool, not, ◌||◌, cond, eqb}
use Rattle.std.proofs.Math.Path.{refl, subst}
use Rattle.std.proofs.Common.{sym, ap, ◌∙◌, inl, inr, le_trans, mul-le-mul_left, mul-le-mul_right}
use Prim.Native.Nat.{ℕ, zero, suc, ◌+◌, ◌-◌, ◌*◌, ◌^◌, ◌≤◌, ◌<◌, min}
use native.Mathlib.Omega.{arith}
use Rattle.std.proofs.Math.Bool.{true, false}
use mathlib.Core.List.{List, [], ◌∷◌, ◌++◌, map}
use Rattle.std.proofs.Math.Option.{Option, none, some}
use Rattle.std.proofs.Math.Dec.{leb}
use Rattle.std.proofs.Math.ListN.{length, length-append}
use borrow.Author.Tests.{eqb-true, leb-true}
use Rattle.laws.specs.Lists.{keep, any, is_empty, total}
use Rattle.laws.specs.ListLaws.{clash, All, nil, cons, all_append, all_keep, all_map, all_from, total-append, total-keep}
use Rattle.definition.specs.Refusal.{Result, ok, refused, each}
use Rattle.definition.specs.Score.{Scoring}
use Rattle.definition.specs.Threading.{Ends, eq_ends, Edge}
use Rattle.definition.specs.Evidence.{Branches, bare, branch, has_branch, Tree, tree_at, nodes_below, nodes}
use Rattle.definition.specs.Search.{SearchInput, Path, Offer, vertices_from, times, child, walk_trees, by_support, unseen, offers, lengthen, extend, repeat_rule, extensions, join_tree}
use Rattle.theorems.proofs.Walks.{refused-ok, ok_same, and-then-ok, all-each}
use Rattle.theorems.proofs.Turns.{no-some, same_some}
use Rattle.theorems.proofs.Trees.{Rising, AllRising}
use Rattle.theorems.proofs.Twice.{tree-rising}
use Rattle.theorems.proofs.TurnParts.{Joins, join-parts}

-- ---- numbers

-- pushes below a path that has l edges and d decisions left
unfoldable pub below : ℕ → ℕ → ℕ
below l d = l * 5 ^ min l d

pow-some : (n : ℕ) → 1 ≤ 5 ^ n
pow-some zero = omega arith
pow-some (suc n) = omega (arith, pow-some n)

pow-up : (m n : ℕ) → m ≤ n → 5 ^ m ≤ 5 ^ n
pow-up zero n h = pow-some n
pow-up (suc m) zero h = absurd (omega arith)
pow-up (suc m) (suc n) h = omega (arith, pow-up m n (omega arith))

pub below_up : (l m d e : ℕ) → l ≤ m → d ≤ e → below l d ≤ below m e
unfolding below
below_up l m d e h k = le_trans (mul-le-mul_right (5 ^ min l d) h) (mul-le-mul_left m (pow-up (min l d) (min m e) (omega arith)))

-- an only way on
below_free : (l m d e : ℕ) → l < m → d ≤ e → suc (below l d) ≤ below m e
unfolding below
below_free l m d e h k =
    let a = below_up (suc l) m d e h k in
    let b = mul-le-mul_left l (pow-up (min l d) (min (suc l) d) (omega arith)) in
    omega (arith, pow-some (min (suc l) d))

-- a fork
below-fork : (l m d e : ℕ) → l < m → d < e → 5 * suc (below l d) ≤ below m e
unfolding below
below-fork l m d e h k =
    let a = below_up (suc l) m (suc d) e h k in
    let b : 5 ^ min (suc l) (suc d) ≡ 5 * 5 ^ min l d = ap (λ (n : ℕ). 5 ^ n) (let q : min (suc l) (suc d) ≡ suc (min l d) = omega arith in q) ∙ omega arith in
    let a' : suc l * (5 * 5 ^ min l d) ≤ m * 5 ^ min m e = rw b at a in
    omega (arith, pow-some (min l d))

-- ---- guidance left

-- the nodes below a node
unfoldable pub size : Branches → ℕ
size bare = 0
size (branch e c down next) = suc (size down + size next)

-- Decisions that the active trees leave: with none, six in all since guidance; else six more than the nodes below.
unfoldable pub guide : List Branches → ℕ → ℕ
guide [] since = 6 - since
guide (b ∷ bs) since = 6 + total size (b ∷ bs)

-- decisions that the trees not visited may bring: a tree of n nodes brings no more than 3 n, since one that joins has a branch
unfoldable pub unmet : List ℕ → List Tree → ℕ
unmet vs [] = 0
unmet vs (t ∷ ts) = cond (any (eqb t.vertex) vs) 0 (3 * suc (size t.below)) + unmet vs ts

child-size : (e : Ends) (b : Branches) → size (child e b) ≤ size b - 1
unfolding size child
child-size e bare = omega arith
child-size e (branch d c down next) = go (eq_ends e d) refl (child-size e next)
  where
    go : (z : Bool) → eq_ends e d ≡ z → size (child e next) ≤ size next - 1 → size (child e (branch d c down next)) ≤ suc (size down + size next) - 1
    go true u ih = rw (u, child) (omega arith)
    go false u ih = rw (u, child) (omega arith)

some_size : (b : Branches) → has_branch b ≡ true → 1 ≤ size b
unfolding size has_branch
some_size bare h = clash (sym h)
some_size (branch e c down next) h = omega arith

-- every extension costs each active tree a node
walk-size : (e : Ends) {bs : List Branches} → All (λ b. has_branch b ≡ true) bs → total size (walk_trees e bs) + length bs ≤ total size bs
unfolding walk_trees
walk-size e {bs} a = omega (arith, total-keep size has_branch (map (child e) bs), each-child a)
  where
    each-child : {bs : List Branches} → All (λ b. has_branch b ≡ true) bs → total size (map (child e) bs) + length bs ≤ total size bs
    each-child nil = omega arith
    each-child (cons {x = b} h a) = omega (arith, each-child a, child-size e b, some_size b h)

guide-most : (bs : List Branches) (since : ℕ) → guide bs since ≤ 6 + total size bs
unfolding guide
guide-most [] since = omega arith
guide-most (b ∷ bs) since = omega arith

-- at a fork, where no tree is active none guides
guide-fork : (e : Ends) (bs : List Branches) (since : ℕ) (guided : Bool) → All (λ b. has_branch b ≡ true) bs → since ≤ 5 → (bs ≡ [] → guided ≡ false)
    → guide (walk_trees e bs) (cond (not (is_empty (walk_trees e bs)) || guided) 0 (suc since)) < guide bs since
unfolding guide walk_trees
guide-fork e [] since guided a h g = rw (g refl) (omega arith)
guide-fork e (b ∷ bs) since guided a h g = omega (arith, guide-most (walk_trees e (b ∷ bs)) (cond (not (is_empty (walk_trees e (b ∷ bs))) || guided) 0 (suc since)), walk-size e a)

guide-free : (e : Ends) (bs : List Branches) (since : ℕ) → All (λ b. has_branch b ≡ true) bs
    → guide (walk_trees e bs) (cond (not (is_empty (walk_trees e bs)) || false) 0 since) ≤ guide bs since
unfolding guide walk_trees
guide-free e [] since a = omega arith
guide-free e (b ∷ bs) since a = omega (arith, guide-most (walk_trees e (b ∷ bs)) (cond (not (is_empty (walk_trees e (b ∷ bs))) || false) 0 since), walk-size e a)

guide-joined : (b : Branches) (bs : List Branches) (since : ℕ) → 1 ≤ size b → since ≤ 5 → guide (bs ++ b ∷ []) 0 ≤ guide bs since + 3 * suc (size b)
unfolding guide
guide-joined b [] since h k = omega arith
guide-joined b (d ∷ bs) since h k = omega (arith, total-append size bs (b ∷ []))

-- ---- trees not visited

unmet-fewer : (v : ℕ) (vs : List ℕ) (ts : List Tree) → unmet (v ∷ vs) ts ≤ unmet vs ts
unfolding unmet
unmet-fewer v vs [] = omega arith
unmet-fewer v vs (t ∷ ts) = go (eqb t.vertex v) refl (unmet-fewer v vs ts)
  where
    go : (z : Bool) → eqb t.vertex v ≡ z → unmet (v ∷ vs) ts ≤ unmet vs ts → unmet (v ∷ vs) (t ∷ ts) ≤ unmet vs (t ∷ ts)
    go true u ih = rw u (omega arith)
    go false u ih = rw u (omega arith)

pub unmet-all : (vs : List ℕ) (ts : List Tree) → unmet vs ts ≤ unmet [] ts
unmet-all [] ts = omega arith
unmet-all (v ∷ vs) ts = omega (arith, unmet-fewer v vs ts, unmet-all vs ts)

-- a tree that joins is visited from then on
unmet-joined : (v : ℕ) (vs : List ℕ) (ts : List Tree) (b : Branches) → tree_at ts v ≡ some b → any (eqb v) vs ≡ false
    → unmet (v ∷ vs) ts + 3 * suc (size b) ≤ unmet vs ts
unfolding tree_at unmet
unmet-joined v vs [] b e n = no-some e
unmet-joined v vs (t ∷ ts) b e n = go (eqb t.vertex v) refl (unmet-joined v vs ts b)
  where
    go : (z : Bool) → eqb t.vertex v ≡ z → (tree_at ts v ≡ some b → any (eqb v) vs ≡ false → unmet (v ∷ vs) ts + 3 * suc (size b) ≤ unmet vs ts)
        → unmet (v ∷ vs) (t ∷ ts) + 3 * suc (size b) ≤ unmet vs (t ∷ ts)
    go true u ih =
        let s : t.below ≡ b = same_some (rw (u, tree_at) at e) in
        let w : t.vertex ≡ v = eqb-true t.vertex v u in
        let m : any (eqb t.vertex) vs ≡ false = rw w n in
        rw (u, m, s) (omega (arith, unmet-fewer v vs ts))
    go false u ih = rw u (omega (arith, ih (rw (u, tree_at) at e) n))

below-size : (d : ℕ) (b : Branches) → length (nodes_below d b) ≡ size b
unfolding nodes_below size
below-size d bare = refl
below-size d (branch e c down next) = rw length-append (omega (arith, below-size (suc d) down, below-size d next))

pub unmet-nodes : (ts : List Tree) → unmet [] ts ≡ 3 * length (nodes ts)
unfolding nodes unmet
unmet-nodes [] = refl
unmet-nodes (t ∷ ts) = rw length-append (omega (arith, below-size 1 t.below, unmet-nodes ts))

-- ---- a path

-- where no tree is active no offer is guided
unguided : (f : SearchInput) (es : List Edge) (bs : List Branches) → All (λ (o : Offer). bs ≡ [] → o.guided ≡ false) (offers f es [] bs)
unfolding offers unseen by_support
unguided f es [] = all_keep _ (all_map _ (λ e h n. refl) (all_keep _ (all_true es)))
  where
    all_true : (es : List Edge) → All (λ (e : Edge). Unit {0}) es
    all_true [] = nil
    all_true (e ∷ es) = cons tt (all_true es)
unguided f es (b ∷ bs) = all_from (offers f es [] (b ∷ bs)) (λ o m n. (let z : ◌≡◌ {A = ℕ} 0 1 = cc in absurd (omega arith)))

length-each : {A B : Type 0} (g : A → Result B) (xs : List A) (ys : List B) → each g xs ≡ ok ys → length ys ≡ length xs
length-each g [] ys e = ap length (sym (ok_same e))
length-each {A} {B} g (x ∷ xs) ys e = go (g x) (each g xs) refl refl (length-each g xs)
  where
    go : (r : Result B) (rs : Result (List B)) → g x ≡ r → each g xs ≡ rs → ((zs : List B) → each g xs ≡ ok zs → length zs ≡ length xs) → length ys ≡ suc (length xs)
    go (refused n) rs t ts ih = refused-ok (rw (t, each) at e)
    go (ok y) (refused n) t ts ih = refused-ok (rw (t, each, ts) at e)
    go (ok y) (ok zs) t ts ih = ap length (sym (ok_same (rw (t, each, ts) at e))) ∙ ap suc (ih zs ts)

-- five shares are no more than the whole
shares : {A : Type 0} (w : A → ℕ) (W : ℕ) {xs : List A} → All (λ x. 5 * w x ≤ W) xs → length xs ≤ 5 → total w xs ≤ W
shares {A} w W {xs} a h = let k = parts a in let l = mul-le-mul_right W h in omega arith
  where
    parts : {xs : List A} → All (λ x. 5 * w x ≤ W) xs → 5 * total w xs ≤ length xs * W
    parts nil = omega arith
    parts (cons h a) = omega (arith, parts a)

module _ {S : Type 0} (f : SearchInput) where
  -- edges and decisions left, and the pushes that they may come to
  unfoldable pub room : Path S → ℕ
  room p = f.path_edges - length p.edges

  unfoldable pub decisions : Path S → ℕ
  decisions p = guide p.active p.since + unmet p.visited f.trees

  unfoldable pub weight : Path S → ℕ
  weight p = below (room p) (decisions p)

  -- an only way on, and a way at a fork
  lengthen-weight : (p q : Path S) (c : List Ends) (e : Ends) (x : S) (guided free : Bool) (n : ℕ) → All (λ b. has_branch b ≡ true) p.active
      → guide (walk_trees e p.active) (cond (not (is_empty (walk_trees e p.active)) || guided) 0 (cond free p.since (suc p.since))) + n ≤ guide p.active p.since
      → lengthen f p c e x guided free ≡ ok q → (room q < room p) × (decisions q + n ≤ decisions p)
  unfolding lengthen room decisions
  lengthen-weight p q c e x guided free n a h t = go (leb (length (p.edges ++ c ++ e ∷ [])) f.path_edges) refl
    where
      go : (b : Bool) → leb (length (p.edges ++ c ++ e ∷ [])) f.path_edges ≡ b → (room q < room p) × (decisions q + n ≤ decisions p)
      go true u =
          let k : length (p.edges ++ c ++ e ∷ []) ≤ f.path_edges = leb-true _ _ u in
          let l : length (p.edges ++ c ++ e ∷ []) ≡ length (p.edges ++ c) + 1 = length-append (p.edges ++ c) (e ∷ []) in
          let m : length (p.edges ++ c) ≡ length p.edges + length c = length-append p.edges c in
          subst (λ (z : Path S). (room z < room p) × (decisions z + n ≤ decisions p)) (ok_same (rw (u, lengthen) at t)) (omega arith, omega arith)
      go false u = refused-ok (rw (u, lengthen) at t)

module _ {S : Type 0} (𝓢 : Scoring S) (f : SearchInput) (p : Path S) (c : List Ends) (alive : All (λ b. has_branch b ≡ true) p.active) (calm : p.since ≤ 5) where
  extend-weight : (o : Offer) (q : Path S) → (p.active ≡ [] → o.guided ≡ false) → extend 𝓢 f p c o ≡ ok q → 5 * suc (weight f q) ≤ weight f p
  unfolding extend weight
  extend-weight o q h t = go (𝓢.penalty o.count o.out_of) refl
    where
      go : (d : Option S) → 𝓢.penalty o.count o.out_of ≡ d → 5 * suc (weight f q) ≤ weight f p
      go none u = refused-ok (rw (u, extend) at t)
      go (some d) u =
          let k = guide-fork o.ends p.active p.since o.guided alive calm h in
          let r = lengthen-weight f p q c o.ends (𝓢.plus p.score d) o.guided false 1 alive (omega arith) (rw (u, extend) at t) in
          below-fork (room f q) (room f p) (decisions f q) (decisions f p) r.0 (omega arith)

  -- the extensions of a path, with what may come below them, cost no more than it was worth
  pub extensions-weight : (v : ℕ) (es : List Edge) (qs : List (Path S)) → length (offers f es [] p.active) ≤ 5 → extensions 𝓢 f p c v es ≡ ok qs
      → total (λ q. suc (weight f q)) qs ≤ weight f p
  unfolding extensions
  extensions-weight v [] qs few t = subst (λ (z : List (Path S)). total (λ q. suc (weight f q)) z ≤ weight f p) (ok_same t) (omega arith)
  extensions-weight v (x ∷ []) qs few t = go (not (is_empty p.active) || leb (times v (vertices_from f.source p.edges)) 1) refl
    where
      go : (b : Bool) → (not (is_empty p.active) || leb (times v (vertices_from f.source p.edges)) 1) ≡ b → total (λ q. suc (weight f q)) qs ≤ weight f p
      go true u =
          let r = and-then-ok (lengthen f p c x.ends p.score false true) (λ q. ok (q ∷ [])) qs (rw (u, extensions) at t) in
          let k = guide-free x.ends p.active p.since alive in
          let l = lengthen-weight f p r.0 c x.ends p.score false true 0 alive (omega arith) r.1 in
          let m : suc (weight f r.0) ≤ weight f p = unfold weight in below_free (room f r.0) (room f p) (decisions f r.0) (decisions f p) l.0 (omega arith) in
          subst (λ (z : List (Path S)). total (λ q. suc (weight f q)) z ≤ weight f p) (ok_same r.2) (omega arith)
      go false u = subst (λ (z : List (Path S)). total (λ q. suc (weight f q)) z ≤ weight f p) (ok_same (rw (u, extensions) at t)) (omega arith)
  extensions-weight v (x ∷ y ∷ es) qs few t =
      let os = offers f (x ∷ y ∷ es) [] p.active in
      let r = and-then-ok (each (extend 𝓢 f p c) os) (λ qs. ok (keep (repeat_rule f) qs)) qs t in
      let l : length r.0 ≡ length os = length-each (extend 𝓢 f p c) os r.0 r.1 in
      let a = all-each (extend 𝓢 f p c) os r.0 (λ o q h w. extend-weight o q h w) (unguided f (x ∷ y ∷ es) p.active) r.1 in
      let k : total (λ q. suc (weight f q)) r.0 ≤ weight f p = shares (λ q. suc (weight f q)) (weight f p) a (omega arith) in
      subst (λ (z : List (Path S)). total (λ q. suc (weight f q)) z ≤ weight f p) (ok_same r.2) (omega (arith, total-keep (λ q. suc (weight f q)) (repeat_rule f) r.0))

module _ {S : Type 0} (f : SearchInput) where
  -- a tree that joins brings no more than was set aside for it
  pub record Joined (p q : Path S) : Type 0 where
    pub alive : All (λ b. has_branch b ≡ true) q.active
    pub rising : All Rising q.active
    pub calm : q.since ≤ 5
    pub light : weight f q ≤ weight f p

  pub join-weight : (v : ℕ) (p q : Path S) → AllRising f.trees → All (λ b. has_branch b ≡ true) p.active → All Rising p.active → p.since ≤ 5
      → join_tree f v p ≡ ok q → Joined p q
  unfolding weight room decisions
  join-weight v p q rt alive rising calm t = go (join-parts f v p q t)
    where
      go : (q ≡ p) ⊎ Joins f v p q → Joined p q
      go (inl e) = rw e (record { alive = alive; rising = rising; calm = calm; light = omega arith })
      go (inr j) =
          let k = unmet-joined v p.visited f.trees j.tree j.there j.unvisited in
          let m = guide-joined j.tree p.active p.since (some_size j.tree j.branches) calm in
          rw j.path
          (record {
            alive = all_append alive (cons j.branches nil);
            rising = all_append rising (cons (tree-rising v j.tree rt j.there) nil);
            calm = omega arith;
            light = below_up _ _ _ _ (omega arith) (omega arith);
          })
