-- ONE relation for callers: the tables hold a walk of the definition. It holds of the zeroed table, and each call keeps it.
use Rattle.std.specs.Prelude.{◌≡◌, refl, ℕ, zero, suc, ◌+◌, ◌*◌, ◌^◌, ◌<◌, ◌≤◌, List, [], ◌∷◌, map, length, get_or, replicate, Option, Some, None, Ok, Err}
use Rattle.std.proofs.Common.{sym, ap, ◌∙◌, arith, length-append}
use Rattle.std.proofs.Math.Decide.{ℕ_discrete}
use Rattle.definition.specs.Threading.{Ends}
use Rattle.definition.specs.Evidence.{Walk, take_edge, open_tree, nodes}
use Rattle.threading_node.specs.Ends.{ends}
use Rattle.threading_node.specs.Nodes.{Nodes, nil, erase, size, reach_n, take_n, At, Rising, Links, Own, at_take, rising-take, take_n-here}
use Rattle.threading_node.specs.Good.{Good}
use Rattle.threading_node.specs.Slots.{cols, told, zero-kid, zero-count}
use Rattle.threading_tree.specs.Forest.{forest, root_path}
use Rattle.threading_tree.specs.Walks.{Group, onward, spread, Perm, same, skip, swap, both, Same, same-opened}
use Rattle.threading_tree.specs.All.{grow_n, total, Standing, Walking, TookAll, Grew, Over}
use Rattle.threading_tree.specs.Apart.{Apart, apart-onward, walk-takes, groups-few}
use Rattle.threading_tree.specs.Back.{at-reach-back, at-grow-back}
use Rattle.threading_node.specs.Take.{Wide, wide-kept, Packable}
use Rattle.threading_node.specs.Links.{link_to, Linked}
use Rattle.threading_node.specs.Open.{RootAt}
use Rattle.threading_tree.specs.Join.{Joinable, JoinedTo, Joins, Turns, opened}
use Rattle.threading_tree.specs.Listed.{size_b, size-erase, forest-nodes}
use Rattle.threading_tree.specs.declared.ThreadingState as TS
use Rattle.refusals.specs.declared.Refusal.{Refusal}
use Rattle.refusals.specs.Numbers.{number}

-- a slot told as the root of v is that root's; 0 tells nothing
abbrev pub RootSlot : ℕ → ℕ → Nodes → Type 0
RootSlot root v t = (root ≡ 0 → ⊥) → At t 0 (ends v v ∷ []) root

root-told : (v k : ℕ) (t : Nodes) (r : Option ℕ) → k ≡ link_to r → Linked r → RootSlot k v t → RootAt r v t
root-told v k t None e l h = tt
root-told v k t (Some s) e l h = rw e at (h (λ z. omega arith))

-- The table `x` of at most cap nodes has n of them; the first g pairs of `op` are the open trees; `root v` is the slot of v's root, 0 where v has no
-- tree; no count is above b. A caller keeps b below 2 ^ 32: it grows by 1 at an opening, and by the number of open trees where an edge is taken.
pub record HeldWalk (w : Walk) (cap n g b : ℕ) (root : ℕ → ℕ) (x op : List ℕ) : Type 0 where
  pub tree : Nodes
  pub groups : List Group
  pub good : Good (cols x) n tree
  pub rooted : (v : ℕ) → RootSlot (root v) v tree
  pub unrooted : (v : ℕ) → root v ≡ 0 → (s : ℕ) → At tree 0 (ends v v ∷ []) s → ⊥
  pub standing : Standing tree op 0 groups
  pub many : length groups ≡ g
  pub apart : Apart groups
  pub same : Same w tree groups
  pub room : n ≤ cap
  pub wide : Wide cap x
  pub in-open : cap * 2 ≤ length op
  pub under : (l : ℕ) → l ≤ cap → (cols x).count l ≤ b

-- ---- how many open trees

perm-many : {ps qs : List (List Ends)} → Perm ps qs → length ps ≡ length qs
perm-many same = refl
perm-many (skip w) = ap suc (perm-many w)
perm-many swap = refl
perm-many (both w w') = perm-many w ∙ perm-many w'

map-many : {A B : Type 0} (f : A → B) (xs : List A) → length (map f xs) ≡ length xs
map-many f [] = refl
map-many f (x ∷ xs) = ap suc (map-many f xs)

replicate-many : (m : ℕ) (p : List Ends) → length (replicate m p) ≡ m
replicate-many zero p = refl
replicate-many (suc m) p = ap suc (replicate-many m p)

spread-many : (gs : List Group) → length (spread gs) ≡ total gs
unfolding spread total
spread-many [] = refl
spread-many (g ∷ gs) =
    let a = length-append (replicate g.mult g.path) (spread gs) in
    let b = replicate-many g.mult g.path in
    let c = spread-many gs in
    omega arith

same_total : (w : Walk) (t : Nodes) (gs : List Group) → Same w t gs → total gs ≡ length w.opened
same_total w t gs h = sym (sym (map-many root_path w.opened) ∙ perm-many h.opened ∙ spread-many gs)

-- ---- how many nodes: those of the definition, never more than the maximum

pub held-nodes : {w : Walk} {cap n g b : ℕ} {root : ℕ → ℕ} {x op : List ℕ} → HeldWalk w cap n g b root x op → length (nodes w.trees) ≡ n
held-nodes {w = w} h = forest-nodes w.trees ∙ ap size_b (sym h.same.trees) ∙ size-erase h.tree ∙ h.good.full

pub held-room : {w : Walk} {cap n g b : ℕ} {root : ℕ → ℕ} {x op : List ℕ} → HeldWalk w cap n g b root x op → length (nodes w.trees) ≤ cap
held-room h = let a = held-nodes h in let b = h.room in omega arith

-- ---- the start: a zeroed table, no trees, no open trees

pub held_start : (cap : ℕ) (root : ℕ → ℕ) (x op : List ℕ) → Wide cap x → cap * 2 ≤ length op → ((i : ℕ) → i < told cap → get_or x i 0 ≡ 0) → ((v : ℕ) → root v ≡ 0)
    → HeldWalk (record { trees = []; opened = [] }) cap 0 0 0 root x op
unfolding Links Own Rising size Standing Apart forest erase spread
held_start cap root x op wd po z r =
    record {
      tree = nil;
      groups = [];
      good = record { links = zero-kid x cap z; own = λ l. []; top = refl; owned = tt; rising = tt; full = refl };
      rooted = λ v h. absurd (h (r v));
      unrooted = λ v h s a. elim a [ ];
      standing = tt;
      many = refl;
      apart = tt;
      same = record { trees = refl; opened = same };
      room = omega arith;
      wide = wd;
      in-open = po;
      under = λ l h. let q = zero-count x cap z l h in omega arith;
    }

-- a new walk over the same trees; the list of open trees may be any list that is long enough
pub held-again : {w : Walk} {cap n g b : ℕ} {root : ℕ → ℕ} {x op : List ℕ} (op' : List ℕ) → cap * 2 ≤ length op' → HeldWalk w cap n g b root x op
    → HeldWalk (record { trees = w.trees; opened = [] }) cap n 0 b root x op'
unfolding Standing Apart spread
held-again op' po h =
    record {
      tree = h.tree;
      groups = [];
      good = h.good;
      rooted = h.rooted;
      unrooted = h.unrooted;
      standing = tt;
      many = refl;
      apart = tt;
      same = record { trees = h.same.trees; opened = same };
      room = h.room;
      wide = h.wide;
      in-open = po;
      under = h.under;
    }

-- a larger bound of the counts
pub held-under : {w : Walk} {cap n g b : ℕ} {root : ℕ → ℕ} {x op : List ℕ} (b' : ℕ) → b ≤ b' → HeldWalk w cap n g b root x op → HeldWalk w cap n g b' root x op
held-under b' le h =
    record {
      tree = h.tree;
      groups = h.groups;
      good = h.good;
      rooted = h.rooted;
      unrooted = h.unrooted;
      standing = h.standing;
      many = h.many;
      apart = h.apart;
      same = h.same;
      room = h.room;
      wide = h.wide;
      in-open = h.in-open;
      under = λ l q. let a = h.under l q in omega arith;
    }

-- roots told by another function that says the same
pub held-roots : {w : Walk} {cap n g b : ℕ} {root : ℕ → ℕ} {x op : List ℕ} (root' : ℕ → ℕ) → ((v : ℕ) → root' v ≡ root v) → HeldWalk w cap n g b root x op
    → HeldWalk w cap n g b root' x op
held-roots {root = root} root' e h =
    record {
      tree = h.tree;
      groups = h.groups;
      good = h.good;
      rooted = λ v. rw (e v) (h.rooted v);
      unrooted = λ v z. h.unrooted v (sym (e v) ∙ z);
      standing = h.standing;
      many = h.many;
      apart = h.apart;
      same = h.same;
      room = h.room;
      wide = h.wide;
      in-open = h.in-open;
      under = h.under;
    }

-- ---- an edge is taken (add_edge_to_junction_tree_nodes)

at-grow : (e : Ends) (gs : List Group) (t : Nodes) (p : List Ends) (s : ℕ) → Rising t → At t 0 p s → At (grow_n e gs t) 0 p s
unfolding grow_n
at-grow e [] t p s r a = a
at-grow e (g ∷ gs) t p s r a =
    at-grow e gs (take_n g.mult e (suc (size t)) t g.path) p s (rising-take g.mult e (suc (size t)) t g.path r) (at_take g.mult e (suc (size t)) g.path a r)

module _ (w : Walk) (cap n g b : ℕ) (root : ℕ → ℕ) (x op : List ℕ) (h : HeldWalk w cap n g b root x op) (e : Ends) where
  pub held-few : g ≤ cap
  held-few =
      let c = groups-few (cols x) n h.tree h.good op h.groups h.apart h.standing in
      let d = h.many in
      let f = h.room in
      omega arith

  pub held-walking : Packable e → b + length w.opened < 2 ^ 32 → Walking cap n g e x op
  held-walking pk sm =
      let t = same_total w h.tree h.groups h.same in
      let io = h.in-open in
      let fw = held-few in
      record {
        tree = h.tree;
        groups = h.groups;
        good = h.good;
        standing = h.standing;
        many = h.many;
        in-open = omega arith;
        room = h.room;
        wide = h.wide;
        spare = λ l q. let u = h.under l q in omega arith;
        ends = pk;
      }

  module _ (y op' : List ℕ) where
    -- the walk has taken the edge
    pub held-takes : (n' : ℕ) → TookAll cap n g e x y op op' (Ok n') → length y ≡ length x → length op' ≡ length op
        → HeldWalk (take_edge e w) cap n' g (b + length w.opened) root y op'
    held-takes n' k ly lo =
        let q : Grew cap e x y op' h.tree h.groups n' = k.is h.tree h.groups h.good h.standing h.many in
        let t = same_total w h.tree h.groups h.same in
        let io = h.in-open in
        record {
          tree = grow_n e h.groups h.tree;
          groups = map (onward e) h.groups;
          good = q.good;
          rooted = λ v z. at-grow e h.groups h.tree (ends v v ∷ []) (root v) h.good.rising (h.rooted v z);
          unrooted = λ v z s a. h.unrooted v z s (at-grow-back e 0 s (ends v v) h.groups h.tree h.apart a);
          standing = q.standing;
          many = map-many (onward e) h.groups ∙ h.many;
          apart = apart-onward e h.groups h.apart;
          same = walk-takes e w h.tree h.groups op h.good.rising h.standing h.same;
          room = q.room;
          wide = wide-kept y h.wide ly;
          in-open = omega arith;
          under = λ l f. let a = q.counts l in let c = h.under l f in omega arith;
        }

    -- refused: the trees of the walk that has taken the edge have more nodes than the maximum
    pub held-full : (m : Refusal) → TookAll cap n g e x y op op' (Err m) → (number m ≡ 9) × (cap < length (nodes (take_edge e w).trees))
    held-full m k =
        let q : Over cap e h.tree h.groups (number m) = k.is h.tree h.groups h.good h.standing h.many in
        let s = walk-takes e w h.tree h.groups op h.good.rising h.standing h.same in
        let z : length (nodes (take_edge e w).trees) ≡ size (grow_n e h.groups h.tree)
        = forest-nodes (take_edge e w).trees ∙ ap size_b (sym s.trees) ∙ size-erase (grow_n e h.groups h.tree) in
        let o = q.over in
        (q.number, omega arith)

-- ---- a tree is opened (add_tree_if_necessary)

module _ (w : Walk) (cap n g b : ℕ) (root : ℕ → ℕ) (x op : List ℕ) (h : HeldWalk w cap n g b root x op) (v : ℕ) (r : Option ℕ) (is : root v ≡ link_to r) (linked : Linked r) where
  told-root : RootAt r v h.tree
  told-root = root-told v (root v) h.tree r is linked (h.rooted v)

  pub held-joinable : v < 2 ^ 16 → b + 1 < 2 ^ 32 → length w.opened + 1 < 2 ^ 32 → Joinable cap n v r g x op
  held-joinable pk sm so =
      let t = same_total w h.tree h.groups h.same in
      record {
        openable =
            record {
              tree = h.tree;
              good = h.good;
              rooted = told-root;
              room = h.room;
              wide = h.wide;
              spare = λ l q. let u = h.under l q in omega arith;
              ends = pk;
            };
        groups = h.groups;
        standing = h.standing;
        many = h.many;
        apart = h.apart;
        in-open = h.in-open;
        spare = omega arith;
      }

  module _ (y op' : List ℕ) where
    pub held-opened : (s : TS.ThreadingState) → JoinedTo cap n v r g x y op op' (Ok s) → Linked s.root
    held-opened s k =
        let q : Joins cap n v y op' h.tree h.groups s = k.is h.tree h.groups h.good told-root h.standing h.many h.apart in
        rw q.at q.some

    pub held-cap : (s : TS.ThreadingState) → JoinedTo cap n v r g x y op op' (Ok s) → s.cap ≡ cap
    held-cap s k =
        let q : Joins cap n v y op' h.tree h.groups s = k.is h.tree h.groups h.good told-root h.standing h.many h.apart in
        q.kept

    -- the walk has opened the tree; the caller keeps the root's slot for v
    pub held-opens : (s : TS.ThreadingState) (root' : ℕ → ℕ) → JoinedTo cap n v r g x y op op' (Ok s) → length y ≡ length x → length op' ≡ length op
        → root' v ≡ link_to s.root → ((u : ℕ) → (u ≡ v → ⊥) → root' u ≡ root u) → HeldWalk (open_tree v w) cap s.nodes s.groups (b + 1) root' y op'
    held-opens s root' k ly lo at off =
        let q : Joins cap n v y op' h.tree h.groups s = k.is h.tree h.groups h.good told-root h.standing h.many h.apart in
        let io = h.in-open in
        record {
          tree = opened v n h.tree;
          groups = q.groups;
          good = q.good;
          rooted = λ u. rooted u (ℕ_discrete u v) q.slot (at ∙ ap link_to q.at) q.root;
          unrooted = λ u. unrooted u (ℕ_discrete u v) q.slot (at ∙ ap link_to q.at) q.some;
          standing = q.standing;
          many = q.many;
          apart = q.apart;
          same = q.walk w h.same;
          room = q.room;
          wide = wide-kept y h.wide ly;
          in-open = omega arith;
          under = λ l f. let a = k.counts l in let c = h.under l f in omega arith;
        }
      where
        rooted : (u : ℕ) → Dec (u ≡ v) → (i : ℕ) → root' v ≡ i → At (opened v n h.tree) 0 (ends v v ∷ []) i → RootSlot (root' u) u (opened v n h.tree)
        rooted u (yes z) i c a = rw (z, c) (λ y. a)
        rooted u (no z) i c a = rw (off u z) (λ y. at_take 1 (ends v v) (suc n) [] (h.rooted u y) h.good.rising)

        other : (u : ℕ) → (u ≡ v → ⊥) → ends u u ≡ ends v v → ⊥
        other u z y = z (ap (λ (d : Ends). d.from) y)

        unrooted : (u : ℕ) → Dec (u ≡ v) → (j : ℕ) → root' v ≡ j → 0 < j → root' u ≡ 0 → (i : ℕ) → At (opened v n h.tree) 0 (ends u u ∷ []) i → ⊥
        unrooted u (yes z) j c f e i a = let y : root' v ≡ 0 = rw z at e in omega arith
        unrooted u (no z) j c f e i a =
            h.unrooted u (sym (off u z) ∙ e) i (at-reach-back 1 (ends v v) (suc n) 0 i (ends u u) h.tree (other u z) (rw (take_n-here 1 (ends v v) (suc n) h.tree) at a))

    -- refused: one node more than the maximum, and nothing has changed
    pub held-turned : (m : Refusal) → JoinedTo cap n v r g x y op op' (Err m) → (number m ≡ 9) × (cap < length (nodes (open_tree v w).trees))
    held-turned m k =
        let q : Turns cap n v x y op op' h.tree (number m) = k.is h.tree h.groups h.good told-root h.standing h.many h.apart in
        let s = same-opened v (suc n) w h.tree h.groups h.same in
        let z : length (nodes (open_tree v w).trees) ≡ size (opened v n h.tree)
        = forest-nodes (open_tree v w).trees ∙ ap size_b (sym s.trees) ∙ size-erase (reach_n 1 (ends v v) (suc n) h.tree)
        ∙ ap size (sym (take_n-here 1 (ends v v) (suc n) h.tree)) in
        let o = q.over in
        (q.number, omega arith)
