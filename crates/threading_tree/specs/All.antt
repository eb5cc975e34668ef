-- Every group of a walk takes an edge: the loop over the groups.
use Rattle.std.specs.Prelude.{◌≡◌, Bool, true, false, replicate, Result, Ok, Err, refl, ℕ, zero, suc, ◌+◌, ◌*◌, ◌^◌, ◌<◌, ◌≤◌, List, [], ◌∷◌, ◌++◌, map, length}
use Rattle.std.proofs.Common.{ap, sym, ◌∙◌, add-one, length-set, get_or-set_other, append_assoc, arith, length-append}
use Prim.Native.Nat.{Ordering}
use Rattle.laws.specs.Records.{field, put_field, field-same, field-other, row_other}
use Rattle.definition.specs.Threading.{Ends, compare_ends, eq_ends}
use Rattle.definition.specs.Evidence.{Branches}
use Rattle.threading_node.specs.Nodes.{Fields, Nodes, nil, node, erase, size, reach_n, take_n, landed, At, kids_at, Rising, reach_n-lt, reach_n-eq, reach_n-gt, take_n-down, take_n-along, at_take, at_new, rising-take}
use Rattle.threading_node.specs.Good.{Good, at-live}
use Rattle.threading_tree.specs.Forest.{erase-times}
use Rattle.threading_tree.specs.Walks.{Group, onward, spread, grow_m, Stand}
use Rattle.threading_node.specs.Take.{Wide, wide-kept, Packable, Ready, Went, Full, Taken}
use Rattle.threading_node.specs.Slots.{cols, told, Beyond}
use Rattle.threading_node.specs.declared.Reached as SD
use Rattle.refusals.specs.declared.Refusal.{Refusal}
use Rattle.refusals.specs.Numbers.{number}

-- each group in turn, a new node with the next number
unfoldable pub grow_n : Ends → List Group → Nodes → Nodes
grow_n e [] t = t
grow_n e (g ∷ gs) t = grow_n e gs (take_n g.mult e (suc (size t)) t g.path)

unfoldable pub total : List Group → ℕ
total [] = 0
total (g ∷ gs) = g.mult + total gs

-- from place i on the list of open trees holds the groups: a slot and a multiplicity
pub record Standing1 (t : Nodes) (op : List ℕ) (i : ℕ) (g : Group) : Type 0 where
  pub at : At t 0 g.path (field op 2 i 0)
  pub mult-is : field op 2 i 1 ≡ g.mult
  pub some : 0 < g.mult

unfoldable pub Standing : Nodes → List ℕ → ℕ → List Group → Type 0
Standing t op i [] = Unit {0}
Standing t op i (g ∷ gs) = Standing1 t op i g × Standing t op (suc i) gs

-- ---- against the definition's steps

positive : (m : ℕ) → 0 < m → (k : ℕ) × (m ≡ suc k)
positive zero h = absurd (omega arith)
positive (suc k) h = (k, refl)

pub erase-grow : (e : Ends) (gs : List Group) (t : Nodes) (op : List ℕ) (i : ℕ) → Rising t → Standing t op i gs → erase (grow_n e gs t) ≡ grow_m e gs (erase t)
unfolding grow_n grow_m Standing
erase-grow e [] t op i r s = refl
erase-grow e (g ∷ gs) t op i r s =
    let k = positive g.mult s.0.some in
    let t' : Nodes = take_n g.mult e (suc (size t)) t g.path in
    erase-grow e gs t' op (suc i) (rising-take g.mult e (suc (size t)) t g.path r) (stand-on gs (suc i) s.1)
    ∙ ap (λ (b : Branches). grow_m e gs b) (rw k.1 (erase-times k.0 e (suc (size t)) t g.path))
  where
    stand-on : (hs : List Group) (j : ℕ) → Standing t op j hs → Standing (take_n g.mult e (suc (size t)) t g.path) op j hs
    stand-on [] j h = tt
    stand-on (x ∷ hs) j h = (record { at = at_take g.mult e (suc (size t)) g.path h.0.at r; mult-is = h.0.mult-is; some = h.0.some }, stand-on hs (suc j) h.1)

pub standing-stand : (t : Nodes) (op : List ℕ) (i : ℕ) (gs : List Group) → Standing t op i gs → Stand t (spread gs)
unfolding Standing Stand spread
standing-stand t op i [] s = tt
standing-stand t op i (g ∷ gs) s = go (standing-stand t op (suc i) gs s.1) g.mult
  where
    go : Stand t (spread gs) → (m : ℕ) → Stand t (replicate m g.path ++ spread gs)
    go h zero = h
    go h (suc m) = ((field op 2 i 0, s.0.at), go h m)

-- ---- sizes only grow

reach-grows : (m : ℕ) (e : Ends) (k : ℕ) (t : Nodes) → size t ≤ size (reach_n m e k t)
unfolding size reach_n
reach-grows m e k nil = omega arith
reach-grows m e k (node i f c b x) = go (compare_ends e f) refl (reach-grows m e k x)
  where
    go : (o : Ordering) → compare_ends e f ≡ o → size x ≤ size (reach_n m e k x) → size (node i f c b x) ≤ size (reach_n m e k (node i f c b x))
    go Ordering.lt h ih = rw (reach_n-lt m e k i f c b x h) (omega arith)
    go Ordering.eq h ih = rw (reach_n-eq m e k i f c b x h) (omega arith)
    go Ordering.gt h ih = rw (reach_n-gt m e k i f c b x h) (omega arith)

take-grows : (m : ℕ) (e : Ends) (k : ℕ) (t : Nodes) (p : List Ends) → size t ≤ size (take_n m e k t p)
unfolding size take_n
take-grows m e k nil [] = reach-grows m e k nil
take-grows m e k nil (d ∷ p) = omega arith
take-grows m e k (node i f c b x) [] = reach-grows m e k (node i f c b x)
take-grows m e k (node i f c b x) (d ∷ p) = go (eq_ends d f) refl (take-grows m e k b p) (take-grows m e k x (d ∷ p))
  where
    go : (o : Bool) → eq_ends d f ≡ o → size b ≤ size (take_n m e k b p) → size x ≤ size (take_n m e k x (d ∷ p)) → size (node i f c b x) ≤ size (take_n m e k (node i f c b x) (d ∷ p))
    go true h ihb ihx = rw (take_n-down m e k i f c b x d p h) (omega arith)
    go false h ihb ihx = rw (take_n-along m e k i f c b x d p h) (omega arith)

grow-grows : (e : Ends) (gs : List Group) (t : Nodes) → size t ≤ size (grow_n e gs t)
unfolding grow_n
grow-grows e [] t = omega arith
grow-grows e (g ∷ gs) t = let a = take-grows g.mult e (suc (size t)) t g.path in let b = grow-grows e gs (take_n g.mult e (suc (size t)) t g.path) in omega arith

-- ---- the list of the groups after a store

module _ (m : ℕ) (e : Ends) (k : ℕ) (p : List Ends) (t : Nodes) (r : Rising t) (op : List ℕ) (i v : ℕ) where
  kept : (j : ℕ) (g : Group) → (j ≡ i → ⊥) → Standing1 t op j g → Standing1 (take_n m e k t p) (put_field op 2 i 0 v) j g
  kept j g n s =
      record {
        at = rw (row_other op 2 i 0 v j 0 (omega arith) (omega arith) n) (at_take m e k p s.at r);
        mult-is = field-other op 2 i 0 v j 1 (omega arith) (omega arith) (λ z. omega arith) ∙ s.mult-is;
        some = s.some;
      }

  ahead-on : (j : ℕ) (gs : List Group) → i < j → Standing t op j gs → Standing (take_n m e k t p) (put_field op 2 i 0 v) j gs
  unfolding Standing
  ahead-on j [] h s = tt
  ahead-on j (g ∷ gs) h s = (kept j g (λ z. omega arith) s.0, ahead-on (suc j) gs (omega arith) s.1)

  behind-on : (j : ℕ) (gs : List Group) → j + length gs ≡ i → (g : Group) → Standing1 (take_n m e k t p) (put_field op 2 i 0 v) i g → Standing t op j gs
      → Standing (take_n m e k t p) (put_field op 2 i 0 v) j (gs ++ g ∷ [])
  unfolding Standing
  behind-on j [] h g w s = let z : j ≡ i = omega arith in (rw z w, tt)
  behind-on j (x ∷ gs) h g w s = (kept j x (λ z. omega arith) s.0, behind-on (suc j) gs (omega arith) g w s.1)

-- the slot of the child reached is one of the table
pub new-live : (f : Fields) (n m : ℕ) (e : Ends) (k : ℕ) {t : Nodes} {s : ℕ} {p : List Ends} (a : At t 0 p s) → Good f n (take_n m e k t p) → landed e k (kids_at a) ≤ n
new-live f n m e k a g = at-live f n (f.kid 0) (at_new m e k a) g.links (omega arith)

-- ---- what the loop asks, keeps and ensures

pub record Walking (cap n w : ℕ) (e : Ends) (x op : List ℕ) : Type 0 where
  pub tree : Nodes
  pub groups : List Group
  pub good : Good (cols x) n tree
  pub standing : Standing tree op 0 groups
  pub many : length groups ≡ w
  pub in-open : w * 2 ≤ length op
  pub room : n ≤ cap
  pub wide : Wide cap x
  pub spare : (l : ℕ) → l ≤ cap → (cols x).count l + total groups < 2 ^ 32
  pub ends : Packable e

pub record Grew (cap : ℕ) (e : Ends) (x y op : List ℕ) (t : Nodes) (gs : List Group) (n : ℕ) : Type 0 where
  pub good : Good (cols y) n (grow_n e gs t)
  pub standing : Standing (grow_n e gs t) op 0 (map (onward e) gs)
  pub room : n ≤ cap
  pub counts : (l : ℕ) → (cols y).count l ≤ (cols x).count l + total gs

pub record Over (cap : ℕ) (e : Ends) (t : Nodes) (gs : List Group) (k : ℕ) : Type 0 where
  pub number : k ≡ 9
  pub over : cap < size (grow_n e gs t)

abbrev pub Ends-in : ℕ → Ends → List ℕ → List ℕ → List ℕ → Nodes → List Group → Result ℕ Refusal → Type 0
Ends-in cap e x y op t gs (Ok n) = Grew cap e x y op t gs n
Ends-in cap e x y op t gs (Err k) = Over cap e t gs (number k)

pub record TookAll (cap n w : ℕ) (e : Ends) (x y op op' : List ℕ) (r : Result ℕ Refusal) : Type 0 where
  pub is : (t : Nodes) (gs : List Group) → Good (cols x) n t → Standing t op 0 gs → length gs ≡ w → Ends-in cap e x y op' t gs r
  pub beyond : Beyond (told cap) x y
  pub beyond-open : Beyond (w * 2) op op'

-- where the loop stands, for one tree and its groups at the start
pub record State (cap w : ℕ) (e : Ends) (x y op : List ℕ) (n i : ℕ) (t : Nodes) (gs : List Group) : Type 0 where
  pub tree : Nodes
  pub rest : List Group
  pub done : List Group
  pub good : Good (cols y) n tree
  pub run : grow_n e rest tree ≡ grow_n e gs t
  pub ahead : Standing tree op i rest
  pub behind : Standing tree op 0 done
  pub split : done ++ map (onward e) rest ≡ map (onward e) gs
  pub passed : length done ≡ i
  pub left : i + length rest ≡ w
  pub counts : (l : ℕ) → (cols y).count l + total rest ≤ (cols x).count l + total gs

-- the group whose turn it is
pub record Turn (cap w : ℕ) (e : Ends) (x y op : List ℕ) (n i : ℕ) (t : Nodes) (gs : List Group) : Type 0 where
  pub tree : Nodes
  pub group : Group
  pub rest : List Group
  pub done : List Group
  pub good : Good (cols y) n tree
  pub run : grow_n e (group ∷ rest) tree ≡ grow_n e gs t
  pub now : Standing1 tree op i group
  pub ahead : Standing tree op (suc i) rest
  pub behind : Standing tree op 0 done
  pub split : done ++ onward e group ∷ map (onward e) rest ≡ map (onward e) gs
  pub passed : length done ≡ i
  pub left : suc i + length rest ≡ w
  pub counts : (l : ℕ) → (cols y).count l + (group.mult + total rest) ≤ (cols x).count l + total gs

module _ (cap w : ℕ) (e : Ends) (x y op : List ℕ) (n i : ℕ) (t : Nodes) (gs : List Group) where
  turn : State cap w e x y op n i t gs → i < w → Turn cap w e x y op n i t gs
  unfolding Standing total
  turn s h = go s.rest s.run s.ahead s.split s.left s.counts
    where
      go : (rs : List Group) → grow_n e rs s.tree ≡ grow_n e gs t → Standing s.tree op i rs → s.done ++ map (onward e) rs ≡ map (onward e) gs → i + length rs ≡ w
          → ((l : ℕ) → (cols y).count l + total rs ≤ (cols x).count l + total gs) → Turn cap w e x y op n i t gs
      go [] a b c d f = absurd (omega arith)
      go (g ∷ rs) a b c d f =
          record { tree = s.tree; group = g; rest = rs; done = s.done; good = s.good; run = a; now = b.0; ahead = b.1; behind = s.behind; split = c; passed = s.passed; left = omega arith; counts = f }

  -- the group has taken the edge
  go_on : (y' : List ℕ) (st : SD.Reached) → i * 2 < length op → Turn cap w e x y op n i t gs → Taken cap n (field op 2 i 0) (field op 2 i 1) e y y' (Ok st)
      → State cap w e x y' (put_field op 2 i 0 st.at) st.nodes (suc i) t gs
  unfolding grow_n
  go_on y' st h u k =
      let a : Went cap n (field op 2 i 1) e y' u.tree u.group.path (landed e (suc n) (kids_at u.now.at)) st = k.is u.tree u.group.path u.good u.now.at in
      let T : Nodes = take_n (field op 2 i 1) e (suc n) u.tree u.group.path in
      let z : T ≡ take_n u.group.mult e (suc (size u.tree)) u.tree u.group.path = rw (u.now.mult-is, u.good.full) in
      let new : At T 0 (u.group.path ++ e ∷ []) st.at = rw a.at (at_new (field op 2 i 1) e (suc n) u.now.at) in
      let q = u.passed in
      record {
        tree = T;
        rest = u.rest;
        done = u.done ++ onward e u.group ∷ [];
        good = a.good;
        run = ap (λ (v : Nodes). grow_n e u.rest v) z ∙ u.run;
        ahead = ahead-on (field op 2 i 1) e (suc n) u.group.path u.tree u.good.rising op i st.at (suc i) u.rest (omega arith) u.ahead;
        behind =
            behind-on (field op 2 i 1) e (suc n) u.group.path u.tree u.good.rising op i st.at 0 u.done (omega arith) (onward e u.group)
            (record {
              at = rw (field-same op 2 i 0 st.at (omega arith)) new;
              mult-is = field-other op 2 i 0 st.at i 1 (omega arith) (omega arith) (λ y. omega arith) ∙ u.now.mult-is;
              some = u.now.some;
            })
            u.behind;
        split = append_assoc u.done (onward e u.group ∷ []) (map (onward e) u.rest) ∙ u.split;
        passed = length-append u.done (onward e u.group ∷ []) ∙ (let r : length u.done + 1 ≡ suc i = omega arith in r);
        left = u.left;
        counts = λ l.
            let c0 = u.counts l in
            let mi = u.now.mult-is in
            let c1 = k.counts l in
            omega arith;
      }

  -- the table is full
  stop : (y' : List ℕ) (k : Refusal) → Turn cap w e x y op n i t gs → Taken cap n (field op 2 i 0) (field op 2 i 1) e y y' (Err k) → Over cap e t gs (number k)
  unfolding grow_n
  stop y' k u q =
      let a : Full cap n (field op 2 i 1) e y y' u.tree u.group.path (number k) = q.is u.tree u.group.path u.good u.now.at in
      let z : take_n (field op 2 i 1) e (suc n) u.tree u.group.path ≡ take_n u.group.mult e (suc (size u.tree)) u.tree u.group.path = rw (u.now.mult-is, u.good.full) in
      let b = grow-grows e u.rest (take_n u.group.mult e (suc (size u.tree)) u.tree u.group.path) in
      let c = a.over in
      let d : size (take_n (field op 2 i 1) e (suc n) u.tree u.group.path) ≡ size (take_n u.group.mult e (suc (size u.tree)) u.tree u.group.path) = ap size z in
      let f : size (grow_n e u.rest (take_n u.group.mult e (suc (size u.tree)) u.tree u.group.path)) ≡ size (grow_n e gs t) = ap size u.run in
      record { number = a.number; over = omega arith }

  -- all have
  ended : State cap w e x y op n i t gs → w ≤ i → n ≤ cap → Grew cap e x y op t gs n
  unfolding grow_n total
  ended s h r = go s.rest s.run s.split s.left s.counts
    where
      append-nil : (ps : List Group) → ps ++ [] ≡ ps
      append-nil [] = refl
      append-nil (a ∷ ps) = ap (λ (q : List Group). a ∷ q) (append-nil ps)

      go : (rs : List Group) → grow_n e rs s.tree ≡ grow_n e gs t → s.done ++ map (onward e) rs ≡ map (onward e) gs → i + length rs ≡ w
          → ((l : ℕ) → (cols y).count l + total rs ≤ (cols x).count l + total gs) → Grew cap e x y op t gs n
      go [] a c d f =
          let v : s.done ≡ map (onward e) gs = sym (append-nil s.done) ∙ c in
          record { good = rw a at s.good; standing = rw (← a, ← v) s.behind; room = r; counts = λ l. let o = f l in omega arith }
      go (g ∷ rs) a c d f = absurd (omega arith)

-- ---- the loop's invariant

pub record Track (cap n₀ w : ℕ) (e : Ends) (x y op₀ op : List ℕ) (n i : ℕ) : Type 0 where
  pub all : (t : Nodes) (gs : List Group) → Good (cols x) n₀ t → Standing t op₀ 0 gs → length gs ≡ w → State cap w e x y op n i t gs
  pub room : n ≤ cap
  pub beyond : Beyond (told cap) x y
  pub beyond-open : Beyond (w * 2) op₀ op
  pub nodes : length y ≡ length x
  pub opened : length op ≡ length op₀

module _ (cap n₀ w : ℕ) (e : Ends) (x op₀ : List ℕ) (p : Walking cap n₀ w e x op₀) where
  pub track-start : Track cap n₀ w e x x op₀ op₀ n₀ 0
  unfolding Standing
  track-start =
      record {
        all = λ t gs g s l. record { tree = t; rest = gs; done = []; good = g; run = refl; ahead = s; behind = tt; split = refl; passed = refl; left = omega arith; counts = λ j. omega arith };
        room = p.room;
        beyond = λ j q. refl;
        beyond-open = λ j q. refl;
        nodes = refl;
        opened = refl;
      }

  module _ (y op : List ℕ) (n i : ℕ) (k : Track cap n₀ w e x y op₀ op n i) where
    pub track-open : i < w → i * 2 + 2 ≤ length op
    track-open h = let a = p.in-open in let b = k.opened in omega arith

    module _ (s m : ℕ) (hs : s ≡ field op 2 i 0) (hm : m ≡ field op 2 i 1) where
      pub track-ready : i < w → Ready cap n s m e y
      track-ready h =
          let u = turn cap w e x y op n i p.tree p.groups (k.all p.tree p.groups p.good p.standing p.many) h in
          let mi = u.now.mult-is in
          rw (hs, hm)
          (record {
            tree = u.tree;
            path = u.group.path;
            good = u.good;
            at = u.now.at;
            room = k.room;
            wide = wide-kept y p.wide k.nodes;
            spare = λ l q. let c = u.counts l in let d = p.spare l q in omega arith;
            ends = p.ends;
          })

      module _ (y' : List ℕ) (r : Result SD.Reached Refusal) (h : i < w) (q : Taken cap n s m e y y' r) where
        as-held : Taken cap n (field op 2 i 0) (field op 2 i 1) e y y' r
        as-held = rw (hs, hm) at q

        module _ (st : SD.Reached) (z : r ≡ Ok st) where
          q' : Taken cap n (field op 2 i 0) (field op 2 i 1) e y y' (Ok st)
          q' = rw z at as-held

          u : Turn cap w e x y op n i p.tree p.groups
          u = turn cap w e x y op n i p.tree p.groups (k.all p.tree p.groups p.good p.standing p.many) h

          v : Went cap n (field op 2 i 1) e y' u.tree u.group.path (landed e (suc n) (kids_at u.now.at)) st
          v = q'.is u.tree u.group.path u.good u.now.at

          -- the slot reached is one of the table
          pub track-fits : st.at < 2 ^ 32
          track-fits =
              let a = new-live (cols y') st.nodes (field op 2 i 1) e (suc n) u.now.at v.good in
              let d = v.at in
              let b = v.room in
              let c = p.wide.few in
              omega arith

          pub track-next : length y' ≡ length y → Track cap n₀ w e x y' op₀ (put_field op 2 i 0 st.at) st.nodes (i + 1)
          track-next a =
              let hi : i * 2 < length op = let b = track-open h in omega arith in
              rw (add-one i)
              (record {
                all = λ t gs g s' l. go_on cap w e x y op n i t gs y' st hi (turn cap w e x y op n i t gs (k.all t gs g s' l) h) q';
                room = v.room;
                beyond = λ j f. q.beyond j f ∙ k.beyond j f;
                beyond-open = λ j f. get_or-set_other op (i * 2 + 0) j st.at 0 (λ y. omega arith) ∙ k.beyond-open j f;
                nodes = a ∙ k.nodes;
                opened = length-set op (i * 2 + 0) st.at ∙ k.opened;
              })

        pub track-stop : (k' : Refusal) → r ≡ Err k' → TookAll cap n₀ w e x y' op₀ op (Err k')
        track-stop k' z =
            let q' : Taken cap n (field op 2 i 0) (field op 2 i 1) e y y' (Err k') = rw z at as-held in
            record {
              is = λ t gs g s' l. stop cap w e x y op n i t gs y' k' (turn cap w e x y op n i t gs (k.all t gs g s' l) h) q';
              beyond = λ j f. q.beyond j f ∙ k.beyond j f;
              beyond-open = k.beyond-open;
            }

    pub track-end : w ≤ i → TookAll cap n₀ w e x y op₀ op (Ok n)
    track-end h =
        record { is = λ t gs g s l. ended cap w e x y op n i t gs (k.all t gs g s l) h k.room; beyond = k.beyond; beyond-open = k.beyond-open }
