-- Reading the table in the search: what a link leads to, the tree of a vertex, the child for an edge, the sum of the branches.
use Rattle.std.specs.Prelude.{◌≡◌, false, not, List, [], ◌∷◌, eqb, Option, Some, None, Result, Ok, Err, refl, ℕ, zero, suc, ◌+◌, ◌*◌, ◌^◌, ◌<◌, ◌≤◌, true}
use Rattle.std.proofs.Common.{sym, ap, ◌∙◌, zero-add, add-zero, eq-eqb, ne_eqb, arith}
use Prim.Native.Nat.{Ordering}
use Rattle.std.proofs.Math.Option.{none, some}
use Rattle.definition.specs.Threading.{Ends, compare_ends, eq_ends}
use Rattle.definition.specs.Evidence.{Branches, bare, branch, Tree, Walk, has_branch, tree_at}
use Rattle.definition.specs.Search.{child, offers_edge, sum_of}
use Rattle.threading_node.specs.Ends.{ends, ends-path, gt-lt, lt-ne, eq-same, eq_ends-self, eq_ends-ne, eq_ends-false}
use Rattle.threading_node.specs.Nodes.{Nodes, nil, node, erase, size, seek_n, At, here, down, along, kids_at, Above, Rising, Fields, Links, above-less, Here, Between}
use Rattle.threading_node.specs.Rows.{seek_n-lt, seek_n-eq, seek_n-gt, gap_here, here-same}
use Rattle.threading_node.specs.Good.{row-of, row-rising, slot-live}
use Rattle.threading_node.specs.Slots.{cols, Slot}
use Rattle.threading_node.specs.Links.{slot_at, link_to, Linked, link_is, linked_at, some-link, none-link}
use Rattle.threading_node.specs.Cells.{place_of, Rowed, Sought}
use Rattle.threading_node.specs.Take.{Wide, wide-slot, links-row}
use Rattle.threading_tree.specs.Forest.{forest}
use Rattle.threading_tree.specs.Held.{HeldWalk}
use Rattle.threading_tree.specs.Listed.{size_b, size-erase}
use Rattle.std.specs.Result.{result_ok}
use Rattle.threading_node.specs.declared.Gap.{Gap}

-- the link l of a table with n nodes leads to the branches b
pub record Leads (n : ℕ) (x : List ℕ) (l : ℕ) (b : Branches) : Type 0 where
  pub row : Nodes
  pub links : Links (cols x) n l row
  pub rising : Rising row
  pub few : size row ≤ n
  pub is : erase row ≡ b

-- a row of later edges has no branch for e
above-child : (e : Ends) (t : Nodes) → Above e t → (child e (erase t) ≡ bare) × (offers_edge e (erase t) ≡ false)
unfolding Above erase child offers_edge
above-child e nil h = (refl, refl)
above-child e (node i f c b x) h =
    let n : eq_ends e f ≡ false = eq_ends-ne e f (lt-ne e f h.0) in
    let y = above-child e x h.1 in
    (rw (n, child) y.0, rw (n, offers_edge) y.1)

record Below (f : Fields) (n : ℕ) (e : Ends) (t : Nodes) (j : ℕ) : Type 0 where
  pub row : Nodes
  pub links : Links f n (f.kid j) row
  pub rising : Rising row
  pub few : size row ≤ size t
  pub some : 0 < j
  pub live : j ≤ n
  pub is : erase row ≡ child e (erase t)
  pub offers : offers_edge e (erase t) ≡ true

read_here : (f : Fields) (n : ℕ) (e : Ends) (j prev l : ℕ) (t : Nodes) → Links f n l t → Rising t → seek_n e prev t ≡ Here j → Below f n e t j
unfolding Links Rising erase size child offers_edge seek_n
read_here f n e j prev l nil v r h = absurd (gap_here h)
read_here f n e j prev l (node i d c b x) v r h = go (compare_ends e d) refl (λ z. read_here f n e j i (f.next i) x v.2 r.2 z)
  where
    there : e ≡ d → i ≡ j → Below f n e (node i d c b x) j
    there z y =
        let q : eq_ends e d ≡ true = rw z (eq_ends-self d) in
        record {
          row = b;
          links = rw y at v.1;
          rising = r.1;
          few = omega arith;
          some = rw y at v.0.some;
          live = rw y at v.0.live;
          is = rw (q, child);
          offers = rw (q, offers_edge);
        }

    on : compare_ends e d ≡ Ordering.gt → Below f n e x j → Below f n e (node i d c b x) j
    on z y =
        let q : eq_ends e d ≡ false = eq_ends-ne e d (λ w. lt-ne d e (gt-lt e d z) (sym w)) in
        let fw = y.few in
        record {
          row = y.row;
          links = y.links;
          rising = y.rising;
          few = omega arith;
          some = y.some;
          live = y.live;
          is = rw (q, child) y.is;
          offers = rw (q, offers_edge) y.offers;
        }

    go : (o : Ordering) → compare_ends e d ≡ o → (seek_n e i x ≡ Here j → Below f n e x j) → Below f n e (node i d c b x) j
    go Ordering.lt z ih = absurd (gap_here (sym (seek_n-lt e prev i d c b x z) ∙ h))
    go Ordering.eq z ih = there (eq-same e d z) (here-same (sym (seek_n-eq e prev i d c b x z) ∙ h))
    go Ordering.gt z ih = on z (ih (sym (seek_n-gt e prev i d c b x z) ∙ h))

read-gap : (e : Ends) (u w prev : ℕ) (t : Nodes) → Rising t → seek_n e prev t ≡ Between u w → (child e (erase t) ≡ bare) × (offers_edge e (erase t) ≡ false)
unfolding Rising Above erase child offers_edge seek_n
read-gap e u w prev nil r h = (refl, refl)
read-gap e u w prev (node i d c b x) r h = go (compare_ends e d) refl (λ z. read-gap e u w i x r.2 z)
  where
    go : (o : Ordering) → compare_ends e d ≡ o → (seek_n e i x ≡ Between u w → (child e (erase x) ≡ bare) × (offers_edge e (erase x) ≡ false))
        → (child e (erase (node i d c b x)) ≡ bare) × (offers_edge e (erase (node i d c b x)) ≡ false)
    go Ordering.lt z ih = above-child e (node i d c b x) (z, above-less e d x z r.0)
    go Ordering.eq z ih = absurd (gap_here (sym h ∙ seek_n-eq e prev i d c b x z))
    go Ordering.gt z ih =
        let q : eq_ends e d ≡ false = eq_ends-ne e d (λ y. lt-ne d e (gt-lt e d z) (sym y)) in
        let y = ih (sym (seek_n-gt e prev i d c b x z) ∙ h) in
        (rw (q, child) y.0, rw (q, offers_edge) y.1)

pub record ChildAt (n : ℕ) (x : List ℕ) (e : Ends) (b : Branches) (j : ℕ) : Type 0 where
  pub some : 0 < j
  pub live : j ≤ n
  pub offers : offers_edge e b ≡ true
  pub leads : Leads n x ((cols x).kid j) (child e b)

pub record NoChild (e : Ends) (b : Branches) : Type 0 where
  pub child : child e b ≡ bare
  pub offers : offers_edge e b ≡ false

-- ---- the tree of a vertex

size-kids : {t : Nodes} {q s : ℕ} {p : List Ends} (a : At t q p s) → size (kids_at a) ≤ size t
unfolding size kids_at
size-kids here = omega arith
size-kids (down a) = let q = size-kids a in omega arith
size-kids (along m a) = let q = size-kids a in omega arith

-- one row of branches as a list of trees: its first
record FirstTree (f : Ends) (b x : Branches) (ts : List Tree) : Type 0 where
  pub tree : Tree
  pub rest : List Tree
  pub is : ts ≡ tree ∷ rest
  pub edge : f ≡ ends tree.vertex tree.vertex
  pub below : b ≡ tree.below
  pub after : x ≡ forest rest

first-tree : (f : Ends) (c : ℕ) (b x : Branches) (ts : List Tree) → branch f c b x ≡ forest ts → FirstTree f b x ts
unfolding forest
first-tree f c b x [] h = absurd (let z : ◌≡◌ {A = ℕ} 0 1 = cc in omega arith)
first-tree f c b x (t ∷ ts) h =
    let g : branch f c b x ≡ branch (ends t.vertex t.vertex) t.count t.below (forest ts) = h in
    record { tree = t; rest = ts; is = refl; edge = cc; below = cc; after = cc }

no-first : (f : Ends) (c : ℕ) (b x : Branches) → branch f c b x ≡ bare → ⊥
no-first f c b x h = let z : ◌≡◌ {A = ℕ} 0 1 = cc in omega arith

tree_at-here : (v : ℕ) (t : Tree) (ts : List Tree) → t.vertex ≡ v → tree_at (t ∷ ts) v ≡ some t.below
unfolding tree_at
tree_at-here v t ts z = rw (eq-eqb t.vertex v z, tree_at)

tree_at-there : (v : ℕ) (t : Tree) (ts : List Tree) → (t.vertex ≡ v → ⊥) → tree_at (t ∷ ts) v ≡ tree_at ts v
unfolding tree_at
tree_at-there v t ts z = rw (ne_eqb t.vertex v z, tree_at)

at-tree : (v : ℕ) {t : Nodes} {q s : ℕ} (a : At t q (ends v v ∷ []) s) (ts : List Tree) → erase t ≡ forest ts → tree_at ts v ≡ some (erase (kids_at a))
unfolding erase kids_at
at-tree v (down {c = c} {b = b} {x = x} here) ts h =
    let w = first-tree (ends v v) c (erase b) (erase x) ts h in
    let z : w.tree.vertex ≡ v = sym (ap (λ (d : Ends). d.from) w.edge) in
    rw w.is (tree_at-here v w.tree w.rest z ∙ ap (λ (d : Branches). some d) (sym w.below))
at-tree v (along {c = c} {f = f} {b = b} {x = x} n a) ts h =
    let w = first-tree f c (erase b) (erase x) ts h in
    let z : w.tree.vertex ≡ v → ⊥ = λ y. eq_ends-false (ends v v) f n (sym (w.edge ∙ ap (λ (u : ℕ). ends u u) y)) in
    rw w.is (tree_at-there v w.tree w.rest z ∙ at-tree v a w.rest w.after)

no-tree : (v q : ℕ) (t : Nodes) (ts : List Tree) → erase t ≡ forest ts → ((s : ℕ) → At t q (ends v v ∷ []) s → ⊥) → tree_at ts v ≡ none
unfolding erase forest tree_at
no-tree v q nil [] h n = refl
no-tree v q nil (t ∷ ts) h n = absurd (no-first (ends t.vertex t.vertex) t.count t.below (forest ts) (sym h))
no-tree v q (node i f c b x) ts h n =
    let w = first-tree f c (erase b) (erase x) ts h in
    let ne : ends v v ≡ f → ⊥ = λ y. n i (rw y (down here)) in
    let z : w.tree.vertex ≡ v → ⊥ = λ y. ne (sym (w.edge ∙ ap (λ (u : ℕ). ends u u) y)) in
    rw w.is (tree_at-there v w.tree w.rest z ∙ no-tree v q x w.rest w.after (λ s a. n s (along (eq_ends-ne (ends v v) f ne) a)))

pub record TreeOf (w : Walk) (n : ℕ) (x : List ℕ) (root v : ℕ) : Type 0 where
  pub below : Branches
  pub is : tree_at w.trees v ≡ some below
  pub live : root ≤ n
  pub leads : Leads n x ((cols x).kid root) below

module _ (w : Walk) (cap n g b : ℕ) (root : ℕ → ℕ) (x op : List ℕ) (h : HeldWalk w cap n g b root x op) (v : ℕ) where
  -- (Rust: junction_tree_for_node)
  pub held-tree : (root v ≡ 0 → ⊥) → TreeOf w n x (root v) v
  held-tree ne =
      let a = h.rooted v ne in
      let q = size-kids a in
      let f = h.good.full in
      record {
        below = erase (kids_at a);
        is = at-tree v a w.trees h.same.trees;
        live = slot-live (cols x) (cols x) n 0 (ends v v) (root v) h.good a;
        leads =
            record {
              row = kids_at a;
              links = row-of (cols x) (cols x) n 0 (ends v v) (root v) h.good a;
              rising = row-rising (cols x) (cols x) n 0 (ends v v) (root v) h.good a;
              few = omega arith;
              is = refl;
            };
      }

  pub held-no-tree : root v ≡ 0 → tree_at w.trees v ≡ none
  held-no-tree z = no-tree v 0 h.tree w.trees h.same.trees (h.unrooted v z)

-- ---- what a link tells

-- the branch at a link that is not 0
pub record BranchAt (n : ℕ) (x : List ℕ) (l : ℕ) (b : Branches) : Type 0 where
  pub below : Branches
  pub next : Branches
  pub is : b ≡ branch (ends ((cols x).from l) ((cols x).to l)) ((cols x).count l) below next
  pub live : l ≤ n
  pub kids : Leads n x ((cols x).kid l) below
  pub rest : Leads n x ((cols x).next l) next

module _ (n : ℕ) (x : List ℕ) (l : ℕ) (b : Branches) (h : Leads n x l b) where
  pub leads-none : l ≡ 0 → b ≡ bare
  unfolding Links erase
  leads-none z = go h.row h.links h.is
    where
      go : (t : Nodes) → Links (cols x) n l t → erase t ≡ b → b ≡ bare
      go nil k e = sym e
      go (node i f c y r) k e = let p = k.0.is in let q = k.0.some in absurd (omega arith)

  pub leads-branch : (l ≡ 0 → ⊥) → BranchAt n x l b
  unfolding Links Rising size erase
  leads-branch ne = go h.row h.links h.rising h.few h.is
    where
      same_branch : (f g : Ends) (c d : ℕ) (y r : Branches) → f ≡ g → c ≡ d → branch f c y r ≡ branch g d y r
      same_branch f g c d y r p q = cc

      go : (t : Nodes) → Links (cols x) n l t → Rising t → size t ≤ n → erase t ≡ b → BranchAt n x l b
      go nil k r s e = absurd (ne k)
      go (node i f c y t) k r s e =
          let z : l ≡ i = k.0.is in
          let d : f ≡ ends ((cols x).from l) ((cols x).to l) = sym (ends-path ((cols x).from l) ((cols x).to l) f.from f.to (rw z k.0.from) (rw z k.0.to)) in
          record {
            below = erase y;
            next = erase t;
            is = sym e ∙ same_branch f (ends ((cols x).from l) ((cols x).to l)) c ((cols x).count l) (erase y) (erase t) d (sym (rw z k.0.count));
            live = rw z k.0.live;
            kids = record { row = y; links = rw z k.1; rising = r.1; few = omega arith; is = refl };
            rest = record { row = t; links = rw z k.2; rising = r.2; few = omega arith; is = refl };
          }

  -- (Rust: has_no_evidence)
  pub leads-has : has_branch b ≡ not (eqb l 0)
  unfolding has_branch
  leads-has = go l refl
    where
      has : BranchAt n x l b → has_branch b ≡ true
      has w = rw w.is

      go : (k : ℕ) → l ≡ k → has_branch b ≡ not (eqb l 0)
      go zero z = rw (z, leads-none z)
      go (suc k) z = let ne : l ≡ 0 → ⊥ = λ y. omega arith in has (leads-branch ne) ∙ rw (ne_eqb l 0 ne)

  -- ---- the child for an edge

  module _ (cap : ℕ) (room : n ≤ cap) (wide : Wide cap x) where
    module _ (start : Option ℕ) (is : link_to start ≡ l) where
      leads-rowed : Linked start → Rowed x start
      leads-rowed k = record { row = h.row; leads = rw is (links-row cap n l x h.row room wide h.links); rising = h.rising; linked = k }

      module _ (e : Ends) (r : Result ℕ Gap) (s : Sought x start e r) where
        found : seek_n e 0 h.row ≡ place_of r
        found = sym (s.stands.is h.row (rw is (links-row cap n l x h.row room wide h.links)))

        leads-here : (j : ℕ) → place_of r ≡ Here j → ChildAt n x e b j
        leads-here j z =
            let q = read_here (cols x) n e j 0 l h.row h.links h.rising (found ∙ z) in
            let f1 = q.few in
            let f2 = h.few in
            record {
              some = q.some;
              live = q.live;
              offers = ap (λ (d : Branches). offers_edge e d) (sym h.is) ∙ q.offers;
              leads = record { row = q.row; links = q.links; rising = q.rising; few = omega arith; is = q.is ∙ ap (λ (d : Branches). child e d) h.is };
            }

        leads-gap : (u w : ℕ) → place_of r ≡ Between u w → NoChild e b
        leads-gap u w z =
            let q = read-gap e u w 0 h.row h.rising (found ∙ z) in
            record { child = ap (λ (d : Branches). child e d) (sym h.is) ∙ q.0; offers = ap (λ (d : Branches). offers_edge e d) (sym h.is) ∙ q.1 }

-- ---- the search for a child's slot

-- by the answer, none or the child's slot
pub record ChildSlot (n : ℕ) (x : List ℕ) (l : ℕ) (e : Ends) (r : Option ℕ) : Type 0 where
  pub there : (b : Branches) → Leads n x l b → (j : ℕ) → r ≡ Some j → ChildAt n x e b j
  pub missing : (b : Branches) → Leads n x l b → r ≡ None → NoChild e b

pub record Readable (cap n : ℕ) (x : List ℕ) (l : ℕ) : Type 0 where
  pub branches : Branches
  pub leads : Leads n x l branches
  pub room : n ≤ cap
  pub wide : Wide cap x

-- the slot that a link of the table leads to, as a row to read begins at it
pub readable-at : (cap n : ℕ) (x : List ℕ) (l : ℕ) → Readable cap n x l → (start : Option ℕ) → start ≡ slot_at l → Readable cap n x (link_to start) × Linked start
readable-at cap n x l p start e =
    let z : link_to start ≡ l = ap link_to e ∙ link_is l in
    (rw z p, rw e (linked_at l))

module _ (cap n : ℕ) (x : List ℕ) (start : Option ℕ) (p : Readable cap n x (link_to start) × Linked start) where
  pub readable-rowed : Rowed x start
  readable-rowed = leads-rowed n x (link_to start) p.0.branches p.0.leads cap p.0.room p.0.wide start refl p.1

  pub child-told : (e : Ends) (r : Result ℕ Gap) → Sought x start e r → ChildSlot n x (link_to start) e (result_ok r)
  child-told e (Ok i) s =
      record {
        there = λ b h j z. leads-here n x (link_to start) b h cap p.0.room p.0.wide start refl e (Ok i) s j (ap Here (cc));
        missing = λ b h z. absurd (let y : ◌≡◌ {A = ℕ} 0 1 = cc in omega arith);
      }
  child-told e (Err g) s =
      record {
        there = λ b h j z. absurd (let y : ◌≡◌ {A = ℕ} 0 1 = cc in omega arith);
        missing = λ b h z. leads-gap n x (link_to start) b h cap p.0.room p.0.wide start refl e (Err g) s (link_to g.after) (link_to g.before) refl;
      }

-- ---- the sum of the branches (Rust: total_out_for_branch)

pub record Summed (n : ℕ) (x : List ℕ) (l r : ℕ) : Type 0 where
  pub is : (b : Branches) → Leads n x l b → r ≡ sum_of b

-- a link leads to one row only
links-one : (x : List ℕ) (n l : ℕ) (s t : Nodes) → Links (cols x) n l s → Links (cols x) n l t → s ≡ t
unfolding Links
links-one x n l nil nil p q = refl
links-one x n l nil (node i f c b y) p q = let h = q.0.some in let k = q.0.is in absurd (omega arith)
links-one x n l (node i f c b y) nil p q = let h = p.0.some in let k = p.0.is in absurd (omega arith)
links-one x n l (node i f c b y) (node i' f' c' b' y') p q =
    let ii : i ≡ i' = sym p.0.is ∙ q.0.is in
    let ff : f ≡ f' =
    ends-path f.from f.to f'.from f'.to (sym p.0.from ∙ ap (λ (j : ℕ). (cols x).from j) ii ∙ q.0.from)
    (sym p.0.to ∙ ap (λ (j : ℕ). (cols x).to j) ii ∙ q.0.to) in
    let cc' : c ≡ c' = sym p.0.count ∙ ap (λ (j : ℕ). (cols x).count j) ii ∙ q.0.count in
    let bb = links-one x n ((cols x).kid i) b b' p.1 (rw ii q.1) in
    let yy = links-one x n ((cols x).next i) y y' p.2 (rw ii q.2) in
    cc

pub leads_one : (n : ℕ) (x : List ℕ) (l : ℕ) (b d : Branches) → Leads n x l b → Leads n x l d → b ≡ d
leads_one n x l b d h k = sym h.is ∙ ap erase (links-one x n l h.row k.row h.links k.links) ∙ k.is

-- some have been added, and the rest is the row at the link
pub record Summing (n : ℕ) (x : List ℕ) (l at total : ℕ) : Type 0 where
  pub rest : Branches
  pub leads : Leads n x at rest
  pub under : total + size_b rest * 2 ^ 32 ≤ n * 2 ^ 32
  pub run : (b : Branches) → Leads n x l b → total + sum_of rest ≡ sum_of b

module _ (cap n : ℕ) (x : List ℕ) (l : ℕ) (p : Readable cap n x l) where
  size-under : 0 + size_b p.branches * 2 ^ 32 ≤ n * 2 ^ 32
  size-under =
      let a : size_b p.branches ≡ size p.leads.row = ap size_b (sym p.leads.is) ∙ size-erase p.leads.row in
      let b = p.leads.few in
      omega arith

  pub summing_start : Summing n x l l 0
  summing_start =
      record { rest = p.branches; leads = p.leads; under = size-under; run = λ b h. zero-add (sum_of p.branches) ∙ ap sum_of (leads_one n x l p.branches b p.leads h) }

  module _ (o : Option ℕ) (total : ℕ) (k : Summing n x l (link_to o) total × Linked o) where
    pub summing-end : ((s : ℕ) → o ≡ Some s → ⊥) → Summed n x l total
    unfolding sum_of
    summing-end ne =
        record {
          is = λ b h.
              sym (add-zero total) ∙ ap (λ (d : Branches). total + sum_of d) (sym (leads-none n x (link_to o) k.0.rest k.0.leads (none-link o ne))) ∙ k.0.run b h;
        }

    module _ (at : ℕ) (is : o ≡ Some at) where
      ne : at ≡ 0 → ⊥
      ne = some-link o at k.1 is

      here-sum : Summing n x l at total
      here-sum = rw is at k.0

      met : BranchAt n x at here-sum.rest
      met = leads-branch n x at here-sum.rest here-sum.leads ne

      pub summing-slot : Slot at x
      summing-slot =
          let a = met.live in
          let b = p.room in
          wide-slot p.wide at (omega arith)

      module _ (c : ℕ) (hc : c ≡ (cols x).count at) where
        size_rest : size_b here-sum.rest ≡ suc (size_b met.below + size_b met.next)
        unfolding size_b
        size_rest = rw met.is

        pub summing-fits : c < 2 ^ 32 → total + c < 2 ^ 64
        summing-fits u =
            let q = here-sum.under in
            let r = size_rest in
            let ro = p.room in
            let wf = p.wide.few in
            omega arith

        module _ (nx : Option ℕ) (hn : nx ≡ slot_at ((cols x).next at)) where
          link : link_to nx ≡ (cols x).next at
          link = ap link_to hn ∙ link_is ((cols x).next at)

          pub summing-next : c < 2 ^ 32 → Summing n x l (link_to nx) (total + c) × Linked nx
          unfolding sum_of
          summing-next u =
              let w = met in
              let su = here-sum.under in
              let sr = size_rest in (
                rw link
                    (record {
                      rest = w.next;
                      leads = w.rest;
                      under = omega arith;
                      run = λ b h.
                          let q = here-sum.run b h in
                          let r : sum_of here-sum.rest ≡ (cols x).count at + sum_of w.next = ap sum_of w.is in
                          let e = hc in
                          omega arith;
                    }),
                rw hn (linked_at ((cols x).next at)),
              )
