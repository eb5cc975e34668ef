-- What taking an edge asks and ensures, and that the stores of the code are the change. (Rust: ThreadingNode::add_edge)
use Rattle.std.specs.Prelude.{◌≡◌, refl, List, [], length, Option, Result, Ok, Err, ℕ, suc, ◌+◌, ◌^◌, ◌<◌, ◌≤◌}
use Rattle.std.proofs.Common.{sym, ap, ◌∙◌, arith, add-one}
use Prim.Native.Nat.{Ordering}
use Rattle.definition.specs.Threading.{Ends, compare_ends}
use Rattle.threading_node.specs.Nodes.{Nodes, nil, node, size, take_n, seek_n, landed, At, kids_at, Fields, Links, Here, Between}
use Rattle.threading_node.specs.Table.{long-not}
use Rattle.threading_node.specs.Rows.{Bumped, Added, Stopped, head, inside, seek-gap, seek_n-lt, seek_n-eq, seek_n-gt, gap_here, gap-before}
use Rattle.threading_node.specs.Good.{Good, row-of, row-owned, row-rising, slot-live, mine, child-found, good-bumped, good-added, landed-here, landed-gap, size-take, size-gap}
use Rattle.threading_node.specs.Slots.{cols, told, Slot, Beyond, raised, placed, linked, raised-length, raised-count, placed-length, placed_off, bumped-of, bumped-under, bumped-beyond, added_of, added-under, added-beyond}
use Rattle.threading_node.specs.Links.{slot_at, link_to, link_is, linked_at}
use Rattle.threading_node.specs.Cells.{place_of, Row, Rowed, Sought}
use Rattle.threading_node.specs.declared.Reached.{Reached}
use Rattle.threading_node.specs.declared.Gap.{Gap}
use Rattle.refusals.specs.declared.Refusal.{Refusal}
use Rattle.refusals.specs.declared.Refusal.TheVariants.{TreeNodes}
use Rattle.refusals.specs.Numbers.{number}

-- room for slots up to cap, and a slot is a number of the table
pub record Wide (cap : ℕ) (x : List ℕ) : Type 0 where
  pub long : told cap ≤ length x
  pub few : cap < 2 ^ 32

pub wide-slot : {cap : ℕ} {x : List ℕ} → Wide cap x → (l : ℕ) → l ≤ cap → Slot l x
wide-slot w l h = let q = w.long in omega arith

pub wide-kept : {cap : ℕ} {x : List ℕ} (y : List ℕ) → Wide cap x → length y ≡ length x → Wide cap y
wide-kept y w e = let q = w.long in record { long = omega arith; few = w.few }

-- ends small enough to be packed
abbrev pub Packable : Ends → Type 0
Packable e = (e.from < 2 ^ 16) × (e.to < 2 ^ 16)

-- no count grows past a u32 by m more
abbrev pub Spare : ℕ → ℕ → List ℕ → Type 0
Spare cap m x = (l : ℕ) → l ≤ cap → (cols x).count l + m < 2 ^ 32

-- the table is good, the slot is a node of it, and no count grows past a u32
pub record Ready (cap n s m : ℕ) (e : Ends) (x : List ℕ) : Type 0 where
  pub tree : Nodes
  pub path : List Ends
  pub good : Good (cols x) n tree
  pub at : At tree 0 path s
  pub room : n ≤ cap
  pub wide : Wide cap x
  pub spare : Spare cap m x
  pub ends : Packable e

pub record Went (cap n m : ℕ) (e : Ends) (y : List ℕ) (t : Nodes) (p : List Ends) (j : ℕ) (st : Reached) : Type 0 where
  pub good : Good (cols y) st.nodes (take_n m e (suc n) t p)
  pub at : st.at ≡ j
  pub room : st.nodes ≤ cap

pub record Full (cap n m : ℕ) (e : Ends) (x y : List ℕ) (t : Nodes) (p : List Ends) (k : ℕ) : Type 0 where
  pub number : k ≡ 9
  pub same : y ≡ x
  pub over : size (take_n m e (suc n) t p) ≡ suc cap

-- by the answer: the tree has changed as defined and the child stands where told; or the node would be one too many, and nothing has changed
abbrev pub After : ℕ → ℕ → ℕ → Ends → List ℕ → List ℕ → Nodes → List Ends → ℕ → Result Reached Refusal → Type 0
After cap n m e x y t p j (Ok st) = Went cap n m e y t p j st
After cap n m e x y t p j (Err k) = Full cap n m e x y t p (number k)

pub record Taken (cap n s m : ℕ) (e : Ends) (x y : List ℕ) (r : Result Reached Refusal) : Type 0 where
  pub is : (t : Nodes) (p : List Ends) → Good (cols x) n t → (a : At t 0 p s) → After cap n m e x y t p (landed e (suc n) (kids_at a)) r
  pub counts : (l : ℕ) → (cols y).count l ≤ (cols x).count l + m
  pub beyond : Beyond (told cap) x y

-- ---- the row of the node's children

pub links-row : (cap n l : ℕ) (x : List ℕ) (t : Nodes) → n ≤ cap → Wide cap x → Links (cols x) n l t → Row x l t
unfolding Links Row
links-row cap n l x nil h w v = v
links-row cap n l x (node i e c b y) h w v =
    let q = v.0.live in (
      record { is = v.0.is; some = v.0.some; slot = wide-slot w i (omega arith); from_is = v.0.from; to_is = v.0.to },
      links-row cap n ((cols x).next i) x y h w v.2,
    )

-- the slot before which a new child is to stand
gap-live : (f : Fields) (e : Ends) (n u w prev l : ℕ) (t : Nodes) → seek_n e prev t ≡ Between u w → Links f n l t → w ≤ n
unfolding Links seek_n
gap-live f e n u w prev l nil h v = let z = gap-before h in omega arith
gap-live f e n u w prev l (node i d c b x) h v = go (compare_ends e d) refl (λ z. gap-live f e n u w i (f.next i) x z v.2)
  where
    go : (o : Ordering) → compare_ends e d ≡ o → (seek_n e i x ≡ Between u w → w ≤ n) → w ≤ n
    go Ordering.lt z ih = let y = gap-before (sym (seek_n-lt e prev i d c b x z) ∙ h) in let q = v.0.live in omega arith
    go Ordering.eq z ih = absurd (gap_here (sym h ∙ seek_n-eq e prev i d c b x z))
    go Ordering.gt z ih = ih (sym (seek_n-gt e prev i d c b x z) ∙ h)

module _ (cap n s m : ℕ) (e : Ends) (x : List ℕ) where
  pub number_fits : Ready cap n s m e x → n + 1 < 2 ^ 64
  number_fits v = let a = v.room in let b = v.wide.few in omega arith

  pub slot-in : Ready cap n s m e x → s ≤ n
  slot-in v = slot-live (cols x) (cols x) n m e s v.good v.at

  pub slot_of : Ready cap n s m e x → (l : ℕ) → l ≤ n → Slot l x
  slot_of v l h = let q = v.room in wide-slot v.wide l (omega arith)

  pub node-slot : Ready cap n s m e x → Slot s x
  node-slot v = slot_of v s (slot-in v)

  pub node-spare : Ready cap n s m e x → (cols x).count s + m < 2 ^ 32
  node-spare v = let q = v.room in let p = slot-in v in v.spare s (omega arith)

  kids-row : (t : Nodes) (p : List Ends) (g : Good (cols x) n t) (a : At t 0 p s) → Ready cap n s m e x → Row x ((cols x).kid s) (kids_at a)
  kids-row t p g a v = links-row cap n ((cols x).kid s) x (kids_at a) v.room v.wide (row-of (cols x) (cols x) n m e s g a)

  module _ (start : Option ℕ) (is : start ≡ slot_at ((cols x).kid s)) where
    link : link_to start ≡ (cols x).kid s
    link = ap link_to is ∙ link_is ((cols x).kid s)

    pub rowed : Ready cap n s m e x → Rowed x start
    rowed v =
        record {
          row = kids_at v.at;
          leads = rw link (kids-row v.tree v.path v.good v.at v);
          rising = row-rising (cols x) (cols x) n m e s v.good v.at;
          linked = rw is (linked_at ((cols x).kid s));
        }

    -- what the search's answer tells
    module _ (r : Result ℕ Gap) (v : Ready cap n s m e x) (f : Sought x start e r) where
      place_is : (t : Nodes) (p : List Ends) (g : Good (cols x) n t) (a : At t 0 p s) → seek_n e 0 (kids_at a) ≡ place_of r
      place_is t p g a = sym (f.stands.is (kids_at a) (rw link (kids-row t p g a v)))

      pub record IsHere (j : ℕ) : Type 0 where
        pub some : 0 < j
        pub live : j ≤ n
        pub other : j ≡ s → ⊥

      pub is-here : (j : ℕ) → place_of r ≡ Here j → IsHere j
      is-here j h =
          let q = child-found (cols x) (cols x) n m e s v.good v.at j (place_is v.tree v.path v.good v.at ∙ h) in
          record { some = q.some; live = q.live; other = λ z. long-not v.path e [] (sym q.path ∙ ap v.good.own z ∙ mine (cols x) (cols x) n m e s v.good v.at) }

      pub record IsGap (u w : ℕ) : Type 0 where
        pub live : u ≤ n
        pub other : 0 < u → u ≡ s → ⊥
        pub next : w ≤ n

      pub is-gap : (u w : ℕ) → place_of r ≡ Between u w → IsGap u w
      is-gap u w h =
          go
          (seek-gap v.good.own v.path (cols x) e (suc n) n u w 0 ((cols x).kid s) (kids_at v.at) here-gap (row-of (cols x) (cols x) n m e s v.good v.at)
          (row-owned (cols x) (cols x) n m e s v.good v.at))
        where
          here-gap : seek_n e 0 (kids_at v.at) ≡ Between u w
          here-gap = place_is v.tree v.path v.good v.at ∙ h

          after : w ≤ n
          after = gap-live (cols x) e n u w 0 ((cols x).kid s) (kids_at v.at) here-gap (row-of (cols x) (cols x) n m e s v.good v.at)

          go : Stopped v.good.own v.path (cols x) e (suc n) n u 0 ((cols x).kid s) (kids_at v.at) → IsGap u w
          go (head q z) = record { live = omega arith; other = λ y. absurd (omega arith); next = after }
          go (inside d p1 p2 p3 p4 p5 p6 z) =
              record { live = p2; other = λ y i. long-not v.path d [] (sym p3 ∙ ap v.good.own i ∙ mine (cols x) (cols x) n m e s v.good v.at); next = after }

      -- refused: one node too many, nothing changed
      pub taken-full : (u w : ℕ) → place_of r ≡ Between u w → cap < n + 1 → Taken cap n s m e x x (Err TreeNodes)
      taken-full u w h k =
          record {
            is = λ t p g a.
                record {
                  number = refl;
                  same = refl;
                  over = let z = size-take m e (suc n) 1 a (size-gap m e (suc n) u w 0 (kids_at a) (place_is t p g a ∙ h)) in let y = g.full in let q = v.room in omega arith;
                };
            counts = λ l. omega arith;
            beyond = λ i q. refl;
          }

      taken_here : (j : ℕ) (y : List ℕ) → place_of r ≡ Here j → Bumped (cols x) (cols y) m s j → ((l : ℕ) → (cols y).count l ≤ (cols x).count l + m) → Beyond (told cap) x y
          → Taken cap n s m e x y (Ok (record { nodes = n; at = j }))
      taken_here j y h b q f =
          record {
            is = λ t p g a.
                record {
                  good = good-bumped (cols x) (cols y) n m e s p g a j (place_is t p g a ∙ h) b;
                  at = sym (landed-here m e (suc n) j 0 (kids_at a) (place_is t p g a ∙ h));
                  room = v.room;
                };
            counts = q;
            beyond = f;
          }

      taken-gap : (u w : ℕ) (y : List ℕ) → place_of r ≡ Between u w → n < cap → Added (cols x) (cols y) m e s (suc n) u w → ((l : ℕ) → (cols y).count l ≤ (cols x).count l + m) → Beyond (told cap) x y
          → Taken cap n s m e x y (Ok (record { nodes = n + 1; at = n + 1 }))
      taken-gap u w y h k b q f =
          rw add-one
          (record {
            is = λ t p g a.
                record {
                  good = good-added (cols x) (cols y) n m e s p g a u w (place_is t p g a ∙ h) b;
                  at = sym (landed-gap m e (suc n) u w 0 (kids_at a) (place_is t p g a ∙ h));
                  room = omega arith;
                };
            counts = q;
            beyond = f;
          })

      -- ---- the code's ways: the child is there

      module _ (j : ℕ) (h : place_of r ≡ Here j) (y1 : List ℕ) (e1 : y1 ≡ raised x s m) where
        pub child-slot : Slot j y1
        child-slot = let q = slot_of v j (is-here j h).live in let p = raised-length x s m in rw e1 (omega arith)

        pub child-spare : (cols y1).count j + m < 2 ^ 32
        child-spare =
            let l = (is-here j h).live in
            let ro = v.room in
            let q = v.spare j (omega arith) in
            let p = raised-count x s m j (is-here j h).other in
            rw e1 (omega arith)

        pub code_here : (y : List ℕ) → y ≡ raised y1 j m → Taken cap n s m e x y (Ok (record { nodes = n; at = j }))
        code_here y e2 =
            let q = is-here j h in
            let li = q.live in
            let si = slot-in v in
            let ro = v.room in
            let z : y ≡ raised (raised x s m) j m = e2 ∙ ap (λ (w : List ℕ). raised w j m) e1 in
            rw z
            (taken_here j (raised (raised x s m) j m) h (bumped-of x s j m q.other (node-slot v) (slot_of v j li))
            (bumped-under x s j m q.other (node-slot v) (slot_of v j li)) (bumped-beyond x s j m q.other (node-slot v) (slot_of v j li) cap (omega arith) (omega arith)))

      -- the child is new
      module _ (u w : ℕ) (h : place_of r ≡ Between u w) (less : n + 1 ≤ cap) where
        pub new-slot : Slot (n + 1) x
        new-slot = wide-slot v.wide (n + 1) (omega arith)

        pub gap-fits : w < 2 ^ 32
        gap-fits = let a = (is-gap u w h).next in let b = v.wide.few in omega arith

        pub new-fits : n + 1 < 2 ^ 32
        new-fits = let b = v.wide.few in omega arith

        module _ (y1 : List ℕ) (e1 : y1 ≡ placed x (n + 1) e.from e.to m w) where
          pub parent-slot : Slot s y1
          parent-slot = let q = node-slot v in let p = placed-length x (n + 1) e.from e.to m w in rw e1 (omega arith)

          pub parent-spare : (cols y1).count s + m < 2 ^ 32
          parent-spare =
              let q = node-spare v in
              let i = slot-in v in
              let p : (cols (placed x (n + 1) e.from e.to m w)).count s ≡ (cols x).count s = (placed_off x (n + 1) e.from e.to m w s (λ z. omega arith)).count in
              rw e1 (omega arith)

          module _ (y2 : List ℕ) (e2 : y2 ≡ raised y1 s m) where
            long2 : length y2 ≡ length x
            long2 = rw (e2, e1) (raised-length (placed x (n + 1) e.from e.to m w) s m ∙ placed-length x (n + 1) e.from e.to m w)

            pub link-slot : Slot s y2
            link-slot = let q = node-slot v in let p = long2 in omega arith

            pub sibling-slot : Slot u y2
            sibling-slot = let q = slot_of v u (is-gap u w h).live in let p = long2 in omega arith

            pub code-gap : (y : List ℕ) → y ≡ linked y2 s u (n + 1) → Taken cap n s m e x y (Ok (record { nodes = n + 1; at = n + 1 }))
            code-gap y e3 =
                let q = is-gap u w h in
                let ul = q.live in
                let sl = slot-in v in
                let sk : s < n + 1 = omega arith in
                let uk : u < n + 1 = omega arith in
                let z : y ≡ linked (raised (placed x (n + 1) e.from e.to m w) s m) s u (n + 1)
                = e3 ∙ ap (λ (a : List ℕ). linked a s u (n + 1)) (e2 ∙ ap (λ (a : List ℕ). raised a s m) e1) in
                rw z
                (taken-gap u w (linked (raised (placed x (n + 1) e.from e.to m w) s m) s u (n + 1)) h (omega arith)
                (rw (← add-one n) (added_of x e.from e.to s (n + 1) u w m sk uk q.other new-slot))
                (added-under x e.from e.to s (n + 1) u w m sk uk q.other new-slot)
                (added-beyond x e.from e.to s (n + 1) u w m sk uk q.other new-slot cap (omega arith)))
