-- The node table in one list, five numbers a slot: from, to, count, first child, next sibling. The table's columns, and the three stores that a
-- change is made of, each with what it leaves alone. Only this file and the accessors of the code know where a field stands.
use Rattle.std.specs.Prelude.{◌≡◌, List, [], ◌∷◌, length, get_or, refl, ℕ, zero, suc, ◌+◌, ◌*◌, ◌-◌, ◌<◌, ◌≤◌}
use Rattle.std.proofs.Common.{sym, ap, ◌∙◌, arith, get_or-set_other, length-set}
use Rattle.std.proofs.Math.Decide.{ℕ_discrete}
use Rattle.laws.specs.Records.{field, put_field, put_from, field-same, field-other, row_other, length-put_from, put_from-row, put_from-at}
use Rattle.threading_node.specs.Ends.{ends}
use Rattle.threading_node.specs.Nodes.{Fields}
use Rattle.threading_node.specs.Table.{Agree, Gained}
use Rattle.threading_node.specs.Rows.{Bumped, Added}

abbrev pub cols : List ℕ → Fields
cols x =
    record { from = λ l. field x 5 l 0; to = λ l. field x 5 l 1; count = λ l. field x 5 l 2; kid = λ l. field x 5 l 3; next = λ l. field x 5 l 4 }

-- the slot stands in the table
abbrev pub Slot : ℕ → List ℕ → Type 0
Slot l x = l * 5 + 5 ≤ length x

-- the numbers of a table of at most cap nodes: slot 0 is no node's
abbrev pub told : ℕ → ℕ
told cap = (cap + 1) * 5

-- what holds of every number of the table holds of every field
module _ (x : List ℕ) (P : ℕ → Type 0) (h : (i : ℕ) → P (get_or x i 0)) where
  pub every-from : (l : ℕ) → P ((cols x).from l)
  every-from l = h (l * 5 + 0)

  pub every-to : (l : ℕ) → P ((cols x).to l)
  every-to l = h (l * 5 + 1)

-- a zeroed table has no child of slot 0, and no count
module _ (x : List ℕ) (cap : ℕ) (h : (i : ℕ) → i < told cap → get_or x i 0 ≡ 0) where
  pub zero-kid : (cols x).kid 0 ≡ 0
  zero-kid = h 3 (omega arith)

  pub zero-count : (l : ℕ) → l ≤ cap → (cols x).count l ≡ 0
  zero-count l q = h (l * 5 + 2) (omega arith)

-- what of a table beyond the first k numbers is as it was
abbrev pub Beyond : ℕ → List ℕ → List ℕ → Type 0
Beyond k x y = (i : ℕ) → k ≤ i → get_or y i 0 ≡ get_or x i 0

pub agree_trans : {f g h : Fields} {l : ℕ} → Agree f g l → Agree g h l → Agree f h l
agree_trans a b = record { from = b.from ∙ a.from; to = b.to ∙ a.to; count = b.count ∙ a.count; kid = b.kid ∙ a.kid; next = b.next ∙ a.next }

beyond-put : (x : List ℕ) (cap s j v : ℕ) → s ≤ cap → j < 5 → Beyond (told cap) x (put_field x 5 s j v)
beyond-put x cap s j v h k i b = get_or-set_other x (s * 5 + j) i v 0 (λ z. omega arith)

-- ---- a count rises (Rust: increment_count)

unfoldable pub raised : List ℕ → ℕ → ℕ → List ℕ
raised x s m = put_field x 5 s 2 (field x 5 s 2 + m)

module _ (x : List ℕ) (s m : ℕ) where
  pub raised_is : put_field x 5 s 2 (field x 5 s 2 + m) ≡ raised x s m
  unfolding raised
  raised_is = refl

  pub raised-length : length (raised x s m) ≡ length x
  unfolding raised
  raised-length = length-set x (s * 5 + 2) (field x 5 s 2 + m)

  pub raised-beyond : (cap : ℕ) → s ≤ cap → Beyond (told cap) x (raised x s m)
  unfolding raised
  raised-beyond cap h = beyond-put x cap s 2 (field x 5 s 2 + m) h (omega arith)

  raised_at : Slot s x → field (raised x s m) 5 s 2 ≡ field x 5 s 2 + m
  unfolding raised
  raised_at h = field-same x 5 s 2 (field x 5 s 2 + m) (omega arith)

  raised-else : (l j : ℕ) → j < 5 → (j ≡ 2 → ⊥) → field (raised x s m) 5 l j ≡ field x 5 l j
  unfolding raised
  raised-else l j h n = field-other x 5 s 2 (field x 5 s 2 + m) l j (omega arith) h n

  pub raised-count : (l : ℕ) → (l ≡ s → ⊥) → field (raised x s m) 5 l 2 ≡ field x 5 l 2
  unfolding raised
  raised-count l n = row_other x 5 s 2 (field x 5 s 2 + m) l 2 (omega arith) (omega arith) n

  raised-off : (l : ℕ) → (l ≡ s → ⊥) → Agree (cols x) (cols (raised x s m)) l
  raised-off l n =
      record {
        from = raised-else l 0 (omega arith) (λ z. omega arith);
        to = raised-else l 1 (omega arith) (λ z. omega arith);
        count = raised-count l n;
        kid = raised-else l 3 (omega arith) (λ z. omega arith);
        next = raised-else l 4 (omega arith) (λ z. omega arith);
      }

  raised-gained : Slot s x → Gained (cols x) (cols (raised x s m)) m s
  raised-gained h =
      record {
        from = raised-else s 0 (omega arith) (λ z. omega arith);
        to = raised-else s 1 (omega arith) (λ z. omega arith);
        count = raised_at h;
        next = raised-else s 4 (omega arith) (λ z. omega arith);
      }

-- ---- a new node

unfoldable pub placed : List ℕ → ℕ → ℕ → ℕ → ℕ → ℕ → List ℕ
placed x k a b m v = put_from x 5 k 0 (a ∷ b ∷ m ∷ 0 ∷ v ∷ [])

module _ (x : List ℕ) (k a b m v : ℕ) where
  pub placed-is : put_from x 5 k 0 (a ∷ b ∷ m ∷ 0 ∷ v ∷ []) ≡ placed x k a b m v
  unfolding placed
  placed-is = refl

  pub placed-length : length (placed x k a b m v) ≡ length x
  unfolding placed
  placed-length = length-put_from x 5 k 0 (a ∷ b ∷ m ∷ 0 ∷ v ∷ [])

  placed-field : (j : ℕ) → Slot k x → j < 5 → field (placed x k a b m v) 5 k j ≡ get_or (a ∷ b ∷ m ∷ 0 ∷ v ∷ []) (j - 0) 0
  unfolding placed
  placed-field j h l = put_from-at x 5 k 0 (a ∷ b ∷ m ∷ 0 ∷ v ∷ []) j h (omega arith) (omega arith) l

  placed_row : (l j : ℕ) → j < 5 → (l ≡ k → ⊥) → field (placed x k a b m v) 5 l j ≡ field x 5 l j
  unfolding placed
  placed_row l j h n = put_from-row x 5 k 0 (a ∷ b ∷ m ∷ 0 ∷ v ∷ []) l j (omega arith) h n

  pub placed_off : (l : ℕ) → (l ≡ k → ⊥) → Agree (cols x) (cols (placed x k a b m v)) l
  placed_off l n =
      record {
        from = placed_row l 0 (omega arith) n;
        to = placed_row l 1 (omega arith) n;
        count = placed_row l 2 (omega arith) n;
        kid = placed_row l 3 (omega arith) n;
        next = placed_row l 4 (omega arith) n;
      }

  pub placed-beyond : (cap : ℕ) → k ≤ cap → Beyond (told cap) x (placed x k a b m v)
  unfolding placed
  placed-beyond cap h i q =
      beyond-put (put_from x 5 k 0 (a ∷ b ∷ m ∷ 0 ∷ [])) cap k 4 v h (omega arith) i q
      ∙ beyond-put (put_from x 5 k 0 (a ∷ b ∷ m ∷ [])) cap k 3 0 h (omega arith) i q
      ∙ beyond-put (put_from x 5 k 0 (a ∷ b ∷ [])) cap k 2 m h (omega arith) i q
      ∙ beyond-put (put_from x 5 k 0 (a ∷ [])) cap k 1 b h (omega arith) i q
      ∙ beyond-put x cap k 0 a h (omega arith) i q

-- ---- the link to a new node: its parent's, where it is the first child (u is 0), or the sibling's before it

unfoldable pub linked : List ℕ → ℕ → ℕ → ℕ → List ℕ
linked x s zero k = put_field x 5 s 3 k
linked x s (suc u) k = put_field x 5 (suc u) 4 k

module _ (x : List ℕ) (s : ℕ) where
  pub linked-first : (u k : ℕ) → u ≡ 0 → put_field x 5 s 3 k ≡ linked x s u k
  unfolding linked
  linked-first zero k z = refl
  linked-first (suc u) k z = absurd (omega arith)

  pub linked-later : (u k : ℕ) → (u ≡ 0 → ⊥) → put_field x 5 u 4 k ≡ linked x s u k
  unfolding linked
  linked-later zero k z = absurd (z refl)
  linked-later (suc u) k z = refl

  pub linked-beyond : (cap u k : ℕ) → s ≤ cap → u ≤ cap → Beyond (told cap) x (linked x s u k)
  unfolding linked
  linked-beyond cap zero k h g = beyond-put x cap s 3 k h (omega arith)
  linked-beyond cap (suc u) k h g = beyond-put x cap (suc u) 4 k g (omega arith)

  linked-else : (u k l j : ℕ) → j < 3 → field (linked x s u k) 5 l j ≡ field x 5 l j
  unfolding linked
  linked-else zero k l j h = field-other x 5 s 3 k l j (omega arith) (omega arith) (λ z. omega arith)
  linked-else (suc u) k l j h = field-other x 5 (suc u) 4 k l j (omega arith) (omega arith) (λ z. omega arith)

  linked-kid-at : (u k : ℕ) → u ≡ 0 → Slot s x → field (linked x s u k) 5 s 3 ≡ k
  unfolding linked
  linked-kid-at zero k z h = field-same x 5 s 3 k (omega arith)
  linked-kid-at (suc u) k z h = absurd (omega arith)

  linked-kid : (u k l : ℕ) → (l ≡ s → ⊥) → field (linked x s u k) 5 l 3 ≡ field x 5 l 3
  unfolding linked
  linked-kid zero k l n = row_other x 5 s 3 k l 3 (omega arith) (omega arith) n
  linked-kid (suc u) k l n = field-other x 5 (suc u) 4 k l 3 (omega arith) (omega arith) (λ z. omega arith)

  linked-kid-later : (u k l : ℕ) → 0 < u → field (linked x s u k) 5 l 3 ≡ field x 5 l 3
  unfolding linked
  linked-kid-later zero k l h = absurd (omega arith)
  linked-kid-later (suc u) k l h = field-other x 5 (suc u) 4 k l 3 (omega arith) (omega arith) (λ z. omega arith)

  linked-next-at : (u k : ℕ) → 0 < u → Slot u x → field (linked x s u k) 5 u 4 ≡ k
  unfolding linked
  linked-next-at zero k z h = absurd (omega arith)
  linked-next-at (suc u) k z h = field-same x 5 (suc u) 4 k (omega arith)

  linked-next : (u k l : ℕ) → (0 < u → l ≡ u → ⊥) → field (linked x s u k) 5 l 4 ≡ field x 5 l 4
  unfolding linked
  linked-next zero k l n = field-other x 5 s 3 k l 4 (omega arith) (omega arith) (λ z. omega arith)
  linked-next (suc u) k l n = row_other x 5 (suc u) 4 k l 4 (omega arith) (omega arith) (n (omega arith))

-- ---- the two changes of the table

-- both counts rise
module _ (x : List ℕ) (s j m : ℕ) (ne : j ≡ s → ⊥) (hs : Slot s x) (hj : Slot j x) where
  abbrev both : List ℕ
  both = raised (raised x s m) j m

  hj' : Slot j (raised x s m)
  hj' = let q = raised-length x s m in omega arith

  pub bumped-of : Bumped (cols x) (cols both) m s j
  bumped-of =
      let sn : s ≡ j → ⊥ = λ z. ne (sym z) in
      let a = raised-gained x s m hs in
      let b = raised-gained (raised x s m) j m hj' in
      let c = raised-off x s m j ne in
      let d = raised-off (raised x s m) j m s sn in
      record {
        rest = λ l p q. agree_trans (raised-off x s m l p) (raised-off (raised x s m) j m l q);
        node = λ y. record { from = d.from ∙ a.from; to = d.to ∙ a.to; count = d.count ∙ a.count; next = d.next ∙ a.next };
        kid-node = d.kid ∙ raised-else x s m s 3 (omega arith) (λ z. omega arith);
        child = record { from = b.from ∙ c.from; to = b.to ∙ c.to; count = b.count ∙ ap (λ (z : ℕ). z + m) c.count; next = b.next ∙ c.next };
        kid-child = raised-else (raised x s m) j m j 3 (omega arith) (λ z. omega arith) ∙ c.kid;
      }

  pub bumped-under : (l : ℕ) → field both 5 l 2 ≤ field x 5 l 2 + m
  bumped-under l = go (ℕ_discrete l j) (ℕ_discrete l s)
    where
      go : Dec (l ≡ j) → Dec (l ≡ s) → field both 5 l 2 ≤ field x 5 l 2 + m
      go (yes z) w = let p = raised_at (raised x s m) j m hj' in let q = raised-count x s m j ne in rw z (omega arith)
      go (no z) (yes w) = let p = raised-count (raised x s m) j m l z in let q = raised_at x s m hs in rw w (omega (arith, raised-count (raised x s m) j m s (λ y. ne (sym y))))
      go (no z) (no w) = let p = raised-count (raised x s m) j m l z in let q = raised-count x s m l w in omega arith

  pub bumped-beyond : (cap : ℕ) → s ≤ cap → j ≤ cap → Beyond (told cap) x both
  bumped-beyond cap h g i q = raised-beyond (raised x s m) j m cap g i q ∙ raised-beyond x s m cap h i q

-- the same below slot 0, whose count no one reads
module _ (x : List ℕ) (j m : ℕ) (ne : j ≡ 0 → ⊥) (hj : Slot j x) where
  pub bumped-root : Bumped (cols x) (cols (raised x j m)) m 0 j
  bumped-root =
      let b = raised-gained x j m hj in
      record {
        rest = λ l p q. raised-off x j m l q;
        node = λ y. absurd (omega arith);
        kid-node = raised-else x j m 0 3 (omega arith) (λ z. omega arith);
        child = b;
        kid-child = raised-else x j m j 3 (omega arith) (λ z. omega arith);
      }

  pub root-under : (l : ℕ) → field (raised x j m) 5 l 2 ≤ field x 5 l 2 + m
  root-under l = go (ℕ_discrete l j)
    where
      go : Dec (l ≡ j) → field (raised x j m) 5 l 2 ≤ field x 5 l 2 + m
      go (yes z) = let p = raised_at x j m hj in rw z (omega arith)
      go (no z) = let p = raised-count x j m l z in omega arith

-- the new slot, the node's count, the link to it
module _ (x : List ℕ) (a b s k u v m : ℕ) (sk : s < k) (uk : u < k) (us : 0 < u → u ≡ s → ⊥) (hk : Slot k x) where
  abbrev x1 : List ℕ
  x1 = placed x k a b m v

  abbrev x2 : List ℕ
  x2 = raised x1 s m

  abbrev pub added : List ℕ
  added = linked x2 s u k

  slot1 : (l : ℕ) → l ≤ k → Slot l x1
  slot1 l h = let q = placed-length x k a b m v in omega arith

  slot2 : (l : ℕ) → l ≤ k → Slot l x2
  slot2 l h = let q = placed-length x k a b m v in let r = raised-length x1 s m in omega arith

  sne : s ≡ k → ⊥
  sne z = omega arith

  kne : k ≡ s → ⊥
  kne z = omega arith

  -- before the link is made
  agree2 : (l : ℕ) → (l ≡ k → ⊥) → (l ≡ s → ⊥) → Agree (cols x) (cols x2) l
  agree2 l p q = agree_trans (placed_off x k a b m v l p) (raised-off x1 s m l q)

  node2 : Gained (cols x) (cols x2) m s
  node2 =
      let p = placed_off x k a b m v s sne in
      let q = raised-gained x1 s m (slot1 s (omega arith)) in
      record { from = q.from ∙ p.from; to = q.to ∙ p.to; count = q.count ∙ ap (λ (z : ℕ). z + m) p.count; next = q.next ∙ p.next }

  new2 : (j : ℕ) → j < 5 → field x2 5 k j ≡ get_or (a ∷ b ∷ m ∷ 0 ∷ v ∷ []) (j - 0) 0
  new2 j h = two (ℕ_discrete j 2) ∙ placed-field x k a b m v j hk h
    where
      two : Dec (j ≡ 2) → field x2 5 k j ≡ field x1 5 k j
      two (yes z) = rw z (raised-count x1 s m k kne)
      two (no z) = raised-else x1 s m k j h z

  kid2 : (l : ℕ) → (l ≡ k → ⊥) → field x2 5 l 3 ≡ field x 5 l 3
  kid2 l p = raised-else x1 s m l 3 (omega arith) (λ z. omega arith) ∙ placed_row x k a b m v l 3 (omega arith) p

  pub added_of : Added (cols x) (cols added) m (ends a b) s k u v
  added_of =
      let un : (l : ℕ) → (l ≡ u → ⊥) → 0 < u → l ≡ u → ⊥ = λ l n h z. n z in
      let ku : 0 < u → k ≡ u → ⊥ = λ h z. omega arith in
      let uk' : u ≡ k → ⊥ = λ z. omega arith in
      let nd = node2 in
      record {
        rest = λ l p q r.
            let w = agree2 l p q in
            record {
              from = linked-else x2 s u k l 0 (omega arith) ∙ w.from;
              to = linked-else x2 s u k l 1 (omega arith) ∙ w.to;
              count = linked-else x2 s u k l 2 (omega arith) ∙ w.count;
              kid = linked-kid x2 s u k l q ∙ w.kid;
              next = linked-next x2 s u k l (λ h. r) ∙ w.next;
            };
        node =
            record {
              from = linked-else x2 s u k s 0 (omega arith) ∙ nd.from;
              to = linked-else x2 s u k s 1 (omega arith) ∙ nd.to;
              count = linked-else x2 s u k s 2 (omega arith) ∙ nd.count;
              next = linked-next x2 s u k s (λ h z. us h (sym z)) ∙ nd.next;
            };
        first = λ z. linked-kid-at x2 s u k z (slot2 s (omega arith));
        later = λ h. linked-kid-later x2 s u k s h ∙ kid2 s sne;
        after = λ h. linked-next-at x2 s u k h (slot2 u (omega arith));
        u-from = λ h. linked-else x2 s u k u 0 (omega arith) ∙ (agree2 u uk' (us h)).from;
        u-to = λ h. linked-else x2 s u k u 1 (omega arith) ∙ (agree2 u uk' (us h)).to;
        u-count = λ h. linked-else x2 s u k u 2 (omega arith) ∙ (agree2 u uk' (us h)).count;
        kid-rest = λ l p q. linked-kid x2 s u k l q ∙ kid2 l p;
        from = linked-else x2 s u k k 0 (omega arith) ∙ new2 0 (omega arith);
        to = linked-else x2 s u k k 1 (omega arith) ∙ new2 1 (omega arith);
        count = linked-else x2 s u k k 2 (omega arith) ∙ new2 2 (omega arith);
        kid = linked-kid x2 s u k k kne ∙ new2 3 (omega arith);
        next = linked-next x2 s u k k ku ∙ new2 4 (omega arith);
      }

  pub added-under : (l : ℕ) → field added 5 l 2 ≤ field x 5 l 2 + m
  added-under l = go (ℕ_discrete l k) (ℕ_discrete l s)
    where
      kept : field added 5 l 2 ≡ field x2 5 l 2
      kept = linked-else x2 s u k l 2 (omega arith)

      go : Dec (l ≡ k) → Dec (l ≡ s) → field added 5 l 2 ≤ field x 5 l 2 + m
      go (yes z) w = let p : field x2 5 l 2 ≡ m = rw z (new2 2 (omega arith)) in let q = kept in omega arith
      go (no z) (yes w) = let p : field x2 5 l 2 ≡ field x 5 l 2 + m = rw w node2.count in let q = kept in omega arith
      go (no z) (no w) = let p : field x2 5 l 2 ≡ field x 5 l 2 = (agree2 l z w).count in let q = kept in omega arith

  pub added-beyond : (cap : ℕ) → k ≤ cap → Beyond (told cap) x added
  added-beyond cap h i q =
      linked-beyond x2 s cap u k (omega arith) (omega arith) i q ∙ raised-beyond x1 s m cap (omega arith) i q ∙ placed-beyond x k a b m v cap h i q
