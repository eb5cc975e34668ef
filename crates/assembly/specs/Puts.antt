-- Laws of `put`, the definition's count of an edge: it merges into an edge of the same ends, counts of different ends commute, and what a search or
-- a filter by ends finds after it. None of these asks that the list is in order. Assumes nothing.
use Rattle.std.specs.Prelude.{◌≡◌, refl, ◌≢◌, Bool, true, false, ◌||◌, cond, List, [], ◌∷◌, length}
use Rattle.std.proofs.Common.{sym, ap, ◌∙◌, arith, add_assoc, ℕ, suc}
use Rattle.std.proofs.Math.Option.{none, some}
use Prim.Native.Nat.{Ordering}
use Rattle.laws.specs.Lists.{keep, find}
use Rattle.definition.specs.Threading.{Ends, Edge, compare_ends, merge, put}
use Rattle.theorems.proofs.Tables.{ends-lt}
use Rattle.assembly.specs.Ends.{ends-eq, ends-self, ends-flip, ends-flip'}

-- ---- its three clauses
pub put-lt : (n e : Edge) (es : List Edge) → compare_ends n.ends e.ends ≡ Ordering.lt → put n (e ∷ es) ≡ n ∷ e ∷ es
unfolding put
put-lt n e es c = rw (c, put)

pub put-eq : (n e : Edge) (es : List Edge) → compare_ends n.ends e.ends ≡ Ordering.eq → put n (e ∷ es) ≡ merge e n ∷ es
unfolding put
put-eq n e es c = rw (c, put)

pub put-gt : (n e : Edge) (es : List Edge) → compare_ends n.ends e.ends ≡ Ordering.gt → put n (e ∷ es) ≡ e ∷ put n es
unfolding put
put-gt n e es c = rw (c, put)

pub put-nil : (n : Edge) → put n [] ≡ n ∷ []
unfolding put
put-nil n = refl

-- a count of what another count leaves
via : (x y : Edge) (l m r : List Edge) → put y l ≡ m → put x m ≡ r → put x (put y l) ≡ r
via x y l m r p q = ap (λ (z : List Edge). put x z) p ∙ q

find-yes : (q : Edge → Bool) (e : Edge) (es : List Edge) → q e ≡ true → find q (e ∷ es) ≡ some e
find-yes q e es h = rw (h, find)

find-no : (q : Edge → Bool) (e : Edge) (es : List Edge) → q e ≡ false → find q (e ∷ es) ≡ find q es
find-no q e es h = rw (h, find)

-- ---- merging
pub merge-ends : (e n : Edge) → (merge e n).ends ≡ e.ends
unfolding merge
merge-ends e n = refl

or_assoc : (a b c : Bool) → ((a || b) || c) ≡ (a || (b || c))
or_assoc true b c = refl
or_assoc false b c = refl

merge-merge : (e y x : Edge) → merge (merge e y) x ≡ merge e (merge y x)
unfolding merge
merge-merge e y x = rw (add_assoc e.support y.support x.support, or_assoc e.is_ref y.is_ref x.is_ref)

-- ---- two counts
-- of the same ends: as one count of both
pub put_same : (x y : Edge) (es : List Edge) → x.ends ≡ y.ends → put x (put y es) ≡ put (merge y x) es
put_same x y [] h = rw (put-nil y, put-nil (merge y x)) (put-eq x y [] (ends-self x.ends y.ends h))
put_same x y (e ∷ es) h = go (compare_ends y.ends e.ends) refl (put_same x y es h)
  where
    go : (o : Ordering) → compare_ends y.ends e.ends ≡ o → put x (put y es) ≡ put (merge y x) es → put x (put y (e ∷ es)) ≡ put (merge y x) (e ∷ es)
    go Ordering.lt c ih =
        via _ _ _ _ _ (put-lt y e es c) (put-eq x y (e ∷ es) (ends-self x.ends y.ends h))
        ∙ sym (put-lt (merge y x) e es (rw (merge-ends y x) c))
    go Ordering.eq c ih =
        via _ _ _ _ _ (put-eq y e es c) (put-eq x (merge e y) es (ends-self x.ends (merge e y).ends (h ∙ ends-eq y.ends e.ends c ∙ sym (merge-ends e y))))
        ∙ ap (λ (f : Edge). f ∷ es) (merge-merge e y x)
        ∙ sym (put-eq (merge y x) e es (rw (merge-ends y x) c))
    go Ordering.gt c ih =
        via _ _ _ _ _ (put-gt y e es c) (put-gt x e (put y es) (rw h c))
        ∙ ap (λ (l : List Edge). e ∷ l) ih
        ∙ sym (put-gt (merge y x) e es (rw (merge-ends y x) c))

-- of different ends: in either order
pub put-comm : (x y : Edge) (es : List Edge) → x.ends ≢ y.ends → put x (put y es) ≡ put y (put x es)
put-comm x y [] h = rw (put-nil y, put-nil x) (go (compare_ends x.ends y.ends) refl)
  where
    go : (o : Ordering) → compare_ends x.ends y.ends ≡ o → put x (y ∷ []) ≡ put y (x ∷ [])
    go Ordering.lt c = put-lt x y [] c ∙ sym (put-gt y x [] (ends-flip x.ends y.ends c) ∙ rw (put-nil y))
    go Ordering.eq c = absurd (h (ends-eq x.ends y.ends c))
    go Ordering.gt c = put-gt x y [] c ∙ rw (put-nil x) (sym (put-lt y x [] (ends-flip' x.ends y.ends c)))
put-comm x y (e ∷ es) h = go (compare_ends x.ends e.ends) (compare_ends y.ends e.ends) refl refl (put-comm x y es h)
  where
    both : (o : Ordering) → compare_ends x.ends y.ends ≡ o → compare_ends x.ends e.ends ≡ Ordering.lt → compare_ends y.ends e.ends ≡ Ordering.lt
        → put x (y ∷ e ∷ es) ≡ put y (x ∷ e ∷ es)
    both Ordering.lt c p q = put-lt x y (e ∷ es) c ∙ sym (put-gt y x (e ∷ es) (ends-flip x.ends y.ends c) ∙ rw (put-lt y e es q))
    both Ordering.eq c p q = absurd (h (ends-eq x.ends y.ends c))
    both Ordering.gt c p q = put-gt x y (e ∷ es) c ∙ ap (λ (l : List Edge). y ∷ l) (put-lt x e es p) ∙ sym (put-lt y x (e ∷ es) (ends-flip' x.ends y.ends c))

    -- a stands before e, b at it or after it
    apart : (a b : Edge) → compare_ends a.ends e.ends ≡ Ordering.lt → compare_ends b.ends a.ends ≡ Ordering.gt → (l : List Edge) → put b (e ∷ es) ≡ l
        → put b (put a (e ∷ es)) ≡ a ∷ l
    apart a b p q l r = via _ _ _ _ _ (put-lt a e es p) (put-gt b a (e ∷ es) q ∙ ap (λ (m : List Edge). a ∷ m) r)

    after : (a b : Edge) → compare_ends a.ends e.ends ≡ Ordering.lt → compare_ends b.ends e.ends ≡ Ordering.gt → compare_ends b.ends a.ends ≡ Ordering.gt
    after a b p q = ends-flip a.ends b.ends (ends-lt a.ends e.ends b.ends p (ends-flip' b.ends e.ends q))

    at : (a b : Edge) → compare_ends a.ends e.ends ≡ Ordering.lt → compare_ends b.ends e.ends ≡ Ordering.eq → compare_ends b.ends a.ends ≡ Ordering.gt
    at a b p q = ends-flip a.ends b.ends (rw (ends-eq b.ends e.ends q) p)

    go : (o q : Ordering) → compare_ends x.ends e.ends ≡ o → compare_ends y.ends e.ends ≡ q → put x (put y es) ≡ put y (put x es) → put x (put y (e ∷ es)) ≡ put y (put x (e ∷ es))
    go Ordering.lt Ordering.lt c d ih = rw (put-lt y e es d, put-lt x e es c) (both (compare_ends x.ends y.ends) refl c d)
    go Ordering.lt Ordering.eq c d ih =
        via _ _ _ _ _ (put-eq y e es d) (put-lt x (merge e y) es (rw (merge-ends e y) c)) ∙ sym (apart x y c (at x y c d) (merge e y ∷ es) (put-eq y e es d))
    go Ordering.lt Ordering.gt c d ih =
        via _ _ _ _ _ (put-gt y e es d) (put-lt x e (put y es) c) ∙ sym (apart x y c (after x y c d) (e ∷ put y es) (put-gt y e es d))
    go Ordering.eq Ordering.lt c d ih =
        apart y x d (at y x d c) (merge e x ∷ es) (put-eq x e es c) ∙ sym (via _ _ _ _ _ (put-eq x e es c) (put-lt y (merge e x) es (rw (merge-ends e x) d)))
    go Ordering.eq Ordering.eq c d ih = absurd (h (ends-eq x.ends e.ends c ∙ sym (ends-eq y.ends e.ends d)))
    go Ordering.eq Ordering.gt c d ih =
        via _ _ _ _ _ (put-gt y e es d) (put-eq x e (put y es) c) ∙ sym (via _ _ _ _ _ (put-eq x e es c) (put-gt y (merge e x) es (rw (merge-ends e x) d)))
    go Ordering.gt Ordering.lt c d ih =
        apart y x d (after y x d c) (e ∷ put x es) (put-gt x e es c) ∙ sym (via _ _ _ _ _ (put-gt x e es c) (put-lt y e (put x es) d))
    go Ordering.gt Ordering.eq c d ih =
        via _ _ _ _ _ (put-eq y e es d) (put-gt x (merge e y) es (rw (merge-ends e y) c)) ∙ sym (via _ _ _ _ _ (put-gt x e es c) (put-eq y e (put x es) d))
    go Ordering.gt Ordering.gt c d ih =
        via _ _ _ _ _ (put-gt y e es d) (put-gt x e (put y es) c) ∙ ap (λ (l : List Edge). e ∷ l) ih ∙ sym (via _ _ _ _ _ (put-gt x e es c) (put-gt y e (put x es) d))

-- ---- a search and a filter by ends
module _ (p : Ends → Bool) where
  abbrev on : Edge → Bool
  on e = p e.ends

  pub find-miss : (x : Edge) (es : List Edge) → p x.ends ≡ false → find on (put x es) ≡ find on es
  find-miss x [] h = rw (put-nil x) (find-no on x [] h)
  find-miss x (e ∷ es) h = go (compare_ends x.ends e.ends) refl (find-miss x es h) (p e.ends) refl
    where
      go : (o : Ordering) → compare_ends x.ends e.ends ≡ o → find on (put x es) ≡ find on es → (b : Bool) → p e.ends ≡ b → find on (put x (e ∷ es)) ≡ find on (e ∷ es)
      go Ordering.lt c ih b q = rw (put-lt x e es c) (find-no on x (e ∷ es) h)
      go Ordering.eq c ih b q =
          let k : p e.ends ≡ false = ap p (sym (ends-eq x.ends e.ends c)) ∙ h in
          rw (put-eq x e es c) (find-no on (merge e x) es (rw (merge-ends e x) k) ∙ sym (find-no on e es k))
      go Ordering.gt c ih true q = rw (put-gt x e es c) (find-yes on e (put x es) q ∙ sym (find-yes on e es q))
      go Ordering.gt c ih false q = rw (put-gt x e es c) (find-no on e (put x es) q ∙ ih ∙ sym (find-no on e es q))

  -- what is not found is not the first either
  find_none : (e : Edge) (es : List Edge) → find on (e ∷ es) ≡ none → (p e.ends ≡ false) × (find on es ≡ none)
  find_none e es h = go (p e.ends) refl
    where
      go : (b : Bool) → p e.ends ≡ b → (p e.ends ≡ false) × (find on es ≡ none)
      go true q = absurd (let w = sym (find-yes on e es q) ∙ h in let z : ◌≡◌ {A = ℕ} 0 1 = cc in omega arith)
      go false q = (q, sym (find-no on e es q) ∙ h)

  pub find-hit : (x : Edge) (es : List Edge) → p x.ends ≡ true → find on es ≡ none → find on (put x es) ≡ some x
  find-hit x [] h k = rw (put-nil x) (find-yes on x [] h)
  find-hit x (e ∷ es) h k = go (compare_ends x.ends e.ends) refl (find_none e es k) (find-hit x es h)
    where
      go : (o : Ordering) → compare_ends x.ends e.ends ≡ o → ((p e.ends ≡ false) × (find on es ≡ none)) → (find on es ≡ none → find on (put x es) ≡ some x)
          → find on (put x (e ∷ es)) ≡ some x
      go Ordering.lt c q ih = rw (put-lt x e es c) (find-yes on x (e ∷ es) h)
      go Ordering.eq c q ih = absurd (let z : true ≡ false = sym h ∙ ap p (ends-eq x.ends e.ends c) ∙ q.0 in let y : ◌≡◌ {A = ℕ} 0 1 = cc in omega arith)
      go Ordering.gt c q ih = rw (put-gt x e es c) (find-no on e (put x es) q.0 ∙ ih q.1)

  pub keep-miss : (x : Edge) (es : List Edge) → p x.ends ≡ false → keep on (put x es) ≡ keep on es
  keep-miss x [] h = rw (put-nil x, h)
  keep-miss x (e ∷ es) h = go (compare_ends x.ends e.ends) refl (keep-miss x es h)
    where
      go : (o : Ordering) → compare_ends x.ends e.ends ≡ o → keep on (put x es) ≡ keep on es → keep on (put x (e ∷ es)) ≡ keep on (e ∷ es)
      go Ordering.lt c ih = rw (put-lt x e es c, h)
      go Ordering.eq c ih = rw (put-eq x e es c, merge-ends e x, ← ends-eq x.ends e.ends c, h)
      go Ordering.gt c ih = rw (put-gt x e es c, ih)

-- ---- ends that are not in the table
abbrev pub Absent : Ends → List Edge → Type 0
Absent d [] = Unit {0}
Absent d (e ∷ es) = (e.ends ≢ d) × Absent d es

pub absent-put : (d : Ends) (x : Edge) (es : List Edge) → x.ends ≢ d → Absent d es → Absent d (put x es)
absent-put d x [] h a = rw (put-nil x) (h, tt)
absent-put d x (e ∷ es) h a = go (compare_ends x.ends e.ends) refl (absent-put d x es h a.1)
  where
    go : (o : Ordering) → compare_ends x.ends e.ends ≡ o → Absent d (put x es) → Absent d (put x (e ∷ es))
    go Ordering.lt c ih = rw (put-lt x e es c) (h, a)
    go Ordering.eq c ih = rw (put-eq x e es c, merge-ends e x) a
    go Ordering.gt c ih = rw (put-gt x e es c) (a.0, ih)

-- a new edge is one more
pub length-put : (x : Edge) (es : List Edge) → Absent x.ends es → length (put x es) ≡ suc (length es)
length-put x [] a = rw (put-nil x)
length-put x (e ∷ es) a = go (compare_ends x.ends e.ends) refl (length-put x es a.1)
  where
    go : (o : Ordering) → compare_ends x.ends e.ends ≡ o → length (put x es) ≡ suc (length es) → length (put x (e ∷ es)) ≡ suc (suc (length es))
    go Ordering.lt c ih = rw (put-lt x e es c)
    go Ordering.eq c ih = absurd (a.0 (sym (ends-eq x.ends e.ends c)))
    go Ordering.gt c ih = rw (put-gt x e es c) (ap suc ih)

module _ (p : Ends → Bool) where
  abbrev on' : Edge → Bool
  on' e = p e.ends

  -- the only one that passes
  pub keep-first : (x : Edge) (es : List Edge) → p x.ends ≡ true → keep on' es ≡ [] → keep on' (put x es) ≡ x ∷ []
  keep-first x [] h k = rw (put-nil x, h)
  keep-first x (e ∷ es) h k = go (compare_ends x.ends e.ends) refl (p e.ends) refl k (keep-first x es h)
    where
      go : (o : Ordering) → compare_ends x.ends e.ends ≡ o → (b : Bool) → p e.ends ≡ b → cond b (e ∷ keep on' es) (keep on' es) ≡ []
          → (keep on' es ≡ [] → keep on' (put x es) ≡ x ∷ []) → keep on' (put x (e ∷ es)) ≡ x ∷ []
      go o c true q m ih = absurd (let y : ◌≡◌ {A = ℕ} 0 1 = cc in omega arith)
      go Ordering.lt c false q m ih = rw (put-lt x e es c, h, q, m)
      go Ordering.eq c false q m ih = absurd (let z : true ≡ false = sym h ∙ ap p (ends-eq x.ends e.ends c) ∙ q in let y : ◌≡◌ {A = ℕ} 0 1 = cc in omega arith)
      go Ordering.gt c false q m ih = rw (put-gt x e es c, q) (ih m)

  pub keep-more : (x : Edge) (es : List Edge) → p x.ends ≡ true → Absent x.ends es → length (keep on' (put x es)) ≡ suc (length (keep on' es))
  keep-more x [] h a = rw (put-nil x, h)
  keep-more x (e ∷ es) h a = go (compare_ends x.ends e.ends) refl (p e.ends) refl (keep-more x es h a.1)
    where
      go : (o : Ordering) → compare_ends x.ends e.ends ≡ o → (b : Bool) → p e.ends ≡ b
          → length (keep on' (put x es)) ≡ suc (length (keep on' es)) → length (keep on' (put x (e ∷ es))) ≡ suc (length (keep on' (e ∷ es)))
      go Ordering.lt c b q ih = rw (put-lt x e es c, h)
      go Ordering.eq c b q ih = absurd (a.0 (sym (ends-eq x.ends e.ends c)))
      go Ordering.gt c true q ih = rw (put-gt x e es c, q) (ap suc ih)
      go Ordering.gt c false q ih = rw (put-gt x e es c, q) ih
