-- The invariant of the node table, and that one change keeps it.
use Rattle.std.specs.Prelude.{◌≡◌, cond, List, [], ◌∷◌, ◌++◌, eqb, refl, ℕ, suc, ◌+◌, ◌<◌, ◌≤◌}
use Rattle.std.proofs.Common.{sym, ap, ◌∙◌, append_assoc, arith, zero-add, eq-eqb, ne_eqb}
use Prim.Native.Nat.{Ordering}
use Rattle.definition.specs.Threading.{Ends, compare_ends}
use Rattle.threading_node.specs.Ends.{eq_ends-self}
use Rattle.threading_node.specs.Nodes.{Nodes, nil, node, size, reach_n, take_n, seek_n, head_link, landed, At, here, down, along, kids_at, Rising, Fields, Links, Own, take_n-here, take_n-down, take_n-along, rising-take, Here, Between}
use Rattle.threading_node.specs.Table.{Agree, Res, links-take}
use Rattle.threading_node.specs.Rows.{Found, Bumped, Added, Stopped, head, inside, none, seek-here, seek-gap, bumped-off, row-bumped, added-off, row-added, seek_n-lt, seek_n-eq, seek_n-gt, gap_here, here-same}

-- the table with n nodes holds the numbered tree t
pub record Good (f : Fields) (n : ℕ) (t : Nodes) : Type 0 where
  pub links : Links f n (f.kid 0) t
  pub own : ℕ → List Ends
  pub top : own 0 ≡ []
  pub owned : Own own [] t
  pub rising : Rising t
  pub full : size t ≡ n

append-nil : (p : List Ends) → p ++ [] ≡ p
append-nil [] = refl
append-nil (a ∷ p) = ap (λ (q : List Ends). a ∷ q) (append-nil p)

-- ---- where a path leads

pub own_at : (own : ℕ → List Ends) (π : List Ends) {t : Nodes} {q s : ℕ} {p : List Ends} → At t q p s → Own own π t → own q ≡ π → own s ≡ π ++ p
unfolding Own
own_at own π here o h = h ∙ sym (append-nil π)
own_at own π (down {f = f} {p = p} a) o h = own_at own (π ++ f ∷ []) a o.1 o.0 ∙ append_assoc π (f ∷ []) p
own_at own π (along n a) o h = own_at own π a o.2 h

pub at-live : (f : Fields) (n l : ℕ) {t : Nodes} {q s : ℕ} {p : List Ends} → At t q p s → Links f n l t → q ≤ n → s ≤ n
unfolding Links
at-live f n l here v h = h
at-live f n l (down {i = i} a) v h = at-live f n (f.kid i) a v.1 v.0.live
at-live f n l (along {i = i} m a) v h = at-live f n (f.next i) a v.2 h

kids-links : (f : Fields) (n l : ℕ) {t : Nodes} {q s : ℕ} {p : List Ends} (a : At t q p s) → Links f n l t → (p ≡ [] → l ≡ f.kid q) → Links f n (f.kid s) (kids_at a)
unfolding Links kids_at
kids-links f n l here v h = rw (h refl) at v
kids-links f n l (down {i = i} a) v h = kids-links f n (f.kid i) a v.1 (λ z. refl)
kids-links f n l (along {i = i} {d = d} {p = p} m a) v h = kids-links f n (f.next i) a v.2 (λ z. absurd (let y : d ∷ p ≡ [] = z in let w : ◌≡◌ {A = ℕ} 0 1 = cc in omega arith))

kids-rising : {t : Nodes} {q s : ℕ} {p : List Ends} (a : At t q p s) → Rising t → Rising (kids_at a)
unfolding Rising kids_at
kids-rising here r = r
kids-rising (down a) r = kids-rising a r.1
kids-rising (along m a) r = kids-rising a r.2

kids-own : (own : ℕ → List Ends) (π : List Ends) {t : Nodes} {q s : ℕ} {p : List Ends} (a : At t q p s) → Own own π t → Own own (π ++ p) (kids_at a)
unfolding Own kids_at
kids-own own π here o = rw append-nil o
kids-own own π (down {f = f} {p = p} a) o = rw append_assoc at (kids-own own (π ++ f ∷ []) a o.1)
kids-own own π (along m a) o = kids-own own π a o.2

-- ---- the new slot's path

unfoldable pub own_new : ℕ → List Ends → (ℕ → List Ends) → ℕ → List Ends
own_new k Q own l = cond (eqb l k) Q (own l)

new-other : (k : ℕ) (Q : List Ends) (own : ℕ → List Ends) (l : ℕ) → (l ≡ k → ⊥) → own_new k Q own l ≡ own l
unfolding own_new
new-other k Q own l h = rw (ne_eqb l k h)

new-same : (k : ℕ) (Q : List Ends) (own : ℕ → List Ends) → own_new k Q own k ≡ Q
unfolding own_new
new-same k Q own = rw (eq-eqb k k refl)

module _ (k : ℕ) (Q : List Ends) (own : ℕ → List Ends) (n : ℕ) (f : Fields) (new : n < k) (m : ℕ) (e : Ends) where
  own-kept : (π : List Ends) (l : ℕ) (t : Nodes) → Links f n l t → Own own π t → Own (own_new k Q own) π t
  unfolding Links Own
  own-kept π l nil v o = tt
  own-kept π l (node i d c b x) v o =
      let h = v.0.live in
      (new-other k Q own i (λ z. omega arith) ∙ o.0, own-kept (π ++ d ∷ []) (f.kid i) b v.1 o.1, own-kept π (f.next i) x v.2 o.2)

  own-reach : (π : List Ends) (l : ℕ) (t : Nodes) → π ++ e ∷ [] ≡ Q → Links f n l t → Own own π t → Own (own_new k Q own) π (reach_n m e k t)
  unfolding Links Own reach_n
  own-reach π l nil z v o = (new-same k Q own ∙ sym z, tt, tt)
  own-reach π l (node i d c b x) z v o = go (compare_ends e d) refl (own-reach π (f.next i) x z v.2 o.2)
    where
      go : (w : Ordering) → compare_ends e d ≡ w → Own (own_new k Q own) π (reach_n m e k x) → Own (own_new k Q own) π (reach_n m e k (node i d c b x))
      go Ordering.lt h ih = rw (h, reach_n) (new-same k Q own ∙ sym z, tt, own-kept π l (node i d c b x) v o)
      go Ordering.eq h ih = rw (h, reach_n) (own-kept π l (node i d c b x) v o)
      go Ordering.gt h ih =
          let y = own-kept π l (node i d c b x) v o in
          rw (h, reach_n) (y.0, y.1, ih)

  own-take : (π : List Ends) (l : ℕ) {t : Nodes} {q s : ℕ} {p : List Ends} → At t q p s → (π ++ p) ++ e ∷ [] ≡ Q → Links f n l t → Own own π t → Own (own_new k Q own) π (take_n m e k t p)
  unfolding Links Own
  own-take π l (here {t = t}) z v o = rw take_n-here (own-reach π l t (rw append-nil at z) v o)
  own-take π l (down {i = i} {c = c} {f = d} {b = b} {x = x} {p = p} a) z v o =
      let y = own-kept π l (node i d c b x) v o in
      rw (take_n-down m e k i d c b x d p (eq_ends-self d)) (y.0, own-take (π ++ d ∷ []) (f.kid i) a (rw (append_assoc π (d ∷ []) p) z) v.1 o.1, y.2)
  own-take π l (along {i = i} {c = c} {f = h} {d = d} {b = b} {x = x} {p = p} ne a) z v o =
      let y = own-kept π l (node i h c b x) v o in
      rw (take_n-along m e k i h c b x d p ne) (y.0, y.1, own-take π (f.next i) a z v.2 o.2)

-- ---- how many nodes

module _ (m : ℕ) (e : Ends) (k : ℕ) where
  pub size-here : (j prev : ℕ) (t : Nodes) → seek_n e prev t ≡ Here j → size (reach_n m e k t) ≡ 0 + size t
  unfolding size reach_n seek_n
  size-here j prev nil h = absurd (gap_here h)
  size-here j prev (node i d c b x) h = go (compare_ends e d) refl (λ z. size-here j i x z)
    where
      go : (w : Ordering) → compare_ends e d ≡ w → (seek_n e i x ≡ Here j → size (reach_n m e k x) ≡ 0 + size x) → size (reach_n m e k (node i d c b x)) ≡ 0 + size (node i d c b x)
      go Ordering.lt z ih = absurd (gap_here (sym (seek_n-lt e prev i d c b x z) ∙ h))
      go Ordering.eq z ih = rw (z, reach_n) (omega arith)
      go Ordering.gt z ih = let y = ih (sym (seek_n-gt e prev i d c b x z) ∙ h) in rw (z, reach_n) (omega arith)

  pub size-gap : (u v prev : ℕ) (t : Nodes) → seek_n e prev t ≡ Between u v → size (reach_n m e k t) ≡ 1 + size t
  unfolding size reach_n seek_n
  size-gap u v prev nil h = refl
  size-gap u v prev (node i d c b x) h = go (compare_ends e d) refl (λ z. size-gap u v i x z)
    where
      go : (w : Ordering) → compare_ends e d ≡ w → (seek_n e i x ≡ Between u v → size (reach_n m e k x) ≡ 1 + size x) → size (reach_n m e k (node i d c b x)) ≡ 1 + size (node i d c b x)
      go Ordering.lt z ih = rw (z, reach_n) (omega arith)
      go Ordering.eq z ih = absurd (gap_here (sym h ∙ seek_n-eq e prev i d c b x z))
      go Ordering.gt z ih = let y = ih (sym (seek_n-gt e prev i d c b x z) ∙ h) in rw (z, reach_n) (omega arith)

  pub size-take : (r : ℕ) {t : Nodes} {q s : ℕ} {p : List Ends} (a : At t q p s) → size (reach_n m e k (kids_at a)) ≡ r + size (kids_at a) → size (take_n m e k t p) ≡ r + size t
  unfolding size kids_at
  size-take r here h = rw take_n-here h
  size-take r (down {i = i} {c = c} {f = d} {b = b} {x = x} {p = p} a) h =
      let y = size-take r a h in
      rw (take_n-down m e k i d c b x d p (eq_ends-self d)) (omega arith)
  size-take r (along {i = i} {c = c} {f = g} {d = d} {b = b} {x = x} {p = p} ne a) h =
      let y = size-take r a h in
      rw (take_n-along m e k i g c b x d p ne) (omega arith)

  pub landed-here : (j prev : ℕ) (t : Nodes) → seek_n e prev t ≡ Here j → landed e k t ≡ j
  unfolding landed seek_n
  landed-here j prev nil h = absurd (gap_here h)
  landed-here j prev (node i d c b x) h = go (compare_ends e d) refl (λ z. landed-here j i x z)
    where
      go : (w : Ordering) → compare_ends e d ≡ w → (seek_n e i x ≡ Here j → landed e k x ≡ j) → landed e k (node i d c b x) ≡ j
      go Ordering.lt z ih = absurd (gap_here (sym (seek_n-lt e prev i d c b x z) ∙ h))
      go Ordering.eq z ih = rw (z, landed) (here-same (sym (seek_n-eq e prev i d c b x z) ∙ h))
      go Ordering.gt z ih = rw (z, landed) (ih (sym (seek_n-gt e prev i d c b x z) ∙ h))

  pub landed-gap : (u v prev : ℕ) (t : Nodes) → seek_n e prev t ≡ Between u v → landed e k t ≡ k
  unfolding landed seek_n
  landed-gap u v prev nil h = refl
  landed-gap u v prev (node i d c b x) h = go (compare_ends e d) refl (λ z. landed-gap u v i x z)
    where
      go : (w : Ordering) → compare_ends e d ≡ w → (seek_n e i x ≡ Between u v → landed e k x ≡ k) → landed e k (node i d c b x) ≡ k
      go Ordering.lt z ih = rw (z, landed)
      go Ordering.eq z ih = absurd (gap_here (sym h ∙ seek_n-eq e prev i d c b x z))
      go Ordering.gt z ih = rw (z, landed) (ih (sym (seek_n-gt e prev i d c b x z) ∙ h))

-- ---- one change

module _ (f g : Fields) (n m : ℕ) (e : Ends) (s : ℕ) {t : Nodes} {p : List Ends} (v : Good f n t) (a : At t 0 p s) where
  pub row-of : Links f n (f.kid s) (kids_at a)
  row-of = kids-links f n (f.kid 0) a v.links (λ z. refl)

  pub row-rising : Rising (kids_at a)
  row-rising = kids-rising a v.rising

  pub slot-live : s ≤ n
  slot-live = at-live f n (f.kid 0) a v.links (omega arith)

  pub mine : v.own s ≡ p
  mine = own_at v.own [] a v.owned v.top

  pub row-owned : Own v.own p (kids_at a)
  row-owned = kids-own v.own [] a v.owned

  -- the child's slot, where the search found one, is another than the node's
  pub child-found : (j : ℕ) → seek_n e 0 (kids_at a) ≡ Here j → Found v.own p e n f j
  child-found j h = seek-here v.own p e n f j 0 (f.kid s) (kids_at a) h row-of row-owned

top-links : (f g : Fields) (n' : ℕ) (t : Nodes) (p : List Ends) → ((d : Ends) (z : List Ends) → p ≡ d ∷ z → g.kid 0 ≡ f.kid 0) → Res g n' p (f.kid 0) 0 t → Links g n' (g.kid 0) t
top-links f g n' t [] h r = r
top-links f g n' t (d ∷ p) h r = rw (h d p refl) r

module _ (f g : Fields) (n m : ℕ) (e : Ends) (s : ℕ) {t : Nodes} (p : List Ends) (v : Good f n t) (a : At t 0 p s) where
  not_top : (d : Ends) (z : List Ends) → p ≡ d ∷ z → 0 ≡ s → ⊥
  not_top d z y h =
      let x : d ∷ z ≡ [] = sym y ∙ sym (mine f g n m e s v a) ∙ sym (ap v.own h) ∙ v.top in
      let w : ◌≡◌ {A = ℕ} 0 1 = cc in
      omega arith

  new-good : (n' : ℕ) → n ≤ n' → Links g n' (g.kid 0) (take_n m e (suc n) t p) → size (take_n m e (suc n) t p) ≡ n' → Good g n' (take_n m e (suc n) t p)
  new-good n' h l z =
      record {
        links = l;
        own = own_new (suc n) (p ++ e ∷ []) v.own;
        top = new-other (suc n) (p ++ e ∷ []) v.own 0 (λ y. omega arith) ∙ v.top;
        owned = own-take (suc n) (p ++ e ∷ []) v.own n f (omega arith) m e [] (f.kid 0) a refl v.links v.owned;
        rising = rising-take m e (suc n) t p v.rising;
        full = z;
      }

  -- the child was there: the counts of both have gone up by m
  pub good-bumped : (j : ℕ) → seek_n e 0 (kids_at a) ≡ Here j → Bumped f g m s j → Good g n (take_n m e (suc n) t p)
  good-bumped j h w =
      let found = child-found f g n m e s v a j h in
      let mi = mine f g n m e s v a in
      let row = row-bumped v.own p m e (suc n) n n s j f g (omega arith) mi found w 0 (f.kid s) (kids_at a) h (row-of f g n m e s v a) (row-owned f g n m e s v a) (row-rising f g n m e s v a) in
      let row' : Links g n (g.kid s) (reach_n m e (suc n) (kids_at a)) = rw w.kid-node row in
      let off = bumped-off v.own p m e (suc n) n n s j f g (omega arith) mi found w in
      let r = links-take v.own p m e (suc n) n n s f g (omega arith) off w.node (kids_at a) row' [] (f.kid 0) a refl refl v.links v.owned v.rising in
      let k0 : (d : Ends) (z : List Ends) → p ≡ d ∷ z → g.kid 0 ≡ f.kid 0 = λ d z y. kid-0 (w.rest 0 (λ x. not_top d z y x) (λ x. let q = found.some in omega arith)) in
      new-good n (omega arith) (top-links f g n (take_n m e (suc n) t p) p k0 r) (size-take m e (suc n) 0 a (size-here m e (suc n) j 0 (kids_at a) h) ∙ zero-add (size t) ∙ v.full)
    where
      kid-0 : Agree f g 0 → g.kid 0 ≡ f.kid 0
      kid-0 x = x.kid

  -- the child is new
  pub good-added : (u u' : ℕ) → seek_n e 0 (kids_at a) ≡ Between u u' → Added f g m e s (suc n) u u' → Good g (suc n) (take_n m e (suc n) t p)
  good-added u u' h w =
      let mi = mine f g n m e s v a in
      let lk = row-of f g n m e s v a in
      let ow = row-owned f g n m e s v a in
      let st = seek-gap v.own p f e (suc n) n u u' 0 (f.kid s) (kids_at a) h lk ow in
      let ko : 0 < u → (x : Ends) × (v.own u ≡ p ++ x ∷ []) = kid_of st in
      let row = row-added v.own p m e (suc n) n s u u' f g refl mi w ko 0 (f.kid s) (kids_at a) h lk ow (row-rising f g n m e s v a) (none refl) in
      let row' : Links g (suc n) (g.kid s) (reach_n m e (suc n) (kids_at a)) = rw (link st) row in
      let off = added-off v.own p m e (suc n) n s u u' f g refl mi w ko in
      let r = links-take v.own p m e (suc n) n (suc n) s f g (omega arith) off (λ z. w.node) (kids_at a) row' [] (f.kid 0) a refl refl v.links v.owned v.rising in
      let k0 : (d : Ends) (z : List Ends) → p ≡ d ∷ z → g.kid 0 ≡ f.kid 0 = λ d z y. w.kid-rest 0 (λ x. omega arith) (λ x. not_top d z y x) in
      let sz = size-take m e (suc n) 1 a (size-gap m e (suc n) u u' 0 (kids_at a) h) in
      let fu = v.full in
      new-good (suc n) (omega arith) (top-links f g (suc n) (take_n m e (suc n) t p) p k0 r) (omega arith)
    where
      kid_of : Stopped v.own p f e (suc n) n u 0 (f.kid s) (kids_at a) → 0 < u → (x : Ends) × (v.own u ≡ p ++ x ∷ [])
      kid_of (head q z) y = absurd (omega arith)
      kid_of (inside x p1 p2 p3 p4 p5 p6 z) y = (x, p3)

      link : Stopped v.own p f e (suc n) n u 0 (f.kid s) (kids_at a) → g.kid s ≡ head_link e (suc n) (f.kid s) (kids_at a)
      link (head q z) = w.first q ∙ sym z
      link (inside x p1 p2 p3 p4 p5 p6 z) = w.later p1 ∙ sym z
