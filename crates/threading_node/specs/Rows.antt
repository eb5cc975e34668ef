-- The two sets of stores of one change, against the row of children that they are made in.
use Rattle.std.specs.Prelude.{◌≡◌, ◌⊎◌, List, [], ◌∷◌, ◌++◌, refl, ℕ, suc, ◌+◌, ◌<◌, ◌≤◌}
use Rattle.std.proofs.Common.{sym, ap, ◌∙◌, inl, inr, append_assoc, arith}
use Prim.Native.Nat.{Ordering}
use Rattle.definition.specs.Threading.{Ends, compare_ends}
use Rattle.threading_node.specs.Ends.{ends-path, gt-lt, lt-ne, eq-same}
use Rattle.threading_node.specs.Nodes.{Nodes, nil, node, reach_n, seek_n, head_link, Above, Rising, Fields, Cell, Links, Own, reach_n-eq, reach_n-gt, above-less, Here, Between}
use Rattle.threading_node.specs.Table.{long-not, Agree, Off, Gained, NotPre, frame, cell_same, cell-gained}

-- ---- the cases of a search, as laws

module _ (e : Ends) (prev i : ℕ) (f : Ends) (c : ℕ) (b x : Nodes) where
  pub seek_n-lt : compare_ends e f ≡ Ordering.lt → seek_n e prev (node i f c b x) ≡ Between prev i
  unfolding seek_n
  seek_n-lt h = rw (h, seek_n)

  pub seek_n-eq : compare_ends e f ≡ Ordering.eq → seek_n e prev (node i f c b x) ≡ Here i
  unfolding seek_n
  seek_n-eq h = rw (h, seek_n)

  pub seek_n-gt : compare_ends e f ≡ Ordering.gt → seek_n e prev (node i f c b x) ≡ seek_n e i x
  unfolding seek_n
  seek_n-gt h = rw (h, seek_n)

pub gap_here : {u v j : ℕ} → Between u v ≡ Here j → ⊥
gap_here h = let z : ◌≡◌ {A = ℕ} 0 1 = cc in omega arith

pub here-same : {i j : ℕ} → Here i ≡ Here j → i ≡ j
here-same h = cc

gap-after : {u v u' v' : ℕ} → Between u v ≡ Between u' v' → u ≡ u'
gap-after h = cc

pub gap-before : {u v u' v' : ℕ} → Between u v ≡ Between u' v' → v ≡ v'
gap-before h = cc

-- what a search that found says of the slot
pub record Found (own : ℕ → List Ends) (Q : List Ends) (e : Ends) (n : ℕ) (f : Fields) (j : ℕ) : Type 0 where
  pub some : 0 < j
  pub live : j ≤ n
  pub from : f.from j ≡ e.from
  pub to : f.to j ≡ e.to
  pub path : own j ≡ Q ++ e ∷ []

pub seek-here : (own : ℕ → List Ends) (Q : List Ends) (e : Ends) (n : ℕ) (f : Fields) (j prev l : ℕ) (t : Nodes) → seek_n e prev t ≡ Here j → Links f n l t → Own own Q t
    → Found own Q e n f j
unfolding Links Own seek_n
seek-here own Q e n f j prev l nil h v o = absurd (gap_here h)
seek-here own Q e n f j prev l (node i d c b x) h v o = go (compare_ends e d) refl (λ z. seek-here own Q e n f j i (f.next i) x z v.2 o.2)
  where
    found : e ≡ d → i ≡ j → Found own Q e n f j
    found p q =
        rw (← q, p)
        (record { some = v.0.some; live = v.0.live; from = v.0.from; to = v.0.to; path = o.0 })

    go : (w : Ordering) → compare_ends e d ≡ w → (seek_n e i x ≡ Here j → Found own Q e n f j) → Found own Q e n f j
    go Ordering.lt z ih = absurd (gap_here (sym (seek_n-lt e prev i d c b x z) ∙ h))
    go Ordering.eq z ih = found (eq-same e d z) (here-same (sym (seek_n-eq e prev i d c b x z) ∙ h))
    go Ordering.gt z ih = ih (sym (seek_n-gt e prev i d c b x z) ∙ h)

-- ---- the child is there

pub record Bumped (f g : Fields) (m s j : ℕ) : Type 0 where
  pub rest : (l : ℕ) → (l ≡ s → ⊥) → (l ≡ j → ⊥) → Agree f g l
  pub node : 0 < s → Gained f g m s
  pub kid-node : g.kid s ≡ f.kid s
  pub child : Gained f g m j
  pub kid-child : g.kid j ≡ f.kid j

module _ (own : ℕ → List Ends) (Q : List Ends) (m : ℕ) (e : Ends) (k n n' s j : ℕ) (f g : Fields) (more : n ≤ n') (mine : own s ≡ Q) (found : Found own Q e n f j) (w : Bumped f g m s j) where
  pub bumped-off : Off own Q n f g
  bumped-off l a b p q = w.rest l (λ z. p (ap own z ∙ mine)) (λ z. q e (ap own z ∙ found.path))

  bumped-beside : (i : ℕ) (h : Ends) → own i ≡ Q ++ h ∷ [] → f.from i ≡ h.from → f.to i ≡ h.to → (h ≡ e → ⊥) → Agree f g i
  bumped-beside i h o a b ne =
      w.rest i (λ z. long-not Q h [] (sym o ∙ ap own z ∙ mine))
      (λ z. ne (ends-path _ _ _ _ (sym a ∙ ap f.from z ∙ found.from) (sym b ∙ ap f.to z ∙ found.to)))

  below-not : (h : Ends) → NotPre (Q ++ h ∷ []) Q
  below-not h α z = long-not Q h α (sym (append_assoc Q (h ∷ []) α) ∙ z)

  row_same : (l : ℕ) (t : Nodes) → Links f n l t → Own own Q t → Above e t → Links g n' l t
  unfolding Links Own Above
  row_same l nil v o h = v
  row_same l (node i d c b x) v o h =
      let a : Agree f g i = bumped-beside i d o.0 v.0.from v.0.to (λ z. lt-ne e d h.0 (sym z)) in
      (cell_same n' more a v.0, rw a.kid (frame own Q n n' f g more bumped-off (Q ++ d ∷ []) (f.kid i) b v.1 o.1 (below-not d)), rw a.next (row_same (f.next i) x v.2 o.2 h.1))

  pub row-bumped : (prev l : ℕ) (t : Nodes) → seek_n e prev t ≡ Here j → Links f n l t → Own own Q t → Rising t → Links g n' l (reach_n m e k t)
  unfolding Links Own Rising seek_n
  row-bumped prev l nil h v o r = absurd (gap_here h)
  row-bumped prev l (node i d c b x) h v o r = go (compare_ends e d) refl (λ z. row-bumped i (f.next i) x z v.2 o.2 r.2)
    where
      under : Links g n' (f.kid i) b
      under = frame own Q n n' f g more bumped-off (Q ++ d ∷ []) (f.kid i) b v.1 o.1 (below-not d)

      there : i ≡ j → e ≡ d → Links g n' l (node i d (c + m) b x)
      there z y =
          let a : Gained f g m i = rw z w.child in
          let q : g.kid i ≡ f.kid i = rw z w.kid-child in
          (cell-gained n' more a v.0, rw q under, rw a.next (row_same (f.next i) x v.2 o.2 (rw y r.0)))

      go : (y : Ordering) → compare_ends e d ≡ y → (seek_n e i x ≡ Here j → Links g n' (f.next i) (reach_n m e k x)) → Links g n' l (reach_n m e k (node i d c b x))
      go Ordering.lt z ih = absurd (gap_here (sym (seek_n-lt e prev i d c b x z) ∙ h))
      go Ordering.eq z ih = rw (reach_n-eq m e k i d c b x z) (there (here-same (sym (seek_n-eq e prev i d c b x z) ∙ h)) (eq-same e d z))
      go Ordering.gt z ih =
          let a : Agree f g i = bumped-beside i d o.0 v.0.from v.0.to (lt-ne d e (gt-lt e d z)) in
          rw (reach_n-gt m e k i d c b x z)
          (cell_same n' more a v.0, rw a.kid under, rw a.next (ih (sym (seek_n-gt e prev i d c b x z) ∙ h)))

-- ---- the child is new

pub record Added (f g : Fields) (m : ℕ) (e : Ends) (s k u v : ℕ) : Type 0 where
  pub rest : (l : ℕ) → (l ≡ k → ⊥) → (l ≡ s → ⊥) → (l ≡ u → ⊥) → Agree f g l
  pub node : Gained f g m s
  pub first : u ≡ 0 → g.kid s ≡ k
  pub later : 0 < u → g.kid s ≡ f.kid s
  pub after : 0 < u → g.next u ≡ k
  pub u-from : 0 < u → g.from u ≡ f.from u
  pub u-to : 0 < u → g.to u ≡ f.to u
  pub u-count : 0 < u → g.count u ≡ f.count u
  pub kid-rest : (l : ℕ) → (l ≡ k → ⊥) → (l ≡ s → ⊥) → g.kid l ≡ f.kid l
  pub from : g.from k ≡ e.from
  pub to : g.to k ≡ e.to
  pub count : g.count k ≡ m
  pub kid : g.kid k ≡ 0
  pub next : g.next k ≡ v

-- where the search stopped: at the head of this row, or after a slot of it
pub data Stopped (own : ℕ → List Ends) (Q : List Ends) (f : Fields) (e : Ends) (k n u prev l : ℕ) (t : Nodes) : Type 0 where
  head : u ≡ prev → head_link e k l t ≡ k → Stopped own Q f e k n u prev l t
  inside : (h : Ends) → 0 < u → u ≤ n → own u ≡ Q ++ h ∷ [] → f.from u ≡ h.from → f.to u ≡ h.to → ((a : Ends) → Above a t → compare_ends a h ≡ Ordering.lt)
      → head_link e k l t ≡ l → Stopped own Q f e k n u prev l t

pub seek-gap : (own : ℕ → List Ends) (Q : List Ends) (f : Fields) (e : Ends) (k n u v prev l : ℕ) (t : Nodes) → seek_n e prev t ≡ Between u v → Links f n l t → Own own Q t
    → Stopped own Q f e k n u prev l t
unfolding Links Own Above seek_n head_link
seek-gap own Q f e k n u v prev l nil h w o = head (sym (gap-after h)) refl
seek-gap own Q f e k n u v prev l (node i d c b x) h w o = go (compare_ends e d) refl (λ z. seek-gap own Q f e k n u v i (f.next i) x z w.2 o.2)
  where
    stay : compare_ends e d ≡ Ordering.gt → head_link e k l (node i d c b x) ≡ l
    stay z = rw (z, head_link)

    up : compare_ends e d ≡ Ordering.gt → Stopped own Q f e k n u i (f.next i) x → Stopped own Q f e k n u prev l (node i d c b x)
    up z (head p q) =
        inside d (rw p w.0.some) (rw p w.0.live) (rw p o.0) (rw p w.0.from) (rw p w.0.to) (λ a y. y.0) (stay z)
    up z (inside y p1 p2 p3 p4 p5 p6 q) = inside y p1 p2 p3 p4 p5 (λ a r. p6 a r.1) (stay z)

    go : (y : Ordering) → compare_ends e d ≡ y → (seek_n e i x ≡ Between u v → Stopped own Q f e k n u i (f.next i) x) → Stopped own Q f e k n u prev l (node i d c b x)
    go Ordering.lt z ih = head (sym (gap-after (sym (seek_n-lt e prev i d c b x z) ∙ h))) (rw (z, head_link))
    go Ordering.eq z ih = absurd (gap_here (sym h ∙ seek_n-eq e prev i d c b x z))
    go Ordering.gt z ih = up z (ih (sym (seek_n-gt e prev i d c b x z) ∙ h))

-- the slot before the row is not in it
pub data Past (f : Fields) (prev : ℕ) (t : Nodes) : Type 0 where
  none : prev ≡ 0 → Past f prev t
  some : (a : Ends) → f.from prev ≡ a.from → f.to prev ≡ a.to → Above a t → Past f prev t

-- a slot after which nothing is put, or one that is no child of another node
module _ (own : ℕ → List Ends) (Q : List Ends) (m : ℕ) (e : Ends) (k n s u v : ℕ) (f g : Fields) (new : k ≡ suc n) (mine : own s ≡ Q) (w : Added f g m e s k u v)
    (kid_of : 0 < u → (h : Ends) × (own u ≡ Q ++ h ∷ [])) where
  more : n ≤ k
  more = omega arith

  pub added-off : Off own Q n f g
  added-off l a b p q = w.rest l (λ z. omega arith) (λ z. p (ap own z ∙ mine)) (λ z. let r = kid_of (rw z at a) in q r.0 (ap own z ∙ r.1))

  added-beside : (i : ℕ) (h : Ends) → i ≤ n → own i ≡ Q ++ h ∷ [] → (i ≡ u → ⊥) → Agree f g i
  added-beside i h live o ne = w.rest i (λ z. omega arith) (λ z. long-not Q h [] (sym o ∙ ap own z ∙ mine)) ne

  under-not : (h : Ends) → NotPre (Q ++ h ∷ []) Q
  under-not h α z = long-not Q h α (sym (append_assoc Q (h ∷ []) α) ∙ z)

  -- a row that does not hold u
  row_kept : (a : Ends) (l : ℕ) (t : Nodes) → Links f n l t → Own own Q t → Above a t → (u ≡ 0) ⊎ ((f.from u ≡ a.from) × (f.to u ≡ a.to)) → Links g k l t
  unfolding Links Own Above
  row_kept a l nil p o h y = p
  row_kept a l (node i d c b x) p o h y =
      let ne : i ≡ u → ⊥ = λ z. not-u z y in
      let q : Agree f g i = added-beside i d p.0.live o.0 ne in
      (cell_same k more q p.0, rw q.kid (frame own Q n k f g more added-off (Q ++ d ∷ []) (f.kid i) b p.1 o.1 (under-not d)), rw q.next (row_kept a (f.next i) x p.2 o.2 h.1 y))
    where
      not-u : i ≡ u → (u ≡ 0) ⊎ ((f.from u ≡ a.from) × (f.to u ≡ a.to)) → ⊥
      not-u z (inl y) = let q = p.0.some in omega arith
      not-u z (inr y) = lt-ne a d h.0 (ends-path _ _ _ _ (sym y.0 ∙ sym (ap f.from z) ∙ p.0.from) (sym y.1 ∙ sym (ap f.to z) ∙ p.0.to))

  -- the row with the new slot in it
  pub row-added : (prev l : ℕ) (t : Nodes) → seek_n e prev t ≡ Between u v → Links f n l t → Own own Q t → Rising t → Past f prev t → Links g k (head_link e k l t) (reach_n m e k t)
  unfolding Links Own Above Rising seek_n reach_n head_link
  row-added prev l nil h p o r y = (record { is = refl; some = omega arith; live = omega arith; from = w.from; to = w.to; count = w.count }, w.kid, w.next ∙ sym (gap-before h))
  row-added prev l (node i d c b x) h p o r y = go (compare_ends e d) refl (λ z y. row-added i (f.next i) x z p.2 o.2 r.2 y)
    where
      kept : compare_ends e d ≡ Ordering.lt → u ≡ prev → Past f prev (node i d c b x) → Links g k l (node i d c b x)
      kept z q (none y) = row_kept e l (node i d c b x) p o (z, above-less e d x z r.0) (inl (q ∙ y))
      kept z q (some a y1 y2 y3) = row_kept a l (node i d c b x) p o y3 (inr (ap f.from q ∙ y1, ap f.to q ∙ y2))

      -- the slot passed: its link is that of the changed row
      link : Stopped own Q f e k n u i (f.next i) x → g.next i ≡ head_link e k (f.next i) x
      link (head q z) = sym (z ∙ sym (w.after (rw q p.0.some)) ∙ ap g.next q)
      link (inside a p1 p2 p3 p4 p5 p6 z) =
          let q : Agree f g i = added-beside i d p.0.live o.0 (λ y. lt-ne d a (p6 d r.0) (ends-path _ _ _ _ (sym p.0.from ∙ ap f.from y ∙ p4) (sym p.0.to ∙ ap f.to y ∙ p5))) in
          q.next ∙ sym z

      pass : Stopped own Q f e k n u i (f.next i) x → Cell g k l i d c × (g.kid i ≡ f.kid i)
      pass (head q z) =
          let y : 0 < u = rw q p.0.some in
          let a1 : g.from i ≡ f.from i = rw (← q) (w.u-from y) in
          let a2 : g.to i ≡ f.to i = rw (← q) (w.u-to y) in
          let a3 : g.count i ≡ f.count i = rw (← q) (w.u-count y) in
          let lv = p.0.live in
          let a4 : g.kid i ≡ f.kid i = w.kid-rest i (λ z. omega arith) (λ z. long-not Q d [] (sym o.0 ∙ ap own z ∙ mine)) in
          (record { is = p.0.is; some = p.0.some; live = omega arith; from = a1 ∙ p.0.from; to = a2 ∙ p.0.to; count = a3 ∙ p.0.count }, a4)
      pass (inside a p1 p2 p3 p4 p5 p6 z) =
          let q : Agree f g i = added-beside i d p.0.live o.0 (λ y. lt-ne d a (p6 d r.0) (ends-path _ _ _ _ (sym p.0.from ∙ ap f.from y ∙ p4) (sym p.0.to ∙ ap f.to y ∙ p5))) in
          (cell_same k more q p.0, q.kid)

      under : Links g k (f.kid i) b
      under = frame own Q n k f g more added-off (Q ++ d ∷ []) (f.kid i) b p.1 o.1 (under-not d)

      go : (y : Ordering) → compare_ends e d ≡ y → (seek_n e i x ≡ Between u v → Past f i x → Links g k (head_link e k (f.next i) x) (reach_n m e k x))
          → Links g k (head_link e k l (node i d c b x)) (reach_n m e k (node i d c b x))
      go Ordering.lt z ih =
          let q : Between prev i ≡ Between u v = sym (seek_n-lt e prev i d c b x z) ∙ h in
          let nx : g.next k ≡ l = w.next ∙ sym (gap-before q) ∙ sym p.0.is in
          rw (z, head_link, reach_n)
          (record { is = refl; some = omega arith; live = omega arith; from = w.from; to = w.to; count = w.count }, w.kid, rw nx (kept z (sym (gap-after q)) y))
      go Ordering.eq z ih = absurd (gap_here (sym h ∙ seek_n-eq e prev i d c b x z))
      go Ordering.gt z ih =
          let q : seek_n e i x ≡ Between u v = sym (seek_n-gt e prev i d c b x z) ∙ h in
          let st : Stopped own Q f e k n u i (f.next i) x = seek-gap own Q f e k n u v i (f.next i) x q p.2 o.2 in
          let cl = pass st in
          rw (z, head_link, reach_n)
          (cl.0, rw cl.1 under, rw (link st) (ih q (some d p.0.from p.0.to r.0)))
