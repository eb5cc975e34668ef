-- The table's stores against the numbered tree: what a store leaves alone, and that the stores of one change make the changed tree.
use Rattle.std.specs.Prelude.{◌≡◌, refl, ℕ, ◌+◌, ◌<◌, ◌≤◌, cond, length, List, [], ◌∷◌, ◌++◌}
use Rattle.std.proofs.Common.{sym, ap, ◌∙◌, arith, length-append, append_assoc}
use Rattle.definition.specs.Threading.{Ends}
use Rattle.threading_node.specs.Ends.{lt-ne, eq_ends-self, eq_ends-false}
use Rattle.laws.specs.Lists.{is_empty}
use Rattle.threading_node.specs.Nodes.{Nodes, nil, node, reach_n, take_n, At, here, down, along, kids_at, Above, Rising, Fields, Cell, Links, Own, take_n-here, take_n-down, take_n-along}

-- ---- lists

cancel : (p : List Ends) {q r : List Ends} → p ++ q ≡ p ++ r → q ≡ r
cancel [] h = h
cancel (x ∷ p) {q} {r} h = cancel p (let g : x ∷ (p ++ q) ≡ x ∷ (p ++ r) = h in cc)

pub long-not : (p : List Ends) (x : Ends) (q : List Ends) → p ++ x ∷ q ≡ p → ⊥
long-not p x q h = omega (arith, length-append p (x ∷ q), ap length h)

pub snoc-front : (p q : List Ends) (x y : Ends) → p ++ x ∷ [] ≡ q ++ y ∷ [] → p ≡ q
snoc-front [] [] x y h = refl
snoc-front [] (b ∷ q) x y h = absurd (omega (arith, length-append q (y ∷ []), ap length h))
snoc-front (a ∷ p) [] x y h = absurd (omega (arith, length-append p (x ∷ []), ap length h))
snoc-front (a ∷ p) (b ∷ q) x y h =
    let g : a ∷ (p ++ x ∷ []) ≡ b ∷ (q ++ y ∷ []) = h in
    let i : p ≡ q = snoc-front p q x y (cc) in
    let j : a ≡ b = cc in
    cc

-- ---- what a store leaves alone

pub record Agree (f g : Fields) (l : ℕ) : Type 0 where
  pub from : g.from l ≡ f.from l
  pub to : g.to l ≡ f.to l
  pub count : g.count l ≡ f.count l
  pub kid : g.kid l ≡ f.kid l
  pub next : g.next l ≡ f.next l

-- π does not begin Q
abbrev pub NotPre : List Ends → List Ends → Type 0
NotPre π Q = (α : List Ends) → π ++ α ≡ Q → ⊥

-- all slots agree but those of the node with the path Q, its children, and slots above n
abbrev pub Off : (ℕ → List Ends) → List Ends → ℕ → Fields → Fields → Type 0
Off own Q n f g = (l : ℕ) → 0 < l → l ≤ n → (own l ≡ Q → ⊥) → ((x : Ends) → own l ≡ Q ++ x ∷ [] → ⊥) → Agree f g l

pub cell_same : {f g : Fields} {n l i : ℕ} {e : Ends} {c : ℕ} (n' : ℕ) → n ≤ n' → Agree f g i → Cell f n l i e c → Cell g n' l i e c
cell_same n' h a v =
    let w = v.live in
    record { is = v.is; some = v.some; live = omega arith; from = a.from ∙ v.from; to = a.to ∙ v.to; count = a.count ∙ v.count }

module _ (own : ℕ → List Ends) (Q : List Ends) (n n' : ℕ) (f g : Fields) (more : n ≤ n') (off : Off own Q n f g) where
  not-deeper : (π : List Ends) (e : Ends) → NotPre π Q → NotPre (π ++ e ∷ []) Q
  not-deeper π e h α z = h (e ∷ α) (sym (append_assoc π (e ∷ []) α) ∙ z)

  agree-under : (π : List Ends) (e : Ends) (i : ℕ) → 0 < i → i ≤ n → own i ≡ π ++ e ∷ [] → NotPre π Q → Agree f g i
  agree-under π e i s v o h =
      off i s v (λ z. h (e ∷ []) (sym o ∙ z)) (λ x z. h [] (append-nil π ∙ snoc-front π Q e x (sym o ∙ z)))
    where
      append-nil : (p : List Ends) → p ++ [] ≡ p
      append-nil [] = refl
      append-nil (a ∷ p) = ap (λ (q : List Ends). a ∷ q) (append-nil p)

  -- branches below a node that is not on the way to Q
  pub frame : (π : List Ends) (l : ℕ) (t : Nodes) → Links f n l t → Own own π t → NotPre π Q → Links g n' l t
  unfolding Links Own
  frame π l nil k o h = k
  frame π l (node i e c b x) k o h =
      let a : Agree f g i = agree-under π e i k.0.some k.0.live o.0 h in
      (cell_same n' more a k.0, rw a.kid (frame (π ++ e ∷ []) (f.kid i) b k.1 o.1 (not-deeper π e h)), rw a.next (frame π (f.next i) x k.2 o.2 h))

  -- a node beside the way to Q
  module _ (π : List Ends) (d : Ends) (p : List Ends) (to-Q : Q ≡ π ++ d ∷ p) where
    not-beside : (e : Ends) → (e ≡ d → ⊥) → NotPre (π ++ e ∷ []) Q
    not-beside e ne α z =
        let s : e ∷ α ≡ d ∷ p = cancel π (sym (append_assoc π (e ∷ []) α) ∙ z ∙ to-Q) in
        ne (cc)

    agree-beside : (e : Ends) (i : ℕ) → 0 < i → i ≤ n → own i ≡ π ++ e ∷ [] → (e ≡ d → ⊥) → Agree f g i
    agree-beside e i s v o ne =
        off i s v (λ z. ne (let y : e ∷ [] ≡ d ∷ p = cancel π (sym o ∙ z ∙ to-Q) in cc))
        (λ x z. ne (let y : e ∷ [] ≡ d ∷ (p ++ x ∷ []) = cancel π (sym o ∙ z ∙ (rw to-Q (append_assoc π (d ∷ p) (x ∷ [])))) in cc))

    -- a row of branches beside the way
    frame_row : (l : ℕ) (t : Nodes) → Links f n l t → Own own π t → Above d t → Links g n' l t
    unfolding Links Own Above
    frame_row l nil k o h = k
    frame_row l (node i e c b x) k o h =
        let ne : e ≡ d → ⊥ = λ z. lt-ne d e h.0 (sym z) in
        let a : Agree f g i = agree-beside e i k.0.some k.0.live o.0 ne in
        (cell_same n' more a k.0, rw a.kid (frame (π ++ e ∷ []) (f.kid i) b k.1 o.1 (not-beside e ne)), rw a.next (frame_row (f.next i) x k.2 o.2 h.1))

-- the node that gains: all but its count and its first child as before
pub record Gained (f g : Fields) (m i : ℕ) : Type 0 where
  pub from : g.from i ≡ f.from i
  pub to : g.to i ≡ f.to i
  pub count : g.count i ≡ f.count i + m
  pub next : g.next i ≡ f.next i

pub cell-gained : {f g : Fields} {n l i : ℕ} {e : Ends} {c m : ℕ} (n' : ℕ) → n ≤ n' → Gained f g m i → Cell f n l i e c → Cell g n' l i e (c + m)
cell-gained {m = m} n' h a v =
    let w = v.live in
    record { is = v.is; some = v.some; live = omega arith; from = a.from ∙ v.from; to = a.to ∙ v.to; count = a.count ∙ ap (λ (y : ℕ). y + m) v.count }

-- ---- a change at a path

-- at the end of the path the link to the row is the node's own; before it the link stays
abbrev pub Res : Fields → ℕ → List Ends → ℕ → ℕ → Nodes → Type 0
Res g n' [] l q t = Links g n' (g.kid q) t
Res g n' (d ∷ p) l q t = Links g n' l t

at-root : {t : Nodes} {q s : ℕ} → At t q [] s → q ≡ s
at-root here = refl

module _ (own : ℕ → List Ends) (Q : List Ends) (m : ℕ) (e : Ends) (k n n' s : ℕ) (f g : Fields) (more : n ≤ n') (off : Off own Q n f g)
    (gained : 0 < s → Gained f g m s)
    (K : Nodes) (kids : Links g n' (g.kid s) (reach_n m e k K)) where
  -- a node on the way, before its end
  agree-way : (π : List Ends) (h d : Ends) (p : List Ends) (i : ℕ) → 0 < i → i ≤ n → own i ≡ π ++ h ∷ [] → Q ≡ π ++ h ∷ d ∷ p → Agree f g i
  agree-way π h d p i a b o z =
      off i a b
      (λ y. let w : π ++ h ∷ [] ≡ π ++ h ∷ d ∷ p = sym o ∙ y ∙ z in omega (arith, ap length (cancel π w)))
      (λ x y.
      let w : π ++ h ∷ [] ≡ π ++ ((h ∷ d ∷ p) ++ x ∷ []) = sym o ∙ y ∙ (rw z (append_assoc π (h ∷ d ∷ p) (x ∷ []))) in
      omega (arith, ap length (cancel π w)))

  finish : (π : List Ends) (h : Ends) (p : List Ends) (l i c : ℕ) (b x : Nodes) → At b i p s → Q ≡ π ++ h ∷ p → Links f n l (node i h c b x) → Own own π (node i h c b x)
      → Rising (node i h c b x) → Res g n' p (f.kid i) i (take_n m e k b p) → Links g n' l (node i h (cond (is_empty p) (c + m) c) (take_n m e k b p) x)
  unfolding Links Own Rising
  finish π h [] l i c b x a z v o r ih =
      let j : i ≡ s = at-root a in
      let w : Gained f g m i = rw j (gained (rw j at v.0.some)) in
      (cell-gained n' more w v.0, ih, rw w.next (frame_row own Q n n' f g more off π h [] z (f.next i) x v.2 o.2 r.0))
  finish π h (d ∷ p) l i c b x a z v o r ih =
      let w : Agree f g i = agree-way π h d p i v.0.some v.0.live o.0 z in
      (cell_same n' more w v.0, rw w.kid ih, rw w.next (frame_row own Q n n' f g more off π h (d ∷ p) z (f.next i) x v.2 o.2 r.0))

  pub links-take : (π : List Ends) (l : ℕ) {t : Nodes} {q : ℕ} {p : List Ends} (a : At t q p s) → kids_at a ≡ K → Q ≡ π ++ p
      → Links f n l t → Own own π t → Rising t → Res g n' p l q (take_n m e k t p)
  unfolding Links Own Rising kids_at
  links-take π l (here {t = t}) y z v o r = rw (take_n-here m e k t, y) kids
  links-take π l (down {i = i} {c = c} {f = h} {b = b} {x = x} {p = p} a) y z v o r =
      rw (take_n-down m e k i h c b x h p (eq_ends-self h))
      (finish π h p l i c b x a z v o r (links-take (π ++ h ∷ []) (f.kid i) a y (z ∙ sym (append_assoc π (h ∷ []) p)) v.1 o.1 r.1))
  links-take π l (along {i = i} {c = c} {f = h} {d = d} {b = b} {x = x} {p = p} ne a) y z v o r =
      let nd : h ≡ d → ⊥ = λ y1. eq_ends-false d h ne (sym y1) in
      let w : Agree f g i = agree-beside own Q n n' f g more off π d p z h i v.0.some v.0.live o.0 nd in
      rw (take_n-along m e k i h c b x d p ne)
      (cell_same n' more w v.0, rw w.kid (frame own Q n n' f g more off (π ++ h ∷ []) (f.kid i) b v.1 o.1 (not-beside own Q n n' f g more off π d p z h nd)), rw w.next (links-take π (f.next i) a y z v.2 o.2 r.2))
