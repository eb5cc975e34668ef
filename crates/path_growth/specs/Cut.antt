-- A recovered path keeps the first k edges of a path. Those are an ancestor's edges and a front of the chain after it, so it is a record like any
-- other, with no cut of its own.
use Rattle.std.specs.Prelude.{◌≡◌, ◌⊎◌, true, false, List, leb, length, Float}
use Rattle.std.proofs.Common.{ap, ◌∙◌, inl, inr, arith, le-leb, leb-true, leb-false, refl, sym, ℕ, zero, suc, ◌+◌, ◌-◌, ◌*◌, ◌<◌, ◌≤◌}
use Rattle.std.proofs.lemmas.Bool.{lt-leb}
use Rattle.laws.specs.BoolLaws.{Bool-cases}
use Rattle.path_growth.specs.declared.Cut.{Cut}
use Rattle.path_store.specs.declared.upward.Link.{Link}
use Rattle.path_store.specs.Climbs.{Climbs}
use Rattle.path_store.specs.Cells.{parent_of, chain_of, count_of, Inside}
use Rattle.path_edges.specs.Path.{Table, edges_none, Nat-cases}

-- the count of edges before the record's own piece
pub before : List ℕ → ℕ → ℕ
before t r = elim (parent_of t r) [ zero ↦ 0 | suc p ↦ count_of t p ]

-- the ancestor whose own piece holds the path's edge k - 1
unfoldable pub owner_by : List ℕ → ℕ → ℕ → ℕ → ℕ
owner_by t k zero r = r
owner_by t k (suc n) r = elim (leb k (before t r)) [ true ↦ owner_by t k n (parent_of t r - 1) | false ↦ r ]

unfoldable pub owner_of : List ℕ → ℕ → ℕ → ℕ
owner_of t k r = owner_by t k r r

-- the cut below its owner a: in the owner's chain, or behind all of its piece
unfoldable pub cut_at : List ℕ → ℕ → ℕ → Cut
cut_at t k a =
    elim (leb (k - count_of t (parent_of t a - 1)) (chain_of t a)) [
      | true ↦ record { parent = parent_of t a - 1; chain = k - count_of t (parent_of t a - 1) }
      | false ↦ record { parent = a; chain = 0 }
    ]

abbrev pub cut_of : List ℕ → ℕ → ℕ → Cut
cut_of t k r = cut_at t k (owner_of t k r)

-- the link of that ancestor
abbrev pub Owns : List ℕ → ℕ → ℕ → Link → Type 0
Owns t k r l = (l.path ≡ owner_of t k r) × (parent_of t l.path ≡ suc l.parent)

-- what a walk up the parents asks of the first n records
pub record Links (t : List ℕ) (sc : List Float) (n : ℕ) : Type 0 where
  pub room : n * 9 ≤ length t
  pub scored : n ≤ length sc
  pub rises : (r : ℕ) → r < n → parent_of t r ≤ r
  pub root : (r : ℕ) → r < n → parent_of t r ≡ 0 → count_of t r ≡ 0

pub table-links : (index targets t : List ℕ) (sc : List Float) (n : ℕ) → Table index targets t sc n → Links t sc n
table-links index targets t sc n T =
    record {
      room = T.room;
      scored = T.scored;
      rises = λ r l. (T.rows r l).rises;
      root = λ r l h. (T.rows r l).count ∙ ap (λ es. length es) (edges_none index targets t r h);
    }

pub links-front : (t : List ℕ) (sc : List Float) (n m : ℕ) → Links t sc n → m ≤ n → Links t sc m
links-front t sc n m L l =
    record {
      room = omega (arith, L.room);
      scored = omega (arith, L.scored);
      rises = λ r h. L.rises r (omega arith);
      root = λ r h. L.root r (omega arith);
    }

pub links-inside : (t : List ℕ) (sc : List Float) (n : ℕ) → Links t sc n → (r : ℕ) → r < n → Inside t sc r
links-inside t sc n L r l = record { cells = omega (arith, L.room); score = omega (arith, L.scored) }

-- ---- the count before the own piece
pub before-none : (t : List ℕ) (r : ℕ) → parent_of t r ≡ 0 → 0 ≡ before t r
unfolding before
before-none t r h = rw (h, before)

pub before-suc : (t : List ℕ) (r p : ℕ) → parent_of t r ≡ suc p → count_of t p ≡ before t r
unfolding before
before-suc t r p h = rw (h, before)

pub before-some : (t : List ℕ) (r p : ℕ) → p ≡ parent_of t r → (p ≡ 0 → ⊥) → count_of t (p - 1) ≡ before t r
before-some t r p e h = before-suc t r (p - 1) (sym e ∙ omega arith)

-- ---- cut_owner
module _ (t : List ℕ) (k : ℕ) where
  pub owner_here : (n r : ℕ) → before t r < k → owner_by t k n r ≡ r
  unfolding owner_by
  owner_here zero r h = refl
  owner_here (suc n) r h = rw (lt-leb k (before t r) h, owner_by)

  pub owner-up : (n r : ℕ) → k ≤ before t r → owner_by t k (suc n) r ≡ owner_by t k n (parent_of t r - 1)
  unfolding owner_by
  owner-up n r h = rw (le-leb k (before t r) h, owner_by)

  module _ (pos : 0 < k) where
    pub has-parent : (r : ℕ) → k ≤ before t r → 0 < parent_of t r
    has-parent r h = go (Nat-cases (parent_of t r))
      where
        go : (parent_of t r ≡ 0) ⊎ (parent_of t r ≡ suc (parent_of t r - 1)) → 0 < parent_of t r
        go (inl z) = absurd (omega (arith, before-none t r z))
        go (inr z) = omega arith

    -- the fuel does not matter where it reaches the number
    owner-fuel : (m n i r : ℕ) → ((q : ℕ) → q < i → parent_of t q ≤ q) → r < i → r ≤ m → r ≤ n → owner_by t k m r ≡ owner_by t k n r
    owner-fuel zero zero i r up l a b = refl
    owner-fuel zero (suc n) i r up l a b = go (Bool-cases (leb k (before t r)))
      where
        go : (leb k (before t r) ≡ true) ⊎ (leb k (before t r) ≡ false) → owner_by t k zero r ≡ owner_by t k (suc n) r
        go (inl h) = absurd (omega (arith, has-parent r (leb-true k (before t r) h), up r l))
        go (inr h) = owner_here zero r (leb-false k (before t r) h) ∙ sym (owner_here (suc n) r (leb-false k (before t r) h))
    owner-fuel (suc m) zero i r up l a b = go (Bool-cases (leb k (before t r)))
      where
        go : (leb k (before t r) ≡ true) ⊎ (leb k (before t r) ≡ false) → owner_by t k (suc m) r ≡ owner_by t k zero r
        go (inl h) = absurd (omega (arith, has-parent r (leb-true k (before t r) h), up r l))
        go (inr h) = owner_here (suc m) r (leb-false k (before t r) h) ∙ sym (owner_here zero r (leb-false k (before t r) h))
    owner-fuel (suc m) (suc n) i r up l a b =
        go (λ h. owner-fuel m n i (parent_of t r - 1) up (omega (arith, up r l)) (omega (arith, up r l)) (omega (arith, up r l))) (Bool-cases (leb k (before t r)))
      where
        go : (0 < parent_of t r → owner_by t k m (parent_of t r - 1) ≡ owner_by t k n (parent_of t r - 1))
            → (leb k (before t r) ≡ true) ⊎ (leb k (before t r) ≡ false) → owner_by t k (suc m) r ≡ owner_by t k (suc n) r
        go ih (inl h) =
            let b = leb-true k (before t r) h in
            owner-up m r b ∙ ih (has-parent r b) ∙ sym (owner-up n r b)
        go ih (inr h) = owner_here (suc m) r (leb-false k (before t r) h) ∙ sym (owner_here (suc n) r (leb-false k (before t r) h))

    owner-step : (i r : ℕ) → ((q : ℕ) → q < i → parent_of t q ≤ q) → r < i → k ≤ before t r → owner_of t k r ≡ owner_of t k (parent_of t r - 1)
    unfolding owner_of
    owner-step i zero up l h = absurd (omega (arith, has-parent 0 h, up 0 l))
    owner-step i (suc r) up l h =
        owner-up r (suc r) h
        ∙ owner-fuel r (parent_of t (suc r) - 1) i (parent_of t (suc r) - 1) up (omega (arith, up (suc r) l, has-parent (suc r) h)) (omega (arith, up (suc r) l)) (omega arith)

pub record Cutting (t : List ℕ) (sc : List Float) (path k r : ℕ) : Type 0 where
  pub low : r < path + 1
  pub is : owner_of t k r ≡ owner_of t k path

pub links-climbs : {t : List ℕ} {sc : List Float} {n : ℕ} → Links t sc n → Climbs t sc n
links-climbs L = record { room = L.room; scored = L.scored; rises = L.rises }

-- ---- cut_path
pub record Owned (t : List ℕ) (n k a : ℕ) : Type 0 where
  pub low : a < n
  pub has : 0 < parent_of t a
  pub below : count_of t (parent_of t a - 1) < k

-- the owner has a parent, whose edges are fewer than k
module _ (t : List ℕ) (sc : List Float) (n k : ℕ) (L : Links t sc n) (pos : 0 < k) where
  owned_at : (r : ℕ) → r < n → k ≤ count_of t r → before t r < k → Owned t n k r
  owned_at r l c h = go (Nat-cases (parent_of t r))
    where
      go : (parent_of t r ≡ 0) ⊎ (parent_of t r ≡ suc (parent_of t r - 1)) → Owned t n k r
      go (inl z) = absurd (omega (arith, L.root r l z))
      go (inr z) = record { low = l; has = omega arith; below = omega (arith, before-suc t r (parent_of t r - 1) z) }

  owned_by : (m r : ℕ) → r < n → r ≤ m → k ≤ count_of t r → Owned t n k (owner_by t k m r)
  owned_by zero r l a c = go (Bool-cases (leb k (before t r)))
    where
      go : (leb k (before t r) ≡ true) ⊎ (leb k (before t r) ≡ false) → Owned t n k (owner_by t k zero r)
      go (inl h) = absurd (omega (arith, has-parent t k pos r (leb-true k (before t r) h), L.rises r l))
      go (inr h) = rw (owner_here t k zero r (leb-false k (before t r) h)) (owned_at r l c (leb-false k (before t r) h))
  owned_by (suc m) r l a c =
      go (λ p q. owned_by m (parent_of t r - 1) (omega (arith, L.rises r l)) (omega (arith, L.rises r l)) q) (Bool-cases (leb k (before t r)))
    where
      go : (0 < parent_of t r → k ≤ count_of t (parent_of t r - 1) → Owned t n k (owner_by t k m (parent_of t r - 1)))
          → (leb k (before t r) ≡ true) ⊎ (leb k (before t r) ≡ false) → Owned t n k (owner_by t k (suc m) r)
      go ih (inl h) =
          let b = leb-true k (before t r) h in
          let p = has-parent t k pos r b in
          rw (owner-up t k m r b) (ih p (omega (arith, before-suc t r (parent_of t r - 1) (omega arith))))
      go ih (inr h) = rw (owner_here t k (suc m) r (leb-false k (before t r) h)) (owned_at r l c (leb-false k (before t r) h))

  pub owned : (r : ℕ) → r < n → k ≤ count_of t r → Owned t n k (owner_of t k r)
  unfolding owner_of
  owned r l c = owned_by r r l (omega arith) c

-- ---- the walk up to the owner
module _ (t : List ℕ) (sc : List Float) (path k : ℕ) (L : Links t sc (path + 1)) (pos : 0 < k) where
  module _ (r : ℕ) (C : Cutting t sc path k r) where
    pub cutting-next : (p : ℕ) → parent_of t r ≡ suc p → k ≤ count_of t p → Cutting t sc path k p
    cutting-next p e h =
        let b : k ≤ before t r = omega (arith, before-suc t r p e) in
        let q : parent_of t r - 1 ≡ p = omega arith in
        record {
          low = omega (arith, L.rises r C.low, C.low);
          is = ap (λ x. owner_of t k x) (sym q) ∙ sym (owner-step t k pos (path + 1) r L.rises C.low b) ∙ C.is;
        }

    pub cutting-here : before t r < k → r ≡ owner_of t k path
    unfolding owner_of
    cutting-here h = sym (owner_here t k r r h) ∙ C.is

    pub cutting-found : (p : ℕ) → parent_of t r ≡ suc p → count_of t p < k → r ≡ owner_of t k path
    cutting-found p e h = cutting-here (omega (arith, before-suc t r p e))

    pub cutting-none : k ≤ count_of t path → parent_of t r ≡ 0 → ⊥
    cutting-none c z =
        let o = owned t sc (path + 1) k L pos path (omega arith) c in
        let e = cutting-here (omega (arith, before-none t r z)) in
        absurd (omega (arith, z, rw (← e) at o.has))

pub cut_inside : (t : List ℕ) (k a f b j : ℕ) → parent_of t a ≡ suc f → b ≡ count_of t f → j ≡ chain_of t a → k - b ≤ j
    → ◌≡◌ {A = Cut} (record { parent = f; chain = k - b }) (cut_at t k a)
unfolding cut_at
cut_inside t k a f b j F B J h =
    let q : parent_of t a - 1 ≡ f = omega arith in
    let e : b ≡ count_of t (parent_of t a - 1) = B ∙ ap (λ x. count_of t x) (sym q) in
    rw (← q, e, le-leb (k - count_of t (parent_of t a - 1)) (chain_of t a) (omega arith), cut_at)

pub cut-whole : (t : List ℕ) (k a f b j : ℕ) → parent_of t a ≡ suc f → b ≡ count_of t f → j ≡ chain_of t a → j < k - b
    → ◌≡◌ {A = Cut} (record { parent = a; chain = 0 }) (cut_at t k a)
unfolding cut_at
cut-whole t k a f b j F B J h =
    let q : parent_of t a - 1 ≡ f = omega arith in
    let e : b ≡ count_of t (parent_of t a - 1) = B ∙ ap (λ x. count_of t x) (sym q) in
    rw (lt-leb (k - count_of t (parent_of t a - 1)) (chain_of t a) (omega arith), cut_at)

-- the owner by the values that the code has read
module _ (t : List ℕ) (sc : List Float) (path k a : ℕ) (L : Links t sc (path + 1)) (pos : 0 < k) (low : k ≤ count_of t path) (e : a ≡ owner_of t k path) where
  pub owner-read : Owned t (path + 1) k a
  owner-read = rw e (owned t sc (path + 1) k L pos path (omega arith) low)

  pub owner-inside : Inside t sc a
  owner-inside = links-inside t sc (path + 1) L a owner-read.low

  module _ (f : ℕ) (F : parent_of t a ≡ suc f) where
    pub owner-up-inside : Inside t sc f
    owner-up-inside = links-inside t sc (path + 1) L f (omega (arith, owner-read.low, L.rises a owner-read.low))

    pub owner-below : (b : ℕ) → b ≡ count_of t f → b < k
    owner-below b h =
        let q : f ≡ parent_of t a - 1 = omega arith in
        omega (arith, owner-read.below, h ∙ ap (λ x. count_of t x) q)
