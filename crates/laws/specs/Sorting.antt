-- The first n values of a function, sorted by a linear order: in whatever order the values stand, the sorted list is the same. Built on Insertion.
use Rattle.std.specs.Prelude.{◌≡◌, ◌⊎◌, ◌≢◌, Bool, true, false, List, [], ◌∷◌, map, length}
use Rattle.std.proofs.Math.Path.{refl, ap}
use Rattle.std.proofs.Common.{sym, ◌∙◌, inl, inr, eq-or-lt_of_le, arith}
use Prim.Native.Nat.{ℕ, zero, suc, ◌<◌}
use Rattle.laws.specs.ListLaws.{All, nil, cons, all_head, all_tail}
use Rattle.laws.specs.BoolLaws.{Bool-cases, both_ways}
use Rattle.laws.specs.Insertion.{insert, sorted, insert-past, insert-here, insert-front, all-sorted, length-sorted}

-- `before x y`: x stands before y. Of two different values one stands before the other.
pub record LinearOrder {A : Type 0} (before : A → A → Bool) : Type 0 where
  pub flip : (x y : A) → before x y ≡ true → before y x ≡ false
  pub through : (x y z : A) → before x y ≡ false → before y z ≡ false → before x z ≡ false
  pub same : (x y : A) → before x y ≡ false → before y x ≡ false → x ≡ y

-- one of two numbers below or equal
pub same_or : (i m : ℕ) → i < suc m → (i ≡ m) ⊎ (i < m)
same_or i m h = eq-or-lt_of_le (omega arith)

module _ {A : Type 0} where
  -- the first n values of f, the last of them first
  falling : (ℕ → A) → ℕ → List A
  falling f zero = []
  falling f (suc n) = f n ∷ falling f n

  -- the first n values of f, sorted
  pub sorted_to : (A → A → Bool) → (ℕ → A) → ℕ → List A
  sorted_to before f n = sorted before (falling f n)

  length-falling : (f : ℕ → A) (n : ℕ) → length (falling f n) ≡ n
  unfolding falling
  length-falling f zero = refl
  length-falling f (suc n) = ap suc (length-falling f n)

  all-falling : {P : A → Type 0} (f : ℕ → A) (n : ℕ) → ((i : ℕ) → i < n → P (f i)) → All P (falling f n)
  unfolding falling
  all-falling f zero p = nil
  all-falling f (suc n) p = cons (p n (omega arith)) (all-falling f n (λ i h. p i (omega arith)))

module _ {A : Type 0} (before : A → A → Bool) where
  pub insert-nil : (a : A) → insert before a [] ≡ a ∷ []
  unfolding insert
  insert-nil a = refl

  pub sorted_zero : (f : ℕ → A) → sorted_to before f 0 ≡ []
  unfolding sorted_to sorted falling
  sorted_zero f = refl

  pub sorted_suc : (f : ℕ → A) (n : ℕ) → sorted_to before f (suc n) ≡ insert before (f n) (sorted_to before f n)
  unfolding sorted_to sorted falling
  sorted_suc f n = refl

  pub sorted-same : (f g : ℕ → A) (n : ℕ) → ((i : ℕ) → i < n → f i ≡ g i) → sorted_to before f n ≡ sorted_to before g n
  sorted-same f g zero e = sorted_zero f ∙ sym (sorted_zero g)
  sorted-same f g (suc n) e =
      sorted_suc f n ∙ (rw (e n (omega arith), sorted-same f g n (λ i h. e i (omega arith)))) ∙ sym (sorted_suc g n)

  pub length-sorted_to : (f : ℕ → A) (n : ℕ) → length (sorted_to before f n) ≡ n
  unfolding sorted_to
  length-sorted_to f n = length-sorted before (falling f n) ∙ length-falling f n

  -- ---- what holds of every value
  pub all-sorted_to : {P : A → Type 0} (f : ℕ → A) (n : ℕ) → ((i : ℕ) → i < n → P (f i)) → All P (sorted_to before f n)
  unfolding sorted_to
  all-sorted_to f n p = all-sorted before (all-falling f n p)

  module _ (P : A → Type 0) where
    insert_all : (a : A) (l : List A) → All P (insert before a l) → P a × All P l
    insert_all a [] k = let r : All P (a ∷ []) = rw (insert-nil a) at k in (all_head r, nil)
    insert_all a (z ∷ l) k = go (λ r. insert_all a l r) (Bool-cases (before z a))
      where
        go : (All P (insert before a l) → P a × All P l) → (before z a ≡ true) ⊎ (before z a ≡ false) → P a × All P (z ∷ l)
        go up (inl h) =
            let r : All P (z ∷ insert before a l) = rw (insert-past before a z l h) at k in
            let t = up (all_tail r) in
            (t.0, cons (all_head r) t.1)
        go up (inr h) =
            let r : All P (a ∷ z ∷ l) = rw (insert-here before a z l h) at k in
            (all_head r, all_tail r)

    pub sorted_to-all : (f : ℕ → A) (n : ℕ) → All P (sorted_to before f n) → (i : ℕ) → i < n → P (f i)
    sorted_to-all f zero k i h = absurd (omega arith)
    sorted_to-all f (suc n) k i h = go (sorted_to-all f n two.1) (same_or i n h)
      where
        two : P (f n) × All P (sorted_to before f n)
        two = insert_all (f n) (sorted_to before f n) (rw (sorted_suc f n) at k)

        go : ((j : ℕ) → j < n → P (f j)) → (i ≡ n) ⊎ (i < n) → P (f i)
        go up (inl e) = rw e two.0
        go up (inr l) = up i l

  -- ---- the least stands first
  pub sorted-least : (f : ℕ → A) (n : ℕ) (a : A) → ((i : ℕ) → i < n → before (f i) a ≡ false) → insert before a (sorted_to before f n) ≡ a ∷ sorted_to before f n
  sorted-least f n a k = insert-front before a (all-sorted_to f n k)

  module _ (O : LinearOrder before) where
    pub not-self : (x : A) → before x x ≡ false
    not-self x = go (Bool-cases (before x x))
      where
        go : (before x x ≡ true) ⊎ (before x x ≡ false) → before x x ≡ false
        go (inl h) = O.flip x x h
        go (inr h) = h

    -- ---- two insertions commute
    turn : (x y : A) (l : List A) → insert before x l ≡ x ∷ l → insert before y l ≡ y ∷ l → insert before x (y ∷ l) ≡ insert before y (x ∷ l)
    turn x y l p q = go (Bool-cases (before y x)) (Bool-cases (before x y))
      where
        go : (before y x ≡ true) ⊎ (before y x ≡ false) → (before x y ≡ true) ⊎ (before x y ≡ false) → insert before x (y ∷ l) ≡ insert before y (x ∷ l)
        go (inl h) (inl k) = both_ways k (O.flip y x h)
        go (inl h) (inr k) = insert-past before x y l h ∙ rw (p, insert-here before y x l k)
        go (inr h) (inl k) = sym (insert-past before y x l k ∙ rw (q, insert-here before x y l h))
        go (inr h) (inr k) = let e : x ≡ y = O.same x y k h in rw e

    -- x not behind z, and z before y
    apart : (x y z : A) (l : List A) → before z x ≡ false → before z y ≡ true
        → insert before x (insert before y (z ∷ l)) ≡ insert before y (insert before x (z ∷ l))
    apart x y z l h k = go (Bool-cases (before x y))
      where
        go : (before x y ≡ true) ⊎ (before x y ≡ false) → insert before x (insert before y (z ∷ l)) ≡ insert before y (insert before x (z ∷ l))
        go (inr f) = both_ways k (O.through z x y h f)
        go (inl t) =
            rw
            (insert-past before y z l k, insert-here before x z (insert before y l) h, insert-here before x z l h, insert-past before y x (z ∷ l) t, insert-past before y z l k)

    pub insert_comm : (x y : A) (l : List A) → insert before x (insert before y l) ≡ insert before y (insert before x l)
    insert_comm x y [] = rw (insert-nil x, insert-nil y) (turn x y [] (insert-nil x) (insert-nil y))
    insert_comm x y (z ∷ l) = go (insert_comm x y l) (Bool-cases (before z x)) (Bool-cases (before z y))
      where
        go : insert before x (insert before y l) ≡ insert before y (insert before x l) → (before z x ≡ true) ⊎ (before z x ≡ false)
            → (before z y ≡ true) ⊎ (before z y ≡ false) → insert before x (insert before y (z ∷ l)) ≡ insert before y (insert before x (z ∷ l))
        go up (inl h) (inl k) =
            rw (insert-past before x z l h, insert-past before y z l k, insert-past before x z (insert before y l) h, insert-past before y z (insert before x l) k, up)
        go up (inl h) (inr k) = sym (apart y x z l k h)
        go up (inr h) (inl k) = apart x y z l h k
        go up (inr h) (inr k) =
            rw (insert-here before x z l h, insert-here before y z l k)
            (turn x y (z ∷ l) (insert-here before x z l h) (insert-here before y z l k))

    -- f and g differ at i alone
    pub sorted-one : (f g : ℕ → A) (i n : ℕ) → i < n → ((j : ℕ) → j < n → j ≢ i → f j ≡ g j)
        → insert before (f i) (sorted_to before g n) ≡ insert before (g i) (sorted_to before f n)
    sorted-one f g i zero h e = absurd (omega arith)
    sorted-one f g i (suc n) h e = go (λ k. sorted-one f g i n k (λ j l m. e j (omega arith) m)) (same_or i n h)
      where
        go : (i < n → insert before (f i) (sorted_to before g n) ≡ insert before (g i) (sorted_to before f n)) → (i ≡ n) ⊎ (i < n)
            → insert before (f i) (sorted_to before g (suc n)) ≡ insert before (g i) (sorted_to before f (suc n))
        go up (inl q) =
            let s : sorted_to before f n ≡ sorted_to before g n = sorted-same f g n (λ j l. e j (omega arith) (omega arith)) in
            rw (sorted_suc f n, sorted_suc g n, q, s) (insert_comm (f n) (g n) (sorted_to before g n))
        go up (inr l) =
            let p : f n ≡ g n = e n (omega arith) (omega arith) in
            rw (sorted_suc f n, sorted_suc g n, p, insert_comm (f i) (g n), up l) (insert_comm (g n) (g i) (sorted_to before f n))

    -- g is f with two values changed about
    pub sorted-swap : (f g : ℕ → A) (i k n : ℕ) → i < k → k < n → g i ≡ f k → g k ≡ f i → ((j : ℕ) → j ≢ i → j ≢ k → g j ≡ f j)
        → sorted_to before g n ≡ sorted_to before f n
    sorted-swap f g i k zero h l p q e = absurd (omega arith)
    sorted-swap f g i k (suc n) h l p q e = go (λ m. sorted-swap f g i k n h m p q e) (same_or k n l)
      where
        go : (k < n → sorted_to before g n ≡ sorted_to before f n) → (k ≡ n) ⊎ (k < n) → sorted_to before g (suc n) ≡ sorted_to before f (suc n)
        go up (inl r) =
            let d : insert before (f i) (sorted_to before g n) ≡ insert before (g i) (sorted_to before f n) =
            sorted-one f g i n (omega arith) (λ j m o. sym (e j o (omega arith)))
            in
            let p' : g i ≡ f n = rw r at p in
            let q' : g n ≡ f i = rw r at q in
            rw (sorted_suc f n, sorted_suc g n, q', d, p')
        go up (inr m) = rw (sorted_suc f n, sorted_suc g n, e n (omega arith) (omega arith), up m)

-- ---- another order that agrees on the values
module _ {A : Type 0} (b d : A → A → Bool) where
  pub insert-agree : (a : A) {l : List A} → All (λ y. b y a ≡ d y a) l → insert b a l ≡ insert d a l
  insert-agree a nil = insert-nil b a ∙ sym (insert-nil d a)
  insert-agree a (cons {x = z} {xs = l} h k) = go (insert-agree a k) (Bool-cases (b z a))
    where
      go : insert b a l ≡ insert d a l → (b z a ≡ true) ⊎ (b z a ≡ false) → insert b a (z ∷ l) ≡ insert d a (z ∷ l)
      go up (inl t) = insert-past b a z l t ∙ rw up (sym (insert-past d a z l (sym h ∙ t)))
      go up (inr f) = insert-here b a z l f ∙ sym (insert-here d a z l (sym h ∙ f))

  pub sorted-agree : (f : ℕ → A) (n : ℕ) → ((i j : ℕ) → i < n → j < n → b (f i) (f j) ≡ d (f i) (f j)) → sorted_to b f n ≡ sorted_to d f n
  sorted-agree f zero e = sorted_zero b f ∙ sym (sorted_zero d f)
  sorted-agree f (suc n) e =
      sorted_suc b f n
      ∙ insert-agree (f n) (all-sorted_to b f n (λ i h. e i n (omega arith) (omega arith)))
      ∙ ap (λ (l : List A). insert d (f n) l) (sorted-agree f n (λ i j h k. e i j (omega arith) (omega arith)))
      ∙ sym (sorted_suc d f n)

-- ---- insertion before or after a map
pub insert-map : {A B : Type 0} (b : A → A → Bool) (d : B → B → Bool) (view : A → B) (a : A) {l : List A} → All (λ y. b y a ≡ d (view y) (view a)) l
    → map view (insert b a l) ≡ insert d (view a) (map view l)
insert-map b d view a nil = rw (insert-nil b a) (sym (insert-nil d (view a)))
insert-map {A} {B} b d view a (cons {x = z} {xs = l} h k) = go (insert-map b d view a k) (Bool-cases (b z a))
  where
    go : map view (insert b a l) ≡ insert d (view a) (map view l) → (b z a ≡ true) ⊎ (b z a ≡ false)
        → map view (insert b a (z ∷ l)) ≡ insert d (view a) (map view (z ∷ l))
    go up (inl t) = rw (insert-past b a z l t, insert-past d (view a) (view z) (map view l) (sym h ∙ t)) (ap (λ (m : List B). view z ∷ m) up)
    go up (inr f) = rw (insert-here b a z l f, insert-here d (view a) (view z) (map view l) (sym h ∙ f))
