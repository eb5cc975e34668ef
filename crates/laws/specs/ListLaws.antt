-- Laws of lists and of the functions of Lists: what holds of every element, membership, keeping, finding.
use Rattle.std.specs.Prelude.{◌≡◌, ◌⊎◌, Bool, true, false, ◌&&◌, ◌||◌, cond, List, [], ◌∷◌, ◌++◌, map, T, length, take, drop}
use Rattle.std.proofs.Math.Path.{refl, sym, ap}
use Rattle.std.proofs.Common.{subst, ◌∙◌, inl, inr, arith, take-take}
use Prim.Native.Nat.{ℕ, zero, suc, ◌+◌, ◌≤◌}
use Rattle.std.proofs.Math.Option.{Option, none, some}
use Rattle.laws.specs.Lists.{keep, find, find_last, last_or, sole, total}

-- ---- lists of length 0

pub length-nil : {A : Type 0} (l : List A) → length l ≡ 0 → l ≡ []
length-nil [] h = refl
length-nil (x ∷ l) h = absurd (omega arith)

-- ---- Booleans

pub clash : {A : Type 0} → true ≡ false → A
clash e = absurd (subst T e tt)

pub and_left : (a b : Bool) → (a && b) ≡ true → a ≡ true
and_left true b e = refl
and_left false b e = e

pub and_right : (a b : Bool) → (a && b) ≡ true → b ≡ true
and_right true b e = e
and_right false b e = clash (sym e)

pub or-none : (a b : Bool) → (a || b) ≡ false → (a ≡ false) × (b ≡ false)
or-none true b e = clash e
or-none false b e = (refl, e)

-- ---- every element

pub data All {A : Type 0} (P : A → Type 0) : List A → Type 0 where
  nil : All P []
  cons : {x : A} {xs : List A} → P x → All P xs → All P (x ∷ xs)

-- the place of an element
pub data Mem {A : Type 0} (a : A) : List A → Type 0 where
  here : {x : A} {xs : List A} → a ≡ x → Mem a (x ∷ xs)
  there : {x : A} {xs : List A} → Mem a xs → Mem a (x ∷ xs)

module _ {A : Type 0} where
  pub all_head : {P : A → Type 0} {x : A} {xs : List A} → All P (x ∷ xs) → P x
  all_head (cons p ps) = p

  pub all_tail : {P : A → Type 0} {x : A} {xs : List A} → All P (x ∷ xs) → All P xs
  all_tail (cons p ps) = ps

  pub all_append : {P : A → Type 0} {xs ys : List A} → All P xs → All P ys → All P (xs ++ ys)
  all_append nil b = b
  all_append (cons p a) b = cons p (all_append a b)

  pub all-mono : {P Q : A → Type 0} {xs : List A} → ((x : A) → P x → Q x) → All P xs → All Q xs
  all-mono h nil = nil
  all-mono h (cons {x = x} p a) = cons (h x p) (all-mono h a)

  pub all-zip : {P Q : A → Type 0} {xs : List A} → All P xs → All Q xs → All (λ x. P x × Q x) xs
  all-zip nil b = nil
  all-zip (cons p a) b = cons (p, all_head b) (all-zip a (all_tail b))

  pub all_keep : {P : A → Type 0} (t : A → Bool) {xs : List A} → All P xs → All P (keep t xs)
  all_keep t nil = nil
  all_keep {P} t (cons {x = x} {xs = xs} p a) = go (t x) refl (all_keep t a)
    where
      go : (b : Bool) → t x ≡ b → All P (keep t xs) → All P (keep t (x ∷ xs))
      go true e ih = rw e (cons p ih)
      go false e ih = rw e ih

  -- what is kept passes the test
  pub all-passed : (t : A → Bool) (xs : List A) → All (λ x. t x ≡ true) (keep t xs)
  all-passed t [] = nil
  all-passed t (x ∷ xs) = go (t x) refl (all-passed t xs)
    where
      go : (b : Bool) → t x ≡ b → All (λ y. t y ≡ true) (keep t xs) → All (λ y. t y ≡ true) (keep t (x ∷ xs))
      go true e ih = rw e (cons e ih)
      go false e ih = rw e ih

  pub all-mem : {P : A → Type 0} {xs : List A} {a : A} → All P xs → Mem a xs → P a
  all-mem nil m = elim m [ ]
  all-mem {P} {a = a} (cons {x = x} p ps) m = go m (λ k. all-mem ps k)
    where
      go : {xs : List A} → Mem a (x ∷ xs) → (Mem a xs → P a) → P a
      go (here e) f = subst P (sym e) p
      go (there k) f = f k

  pub mem-left : {a : A} {xs : List A} (ys : List A) → Mem a xs → Mem a (xs ++ ys)
  mem-left ys (here e) = here e
  mem-left ys (there m) = there (mem-left ys m)

  pub mem-right : {a : A} (xs : List A) {ys : List A} → Mem a ys → Mem a (xs ++ ys)
  mem-right [] m = m
  mem-right (x ∷ xs) m = there (mem-right xs m)

  pub last-append : (d : A) (xs ys : List A) → last_or d (xs ++ ys) ≡ last_or (last_or d xs) ys
  last-append d [] ys = refl
  last-append d (x ∷ xs) ys = last-append x xs ys

  -- an element that passes is kept
  pub mem-keep : (t : A → Bool) (a : A) {xs : List A} → Mem a xs → t a ≡ true → Mem a (keep t xs)
  mem-keep t a (here {x = x} {xs = xs} w) e = let f : t x ≡ true = ap t (sym w) ∙ e in rw f (here w)
  mem-keep t a (there {x = x} {xs = xs} m) e = go (t x) refl (mem-keep t a m e)
    where
      go : (b : Bool) → t x ≡ b → Mem a (keep t xs) → Mem a (keep t (x ∷ xs))
      go true f ih = rw f (there ih)
      go false f ih = rw f ih

  -- every list holds its own elements
  pub all-self : (xs : List A) → All (λ x. Mem x xs) xs
  all-self [] = nil
  all-self (x ∷ xs) = cons (here refl) (all-mono (λ y m. there m) (all-self xs))

  pub all_from : {P : A → Type 0} (xs : List A) → ((x : A) → Mem x xs → P x) → All P xs
  all_from xs h = all-mono h (all-self xs)

  -- ---- finding

  pub all-find : {P : A → Type 0} (t : A → Bool) {xs : List A} {a : A} → All P xs → find t xs ≡ some a → P a × (t a ≡ true)
  all-find t {a = a} nil e = let z : ◌≡◌ {A = ℕ} 0 1 = cc in absurd (omega arith)
  all-find {P} t {a = a} (cons {x = x} {xs = xs} p ps) e = go (t x) refl (λ k. all-find t ps k)
    where
      go : (b : Bool) → t x ≡ b → (find t xs ≡ some a → P a × (t a ≡ true)) → P a × (t a ≡ true)
      go true f ih = let g : some x ≡ some a = rw (f, find) at e in let same : x ≡ a = cc in (subst P same p, rw (← same) f)
      go false f ih = ih (rw (f, find) at e)

  pub all-find_last : {P : A → Type 0} (t : A → Bool) {xs : List A} {a : A} → All P xs → find_last t xs ≡ some a → P a × (t a ≡ true)
  all-find_last t nil e = let z : ◌≡◌ {A = ℕ} 0 1 = cc in absurd (omega arith)
  all-find_last {P} t {a = a} (cons {x = x} {xs = xs} p ps) e = go (find_last t xs) refl (λ k. all-find_last t ps k)
    where
      last : (b : Bool) → t x ≡ b → cond b (some x) none ≡ some a → P a × (t a ≡ true)
      last true f g = let same : x ≡ a = cc in (subst P same p, rw (← same) f)
      last false f g = let z : ◌≡◌ {A = ℕ} 0 1 = cc in absurd (omega arith)

      go : (o : Option A) → find_last t xs ≡ o → (find_last t xs ≡ some a → P a × (t a ≡ true)) → P a × (t a ≡ true)
      go none f ih = last (t x) refl (rw (f, find_last) at e)
      go (some y) f ih = ih (f ∙ (rw (f, find_last) at e))

  pub all-sole : {P : A → Type 0} {xs : List A} {a : A} → All P xs → sole xs ≡ some a → P a
  all-sole nil e = let z : ◌≡◌ {A = ℕ} 0 1 = cc in absurd (omega arith)
  all-sole {P} {a = a} (cons {x = x} p nil) e = let same : x ≡ a = cc in subst P same p
  all-sole (cons p (cons q qs)) e = let z : ◌≡◌ {A = ℕ} 0 1 = cc in absurd (omega arith)

module _ {A B : Type 0} where
  pub all_map : {P : A → Type 0} {Q : B → Type 0} (f : A → B) {xs : List A} → ((x : A) → P x → Q (f x)) → All P xs → All Q (map f xs)
  all_map f h nil = nil
  all_map f h (cons {x = x} p a) = cons (h x p) (all_map f h a)

  pub mem-map : {a : A} {xs : List A} (f : A → B) → Mem a xs → Mem (f a) (map f xs)
  mem-map f (here e) = here (ap f e)
  mem-map f (there m) = there (mem-map f m)

  -- to keep by what f gives, before or after f
  pub keep-map : (t : B → Bool) (f : A → B) (xs : List A) → keep t (map f xs) ≡ map f (keep (λ x. t (f x)) xs)
  keep-map t f [] = refl
  keep-map t f (x ∷ xs) = go (t (f x)) refl (keep-map t f xs)
    where
      go : (b : Bool) → t (f x) ≡ b → keep t (map f xs) ≡ map f (keep (λ y. t (f y)) xs) → keep t (map f (x ∷ xs)) ≡ map f (keep (λ y. t (f y)) (x ∷ xs))
      go true e ih = rw e (ap (λ (l : List B). f x ∷ l) ih)
      go false e ih = rw e ih

module _ {A : Type 0} where
  -- all pass: all are kept; none passes: none is kept
  pub keep_all : (t : A → Bool) {xs : List A} → All (λ x. t x ≡ true) xs → keep t xs ≡ xs
  keep_all t nil = refl
  keep_all t (cons {x = x} e ps) = rw e (ap (λ (l : List A). x ∷ l) (keep_all t ps))

  pub keep-none : (t : A → Bool) {xs : List A} → All (λ x. t x ≡ false) xs → keep t xs ≡ []
  keep-none t nil = refl
  keep-none t (cons e ps) = rw e (keep-none t ps)

  pub keep_append : (t : A → Bool) (xs ys : List A) → keep t (xs ++ ys) ≡ keep t xs ++ keep t ys
  keep_append t [] ys = refl
  keep_append t (x ∷ xs) ys = go (t x) refl (keep_append t xs ys)
    where
      go : (b : Bool) → t x ≡ b → keep t (xs ++ ys) ≡ keep t xs ++ keep t ys → keep t (x ∷ (xs ++ ys)) ≡ keep t (x ∷ xs) ++ keep t ys
      go true e ih = rw e (ap (λ (l : List A). x ∷ l) ih)
      go false e ih = rw e ih

-- ---- sums

module _ {A : Type 0} (f : A → ℕ) where
  pub total-append : (xs ys : List A) → total f (xs ++ ys) ≡ total f xs + total f ys
  total-append [] ys = omega arith
  total-append (x ∷ xs) ys = let h = total-append xs ys in omega arith

  -- a part sums to no more than the whole
  pub total-keep : (t : A → Bool) (xs : List A) → total f (keep t xs) ≤ total f xs
  total-keep t [] = omega arith
  total-keep t (x ∷ xs) = go (t x) refl (total-keep t xs)
    where
      go : (b : Bool) → t x ≡ b → total f (keep t xs) ≤ total f xs → total f (keep t (x ∷ xs)) ≤ f x + total f xs
      go true e ih = rw e (omega arith)
      go false e ih = rw e (omega arith)

  -- no element is greater than the sum
  pub all-total : (xs : List A) → All (λ x. f x ≤ total f xs) xs
  all-total [] = nil
  all-total (x ∷ xs) = cons {x = x} (omega arith) (all-mono (λ y h. (let k : f y ≤ total f xs = h in omega arith)) (all-total xs))

-- ---- every two elements

-- R holds of each element and every one after it
pub data Pairwise {A : Type 0} (R : A → A → Type 0) : List A → Type 0 where
  empty : Pairwise R []
  first : {x : A} {xs : List A} → All (R x) xs → Pairwise R xs → Pairwise R (x ∷ xs)

module _ {A : Type 0} where
  pub pairwise-head : {R : A → A → Type 0} {x : A} {xs : List A} → Pairwise R (x ∷ xs) → All (R x) xs
  pairwise-head (first a p) = a

  pub pairwise-tail : {R : A → A → Type 0} {x : A} {xs : List A} → Pairwise R (x ∷ xs) → Pairwise R xs
  pairwise-tail (first a p) = p

  pub pairwise-mono : {R Q : A → A → Type 0} {xs : List A} → ((x y : A) → R x y → Q x y) → Pairwise R xs → Pairwise Q xs
  pairwise-mono h empty = empty
  pairwise-mono h (first {x = x} a p) = first (all-mono (h x) a) (pairwise-mono h p)

  pub pairwise_append : {R : A → A → Type 0} {xs ys : List A} → Pairwise R xs → Pairwise R ys → All (λ x. All (R x) ys) xs → Pairwise R (xs ++ ys)
  pairwise_append empty q h = q
  pairwise_append (first a p) q h = first (all_append a (all_head h)) (pairwise_append p q (all_tail h))

  pub pairwise-keep : {R : A → A → Type 0} (t : A → Bool) {xs : List A} → Pairwise R xs → Pairwise R (keep t xs)
  pairwise-keep t empty = empty
  pairwise-keep {R} t (first {x = x} {xs = xs} a p) = go (t x) refl (pairwise-keep t p)
    where
      go : (b : Bool) → t x ≡ b → Pairwise R (keep t xs) → Pairwise R (keep t (x ∷ xs))
      go true e ih = rw e (first (all_keep t a) ih)
      go false e ih = rw e ih

pub pairwise_map : {A B : Type 0} {R : A → A → Type 0} {Q : B → B → Type 0} (f : A → B) {xs : List A} → ((x y : A) → R x y → Q (f x) (f y)) → Pairwise R xs
    → Pairwise Q (map f xs)
pairwise_map f h empty = empty
pairwise_map f h (first {x = x} a p) = first (all_map f (h x) a) (pairwise_map f h p)

module _ {A : Type 0} where
  -- every two elements have what each of them has
  pub pairwise-all : {P : A → Type 0} {R : A → A → Type 0} {xs : List A} → All P xs → Pairwise R xs → Pairwise (λ x y. P x × P y × R x y) xs
  pairwise-all h empty = empty
  pairwise-all h (first a p) = first (all-mono (λ y w. (all_head h, w.0, w.1)) (all-zip (all_tail h) a)) (pairwise-all (all_tail h) p)

  -- ---- a list of different elements is no longer than one that holds them all

  without : {a : A} {ys : List A} → Mem a ys → List A
  without (here {xs = ys} e) = ys
  without (there {x = y} m) = y ∷ without m

  length_without : {a : A} {ys : List A} (m : Mem a ys) → suc (length (without m)) ≡ length ys
  unfolding without
  length_without (here e) = refl
  length_without (there m) = ap suc (length_without m)

  mem-without : {a b : A} {ys : List A} (m : Mem a ys) → (a ≡ b → ⊥) → Mem b ys → Mem b (without m)
  unfolding without
  mem-without (here e) d (here f) = absurd (d (e ∙ sym f))
  mem-without (here e) d (there n) = n
  mem-without (there m) d (here f) = here f
  mem-without (there m) d (there n) = there (mem-without m d n)

  pub pigeonhole : {xs ys : List A} → Pairwise (λ x y. x ≡ y → ⊥) xs → All (λ x. Mem x ys) xs → length xs ≤ length ys
  pigeonhole empty h = omega arith
  pigeonhole (first {x = x} {xs = xs} a p) h =
      let l = length_without (all_head h) in
      let r : length xs ≤ length (without (all_head h)) = pigeonhole p (all-mono (λ y w. mem-without (all_head h) w.0 w.1) (all-zip a (all_tail h))) in
      omega arith

-- ---- a list that begins another

module _ {A : Type 0} where
  abbrev pub Begins : List A → List A → Type 0
  Begins [] ys = Unit {0}
  Begins (x ∷ xs) [] = ⊥
  Begins (x ∷ xs) (y ∷ ys) = (x ≡ y) × Begins xs ys

  pub begins-append : (xs ys : List A) → Begins xs (xs ++ ys)
  begins-append [] ys = tt
  begins-append (x ∷ xs) ys = (refl, begins-append xs ys)

  pub begins-front : (xs ys zs : List A) → Begins (xs ++ ys) zs → Begins xs zs
  begins-front [] ys zs b = tt
  begins-front (x ∷ xs) ys [] b = b
  begins-front (x ∷ xs) ys (z ∷ zs) b = (b.0, begins-front xs ys zs b.1)

  -- of two lists that begin a third, one begins the other
  pub begins-both : (xs ys zs : List A) → Begins xs zs → Begins ys zs → Begins xs ys ⊎ Begins ys xs
  begins-both [] ys zs a b = inl tt
  begins-both (x ∷ xs) [] zs a b = inr tt
  begins-both (x ∷ xs) (y ∷ ys) [] a b = absurd a
  begins-both (x ∷ xs) (y ∷ ys) (z ∷ zs) a b = go (begins-both xs ys zs a.1 b.1)
    where
      go : Begins xs ys ⊎ Begins ys xs → Begins (x ∷ xs) (y ∷ ys) ⊎ Begins (y ∷ ys) (x ∷ xs)
      go (inl c) = inl (a.0 ∙ sym b.0, c)
      go (inr c) = inr (b.0 ∙ sym a.0, c)

  -- one element more does not begin the list without it
  pub begins-longer : (xs : List A) (y : A) → Begins (xs ++ y ∷ []) xs → ⊥
  begins-longer [] y b = b
  begins-longer (x ∷ xs) y b = begins-longer xs y b.1

  -- with one element more each, only if that is the same
  pub begins-last : (xs : List A) (y z : A) → Begins (xs ++ y ∷ []) (xs ++ z ∷ []) → y ≡ z
  begins-last [] y z b = b.0
  begins-last (x ∷ xs) y z b = begins-last xs y z b.1

  pub begins-mem : {a : A} (xs ys : List A) → Begins xs ys → Mem a xs → Mem a ys
  begins-mem [] ys b m = elim m [ ]
  begins-mem (x ∷ xs) [] b m = absurd b
  begins-mem {a} (x ∷ xs) (y ∷ ys) b m = go m (λ k. begins-mem xs ys b.1 k)
    where
      go : Mem a (x ∷ xs) → (Mem a xs → Mem a ys) → Mem a (y ∷ ys)
      go (here e) ih = here (e ∙ b.0)
      go (there k) ih = there (ih k)

  -- an element of two lists one after the other is in one of them
  pub mem-append : {a : A} (xs ys : List A) → Mem a (xs ++ ys) → Mem a xs ⊎ Mem a ys
  mem-append [] ys m = inr m
  mem-append {a} (x ∷ xs) ys m = go m (λ k. mem-append xs ys k)
    where
      go : Mem a (x ∷ (xs ++ ys)) → (Mem a (xs ++ ys) → Mem a xs ⊎ Mem a ys) → Mem a (x ∷ xs) ⊎ Mem a ys
      go (here e) ih = inl (here e)
      go (there k) ih = on (ih k)
        where
          on : Mem a xs ⊎ Mem a ys → Mem a (x ∷ xs) ⊎ Mem a ys
          on (inl w) = inl (there w)
          on (inr w) = inr w

module _ {A : Type 0} where
  pub pairwise-zip : {R Q : A → A → Type 0} {xs : List A} → Pairwise R xs → Pairwise Q xs → Pairwise (λ x y. R x y × Q x y) xs
  pairwise-zip empty q = empty
  pairwise-zip (first a p) q = first (all-zip a (pairwise-head q)) (pairwise-zip p (pairwise-tail q))

  -- what follows the same front is the same
  pub append-rest : (xs ys zs : List A) → xs ++ ys ≡ xs ++ zs → ys ≡ zs
  append-rest [] ys zs e = e
  append-rest (x ∷ xs) ys zs e = append-rest xs ys zs (let h : xs ++ ys ≡ xs ++ zs = cc in h)

-- ---- parts

module _ {A : Type 0} where
  -- a part of a part is a part of the whole
  pub part-part : (m size off : ℕ) (xs : List A) → off + m ≤ size → take m (drop off (take size xs)) ≡ take m (drop off xs)
  part-part m size zero xs h = take-take m size xs (omega arith)
  part-part m zero (suc off) xs h = absurd (omega arith)
  part-part m (suc size) (suc off) [] h = refl
  part-part m (suc size) (suc off) (x ∷ xs) h = part-part m size off xs (omega arith)
