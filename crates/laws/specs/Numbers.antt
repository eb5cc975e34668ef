-- Numbers: ranges, and lists of numbers compared byte by byte, a list before the longer ones that it begins.
use Rattle.std.specs.Prelude.{◌≡◌, refl, Bool, true, false, ◌&&◌, List, [], ◌∷◌, ℤ, pos, leb, eqb}
use Rattle.std.proofs.Common.{sym, arith, leb-true, leb-false, eqb-true, le-leb, ne_eqb, eq-eqb}
use Prim.Native.Nat.{ℕ, ◌≤◌, ◌<◌, compare, Ordering}
use Rattle.std.specs.Int.Signed.{le_z}
use Rattle.std.proofs.Math.Dec.{is_le, compare_is_eq}
use Rattle.std.proofs.lemmas.Bool.{eqb-false}
use Rattle.laws.specs.ListLaws.{clash, and_left, and_right}

abbrev pub within : ℕ → ℕ → ℕ → Bool
within lo hi n = leb lo n && leb n hi

-- ---- lists of numbers

abbrev pub then : Ordering → Ordering → Ordering
then Ordering.lt o = Ordering.lt
then Ordering.eq o = o
then Ordering.gt o = Ordering.gt

abbrev pub compare_list : List ℕ → List ℕ → Ordering
compare_list [] [] = Ordering.eq
compare_list [] (y ∷ ys) = Ordering.lt
compare_list (x ∷ xs) [] = Ordering.gt
compare_list (x ∷ xs) (y ∷ ys) = then (compare x y) (compare_list xs ys)

abbrev pub eq_list : List ℕ → List ℕ → Bool
eq_list [] [] = true
eq_list [] (y ∷ ys) = false
eq_list (x ∷ xs) [] = false
eq_list (x ∷ xs) (y ∷ ys) = eqb x y && eq_list xs ys

-- a natural number is at least a whole number
abbrev pub reaches : ℕ → ℤ → Bool
reaches n t = le_z t (pos n)

-- ---- laws of `compare`

abbrev pub is_gt : Ordering → Bool
is_gt Ordering.lt = false
is_gt Ordering.eq = false
is_gt Ordering.gt = true

is_lt : (o : Ordering) → is_le o ≡ true → compare_is_eq o ≡ false → o ≡ Ordering.lt
is_lt Ordering.lt a b = refl
is_lt Ordering.eq a b = clash b
is_lt Ordering.gt a b = clash (sym a)

is_eq : (o : Ordering) → compare_is_eq o ≡ true → o ≡ Ordering.eq
is_eq Ordering.lt a = clash (sym a)
is_eq Ordering.eq a = refl
is_eq Ordering.gt a = clash (sym a)

pub compare-lt : (x y : ℕ) → x < y → compare x y ≡ Ordering.lt
compare-lt x y h = is_lt (compare x y) (le-leb x y (omega arith)) (ne_eqb x y (omega arith))

pub compare-eq : (x y : ℕ) → x ≡ y → compare x y ≡ Ordering.eq
compare-eq x y h = is_eq (compare x y) (eq-eqb x y h)

pub lt-compare : (x y : ℕ) → compare x y ≡ Ordering.lt → x < y
lt-compare x y e =
    let a : x ≤ y = leb-true x y (rw e) in
    let b : x ≡ y → ⊥ = eqb-false x y (rw e) in
    omega arith

pub eq-compare : (x y : ℕ) → compare x y ≡ Ordering.eq → x ≡ y
eq-compare x y e = eqb-true x y (rw e)

pub gt-compare : (x y : ℕ) → compare x y ≡ Ordering.gt → y < x
gt-compare x y e = leb-false x y (rw e)

pub compare-gt : (x y : ℕ) → y < x → compare x y ≡ Ordering.gt
compare-gt x y h = go (compare x y) refl
  where
    go : (o : Ordering) → compare x y ≡ o → compare x y ≡ Ordering.gt
    go Ordering.lt e = let k : x < y = lt-compare x y e in absurd (omega arith)
    go Ordering.eq e = let k : x ≡ y = eq-compare x y e in absurd (omega arith)
    go Ordering.gt e = e

-- ---- laws of `compare_list`

pub list-flip : (xs ys : List ℕ) → is_gt (compare_list xs ys) ≡ true → is_gt (compare_list ys xs) ≡ false
list-flip [] [] e = refl
list-flip [] (y ∷ ys) e = clash (sym e)
list-flip (x ∷ xs) [] e = refl
list-flip (x ∷ xs) (y ∷ ys) e = go (compare x y) refl (list-flip xs ys)
  where
    go : (o : Ordering) → compare x y ≡ o → (is_gt (compare_list xs ys) ≡ true → is_gt (compare_list ys xs) ≡ false) → is_gt (compare_list (y ∷ ys) (x ∷ xs)) ≡ false
    go Ordering.lt f ih = clash (sym (rw f at e))
    go Ordering.eq f ih = rw (compare-eq y x (sym (eq-compare x y f))) (ih (rw f at e))
    go Ordering.gt f ih = rw (compare-lt y x (gt-compare x y f))

pub list-through : (xs ys zs : List ℕ) → is_gt (compare_list xs ys) ≡ false → is_gt (compare_list ys zs) ≡ false → is_gt (compare_list xs zs) ≡ false
list-through [] ys [] e f = refl
list-through [] ys (z ∷ zs) e f = refl
list-through (x ∷ xs) [] zs e f = clash e
list-through (x ∷ xs) (y ∷ ys) [] e f = clash f
list-through (x ∷ xs) (y ∷ ys) (z ∷ zs) e f = go (compare x y) (compare y z) refl refl (list-through xs ys zs)
  where
    Goal : Type 0
    Goal = is_gt (compare_list (x ∷ xs) (z ∷ zs)) ≡ false

    go : (o p : Ordering) → compare x y ≡ o → compare y z ≡ p
        → (is_gt (compare_list xs ys) ≡ false → is_gt (compare_list ys zs) ≡ false → is_gt (compare_list xs zs) ≡ false) → Goal
    go Ordering.gt p a b ih = clash (rw a at e)
    go Ordering.lt Ordering.gt a b ih = clash (rw b at f)
    go Ordering.lt Ordering.lt a b ih = let h = lt-compare x y a in let k = lt-compare y z b in rw (compare-lt x z (omega arith))
    go Ordering.lt Ordering.eq a b ih = let h = lt-compare x y a in let k = eq-compare y z b in rw (compare-lt x z (omega arith))
    go Ordering.eq Ordering.gt a b ih = clash (rw b at f)
    go Ordering.eq Ordering.lt a b ih = let h = eq-compare x y a in let k = lt-compare y z b in rw (compare-lt x z (omega arith))
    go Ordering.eq Ordering.eq a b ih =
        let h = eq-compare x y a in
        let k = eq-compare y z b in
        rw (compare-eq x z (omega arith)) (ih (rw a at e) (rw b at f))

-- equal lists of numbers, by the test
pub eq_list-true : (xs ys : List ℕ) → eq_list xs ys ≡ true → xs ≡ ys
eq_list-true [] [] e = refl
eq_list-true [] (y ∷ ys) e = clash (sym e)
eq_list-true (x ∷ xs) [] e = clash (sym e)
eq_list-true (x ∷ xs) (y ∷ ys) e =
    let h : x ≡ y = eqb-true x y (and_left (eqb x y) (eq_list xs ys) e) in
    let t : xs ≡ ys = eq_list-true xs ys (and_right (eqb x y) (eq_list xs ys) e) in
    cc

pub eq_list-self : (xs : List ℕ) → eq_list xs xs ≡ true
eq_list-self [] = refl
eq_list-self (x ∷ xs) = rw (eq-eqb x x refl) (eq_list-self xs)
