-- A list whose front has been written over: xs, and then what was there. One store more, and a row of stores of any width.
use Rattle.std.specs.Prelude.{◌≡◌, refl, length, drop, set, ℕ, suc, ◌+◌, ◌*◌, ◌<◌, ◌≤◌, List, [], ◌∷◌, ◌++◌}
use Rattle.std.proofs.Common.{sym, ap, ◌∙◌, add-one, zero-add, zero-mul, suc-mul, append_assoc, arith, length-append}
use Rattle.laws.specs.Records.{put_from}
use Rattle.definition.specs.Calls.{written_at, flat}

abbrev pub front : {A : Type 0} → List A → List A → List A
front xs old = xs ++ drop (length xs) old

append-nil : {A : Type 0} (xs : List A) → xs ++ [] ≡ xs
append-nil [] = refl
append-nil {A} (x ∷ xs) = ap (λ (l : List A). x ∷ l) (append-nil xs)

front-set : {A : Type 0} (xs old : List A) (a : A) → length xs < length old → set (front xs old) (length xs) a ≡ (xs ++ a ∷ []) ++ drop (suc (length xs)) old
front-set [] [] a h = absurd (omega arith)
front-set [] (y ∷ old) a h = refl
front-set (x ∷ xs) [] a h = absurd (omega arith)
front-set {A} (x ∷ xs) (y ∷ old) a h = ap (λ (l : List A). x ∷ l) (front-set xs old a (omega arith))

pub front-store : {A : Type 0} (xs old : List A) (i : ℕ) (a : A) → length xs ≡ i → i < length old → set (front xs old) i a ≡ front (xs ++ a ∷ []) old
front-store xs old i a e h =
    let l : length (xs ++ a ∷ []) ≡ suc (length xs) = length-append xs (a ∷ []) ∙ add-one (length xs) in
    rw (← e, l) (front-set xs old a (omega arith))

-- the fields of record i from field j on
pub front-row : (xs old : List ℕ) (W i j : ℕ) (ys : List ℕ) → length xs ≡ i * W + j → (i * W + j) + length ys ≤ length old
    → put_from (front xs old) W i j ys ≡ front (xs ++ ys) old
front-row xs old W i j [] e h = rw (append-nil xs)
front-row xs old W i j (y ∷ ys) e h =
    let l = length-append xs (y ∷ []) in
    ap (λ (t : List ℕ). put_from t W i (j + 1) ys) (front-store xs old (i * W + j) y e (omega arith))
    ∙ front-row (xs ++ y ∷ []) old W i (j + 1) ys (omega arith) (omega arith)
    ∙ ap (λ (l : List ℕ). front l old) (append_assoc xs (y ∷ []) ys)

pub written-front : {A : Type 0} (xs old : List A) → written_at 0 xs old ≡ front xs old
unfolding written_at
written-front xs old = rw zero-add

module _ {A : Type 0} (f : A → List ℕ) where
  pub flat-last : (ys : List A) (a : A) → flat f (ys ++ a ∷ []) ≡ flat f ys ++ f a
  unfolding flat
  flat-last [] a = append-nil (f a)
  flat-last (x ∷ ys) a = ap (λ (l : List ℕ). f x ++ l) (flat-last ys a) ∙ sym (append_assoc (f x) (flat f ys) (f a))

  pub flat-many : (W : ℕ) → ((a : A) → length (f a) ≡ W) → (ys : List A) → length (flat f ys) ≡ length ys * W
  unfolding flat
  flat-many W h [] = sym (zero-mul W)
  flat-many W h (x ∷ ys) = length-append (f x) (flat f ys) ∙ step (length (f x)) (length (flat f ys)) (length ys) (h x) (flat-many W h ys)
    where
      step : (a b n : ℕ) → a ≡ W → b ≡ n * W → a + b ≡ suc n * W
      step a b n p q = let r = suc-mul n W in omega arith
