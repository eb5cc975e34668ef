-- The tests of the reference's bytes and of the read ends: std's decide as the definition does.
use Rattle.std.specs.Prelude.{◌≡◌, refl, ℕ, zero, suc, ◌+◌, ◌-◌, ◌<◌, ◌≤◌, Bool, false, ◌&&◌, List, [], ◌∷◌, leb, length, get_or}
use Rattle.std.proofs.Common.{sym, subst, ◌∙◌, add-one, arith, le-leb}
use Rattle.std.proofs.Math.Path.{ap}
use Rattle.std.proofs.Math.Bool.{true, and-false}
use Rattle.std.proofs.lemmas.Bool.{lt-leb}
use Rattle.std.specs.Bool.{MatchBool}
use Rattle.std.specs.List.Sorted.{IsNonDecreasing}
use Rattle.laws.specs.Lists.{last_or}
use Rattle.std.specs.List.{list_all}
use Rattle.std.specs.Prelude.{slice_get}
use Rattle.std.specs.Option.{unwrap_or}
use Rattle.std.proofs.lemmas.Option.{unwrap_or-slice_get}
use Rattle.definition.specs.Limits.{is_base, reference_bases, rising}

-- ---- the reference's bytes

-- std's test of each element is the definition's
pub every : (xs : List ℕ) → list_all is_base xs ≡ reference_bases xs
unfolding reference_bases
every [] = refl
every (x ∷ xs) = ap (λ (t : Bool). is_base x && t) (every xs)

-- ---- the read ends

-- no end is below the one before it
climb : (n x : ℕ) (xs : List ℕ) → n ≤ x → ((k : ℕ) → suc k < length (x ∷ xs) → get_or (x ∷ xs) k 0 ≤ get_or (x ∷ xs) (suc k) 0) → true ≡ rising n (x ∷ xs)
unfolding rising
climb n x [] h a = rw (le-leb n x h)
climb n x (y ∷ ys) h a = rw (le-leb n x h) (climb x y ys (a 0 (omega arith)) (λ k l. a (suc k) (omega arith)))

-- end k + 1 is below end k
fall : (n : ℕ) (xs : List ℕ) (k : ℕ) → suc k < length xs → get_or xs (suc k) 0 < get_or xs k 0 → false ≡ rising n xs
unfolding rising
fall n [] k l h = absurd (omega arith)
fall n (x ∷ []) k l h = absurd (omega arith)
fall n (x ∷ y ∷ ys) zero l h = rw (lt-leb x y h) (sym (and-false (leb n x)))
fall n (x ∷ y ∷ ys) (suc k) l h = rw (← fall x (y ∷ ys) k (omega arith) h) (sym (and-false (leb n x)))

-- std's test of each end and the next is the definition's
pub sorted : (xs : List ℕ) (r : Bool) → MatchBool r (IsNonDecreasing xs) ((k : ℕ) × (k + 1 < length xs) × ((d : ℕ) → get_or xs (k + 1) d < get_or xs k d)) → r ≡ rising 0 xs
unfolding rising
sorted [] true h = refl
sorted (x ∷ xs) true h = climb 0 x xs (omega arith) (λ k l. h k (suc k) 0 (omega arith) l)
sorted xs false h = fall 0 xs h.0 (omega (arith, h.1)) (subst (λ (n : ℕ). get_or xs n 0 < get_or xs h.0 0) (add-one h.0) (h.2 0))

-- ---- the last end

last_some : (d : ℕ) (xs : List ℕ) → 1 ≤ length xs → get_or xs (length xs - 1) 0 ≡ last_or d xs
last_some d [] h = absurd (omega arith)
last_some d (x ∷ []) h = refl
last_some d (x ∷ y ∷ ys) h =
    let e : length (x ∷ y ∷ ys) - 1 ≡ suc (length (y ∷ ys) - 1) = omega arith in rw e (last_some x (y ∷ ys) (omega arith))

pub last-is : (xs : List ℕ) → unwrap_or (slice_get xs (length xs - 1)) 0 ≡ last_or 0 xs
last-is [] = refl
last-is (x ∷ xs) = unwrap_or-slice_get (x ∷ xs) (length (x ∷ xs) - 1) 0 ∙ last_some 0 (x ∷ xs) (omega arith)
