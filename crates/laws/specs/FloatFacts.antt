-- The laws of Order as equations of Booleans, which is what a branch of the code gives; `le` and `eq` by `lt`; sums that are no NaN. Assumes nothing.
use Rattle.std.specs.Prelude.{◌≡◌, refl, ◌⊎◌, ℕ, ◌+◌, ◌*◌, ◌≤◌, ◌<◌, Bool, true, false, not, ◌&&◌, ◌||◌, T, ltb, eqb, Float}
use Rattle.std.proofs.Common.{sym, subst, ◌∙◌, inl, inr, eq-or-lt_of_le, arith, lt-ltb, le-ltb, eq-eqb, ne_eqb}
use Rattle.std.proofs.Math.Decide.{dec_lt}
use Rattle.std.proofs.Math.Dec.{not_T}
use Rattle.std.specs.Float.{nan, inf, fin}
use Rattle.std.specs.Float.Ieee.{up, down, lt, le, below, level, is_nan}
use Rattle.laws.specs.FloatOrder.{lt_irrefl, lt_trans, nlt-trans, lt-asym}

yes-T : (b : Bool) → b ≡ true → T b
yes-T b e = rw e tt

T-yes : (b : Bool) → T b → b ≡ true
T-yes true t = refl
T-yes false t = absurd t

no-T : (b : Bool) → b ≡ false → T (not b)
no-T b e = rw e tt

T-no : (b : Bool) → T (not b) → b ≡ false
T-no true t = absurd t
T-no false t = refl

pub lt-self : (x : Float) → lt x x ≡ false
lt-self x = T-no (lt x x) (not_T (lt x x) (lt_irrefl x))

pub lt-chain : (x y z : Float) → lt x y ≡ true → lt y z ≡ true → lt x z ≡ true
lt-chain x y z h k = T-yes (lt x z) (lt_trans x y z (yes-T (lt x y) h) (yes-T (lt y z) k))

pub nlt-chain : (x y z : Float) → is_nan y ≡ false → lt x y ≡ false → lt y z ≡ false → lt x z ≡ false
nlt-chain x y z n h k = T-no (lt x z) (nlt-trans x y z (no-T (is_nan y) n) (no-T (lt x y) h) (no-T (lt y z) k))

pub lt-flip : (x y : Float) → lt x y ≡ true → lt y x ≡ false
lt-flip x y h = T-no (lt y x) (not_T (lt y x) (λ k. lt-asym x y (yes-T (lt x y) h) k))

-- x < y ≤ z and x ≤ y < z, where a ≤ b is `lt b a ≡ false`
pub lt-nlt : (x y z : Float) → is_nan z ≡ false → lt x y ≡ true → lt z y ≡ false → lt x z ≡ true
lt-nlt x y z n h k = go (lt x z) refl
  where
    clash : true ≡ false → lt x z ≡ true
    clash e = absurd (subst T e tt)

    go : (b : Bool) → lt x z ≡ b → lt x z ≡ true
    go true e = e
    go false e = clash (sym h ∙ nlt-chain x z y n e k)

pub nlt-lt : (x y z : Float) → is_nan x ≡ false → lt y x ≡ false → lt y z ≡ true → lt x z ≡ true
nlt-lt x y z n h k = go (lt x z) refl
  where
    clash : true ≡ false → lt x z ≡ true
    clash e = absurd (subst T e tt)

    go : (b : Bool) → lt x z ≡ b → lt x z ≡ true
    go true e = e
    go false e = clash (sym k ∙ nlt-chain y x z n h e)

-- ---- `le` is the negation of `lt` the other way, where neither is NaN
tri : (a b : ℕ) → (a < b) ⊎ ((a ≡ b) ⊎ (b < a))
tri a b = go (dec_lt a b)
  where
    go : Dec (a < b) → (a < b) ⊎ ((a ≡ b) ⊎ (b < a))
    go (yes h) = inl h
    go (no n) = let h : b ≤ a = omega arith in elim (eq-or-lt_of_le h) [ inl e ↦ inr (inl (sym e)) | inr l ↦ inr (inr l) ]

flip-lt : (a b : ℕ) → (ltb a b || (eqb a b && true)) ≡ not (ltb b a)
flip-lt a b = go (tri a b)
  where
    go : (a < b) ⊎ ((a ≡ b) ⊎ (b < a)) → (ltb a b || (eqb a b && true)) ≡ not (ltb b a)
    go (inl h) = simp (lt-ltb a b h, le-ltb b a (omega arith))
    go (inr (inl e)) = simp (le-ltb a b (omega arith), eq-eqb a b e, le-ltb b a (omega arith))
    go (inr (inr h)) = simp (le-ltb a b (omega arith), ne_eqb a b (omega arith), lt-ltb b a h)

flip-eq : (a b : ℕ) → (ltb b a || (eqb a b && true)) ≡ not (ltb a b)
flip-eq a b = go (tri a b)
  where
    go : (a < b) ⊎ ((a ≡ b) ⊎ (b < a)) → (ltb b a || (eqb a b && true)) ≡ not (ltb a b)
    go (inl h) = simp (lt-ltb a b h, le-ltb b a (omega arith), ne_eqb a b (omega arith))
    go (inr (inl e)) = simp (le-ltb a b (omega arith), eq-eqb a b e, le-ltb b a (omega arith))
    go (inr (inr h)) = simp (le-ltb a b (omega arith), ne_eqb a b (omega arith), lt-ltb b a h)

-- -a ≤ b always; b ≤ -a only where both are zero
mixed : (a b : ℕ) → (ltb 0 (a + b) || (eqb a b && eqb a 0)) ≡ true
mixed a b = go (tri 0 (a + b))
  where
    go : (0 < a + b) ⊎ ((0 ≡ a + b) ⊎ (a + b < 0)) → (ltb 0 (a + b) || (eqb a b && eqb a 0)) ≡ true
    go (inl h) = simp (lt-ltb 0 (a + b) h)
    go (inr (inl e)) = simp (le-ltb 0 (a + b) (omega arith), eq-eqb a b (omega arith), eq-eqb a 0 (omega arith))
    go (inr (inr h)) = absurd (omega arith)

mixed' : (a b : ℕ) → (eqb a b && eqb a 0) ≡ not (ltb 0 (b + a))
mixed' a b = go (tri 0 (b + a))
  where
    other : (0 < b + a) → (a ≡ b) ⊎ ((a ≡ b) → ⊥) → (eqb a b && eqb a 0) ≡ false
    other h (inl e) = simp (eq-eqb a b e, ne_eqb a 0 (omega arith))
    other h (inr n) = simp (ne_eqb a b n)

    same? : (a < b) ⊎ ((a ≡ b) ⊎ (b < a)) → (a ≡ b) ⊎ ((a ≡ b) → ⊥)
    same? (inl h) = inr (omega arith)
    same? (inr (inl e)) = inl e
    same? (inr (inr h)) = inr (omega arith)

    go : (0 < b + a) ⊎ ((0 ≡ b + a) ⊎ (b + a < 0)) → (eqb a b && eqb a 0) ≡ not (ltb 0 (b + a))
    go (inl h) = rw (lt-ltb 0 (b + a) h) (other h (same? (tri a b)))
    go (inr (inl e)) = simp (le-ltb 0 (b + a) (omega arith), eq-eqb a b (omega arith), eq-eqb a 0 (omega arith))
    go (inr (inr h)) = absurd (omega arith)

le-cases : (s t : Bool) (a b : ℕ) → (below s a t b || level s a t b) ≡ not (below t b s a)
le-cases false false a b = flip-lt a b
le-cases false true a b = mixed' a b
le-cases true false a b = mixed a b
le-cases true true a b = flip-eq a b

pub le_is : (x y : Float) → is_nan x ≡ false → is_nan y ≡ false → le x y ≡ not (lt y x)
unfolding le is_nan
le_is nan y n m = absurd (subst T n tt)
le_is (inf s) nan n m = absurd (subst T m tt)
le_is (fin s k e) nan n m = absurd (subst T m tt)
le_is (inf true) (inf true) n m = refl
le_is (inf true) (inf false) n m = refl
le_is (inf false) (inf true) n m = refl
le_is (inf false) (inf false) n m = refl
le_is (inf true) (fin t k e) n m = refl
le_is (inf false) (fin t k e) n m = refl
le_is (fin s k e) (inf true) n m = refl
le_is (fin s k e) (inf false) n m = refl
le_is (fin s k e) (fin t l d) n m = le-cases s t (k * up e * down d) (l * up d * down e)
