-- The order of the waiting records: the greater score first, and of equal scores the smaller number. A linear order, whatever stands in the table:
-- a NaN counts as the least score.
use Rattle.std.specs.Prelude.{◌≡◌, ◌⊎◌, Bool, true, false, List, ℕ, ◌<◌, ◌≤◌, ltb, length, get_or, Float}
use Rattle.std.proofs.Common.{sym, ◌∙◌, inl, inr, arith, le-ltb, ltb-true, ltb-false}
use Rattle.std.specs.Float.{nan, inf}
use Rattle.std.specs.Float.Ieee.{lt, is_nan}
use Rattle.laws.specs.FloatFacts.{lt-chain, nlt-chain, lt-flip, lt-nlt, nlt-lt}
use Rattle.laws.specs.BoolLaws.{Bool-cases, both_ways}
use Rattle.laws.specs.Sorting.{LinearOrder}

pub real : Float → Float
real x = elim (is_nan x) [ true ↦ inf true | false ↦ x ]

real-num : (x : Float) → is_nan (real x) ≡ false
unfolding real is_nan
real-num x = go (Bool-cases (is_nan x))
  where
    go : (is_nan x ≡ true) ⊎ (is_nan x ≡ false) → is_nan (real x) ≡ false
    go (inl h) = rw (h, real)
    go (inr h) = rw (h, real) h

pub real-is : (x : Float) → is_nan x ≡ false → real x ≡ x
unfolding real
real-is x h = rw (h, real)

-- the score x of a stands before the score y of c
pub first : Float → ℕ → Float → ℕ → Bool
first x a y c = elim (lt y x) [ true ↦ true | false ↦ elim (lt x y) [ true ↦ false | false ↦ ltb a c ] ]

pub first_more : (x : Float) (a : ℕ) (y : Float) (c : ℕ) → lt y x ≡ true → first x a y c ≡ true
unfolding first
first_more x a y c h = rw (h, first)

pub first-less : (x : Float) (a : ℕ) (y : Float) (c : ℕ) → lt x y ≡ true → first x a y c ≡ false
unfolding first
first-less x a y c h = rw (lt-flip x y h, h, first)

pub first-tie : (x : Float) (a : ℕ) (y : Float) (c : ℕ) → lt y x ≡ false → lt x y ≡ false → first x a y c ≡ ltb a c
unfolding first
first-tie x a y c h k = rw (h, k, first)

abbrev Tie : Float → Float → Type 0
Tie x y = (lt y x ≡ false) × (lt x y ≡ false)

module _ (x : Float) (a : ℕ) (y : Float) (c : ℕ) where
  first-true : first x a y c ≡ true → (lt y x ≡ true) ⊎ (Tie x y × (a < c))
  first-true h = go (Bool-cases (lt y x)) (Bool-cases (lt x y))
    where
      go : (lt y x ≡ true) ⊎ (lt y x ≡ false) → (lt x y ≡ true) ⊎ (lt x y ≡ false) → (lt y x ≡ true) ⊎ (Tie x y × (a < c))
      go (inl p) q = inl p
      go (inr p) (inl q) = both_ways h (first-less x a y c q)
      go (inr p) (inr q) = inr ((p, q), ltb-true a c (sym (first-tie x a y c p q) ∙ h))

  first-false : first x a y c ≡ false → (lt x y ≡ true) ⊎ (Tie x y × (c ≤ a))
  first-false h = go (Bool-cases (lt y x)) (Bool-cases (lt x y))
    where
      go : (lt y x ≡ true) ⊎ (lt y x ≡ false) → (lt x y ≡ true) ⊎ (lt x y ≡ false) → (lt x y ≡ true) ⊎ (Tie x y × (c ≤ a))
      go p (inl q) = inl q
      go (inl p) (inr q) = both_ways (first_more x a y c p) h
      go (inr p) (inr q) = inr ((p, q), ltb-false a c (sym (first-tie x a y c p q) ∙ h))

  first-flip : first x a y c ≡ true → first y c x a ≡ false
  first-flip h = go (first-true h)
    where
      go : (lt y x ≡ true) ⊎ (Tie x y × (a < c)) → first y c x a ≡ false
      go (inl p) = first-less y c x a p
      go (inr q) = first-tie y c x a q.0.1 q.0.0 ∙ le-ltb c a (omega arith)

first-same : (x : Float) (a : ℕ) (y : Float) (c : ℕ) → first x a y c ≡ false → first y c x a ≡ false → a ≡ c
first-same x a y c h k = go (first-false x a y c h) (first-false y c x a k)
  where
    go : (lt x y ≡ true) ⊎ (Tie x y × (c ≤ a)) → (lt y x ≡ true) ⊎ (Tie y x × (a ≤ c)) → a ≡ c
    go (inl p) q = both_ways (first_more y c x a p) k
    go (inr p) (inl q) = both_ways (first_more x a y c q) h
    go (inr p) (inr q) = omega arith

first-through : (x : Float) (a : ℕ) (y : Float) (c : ℕ) (z : Float) (e : ℕ) → is_nan x ≡ false → is_nan y ≡ false → is_nan z ≡ false
    → first x a y c ≡ false → first y c z e ≡ false → first x a z e ≡ false
first-through x a y c z e nx ny nz h k = go (first-false x a y c h) (first-false y c z e k)
  where
    go : (lt x y ≡ true) ⊎ (Tie x y × (c ≤ a)) → (lt y z ≡ true) ⊎ (Tie y z × (e ≤ c)) → first x a z e ≡ false
    go (inl p) (inl q) = first-less x a z e (lt-chain x y z p q)
    go (inl p) (inr q) = first-less x a z e (lt-nlt x y z nz p q.0.0)
    go (inr p) (inl q) = first-less x a z e (nlt-lt x y z nx p.0.0 q)
    go (inr p) (inr q) =
        first-tie x a z e (nlt-chain z y x ny q.0.0 p.0.0) (nlt-chain x y z ny p.0.1 q.0.1) ∙ le-ltb a e (omega arith)

-- ---- of records, by a table of scores
abbrev pub score : List Float → ℕ → Float
score sc a = real (get_or sc a nan)

pub leads : List Float → ℕ → ℕ → Bool
leads sc a c = first (score sc a) a (score sc c) c

pub leads-order : (sc : List Float) → LinearOrder (leads sc)
unfolding leads
leads-order sc =
    record {
      flip = λ x y h. first-flip (score sc x) x (score sc y) y h;
      through =
          λ x y z h k.
          first-through (score sc x) x (score sc y) y (score sc z) z (real-num (get_or sc x nan)) (real-num (get_or sc y nan)) (real-num (get_or sc z nan)) h k;
      same = λ x y h k. first-same (score sc x) x (score sc y) y h k;
    }

-- a record of the table, whose score is a number
pub record Known (sc : List Float) (a : ℕ) : Type 0 where
  pub there : a < length sc
  pub number : is_nan (get_or sc a nan) ≡ false

-- what the code tests, one after the other
pub leads-more : (sc : List Float) (a c : ℕ) → Known sc a → Known sc c → lt (get_or sc c nan) (get_or sc a nan) ≡ true → leads sc a c ≡ true
unfolding leads
leads-more sc a c p q h = first_more (score sc a) a (score sc c) c (rw (real-is (get_or sc a nan) p.number, real-is (get_or sc c nan) q.number) h)

pub leads-less : (sc : List Float) (a c : ℕ) → Known sc a → Known sc c → lt (get_or sc a nan) (get_or sc c nan) ≡ true → leads sc a c ≡ false
unfolding leads
leads-less sc a c p q h = first-less (score sc a) a (score sc c) c (rw (real-is (get_or sc a nan) p.number, real-is (get_or sc c nan) q.number) h)

pub leads-tie : (sc : List Float) (a c : ℕ) → Known sc a → Known sc c → lt (get_or sc c nan) (get_or sc a nan) ≡ false
    → lt (get_or sc a nan) (get_or sc c nan) ≡ false → leads sc a c ≡ ltb a c
unfolding leads
leads-tie sc a c p q h k =
    first-tie (score sc a) a (score sc c) c
    (rw (real-is (get_or sc a nan) p.number, real-is (get_or sc c nan) q.number) h)
    (rw (real-is (get_or sc a nan) p.number, real-is (get_or sc c nan) q.number) k)

-- two tables that agree on the two records
pub leads-same : (sc sd : List Float) (a c : ℕ) → get_or sc a nan ≡ get_or sd a nan → get_or sc c nan ≡ get_or sd c nan → leads sc a c ≡ leads sd a c
unfolding leads
leads-same sc sd a c p q = rw (p, q)
