-- The order of edges' ends: what a comparison tells, and back. Assumes nothing.
use Rattle.std.specs.Prelude.{◌≡◌, refl, ◌⊎◌}
use Rattle.std.proofs.Common.{sym, ap, ◌∙◌, inl, inr, arith, ℕ, ◌<◌}
use Prim.Native.Nat.{compare, Ordering}
use Rattle.laws.specs.Numbers.{then, compare-lt, compare-eq, compare-gt, lt-compare, eq-compare, gt-compare}
use Rattle.definition.specs.Threading.{Ends, compare_ends}

-- ---- ends
abbrev pub Below : Ends → Ends → Type 0
Below a b = (a.from < b.from) ⊎ ((a.from ≡ b.from) × (a.to < b.to))

below-is : (a b : Ends) → Below a b → compare_ends a b ≡ Ordering.lt
below-is a b (inl h) = rw (compare-lt a.from b.from h)
below-is a b (inr h) = rw (compare-eq a.from b.from h.0, compare-lt a.to b.to h.1)

above-is : (a b : Ends) → Below b a → compare_ends a b ≡ Ordering.gt
above-is a b (inl h) = rw (compare-gt a.from b.from h)
above-is a b (inr h) = rw (compare-eq a.from b.from (sym h.0), compare-gt a.to b.to h.1)

pub is_below : (a b : Ends) → compare_ends a b ≡ Ordering.lt → Below a b
is_below a b e = go (compare a.from b.from) refl e
  where
    go : (o : Ordering) → compare a.from b.from ≡ o → then o (compare a.to b.to) ≡ Ordering.lt → Below a b
    go Ordering.lt c h = inl (lt-compare a.from b.from c)
    go Ordering.eq c h = inr (eq-compare a.from b.from c, lt-compare a.to b.to h)
    go Ordering.gt c h = absurd (let z : ◌≡◌ {A = ℕ} 0 1 = cc in omega arith)

pub is-above : (a b : Ends) → compare_ends a b ≡ Ordering.gt → Below b a
is-above a b e = go (compare a.from b.from) refl e
  where
    go : (o : Ordering) → compare a.from b.from ≡ o → then o (compare a.to b.to) ≡ Ordering.gt → Below b a
    go Ordering.lt c h = absurd (let z : ◌≡◌ {A = ℕ} 0 1 = cc in omega arith)
    go Ordering.eq c h = inr (sym (eq-compare a.from b.from c), gt-compare a.to b.to h)
    go Ordering.gt c h = inl (gt-compare a.from b.from c)

-- ---- the four laws that the table needs
pub ends-eq : (a b : Ends) → compare_ends a b ≡ Ordering.eq → a ≡ b
ends-eq a b e = go (compare a.from b.from) refl e
  where
    go : (o : Ordering) → compare a.from b.from ≡ o → then o (compare a.to b.to) ≡ Ordering.eq → a ≡ b
    go Ordering.lt c h = absurd (let z : ◌≡◌ {A = ℕ} 0 1 = cc in omega arith)
    go Ordering.eq c h = let p = eq-compare a.from b.from c in let q = eq-compare a.to b.to h in ap (λ (x : ℕ). record { from = x; to = a.to }) p ∙ ap (λ (x : ℕ). record { from = b.from; to = x }) q
    go Ordering.gt c h = absurd (let z : ◌≡◌ {A = ℕ} 0 1 = cc in omega arith)

pub ends-self : (a b : Ends) → a ≡ b → compare_ends a b ≡ Ordering.eq
ends-self a b e = rw (compare-eq a.from b.from (ap (λ (x : Ends). x.from) e), compare-eq a.to b.to (ap (λ (x : Ends). x.to) e))

pub ends-flip : (a b : Ends) → compare_ends a b ≡ Ordering.lt → compare_ends b a ≡ Ordering.gt
ends-flip a b e = above-is b a (is_below a b e)

pub ends-flip' : (a b : Ends) → compare_ends a b ≡ Ordering.gt → compare_ends b a ≡ Ordering.lt
ends-flip' a b e = below-is b a (is-above a b e)
