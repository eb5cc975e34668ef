-- The names of edges and their order (as in the definition), with the laws of the order.
use Rattle.std.specs.Prelude.{◌≡◌, refl, ◌⊎◌, Bool, true, false, ◌&&◌, ◌||◌, eqb, ltb, ℕ, ◌<◌}
use Rattle.std.proofs.Common.{sym, ap, subst, ◌∙◌, inl, inr, arith, leb-true, leb-false, eqb-true, eq-eqb, ne_eqb, lt-ltb, le-ltb}
use Prim.Native.Nat.{compare, Ordering}
use Rattle.definition.specs.Threading.{Ends, compare_ends, eq_ends}
use Rattle.laws.specs.Numbers.{then}
use Rattle.std.proofs.Math.Decide.{dec_lt}
use Rattle.threading_node.specs.declared.Edge.{Edge}
use Rattle.std.specs.declared.cmp.Ordering as CO
use Rattle.std.specs.declared.cmp.Ordering.TheVariants.{Less as Below, Equal as Same, Greater as Above}
use Rattle.laws.specs.ListLaws.{and_left, and_right}
use Rattle.std.proofs.Math.Dec.{is_le, compare_is_eq}
use Rattle.std.proofs.lemmas.Bool.{eqb-false}

abbrev pub ends : ℕ → ℕ → Ends
ends a b = record { from = a; to = b }

-- the code's edge
abbrev pub ends_of : Edge → Ends
ends_of e = ends e.from e.to

pub ends-path : (a b c d : ℕ) → a ≡ c → b ≡ d → ends a b ≡ ends c d
ends-path a b c d p q = cc

-- ---- numbers

pub cmp-eq : (a b : ℕ) → compare a b ≡ Ordering.eq → a ≡ b
cmp-eq a b e = eqb-true a b (ap compare_is_eq e)

pub cmp-gt : (a b : ℕ) → compare a b ≡ Ordering.gt → b < a
cmp-gt a b e = leb-false a b (ap is_le e)

pub cmp-lt : (a b : ℕ) → compare a b ≡ Ordering.lt → a < b
cmp-lt a b e = let p = leb-true a b (ap is_le e) in let q = eqb-false a b (ap compare_is_eq e) in omega arith

pub lt-cmp : (a b : ℕ) → a < b → compare a b ≡ Ordering.lt
lt-cmp a b h = go (compare a b) refl
  where
    go : (o : Ordering) → compare a b ≡ o → compare a b ≡ Ordering.lt
    go Ordering.lt e = e
    go Ordering.eq e = let q = cmp-eq a b e in absurd (omega arith)
    go Ordering.gt e = let q = cmp-gt a b e in absurd (omega arith)

pub eq-cmp : (a b : ℕ) → a ≡ b → compare a b ≡ Ordering.eq
eq-cmp a b h = go (compare a b) refl
  where
    go : (o : Ordering) → compare a b ≡ o → compare a b ≡ Ordering.eq
    go Ordering.lt e = let q = cmp-lt a b e in absurd (omega arith)
    go Ordering.eq e = e
    go Ordering.gt e = let q = cmp-gt a b e in absurd (omega arith)

pub gt-cmp : (a b : ℕ) → b < a → compare a b ≡ Ordering.gt
gt-cmp a b h = go (compare a b) refl
  where
    go : (o : Ordering) → compare a b ≡ o → compare a b ≡ Ordering.gt
    go Ordering.lt e = let q = cmp-lt a b e in absurd (omega arith)
    go Ordering.eq e = let q = cmp-eq a b e in absurd (omega arith)
    go Ordering.gt e = e

-- ---- pairs: the order as facts on numbers

abbrev pub Less : Ends → Ends → Type 0
Less e f = (e.from < f.from) ⊎ ((e.from ≡ f.from) × (e.to < f.to))

pub less-lt : (e f : Ends) → Less e f → compare_ends e f ≡ Ordering.lt
less-lt e f (inl h) = rw (lt-cmp e.from f.from h)
less-lt e f (inr h) = rw (eq-cmp e.from f.from h.0) (lt-cmp e.to f.to h.1)

pub less-gt : (e f : Ends) → Less f e → compare_ends e f ≡ Ordering.gt
less-gt e f (inl h) = rw (gt-cmp e.from f.from h)
less-gt e f (inr h) = rw (eq-cmp e.from f.from (sym h.0)) (gt-cmp e.to f.to h.1)

pub same-eq : (e f : Ends) → e.from ≡ f.from → e.to ≡ f.to → compare_ends e f ≡ Ordering.eq
same-eq e f p q = rw (eq-cmp e.from f.from p) (eq-cmp e.to f.to q)

pub lt-less : (e f : Ends) → compare_ends e f ≡ Ordering.lt → Less e f
lt-less e f h = go (compare e.from f.from) refl
  where
    go : (o : Ordering) → compare e.from f.from ≡ o → Less e f
    go Ordering.lt c = inl (cmp-lt _ _ c)
    go Ordering.eq c = inr (cmp-eq _ _ c, cmp-lt _ _ (rw c at h))
    go Ordering.gt c = absurd (let g : Ordering.gt ≡ Ordering.lt = rw c at h in let z : ◌≡◌ {A = ℕ} 0 1 = cc in omega arith)

pub gt-less : (e f : Ends) → compare_ends e f ≡ Ordering.gt → Less f e
gt-less e f h = go (compare e.from f.from) refl
  where
    go : (o : Ordering) → compare e.from f.from ≡ o → Less f e
    go Ordering.lt c = absurd (let g : Ordering.lt ≡ Ordering.gt = rw c at h in let z : ◌≡◌ {A = ℕ} 0 1 = cc in omega arith)
    go Ordering.eq c = inr (sym (cmp-eq _ _ c), cmp-gt _ _ (rw c at h))
    go Ordering.gt c = inl (cmp-gt _ _ c)

pub eq-same : (e f : Ends) → compare_ends e f ≡ Ordering.eq → e ≡ f
eq-same e f h = go (compare e.from f.from) refl
  where
    go : (o : Ordering) → compare e.from f.from ≡ o → e ≡ f
    go Ordering.lt c = absurd (let g : Ordering.lt ≡ Ordering.eq = rw c at h in let z : ◌≡◌ {A = ℕ} 0 1 = cc in omega arith)
    go Ordering.eq c = ends-path _ _ _ _ (cmp-eq _ _ c) (cmp-eq _ _ (rw c at h))
    go Ordering.gt c = absurd (let g : Ordering.gt ≡ Ordering.eq = rw c at h in let z : ◌≡◌ {A = ℕ} 0 1 = cc in omega arith)

-- the code's word for each order
abbrev pub ordering_of : Ordering → CO.Ordering
ordering_of Ordering.lt = Below
ordering_of Ordering.eq = Same
ordering_of Ordering.gt = Above

-- as the code compares two edges: by their first ends, then by their second
abbrev pub is_before : Ends → Ends → Bool
is_before e f = ltb e.from f.from || eqb e.from f.from && ltb e.to f.to

true-false : {b : Bool} → b ≡ true → b ≡ false → ⊥
true-false p q = let z : true ≡ false = sym p ∙ q in cc

pub before-less : (e f : Ends) → is_before e f ≡ true → Less e f
before-less e f h = go (dec_lt e.from f.from) (dec_lt f.from e.from) (dec_lt e.to f.to)
  where
    go : Dec (e.from < f.from) → Dec (f.from < e.from) → Dec (e.to < f.to) → Less e f
    go (yes a) b c = inl a
    go (no a) (yes b) c = absurd (true-false h (rw (le-ltb e.from f.from (omega arith), ne_eqb e.from f.from (λ z. omega arith))))
    go (no a) (no b) (yes c) = inr (omega arith, c)
    go (no a) (no b) (no c) = absurd (true-false h (rw (le-ltb e.from f.from (omega arith), eq-eqb e.from f.from (omega arith), le-ltb e.to f.to (omega arith))))

pub behind-less : (e f : Ends) → is_before e f ≡ false → eq_ends e f ≡ false → Less f e
behind-less e f h k = go (dec_lt e.from f.from) (dec_lt f.from e.from) (dec_lt e.to f.to) (dec_lt f.to e.to)
  where
    go : Dec (e.from < f.from) → Dec (f.from < e.from) → Dec (e.to < f.to) → Dec (f.to < e.to) → Less f e
    go (yes a) b c d = absurd (true-false (rw (lt-ltb e.from f.from a)) h)
    go (no a) (yes b) c d = inl b
    go (no a) (no b) (yes c) d = absurd (true-false (rw (le-ltb e.from f.from (omega arith), eq-eqb e.from f.from (omega arith), lt-ltb e.to f.to c)) h)
    go (no a) (no b) (no c) (yes d) = inr (omega arith, d)
    go (no a) (no b) (no c) (no d) = absurd (true-false (rw (eq-eqb e.from f.from (omega arith), eq-eqb e.to f.to (omega arith))) k)

less-trans : (e f g : Ends) → Less e f → Less f g → Less e g
less-trans e f g (inl p) (inl q) = inl (omega arith)
less-trans e f g (inl p) (inr q) = inl (omega arith)
less-trans e f g (inr p) (inl q) = inl (omega arith)
less-trans e f g (inr p) (inr q) = inr (p.0 ∙ q.0, omega arith)

less-not : (e : Ends) → Less e e → ⊥
less-not e (inl p) = omega arith
less-not e (inr p) = omega arith

-- ---- the laws that the rest uses

pub lt_trans : (e f g : Ends) → compare_ends e f ≡ Ordering.lt → compare_ends f g ≡ Ordering.lt → compare_ends e g ≡ Ordering.lt
lt_trans e f g p q = less-lt e g (less-trans e f g (lt-less e f p) (lt-less f g q))

pub gt-lt : (e f : Ends) → compare_ends e f ≡ Ordering.gt → compare_ends f e ≡ Ordering.lt
gt-lt e f p = less-lt f e (gt-less e f p)

pub lt-ne : (e f : Ends) → compare_ends e f ≡ Ordering.lt → e ≡ f → ⊥
lt-ne e f p q = less-not f (rw q at (lt-less e f p))

pub eq_self : (e : Ends) → compare_ends e e ≡ Ordering.eq
eq_self e = same-eq e e refl refl

pub eq_ends-true : (e f : Ends) → eq_ends e f ≡ true → e ≡ f
eq_ends-true e f h = ends-path _ _ _ _ (eqb-true _ _ (and_left _ _ h)) (eqb-true _ _ (and_right (eqb e.from f.from) _ h))

pub eq_ends-self : (e : Ends) → eq_ends e e ≡ true
eq_ends-self e = rw (eq-eqb e.from e.from refl, eq-eqb e.to e.to refl)

pub eq_ends-false : (e f : Ends) → eq_ends e f ≡ false → e ≡ f → ⊥
eq_ends-false e f h q = let k : eq_ends e f ≡ true = rw q (eq_ends-self f) in let z : ◌≡◌ {A = ℕ} 0 1 = cc in omega arith

pub eq_ends-ne : (e f : Ends) → (e ≡ f → ⊥) → eq_ends e f ≡ false
eq_ends-ne e f n = go (eq_ends e f) refl
  where
    go : (b : Bool) → eq_ends e f ≡ b → eq_ends e f ≡ false
    go true h = absurd (n (eq_ends-true e f h))
    go false h = h

-- the order of roots is that of their vertices
pub compare_ends-same : (v u : ℕ) → compare_ends (ends v v) (ends u u) ≡ compare v u
compare_ends-same v u = go (compare v u) refl
  where
    go : (o : Ordering) → compare v u ≡ o → then (compare v u) (compare v u) ≡ compare v u
    go Ordering.lt h = rw h
    go Ordering.eq h = rw h
    go Ordering.gt h = rw h

-- an order of two edges where the second is named otherwise
pub compare-named : (e f g : Ends) (o : Ordering) → f ≡ g → compare_ends e f ≡ o → compare_ends e g ≡ o
compare-named e f g o z h = subst (λ (x : Ends). compare_ends e x ≡ o) z h
