-- A usable stretch is maximal: the byte before it and the byte after it, where the read has them, are not usable.
use mathlib.Core.Path.{◌≡◌, refl, sym, ap, ◌∙◌}
use mathlib.Core.Logic.{◌⊎◌, inl, inr}
use Prim.Native.Nat.{ℕ, zero, suc, ◌+◌, ◌≤◌}
use native.Mathlib.Omega.{arith}
use mathlib.Core.Bool.{Bool, true, false}
use mathlib.Core.List.{List, [], ◌∷◌}
use lib.Dec.{eqb}
use lib.ListN.{length, get_or}
use borrow.Author.Tests.{eqb-true, eqb-false}
use Rattle.laws.specs.ListLaws.{clash, All, nil, cons, all_head, all_tail, all-mono, all-zip, all-self}
use Rattle.definition.specs.Stretch.{Stretch, join, runs}

-- The run r of the bytes bs with the qualities qs, whose first has the place i: it starts there or after a byte that does not pass, and it stops at
-- the end or before a byte that does not pass.
pub record Maximal (good : ℕ → ℕ → Bool) (i : ℕ) (bs qs : List ℕ) (r : Stretch) : Type 0 where
  pub starts : (r.place ≡ i) ⊎ ((p : ℕ) × (r.place ≡ i + suc p) × (good (get_or bs p 0) (get_or qs p 0) ≡ false))
  pub stops : (m : ℕ) → i + m ≡ r.place + length r.bytes → (m ≡ length bs) ⊎ (good (get_or bs m 0) (get_or qs m 0) ≡ false)

-- places rise, none before n
abbrev Rises : ℕ → List Stretch → Type 0
Rises n [] = Unit {0}
Rises n (r ∷ rs) = (n ≤ r.place) × Rises (suc r.place) rs

rises-all : (n : ℕ) (rs : List Stretch) → Rises n rs → All (λ r. n ≤ r.place) rs
rises-all n [] h = nil
rises-all n (r ∷ rs) h = cons h.0 (all-mono (λ x k. (let z : n ≤ r.place = h.0 in omega arith)) (rises-all (suc r.place) rs h.1))

rises-less : (m n : ℕ) (rs : List Stretch) → m ≤ n → Rises n rs → Rises m rs
rises-less m n [] l h = tt
rises-less m n (r ∷ rs) l h = (let z : n ≤ r.place = h.0 in omega arith, h.1)

module _ (good : ℕ → ℕ → Bool) (s : ℕ) where
  -- where the first byte passes, the first run starts there
  abbrev Head : ℕ → List ℕ → List ℕ → List Stretch → Type 0
  Head i [] qs rs = Unit {0}
  Head i (b ∷ bs) [] rs = Unit {0}
  Head i (b ∷ bs) (q ∷ qs) [] = good b q ≡ false
  Head i (b ∷ bs) (q ∷ qs) (r ∷ rs) = good b q ≡ true → r.place ≡ i

  record Found (i : ℕ) (bs qs : List ℕ) (rs : List Stretch) : Type 0 where
    maximal : All (Maximal good i bs qs) rs
    rises : Rises i rs
    head : Head i bs qs rs

  -- one byte in front, which is not usable or does not touch the run
  behind : (i b q : ℕ) (bs qs : List ℕ) (r : Stretch) → suc i ≤ r.place → (r.place ≡ suc i → good b q ≡ false) → Maximal good (suc i) bs qs r
      → Maximal good i (b ∷ bs) (q ∷ qs) r
  behind i b q bs qs r h out m = record { starts = before m.starts; stops = after }
    where
      before : (r.place ≡ suc i) ⊎ ((p : ℕ) × (r.place ≡ suc i + suc p) × (good (get_or bs p 0) (get_or qs p 0) ≡ false))
          → (r.place ≡ i) ⊎ ((p : ℕ) × (r.place ≡ i + suc p) × (good (get_or (b ∷ bs) p 0) (get_or (q ∷ qs) p 0) ≡ false))
      before (inl e) = inr (0, omega arith, out e)
      before (inr (p, e, f)) = inr (suc p, omega arith, f)

      after : (n : ℕ) → i + n ≡ r.place + length r.bytes → (n ≡ suc (length bs)) ⊎ (good (get_or (b ∷ bs) n 0) (get_or (q ∷ qs) n 0) ≡ false)
      after zero e = absurd (omega arith)
      after (suc n) e = go (m.stops n (omega arith))
        where
          go : (n ≡ length bs) ⊎ (good (get_or bs n 0) (get_or qs n 0) ≡ false) → (suc n ≡ suc (length bs)) ⊎ (good (get_or bs n 0) (get_or qs n 0) ≡ false)
          go (inl x) = inl (ap suc x)
          go (inr x) = inr x

  -- a byte and the run that starts next to it
  joined : (i b q : ℕ) (bs qs : List ℕ) (r : Stretch) → r.place ≡ suc i → Maximal good (suc i) bs qs r
      → Maximal good i (b ∷ bs) (q ∷ qs) (record { sequence = s; place = i; bytes = b ∷ r.bytes })
  joined i b q bs qs r e m = record { starts = inl refl; stops = after }
    where
      after : (n : ℕ) → i + n ≡ i + suc (length r.bytes) → (n ≡ suc (length bs)) ⊎ (good (get_or (b ∷ bs) n 0) (get_or (q ∷ qs) n 0) ≡ false)
      after zero x = absurd (omega arith)
      after (suc n) x = go (m.stops n (omega arith))
        where
          go : (n ≡ length bs) ⊎ (good (get_or bs n 0) (get_or qs n 0) ≡ false) → (suc n ≡ suc (length bs)) ⊎ (good (get_or bs n 0) (get_or qs n 0) ≡ false)
          go (inl y) = inl (ap suc y)
          go (inr y) = inr y

  -- a byte alone, after which the bytes end or one does not pass
  alone : (i b q : ℕ) (bs qs : List ℕ) → (0 ≡ length bs) ⊎ (good (get_or bs 0 0) (get_or qs 0 0) ≡ false)
      → Maximal good i (b ∷ bs) (q ∷ qs) (record { sequence = s; place = i; bytes = b ∷ [] })
  alone i b q bs qs next = record { starts = inl refl; stops = after }
    where
      after : (n : ℕ) → i + n ≡ i + 1 → (n ≡ suc (length bs)) ⊎ (good (get_or (b ∷ bs) n 0) (get_or (q ∷ qs) n 0) ≡ false)
      after zero x = absurd (omega arith)
      after (suc zero) x = go next
        where
          go : (0 ≡ length bs) ⊎ (good (get_or bs 0 0) (get_or qs 0 0) ≡ false) → (1 ≡ suc (length bs)) ⊎ (good (get_or bs 0 0) (get_or qs 0 0) ≡ false)
          go (inl y) = inl (ap suc y)
          go (inr y) = inr y
      after (suc (suc n)) x = absurd (omega arith)

  -- what follows a byte whose run goes no further
  next-out : (i : ℕ) (bs qs : List ℕ) (rs : List Stretch) → length qs ≡ length bs → Head (suc i) bs qs rs → All (λ r. r.place ≡ suc i → ⊥) rs
      → (0 ≡ length bs) ⊎ (good (get_or bs 0 0) (get_or qs 0 0) ≡ false)
  next-out i [] qs rs l h a = inl refl
  next-out i (b ∷ bs) [] rs l h a = absurd (omega arith)
  next-out i (b ∷ bs) (q ∷ qs) [] l h a = inr h
  next-out i (b ∷ bs) (q ∷ qs) (r ∷ rs) l h a = go (good b q) refl
    where
      go : (z : Bool) → good b q ≡ z → (0 ≡ suc (length bs)) ⊎ (good b q ≡ false)
      go true e = absurd (all_head a (h e))
      go false e = inr e

  far : (i : ℕ) (rs : List Stretch) → Rises (suc (suc i)) rs → All (λ r. r.place ≡ suc i → ⊥) rs
  far i rs h = all-mono (λ r k e. omega arith) (rises-all (suc (suc i)) rs h)

  all-behind : (i b q : ℕ) (bs qs : List ℕ) (rs : List Stretch) → Rises (suc i) rs → All (λ r. r.place ≡ suc i → good b q ≡ false) rs
      → All (Maximal good (suc i) bs qs) rs → All (Maximal good i (b ∷ bs) (q ∷ qs)) rs
  all-behind i b q bs qs rs h o m = all-mono (λ r k. behind i b q bs qs r k.0 k.1.0 k.1.1) (all-zip (rises-all (suc i) rs h) (all-zip o m))

  join-found : (i b q : ℕ) (bs qs : List ℕ) (rs : List Stretch) → length qs ≡ length bs → Found (suc i) bs qs rs → Found i (b ∷ bs) (q ∷ qs) (join s i b rs)
  unfolding join
  join-found i b q bs qs [] l f =
      record { maximal = cons (alone i b q bs qs (next-out i bs qs [] l f.head nil)) nil; rises = (omega arith, tt); head = λ g. refl }
  join-found i b q bs qs (r ∷ rs) l f = go (eqb r.place (suc i)) refl
    where
      low : suc i ≤ r.place
      low = f.rises.0

      go : (z : Bool) → eqb r.place (suc i) ≡ z → Found i (b ∷ bs) (q ∷ qs) (join s i b (r ∷ rs))
      go true e =
          let p : r.place ≡ suc i = eqb-true r.place (suc i) e in
          let up : Rises (suc (suc i)) rs = rw p at f.rises.1 in
          rw (e, join)
          (record {
            maximal = cons (joined i b q bs qs r p (all_head f.maximal))
                (all-behind i b q bs qs rs (rises-less (suc i) (suc (suc i)) rs (omega arith) up) (all-mono (λ x k w. absurd (k w)) (far i rs up)) (all_tail f.maximal));
            rises = (omega arith, rises-less (suc i) (suc (suc i)) rs (omega arith) up);
            head = λ g. refl;
          })
      go false e =
          let p : r.place ≡ suc i → ⊥ = eqb-false r.place (suc i) e in
          let up : Rises (suc (suc i)) (r ∷ rs) = (omega arith, f.rises.1) in
          rw (e, join)
          (record {
            maximal = cons (alone i b q bs qs (next-out i bs qs (r ∷ rs) l f.head (far i (r ∷ rs) up)))
                (all-behind i b q bs qs (r ∷ rs) f.rises (all-mono (λ x k w. absurd (k w)) (far i (r ∷ rs) up)) f.maximal);
            rises = (omega arith, f.rises);
            head = λ g. refl;
          })

  out-head : (i b q : ℕ) (bs qs : List ℕ) (rs : List Stretch) → good b q ≡ false → Head i (b ∷ bs) (q ∷ qs) rs
  out-head i b q bs qs [] e = e
  out-head i b q bs qs (r ∷ rs) e = λ g. clash (sym g ∙ e)

  runs-found : (i : ℕ) (bs qs : List ℕ) → length qs ≡ length bs → Found i bs qs (runs good s i bs qs)
  unfolding runs
  runs-found i [] qs l = record { maximal = nil; rises = tt; head = tt }
  runs-found i (b ∷ bs) [] l = absurd (omega arith)
  runs-found i (b ∷ bs) (q ∷ qs) l = go (good b q) refl (runs-found (suc i) bs qs (omega arith))
    where
      go : (z : Bool) → good b q ≡ z → Found (suc i) bs qs (runs good s (suc i) bs qs) → Found i (b ∷ bs) (q ∷ qs) (runs good s i (b ∷ bs) (q ∷ qs))
      go true e f = rw (e, runs) (join-found i b q bs qs (runs good s (suc i) bs qs) (omega arith) f)
      go false e f =
          let rs = runs good s (suc i) bs qs in
          rw (e, runs)
          (record {
            maximal = all-behind i b q bs qs rs f.rises (all-mono (λ x k w. e) (rises-all (suc i) rs f.rises)) f.maximal;
            rises = rises-less i (suc i) rs (omega arith) f.rises;
            head = out-head i b q bs qs rs e;
          })

  -- every run is maximal, where each byte has a quality
  pub runs-maximal : (i : ℕ) (bs qs : List ℕ) → All (λ r. length qs ≡ length bs → Maximal good i bs qs r) (runs good s i bs qs)
  runs-maximal i bs qs = go (eqb (length qs) (length bs)) refl
    where
      go : (z : Bool) → eqb (length qs) (length bs) ≡ z → All (λ r. length qs ≡ length bs → Maximal good i bs qs r) (runs good s i bs qs)
      go true e = all-mono (λ r m l. m) (runs-found i bs qs (eqb-true (length qs) (length bs) e)).maximal
      go false e = all-mono (λ r m l. absurd (eqb-false (length qs) (length bs) e l)) (all-self (runs good s i bs qs))
