-- The runs of a read, found one after the other: from a place on, the first run is what stands before the next unusable byte, and the rest starts
-- after that byte. Assumes nothing.
use Rattle.std.specs.Prelude.{◌≡◌, refl, ◌≢◌, Bool, true, false, List, [], ◌∷◌, ◌++◌, leb, length, get_or, take, drop}
use Rattle.std.proofs.Common.{sym, ap, ◌∙◌, add-one, drop-cons, eq-eqb, ne_eqb, ℕ, zero, suc, ◌+◌, ◌-◌, ◌<◌, ◌≤◌, arith}
use Rattle.std.proofs.Math.Decide.{ℕ_discrete}
use Rattle.std.proofs.lemmas.Bool.{lt-leb}
use Rattle.laws.specs.Lists.{keep}
use Rattle.laws.specs.ListLaws.{All, nil, cons, all-mono}
use Rattle.definition.specs.Stretch.{Stretch, join, runs}

-- the stretches of at least k bytes
abbrev pub long_of : ℕ → List Stretch → List Stretch
long_of k l = keep (λ (r : Stretch). leb k (length r.bytes)) l

-- ---- the definition's clauses
module _ (good : ℕ → ℕ → Bool) (s i b : ℕ) (bs : List ℕ) (q : ℕ) (qs : List ℕ) where
  cons_no : good b q ≡ false → runs good s i (b ∷ bs) (q ∷ qs) ≡ runs good s (suc i) bs qs
  unfolding runs
  cons_no h = rw (h, runs)

  cons-yes : good b q ≡ true → runs good s i (b ∷ bs) (q ∷ qs) ≡ join s i b (runs good s (suc i) bs qs)
  unfolding runs
  cons-yes h = rw (h, runs)

runs-nil : (good : ℕ → ℕ → Bool) (s i : ℕ) (qs : List ℕ) → runs good s i [] qs ≡ []
unfolding runs
runs-nil good s i qs = refl

runs_none : (good : ℕ → ℕ → Bool) (s i b : ℕ) (bs : List ℕ) → runs good s i (b ∷ bs) [] ≡ []
unfolding runs
runs_none good s i b bs = refl

abbrev pub one : ℕ → ℕ → List ℕ → Stretch
one s i bs = record { sequence = s; place = i; bytes = bs }

join-near : (s i b : ℕ) (r : Stretch) (rs : List Stretch) → r.place ≡ suc i → join s i b (r ∷ rs) ≡ one s i (b ∷ r.bytes) ∷ rs
unfolding join
join-near s i b r rs h = rw (eq-eqb r.place (suc i) h, join)

join_apart : (s i b : ℕ) (r : Stretch) (rs : List Stretch) → r.place ≢ suc i → join s i b (r ∷ rs) ≡ one s i (b ∷ []) ∷ r ∷ rs
unfolding join
join_apart s i b r rs h = rw (ne_eqb r.place (suc i) h, join)

join-nil : (s i b : ℕ) → join s i b [] ≡ one s i (b ∷ []) ∷ []
unfolding join
join-nil s i b = refl

-- nothing that follows is next to it
join-far : (s i b : ℕ) (l : List Stretch) → All (λ (r : Stretch). suc i < r.place) l → join s i b l ≡ one s i (b ∷ []) ∷ l
join-far s i b [] a = join-nil s i b
join-far s i b (r ∷ rs) (cons h a) = join_apart s i b r rs (omega arith)

-- ---- runs start at or after the place where they are looked for
places-join : (s i b : ℕ) (l : List Stretch) → All (λ (r : Stretch). suc i ≤ r.place) l → All (λ (r : Stretch). i ≤ r.place) (join s i b l)
places-join s i b [] a = rw (join-nil s i b) (cons {x = one s i (b ∷ [])} (omega arith) nil)
places-join s i b (r ∷ rs) (cons h a) = go (ℕ_discrete r.place (suc i))
  where
    later : All (λ (x : Stretch). i ≤ x.place) rs
    later = all-mono (λ x k. omega arith) a

    go : Dec (r.place ≡ suc i) → All (λ (x : Stretch). i ≤ x.place) (join s i b (r ∷ rs))
    go (yes e) = rw (join-near s i b r rs e) (cons {x = one s i (b ∷ r.bytes)} (omega arith) later)
    go (no e) = rw (join_apart s i b r rs e) (cons {x = one s i (b ∷ [])} (omega arith) (cons {x = r} (omega arith) later))

places : (good : ℕ → ℕ → Bool) (s i : ℕ) (bs qs : List ℕ) → All (λ (r : Stretch). i ≤ r.place) (runs good s i bs qs)
places good s i [] qs = rw (runs-nil good s i qs) nil
places good s i (b ∷ bs) [] = rw (runs_none good s i b bs) nil
places good s i (b ∷ bs) (q ∷ qs) = go (good b q) refl (places good s (suc i) bs qs)
  where
    go : (t : Bool) → good b q ≡ t → All (λ (r : Stretch). suc i ≤ r.place) (runs good s (suc i) bs qs) → All (λ (r : Stretch). i ≤ r.place) (runs good s i (b ∷ bs) (q ∷ qs))
    go true c ih = rw (cons-yes good s i b bs q qs c) (places-join s i b (runs good s (suc i) bs qs) ih)
    go false c ih = rw (cons_no good s i b bs q qs c) (all-mono (λ x k. omega arith) ih)

-- ---- the runs of a read that lies from `start` to `e`, from place p on
unfoldable pub runs_at : (ℕ → ℕ → Bool) → ℕ → ℕ → ℕ → List ℕ → List ℕ → ℕ → List Stretch
runs_at good s start e bs qs p = runs good s (p - start) (take (e - p) (drop p bs)) (take (e - p) (drop p qs))

pub runs_at-start : (good : ℕ → ℕ → Bool) (s start e : ℕ) (bs qs : List ℕ) → runs_at good s start e bs qs start ≡ runs good s 0 (take (e - start) (drop start bs)) (take (e - start) (drop start qs))
unfolding runs_at
runs_at-start good s start e bs qs = let z : start - start ≡ 0 = omega arith in rw z

-- where the run at place p ends: the next unusable byte, or the read's end
pub record RunEnd (good : ℕ → ℕ → Bool) (bs qs : List ℕ) (p e q : ℕ) : Type 0 where
  pub from : p ≤ q
  pub to : q ≤ e
  pub all : (j : ℕ) → p ≤ j → j < q → good (get_or bs j 0) (get_or qs j 0) ≡ true
  pub stop : q < e → good (get_or bs q 0) (get_or qs q 0) ≡ false

left-cons : (l : List ℕ) (p e : ℕ) → p < e → e ≤ length l → take (e - p) (drop p l) ≡ get_or l p 0 ∷ take (e - (p + 1)) (drop (p + 1) l)
left-cons l p e h k =
    let n : e - p ≡ suc (e - (p + 1)) = omega arith in
    rw (n, drop-cons l p 0 (omega arith), add-one p)

module _ (good : ℕ → ℕ → Bool) (s start e : ℕ) (bs qs : List ℕ) (eb : e ≤ length bs) (eq : e ≤ length qs) where
  abbrev R : ℕ → List Stretch
  R p = runs_at good s start e bs qs p

  pub at-end : (p : ℕ) → e ≤ p → R p ≡ []
  unfolding runs_at
  at-end p h = let z : e - p ≡ 0 = omega arith in rw z (runs-nil good s (p - start) [])

  at-no : (p : ℕ) → start ≤ p → p < e → good (get_or bs p 0) (get_or qs p 0) ≡ false → R p ≡ R (p + 1)
  unfolding runs_at
  at-no p a h g =
      let z : p + 1 - start ≡ suc (p - start) = omega arith in
      rw (left-cons bs p e h eb, left-cons qs p e h eq, z)
      (cons_no good s (p - start) (get_or bs p 0) (take (e - (p + 1)) (drop (p + 1) bs)) (get_or qs p 0) (take (e - (p + 1)) (drop (p + 1) qs)) g)

  at-yes : (p : ℕ) → start ≤ p → p < e → good (get_or bs p 0) (get_or qs p 0) ≡ true → R p ≡ join s (p - start) (get_or bs p 0) (R (p + 1))
  unfolding runs_at
  at-yes p a h g =
      let z : p + 1 - start ≡ suc (p - start) = omega arith in
      rw (left-cons bs p e h eb, left-cons qs p e h eq, z)
      (cons-yes good s (p - start) (get_or bs p 0) (take (e - (p + 1)) (drop (p + 1) bs)) (get_or qs p 0) (take (e - (p + 1)) (drop (p + 1) qs)) g)

  -- the byte that ends a run is passed over
  at-stop : (p q : ℕ) → start ≤ q → RunEnd good bs qs p e q → R q ≡ R (q + 1)
  at-stop p q a r = go (ℕ_discrete q e)
    where
      go : Dec (q ≡ e) → R q ≡ R (q + 1)
      go (yes z) = at-end q (omega arith) ∙ sym (at-end (q + 1) (omega arith))
      go (no z) = let l : q < e = (let y = r.to in omega arith) in at-no q a l (r.stop l)

  far : (p : ℕ) → start ≤ p → All (λ (r : Stretch). suc (p - start) < r.place) (R (p + 1 + 1))
  unfolding runs_at
  far p a = all-mono (λ x k. omega arith) (places good s (p + 1 + 1 - start) (take (e - (p + 1 + 1)) (drop (p + 1 + 1) bs)) (take (e - (p + 1 + 1)) (drop (p + 1 + 1) qs)))

  shorter : (p q : ℕ) → p < q → RunEnd good bs qs p e q → RunEnd good bs qs (p + 1) e q
  shorter p q h r = record { from = omega arith; to = r.to; all = λ j a b. r.all j (omega arith) b; stop = r.stop }

  -- a run of n + 1 bytes, then the rest after the byte that ends it
  run_is : (n p : ℕ) → start ≤ p → RunEnd good bs qs p e (p + 1 + n) → R p ≡ one s (p - start) (take (suc n) (drop p bs)) ∷ R (p + 1 + n + 1)
  run_is zero p a r =
      let l : p < e = (let y = r.to in omega arith) in
      let z : p + 1 + 0 ≡ p + 1 = omega arith in
      let b : take 1 (drop p bs) ≡ get_or bs p 0 ∷ [] = rw (drop-cons bs p 0 (omega arith)) in
      rw (z, b)
      (at-yes p a l (r.all p (omega arith) (omega arith))
      ∙ ap (λ (x : List Stretch). join s (p - start) (get_or bs p 0) x) (at-stop p (p + 1) (omega arith) (rw z at r))
      ∙ join-far s (p - start) (get_or bs p 0) (R (p + 1 + 1)) (far p a))
  run_is (suc n) p a r =
      let l : p < e = (let y = r.to in omega arith) in
      let z : p + 1 + suc n ≡ p + 1 + 1 + n = omega arith in
      let b : take (suc (suc n)) (drop p bs) ≡ get_or bs p 0 ∷ take (suc n) (drop (p + 1) bs) = rw (drop-cons bs p 0 (omega arith), add-one p) in
      let i : p + 1 - start ≡ suc (p - start) = omega arith in
      rw (z, b)
      (at-yes p a l (r.all p (omega arith) (omega arith))
      ∙ ap (λ (x : List Stretch). join s (p - start) (get_or bs p 0) x) (run_is n (p + 1) (omega arith) (rw z at (shorter p (p + 1 + suc n) (omega arith) r)))
      ∙ join-near s (p - start) (get_or bs p 0) (one s (p + 1 - start) (take (suc n) (drop (p + 1) bs))) (R (p + 1 + 1 + n + 1)) i)

  run-q : (n p q : ℕ) → q ≡ p + 1 + n → start ≤ p → RunEnd good bs qs p e q → R p ≡ one s (p - start) (take (q - p) (drop p bs)) ∷ R (q + 1)
  run-q n p q z a r =
      let d : q - p ≡ suc n = omega arith in
      rw (d, z) (run_is n p a (rw z at r))

  -- the same for the code's q, which is p where the byte at p is not usable; only stretches of at least k bytes are kept
  pub run-ahead : (k p q : ℕ) → 0 < k → start ≤ p → p < e → RunEnd good bs qs p e q
      → long_of k (R p)
      ≡ long_of k (one s (p - start) (take (q - p) (drop p bs)) ∷ []) ++ long_of k (R (q + 1))
  run-ahead k p q h a l r = go (ℕ_discrete q p)
    where
      kept : (x : Stretch) (xs : List Stretch) (t : Bool) → leb k (length x.bytes) ≡ t → long_of k (x ∷ xs) ≡ long_of k (x ∷ []) ++ long_of k xs
      kept x xs true c = rw c
      kept x xs false c = rw c

      go : Dec (q ≡ p)
          → long_of k (R p) ≡ long_of k (one s (p - start) (take (q - p) (drop p bs)) ∷ []) ++ long_of k (R (q + 1))
      go (yes z) =
          let d : p - p ≡ 0 = omega arith in
          let f : good (get_or bs p 0) (get_or qs p 0) ≡ false = rw z at (r.stop (omega arith)) in
          let n : leb k 0 ≡ false = lt-leb k 0 h in
          rw (z, d, n) (ap (λ (x : List Stretch). long_of k x) (at-no p a l f))
      go (no z) =
          let y = r.from in
          let w = run-q (q - (p + 1)) p q (omega arith) a r in
          ap (λ (x : List Stretch). long_of k x) w ∙ kept (one s (p - start) (take (q - p) (drop p bs))) (R (q + 1)) (leb k (length (take (q - p) (drop p bs)))) refl
