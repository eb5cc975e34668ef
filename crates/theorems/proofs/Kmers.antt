-- Kmers: two neighbours in a run of bytes, numbers in a growing list of kmers, the last kmer of a run.
use mathlib.Core.Path.{◌≡◌, refl, sym, ap, ◌∙◌}
use Prim.Native.Nat.{ℕ, zero, suc, ◌-◌, ◌≤◌, ◌<◌}
use native.Mathlib.Omega.{arith}
use mathlib.Core.Bool.{Bool, true, false}
use mathlib.Core.List.{List, [], ◌∷◌, ◌++◌, append-nil}
use lib.Dec.{leb, eqb}
use lib.ListN.{length, take, drop, get_or, length-append}
use lib.Seq.{get_or-append_seam, take_all}
use borrow.Author.Tests.{leb-true, leb-false, le-leb, lt-leb, eqb-true, eqb-false}
use Rattle.laws.specs.Lists.{position, last_or}
use Rattle.laws.specs.Numbers.{eq_list, eq_list-true, eq_list-self}
use Rattle.laws.specs.ListLaws.{clash}
use Rattle.definition.specs.Stretch.{kmers}
use Rattle.definition.specs.Threading.{number_of, with_kmer}

-- ---- two neighbours

-- the last element of a list that is not empty does not hang on the default
last-default : {A : Type 0} (c d : A) (k : ℕ) (M : List A) → suc k ≤ length M → last_or c (take (suc k) M) ≡ last_or d (take (suc k) M)
last-default c d k [] h = absurd (omega arith)
last-default c d k (m ∷ M) h = refl

-- a kmer and the last base of the next one: the first base and the next kmer
pub kmer-next : (a : ℕ) (k : ℕ) (M : List ℕ) → 1 ≤ k → k ≤ length M → take k (a ∷ M) ++ (last_or 0 (take k M) ∷ []) ≡ a ∷ take k M
kmer-next a zero M p h = absurd (omega arith)
kmer-next a (suc zero) [] p h = absurd (omega arith)
kmer-next a (suc zero) (m ∷ M) p h = refl
kmer-next a (suc (suc k)) [] p h = absurd (omega arith)
kmer-next a (suc (suc k)) (m ∷ M) p h =
    let e : last_or m (take (suc k) M) ≡ last_or 0 (take (suc k) M) = last-default m 0 k M (omega arith) in
    ap (λ (l : List ℕ). a ∷ l) (ap (λ (z : ℕ). take (suc k) (m ∷ M) ++ (z ∷ [])) e ∙ kmer-next m (suc k) M (omega arith) (omega arith))

-- ---- the last kmer of a run

pub kmers-short : (k : ℕ) (bs : List ℕ) → length bs < k → kmers k bs ≡ []
unfolding kmers
kmers-short k [] h = refl
kmers-short k (b ∷ bs) h = rw (lt-leb k (suc (length bs)) h, kmers)

pub kmers-cons : (k : ℕ) (b : ℕ) (bs : List ℕ) → k ≤ suc (length bs) → kmers k (b ∷ bs) ≡ take k (b ∷ bs) ∷ kmers k bs
unfolding kmers
kmers-cons k b bs h = rw (le-leb k (suc (length bs)) h, kmers)

pub kmers-last : (k : ℕ) (d : List ℕ) (bs : List ℕ) → 1 ≤ k → k ≤ length bs → last_or d (kmers k bs) ≡ drop (length bs - k) bs
kmers-last k d [] p h = absurd (omega arith)
kmers-last k d (b ∷ bs) p h = rw (kmers-cons k b bs h) (go (leb k (length bs)) refl (kmers-last k (take k (b ∷ bs)) bs p))
  where
    go : (z : Bool) → leb k (length bs) ≡ z → (k ≤ length bs → last_or (take k (b ∷ bs)) (kmers k bs) ≡ drop (length bs - k) bs)
        → last_or (take k (b ∷ bs)) (kmers k bs) ≡ drop (suc (length bs) - k) (b ∷ bs)
    go true e ih =
        let l : k ≤ length bs = leb-true k (length bs) e in
        let n : suc (length bs) - k ≡ suc (length bs - k) = omega arith in
        rw n (ih l)
    go false e ih =
        let l : length bs < k = leb-false k (length bs) e in
        let n : suc (length bs) - k ≡ 0 = omega arith in
        rw (n, kmers-short k bs l) (take_all k (b ∷ bs) (omega arith))

-- ---- numbers

module _ {A : Type 0} (t : A → Bool) where
  position-within : (xs : List A) → position t xs ≤ length xs
  position-within [] = omega arith
  position-within (x ∷ xs) = go (t x) refl (position-within xs)
    where
      go : (b : Bool) → t x ≡ b → position t xs ≤ length xs → position t (x ∷ xs) ≤ suc (length xs)
      go true e ih = rw (e, position) (omega arith)
      go false e ih = rw (e, position) (omega arith)

  position-passes : (xs : List A) (d : A) → position t xs < length xs → t (get_or xs (position t xs) d) ≡ true
  position-passes [] d h = absurd (omega arith)
  position-passes (x ∷ xs) d h = go (t x) refl h (λ k. position-passes xs d k)
    where
      go : (b : Bool) → t x ≡ b → position t (x ∷ xs) < suc (length xs) → (position t xs < length xs → t (get_or xs (position t xs) d) ≡ true)
          → t (get_or (x ∷ xs) (position t (x ∷ xs)) d) ≡ true
      go true e k ih = rw (e, position) e
      go false e k ih = rw (e, position) (ih (let j : suc (position t xs) < suc (length xs) = rw (e, position) at k in omega arith))

  -- an element that passes stands no earlier than the first that does
  position_first : (xs : List A) (v : ℕ) (d : A) → v < length xs → t (get_or xs v d) ≡ true → position t xs < length xs
  position_first [] v d h e = absurd (omega arith)
  position_first (x ∷ xs) v d h e = go (t x) refl v h e (λ w. position_first xs w d)
    where
      go : (b : Bool) → t x ≡ b → (v : ℕ) → v < suc (length xs) → t (get_or (x ∷ xs) v d) ≡ true
          → ((w : ℕ) → w < length xs → t (get_or xs w d) ≡ true → position t xs < length xs) → position t (x ∷ xs) < suc (length xs)
      go true u v k f ih = rw (u, position) (omega arith)
      go false u zero k f ih = clash (sym f ∙ u)
      go false u (suc w) k f ih = rw (u, position) (let j = ih w (omega arith) f in omega arith)

-- a kmer that stands in the list has its number there, and the kmer of that number is it
pub number_in : (ks : List (List ℕ)) (x : List ℕ) (v : ℕ) → v < length ks → get_or ks v [] ≡ x → number_of ks x < length ks
unfolding number_of
number_in ks x v h e = position_first (λ y. eq_list y x) ks v [] h (rw e (eq_list-self x))

pub number_is : (ks : List (List ℕ)) (x : List ℕ) → number_of ks x < length ks → get_or ks (number_of ks x) [] ≡ x
unfolding number_of
number_is ks x h = eq_list-true (get_or ks (position (λ y. eq_list y x) ks) []) x (position-passes (λ y. eq_list y x) ks [] h)

-- the list of kmers with x: longer at the end or the same, and x has its number in it
pub record Placed (ks : List (List ℕ)) (x : List ℕ) : Type 0 where
  pub extra : List (List ℕ)
  pub grows : with_kmer ks x ≡ ks ++ extra
  pub inside : number_of ks x < length (with_kmer ks x)
  pub is : get_or (with_kmer ks x) (number_of ks x) [] ≡ x

pub placed : (ks : List (List ℕ)) (x : List ℕ) → Placed ks x
unfolding with_kmer
placed ks x = go (eqb (number_of ks x) (length ks)) refl
  where
    go : (b : Bool) → eqb (number_of ks x) (length ks) ≡ b → Placed ks x
    go true e =
        let n : number_of ks x ≡ length ks = eqb-true (number_of ks x) (length ks) e in
        record {
          extra = x ∷ [];
          grows = rw (e, with_kmer);
          inside = rw (e, with_kmer, length-append) (omega arith);
          is = rw (e, with_kmer, n) (get_or-append_seam ks x [] []);
        }
    go false e =
        let w : number_of ks x ≤ length ks = unfold number_of in position-within (λ y. eq_list y x) ks in
        let n : number_of ks x ≡ length ks → ⊥ = eqb-false (number_of ks x) (length ks) e in
        let h : number_of ks x < length ks = omega arith in
        record { extra = []; grows = rw (e, with_kmer) (sym (append-nil ks)); inside = rw (e, with_kmer) h; is = rw (e, with_kmer) (number_is ks x h) }
