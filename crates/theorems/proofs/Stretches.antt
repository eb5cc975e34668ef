-- A usable stretch is a maximal run of usable bytes in the read that it names.
use mathlib.Core.Path.{◌≡◌, refl, sym, ap, ◌∙◌}
use Prim.Native.Nat.{ℕ, zero, suc, ◌+◌, ◌-◌, ◌≤◌, ◌<◌}
use native.Mathlib.Omega.{arith}
use mathlib.Core.Bool.{Bool, true, false}
use mathlib.Core.List.{List, [], ◌∷◌}
use mathlib.Core.Option.{some}
use lib.Dec.{eqb}
use lib.ListN.{length, take, drop, get_or}
use borrow.Author.Tests.{eqb-true}
use Rattle.laws.specs.ListLaws.{All, nil, cons, all_head, all_tail, all_append, all-mono, all-zip, all_keep}
use Rattle.definition.specs.Limits.{Sample}
use Rattle.definition.specs.Stretch.{Stretch, usable, join, runs, stretches_from, stretches}
use Rattle.definition.specs.Origins.{read_at}
use Rattle.theorems.proofs.Maximal.{Maximal, runs-maximal}

-- a run of the sequence s lies in the bytes bs, whose first has the place i, and each of its bytes passes the rule with its quality
pub record Inside (good : ℕ → ℕ → Bool) (s i : ℕ) (bs qs : List ℕ) (r : Stretch) : Type 0 where
  pub sequence : r.sequence ≡ s
  pub off : ℕ
  pub place : r.place ≡ i + off
  pub fits : off + length r.bytes ≤ length bs
  pub bytes : take (length r.bytes) (drop off bs) ≡ r.bytes
  pub passes : (j : ℕ) → j < length r.bytes → good (get_or bs (off + j) 0) (get_or qs (off + j) 0) ≡ true

module _ (good : ℕ → ℕ → Bool) (s : ℕ) where
  -- one byte in front
  inside_on : (i b q : ℕ) (bs qs : List ℕ) (r : Stretch) → Inside good s (suc i) bs qs r → Inside good s i (b ∷ bs) (q ∷ qs) r
  inside_on i b q bs qs r h =
      let e : r.place ≡ suc i + h.off = h.place in
      let f : h.off + length r.bytes ≤ length bs = h.fits in
      record {
        sequence = h.sequence;
        off = suc h.off;
        place = omega arith;
        fits = omega arith;
        bytes = h.bytes;
        passes = λ j l. (let n : suc h.off + j ≡ suc (h.off + j) = omega arith in rw n (h.passes j l));
      }

  alone : (i b q : ℕ) (bs qs : List ℕ) → good b q ≡ true → Inside good s i (b ∷ bs) (q ∷ qs) (record { sequence = s; place = i; bytes = b ∷ [] })
  alone i b q bs qs g =
      record {
        sequence = refl;
        off = 0;
        place = omega arith;
        fits = omega arith;
        bytes = refl;
        passes = λ j l. (let n : 0 + j ≡ 0 = omega arith in rw n g);
      }

  -- a byte and the run that starts next to it
  joined : (i b q : ℕ) (bs qs : List ℕ) (r : Stretch) → good b q ≡ true → r.place ≡ suc i → Inside good s (suc i) bs qs r
      → Inside good s i (b ∷ bs) (q ∷ qs) (record { sequence = s; place = i; bytes = b ∷ r.bytes })
  joined i b q bs qs r g e h =
      let p : r.place ≡ suc i + h.off = h.place in
      let z : h.off ≡ 0 = omega arith in
      let f : h.off + length r.bytes ≤ length bs = h.fits in
      let at : take (length r.bytes) bs ≡ r.bytes = rw z at h.bytes in
      let all : (j : ℕ) → j < length r.bytes → good (get_or bs (0 + j) 0) (get_or qs (0 + j) 0) ≡ true = rw z at h.passes in
      record {
        sequence = refl;
        off = 0;
        place = omega arith;
        fits = omega arith;
        bytes = ap (λ (l : List ℕ). b ∷ l) at;
        passes = rest all;
      }
    where
      rest : ((j : ℕ) → j < length r.bytes → good (get_or bs (0 + j) 0) (get_or qs (0 + j) 0) ≡ true)
          → (j : ℕ) → j < suc (length r.bytes) → good (get_or (b ∷ bs) (0 + j) 0) (get_or (q ∷ qs) (0 + j) 0) ≡ true
      rest all zero l = g
      rest all (suc j) l = let m : 0 + suc j ≡ suc (0 + j) = omega arith in rw m (all j (omega arith))

  join-inside : (i b q : ℕ) (bs qs : List ℕ) (rs : List Stretch) → good b q ≡ true → All (Inside good s (suc i) bs qs) rs
      → All (Inside good s i (b ∷ bs) (q ∷ qs)) (join s i b rs)
  unfolding join
  join-inside i b q bs qs [] g a = cons (alone i b q bs qs g) nil
  join-inside i b q bs qs (r ∷ rs) g a = go (eqb r.place (suc i)) refl
    where
      go : (z : Bool) → eqb r.place (suc i) ≡ z → All (Inside good s i (b ∷ bs) (q ∷ qs)) (join s i b (r ∷ rs))
      go true e = rw (e, join) (cons (joined i b q bs qs r g (eqb-true r.place (suc i) e) (all_head a)) (all-mono (inside_on i b q bs qs) (all_tail a)))
      go false e = rw (e, join) (cons (alone i b q bs qs g) (all-mono (inside_on i b q bs qs) a))

  runs-inside : (i : ℕ) (bs qs : List ℕ) → All (Inside good s i bs qs) (runs good s i bs qs)
  unfolding runs
  runs-inside i [] qs = nil
  runs-inside i (b ∷ bs) [] = nil
  runs-inside i (b ∷ bs) (q ∷ qs) = go (good b q) refl (runs-inside (suc i) bs qs)
    where
      go : (z : Bool) → good b q ≡ z → All (Inside good s (suc i) bs qs) (runs good s (suc i) bs qs) → All (Inside good s i (b ∷ bs) (q ∷ qs)) (runs good s i (b ∷ bs) (q ∷ qs))
      go true e ih = rw (e, runs) (join-inside i b q bs qs (runs good s (suc i) bs qs) e ih)
      go false e ih = rw (e, runs) (all-mono (inside_on i b q bs qs) ih)

-- ---- all reads

-- a run of one of the reads from s on: which read, its bytes and qualities, and the run lies in it
pub record InRead (good : ℕ → ℕ → Bool) (s start : ℕ) (ends bs qs : List ℕ) (r : Stretch) : Type 0 where
  pub number : ℕ
  pub read : List ℕ
  pub quality : List ℕ
  pub sequence : r.sequence ≡ s + number
  pub is : read_at number start ends bs ≡ some read
  pub qualities : read_at number start ends qs ≡ some quality
  pub inside : Inside good (s + number) 0 read quality r
  pub maximal : length quality ≡ length read → Maximal good 0 read quality r

stretches-in : (good : ℕ → ℕ → Bool) (k s start : ℕ) (ends bs qs : List ℕ) → All (InRead good s start ends bs qs) (stretches_from good k s start ends bs qs)
unfolding stretches_from
stretches-in good k s start [] bs qs = nil
stretches-in good k s start (e ∷ es) bs qs =
    all_append (all_keep _ (all-mono first (all-zip (runs-inside good s 0 (take (e - start) bs) (take (e - start) qs)) (runs-maximal good s 0 (take (e - start) bs) (take (e - start) qs)))))
    (all-mono later (stretches-in good k (suc s) e es (drop (e - start) bs) (drop (e - start) qs)))
  where
    first : (r : Stretch) → Inside good s 0 (take (e - start) bs) (take (e - start) qs) r × (length (take (e - start) qs) ≡ length (take (e - start) bs) → Maximal good 0 (take (e - start) bs) (take (e - start) qs) r)
        → InRead good s start (e ∷ es) bs qs r
    first r h =
        let n : s + 0 ≡ s = omega arith in
        record {
          number = 0;
          read = take (e - start) bs;
          quality = take (e - start) qs;
          sequence = h.0.sequence ∙ sym n;
          is = unfold read_at in refl;
          qualities = unfold read_at in refl;
          inside = rw n h.0;
          maximal = h.1;
        }

    later : (r : Stretch) → InRead good (suc s) e es (drop (e - start) bs) (drop (e - start) qs) r → InRead good s start (e ∷ es) bs qs r
    later r h =
        let n : suc s + h.number ≡ s + suc h.number = omega arith in
        record {
          number = suc h.number;
          read = h.read;
          quality = h.quality;
          sequence = h.sequence ∙ n;
          is = unfold read_at in h.is;
          qualities = unfold read_at in h.qualities;
          inside = rw n at h.inside;
          maximal = h.maximal;
        }

-- every stretch of a sample lies in the read that it names, its bytes are usable there, and it is maximal
pub stretches-inside : (i : Sample) → All (InRead (usable i.quality) 1 0 i.ends i.bases i.qualities) (stretches i)
unfolding stretches
stretches-inside i = stretches-in (usable i.quality) i.k 1 0 i.ends i.bases i.qualities
