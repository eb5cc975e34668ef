-- The stretches are disjoint parts of the reads: together they have no more bytes than the reads have bases.
use mathlib.Core.Path.{◌≡◌, refl}
use Prim.Native.Nat.{ℕ, suc, ◌-◌, ◌≤◌}
use native.Mathlib.Omega.{arith}
use mathlib.Core.Bool.{Bool, true, false, ◌&&◌}
use mathlib.Core.List.{List, [], ◌∷◌}
use lib.Dec.{leb, eqb}
use lib.ListN.{length, take, drop, length-take, length-drop}
use borrow.Author.Tests.{leb-true}
use Rattle.laws.specs.Lists.{keep, total, last_or}
use Rattle.laws.specs.ListLaws.{and_left, and_right, total-append, total-keep}
use Rattle.definition.specs.Limits.{Sample, rising, ends_fit, reads_fit}
use Rattle.definition.specs.Stretch.{Stretch, usable, join, runs, stretches_from, stretches}

-- how many bytes a run has
abbrev pub size_of : Stretch → ℕ
size_of r = length r.bytes

join-size : (s i b : ℕ) (rs : List Stretch) → total size_of (join s i b rs) ≡ suc (total size_of rs)
unfolding join
join-size s i b [] = refl
join-size s i b (r ∷ rs) = go (eqb r.place (suc i)) refl
  where
    go : (z : Bool) → eqb r.place (suc i) ≡ z → total size_of (join s i b (r ∷ rs)) ≡ suc (total size_of (r ∷ rs))
    go true e = rw (e, join) (omega arith)
    go false e = rw (e, join) (omega arith)

runs-size : (good : ℕ → ℕ → Bool) (s i : ℕ) (bs qs : List ℕ) → total size_of (runs good s i bs qs) ≤ length bs
unfolding runs
runs-size good s i [] qs = omega arith
runs-size good s i (b ∷ bs) [] = omega arith
runs-size good s i (b ∷ bs) (q ∷ qs) = go (good b q) refl (runs-size good s (suc i) bs qs)
  where
    go : (z : Bool) → good b q ≡ z → total size_of (runs good s (suc i) bs qs) ≤ length bs → total size_of (runs good s i (b ∷ bs) (q ∷ qs)) ≤ suc (length bs)
    go true e ih = rw (e, runs) (rw (join-size s i b (runs good s (suc i) bs qs)) (omega arith))
    go false e ih = rw (e, runs) (omega arith)

from-size : (good : ℕ → ℕ → Bool) (k s start : ℕ) (ends bs qs : List ℕ) → total size_of (stretches_from good k s start ends bs qs) ≤ length bs
unfolding stretches_from
from-size good k s start [] bs qs = omega arith
from-size good k s start (e ∷ es) bs qs =
    let n : ℕ = e - start in
    let rs : List Stretch = runs good s 0 (take n bs) (take n qs) in
    let a : total size_of (keep (λ (r : Stretch). leb k (length r.bytes)) rs) ≤ total size_of rs = total-keep size_of _ rs in
    let b : total size_of rs ≤ length (take n bs) = runs-size good s 0 (take n bs) (take n qs) in
    let c : total size_of (stretches_from good k (suc s) e es (drop n bs) (drop n qs)) ≤ length (drop n bs) = from-size good k (suc s) e es (drop n bs) (drop n qs) in
    rw (total-append size_of) (omega (arith, length-take n bs, length-drop n bs))

pub stretches-size : (s : Sample) → total size_of (stretches s) ≤ length s.bases
unfolding stretches
stretches-size s = from-size (usable s.quality) s.k 1 0 s.ends s.bases s.qualities

-- the read bases of a sample that passed its check
pub bases-size : (s : Sample) → reads_fit s ≡ true → length s.bases ≤ 32768
unfolding reads_fit ends_fit
bases-size s e =
    leb-true (length s.bases) 32768
    (and_right (rising 0 s.ends && eqb (last_or 0 s.ends) (length s.bases) && leb (length s.ends) 512) (leb (length s.bases) 32768)
    (and_left (ends_fit s.ends s.bases) (eqb (length s.qualities) (length s.bases)) e))
