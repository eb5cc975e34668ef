-- "Threading", first half: the usable stretches of the reads, in order, and the kmers of a stretch.
use Rattle.std.specs.Prelude.{ℕ, suc, ◌-◌, Bool, true, false, ◌&&◌, List, [], ◌∷◌, ◌++◌, leb, eqb, length, take, drop}
use Rattle.laws.specs.Lists.{keep}
use Rattle.definition.specs.Limits.{Sample, is_base}

-- a run of bytes of one sequence, 0 the reference, else the read, from 1; `place` is where it starts, from 0
pub record Stretch : Type 0 where
  pub sequence : ℕ
  pub place : ℕ
  pub bytes : List ℕ

-- "A read's byte is usable if it is A, C, G, T or N and its quality is not below the minimum": b is the byte, q its quality.
unfoldable pub usable : ℕ → ℕ → ℕ → Bool
usable least b q = is_base b && leb least q

-- The byte b at place i, in front of the runs that start after it: it lengthens the run that starts next to it, or is a run of its own.
unfoldable pub join : ℕ → ℕ → ℕ → List Stretch → List Stretch
join s i b [] = record { sequence = s; place = i; bytes = b ∷ [] } ∷ []
join s i b (r ∷ rs) =
    elim (eqb r.place (suc i)) [
      | true ↦ record { sequence = s; place = i; bytes = b ∷ r.bytes } ∷ rs
      | false ↦ record { sequence = s; place = i; bytes = b ∷ [] } ∷ r ∷ rs
    ]

-- "A usable stretch is a maximal run of such bytes in one read": the runs that pass the rule `good` in sequence s, from place i on.
unfoldable pub runs : (ℕ → ℕ → Bool) → ℕ → ℕ → List ℕ → List ℕ → List Stretch
runs good s i [] qs = []
runs good s i (b ∷ bs) [] = []
runs good s i (b ∷ bs) (q ∷ qs) = let r = runs good s (suc i) bs qs in elim (good b q) [ true ↦ join s i b r | false ↦ r ]

-- Reads s, s + 1, .. lie at the front of the bases and end where `ends` says, counted from `start`. "Stretches of at least k bases are kept."
unfoldable pub stretches_from : (ℕ → ℕ → Bool) → ℕ → ℕ → ℕ → List ℕ → List ℕ → List ℕ → List Stretch
stretches_from good k s start [] bs qs = []
stretches_from good k s start (e ∷ es) bs qs =
    keep (λ r. leb k (length r.bytes)) (runs good s 0 (take (e - start) bs) (take (e - start) qs))
    ++ stretches_from good k (suc s) e es (drop (e - start) bs) (drop (e - start) qs)

-- the usable stretches of all reads, in order
unfoldable pub stretches : Sample → List Stretch
stretches s = stretches_from (usable s.quality) s.k 1 0 s.ends s.bases s.qualities

-- the k bytes at each place of a run, in order
unfoldable pub kmers : ℕ → List ℕ → List (List ℕ)
kmers k [] = []
kmers k (b ∷ bs) = elim (leb k (suc (length bs))) [ true ↦ take k (b ∷ bs) ∷ kmers k bs | false ↦ [] ]

-- A key: to unfold it is to unfold every definition of this file. The worked cases compute with it; a proof names only what it needs.
unfoldable pub open_stretch : Unit {0}
unfolding usable join runs stretches_from stretches kmers
open_stretch = tt
