-- The bytes at an origin, or refusal 13: "origin naming no sequence, or whose k+1 bytes do not fit it".
use Rattle.std.specs.Prelude.{ℕ, zero, suc, ◌+◌, ◌-◌, true, false, List, [], ◌∷◌, leb, length, take, drop}
use Rattle.std.proofs.Math.Option.{Option, none, some}
use Rattle.definition.specs.Refusal.{Result, ok, refused}
use Rattle.definition.specs.Limits.{Sample}
use Rattle.definition.specs.Threading.{Origin}

-- the bytes of read s, from 0, of those that lie at the front of bs and end where the ends say, counted from `start`; none where there is no such read
unfoldable pub read_at : ℕ → ℕ → List ℕ → List ℕ → Option (List ℕ)
read_at s start [] bs = none
read_at zero start (e ∷ es) bs = some (take (e - start) bs)
read_at (suc s) start (e ∷ es) bs = read_at s e es (drop (e - start) bs)

-- "0 the reference, else the read, from 1"
unfoldable pub sequence_in : List ℕ → List ℕ → List ℕ → ℕ → Option (List ℕ)
sequence_in reference ends bases zero = some reference
sequence_in reference ends bases (suc s) = read_at s 0 ends bases

-- the k + 1 bytes at an origin, or 13
unfoldable pub bytes_in : ℕ → List ℕ → List ℕ → List ℕ → Origin → Result (List ℕ)
bytes_in k reference ends bases o =
    elim (sequence_in reference ends bases o.sequence) [
      | none ↦ refused 13
      | some bs ↦ elim (leb (o.place + suc k) (length bs)) [ true ↦ ok (take (suc k) (drop o.place bs)) | false ↦ refused 13 ]
    ]

abbrev pub bytes_at : Sample → Origin → Result (List ℕ)
bytes_at s o = bytes_in s.k s.reference s.ends s.bases o

-- A key: to unfold it is to unfold every definition of this file. The worked cases compute with it; a proof names only what it needs.
unfoldable pub open_origins : Unit {0}
unfolding read_at sequence_in bytes_in
open_origins = tt
