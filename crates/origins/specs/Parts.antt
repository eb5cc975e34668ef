-- The part of a lent slice that an origin names, and what the calls say of it.
use Rattle.std.specs.Prelude.{◌≡◌, ℕ, zero, suc, ◌+◌, ◌≤◌, Bool, true, false, List, [], leb, length, take, drop, Result, Ok, Err}
use Rattle.std.specs.Result.{IsErrAnd}
use Rattle.std.proofs.lemmas.Result.{err_from_is_err_and}
use Rattle.definition.specs.Threading.{Origin}
use Rattle.definition.specs.Calls.{OriginOutcome, origin_call}
use Rattle.origins.specs.Reads.{start_of}
use Rattle.origins.specs.declared.Part as code
use Rattle.origins.specs.declared.Part.TheVariants.{Reference, Reads}
use Rattle.refusals.specs.declared.Refusal.{Refusal}
use Rattle.refusals.specs.Numbers.{number}
use Rattle.origins.specs.declared.OriginAnswer.{OriginAnswer}

abbrev pub origin : ℕ → ℕ → Origin
origin s p = record { sequence = s; place = p }

-- a part of k + 1 bytes: of the read bases or else of the reference, and where it starts
pub record Part : Type 0 where
  pub in_reads : Bool
  pub start : ℕ

-- a part, or the number of a refusal
pub data Found : Type 0 where
  At : Part → Found
  Refused : ℕ → Found

-- the code's answers
abbrev pub found_in : Bool → Result ℕ Refusal → Found
found_in in_reads (Ok start) = At (record { in_reads = in_reads; start = start })
found_in in_reads (Err e) = Refused (number e)

abbrev pub found_of : Result code.Part Refusal → Found
found_of (Ok (Reference start)) = At (record { in_reads = false; start = start })
found_of (Ok (Reads start)) = At (record { in_reads = true; start = start })
found_of (Err e) = Refused (number e)

-- what a `?` returns where it passes a refusal up
pub found-passed : (r : Result code.Part Refusal) (e : Refusal) → IsErrAnd r (λ d. d ≡ e) → found_of r ≡ Refused (number e)
found-passed r e h = let p = err_from_is_err_and r h in rw (p.1, p.2)

-- the part at a place of a sequence of `size` bytes that starts at `start`, or 13 where k + 1 bytes do not fit it
unfoldable pub fitted : ℕ → Bool → ℕ → ℕ → ℕ → Found
fitted k in_reads start size place =
    elim (leb (place + suc k) size) [ true ↦ At (record { in_reads = in_reads; start = start + place }) | false ↦ Refused 13 ]

-- "0 the reference, else the read, from 1": whether it is a read, and where it starts in its slice
abbrev pub is_read : ℕ → Bool
is_read zero = false
is_read (suc s) = true

abbrev pub start_in : List ℕ → ℕ → ℕ
start_in ends zero = 0
start_in ends (suc s) = start_of ends s

-- the slice of which a part is
abbrev pub lent : List ℕ → List ℕ → Bool → List ℕ
lent reference bases true = bases
lent reference bases false = reference

-- what is answered beside the outcome's number n
abbrev pub found_at : List ℕ → Origin → ℕ → Found
found_at ends o zero = At (record { in_reads = is_read o.sequence; start = start_in ends o.sequence + o.place })
found_at ends o (suc n) = Refused (suc n)

abbrev pub bytes_of : ℕ → List ℕ → List ℕ → Found → List ℕ
bytes_of k reference bases (At p) = take (suc k) (drop p.start (lent reference bases p.in_reads))
bytes_of k reference bases (Refused n) = []

-- a part lies inside its slice, and k is within its limit
abbrev pub Inside : ℕ → List ℕ → List ℕ → Found → Type 0
Inside k reference bases (At p) = (k ≤ 128) × (p.start + suc k ≤ length (lent reference bases p.in_reads))
Inside k reference bases (Refused n) = Unit {0}

-- an answer and the outcome that it stands for
pub record Tells (k : ℕ) (reference ends bases : List ℕ) (o : Origin) (call : OriginOutcome) (r : Found) : Type 0 where
  pub is : r ≡ found_at ends o call.refusal
  pub bytes : bytes_of k reference bases r ≡ call.bytes
  pub inside : Inside k reference bases r

-- the contract of find_origin
abbrev pub Located : ℕ → List ℕ → List ℕ → List ℕ → Origin → Found → Type 0
Located k reference ends bases o r = Tells k reference ends bases o (origin_call k reference ends bases o) r

-- ---- the exported call

-- 0 for the reference, 1 for the read bases
abbrev pub slice_of : ℕ → ℕ
slice_of zero = 0
slice_of (suc s) = 1

abbrev pub lent_by : List ℕ → List ℕ → ℕ → List ℕ
lent_by reference bases zero = reference
lent_by reference bases (suc n) = bases

-- every field beside the outcome's number n; "A refused answer holds 0 in every other field."
abbrev pub answered : ℕ → List ℕ → Origin → ℕ → OriginAnswer
answered k ends o zero = record { refusal = 0; in_reads = slice_of o.sequence; start = start_in ends o.sequence + o.place; length = suc k }
answered k ends o (suc n) = record { refusal = suc n; in_reads = 0; start = 0; length = 0 }

-- an answer that is refused with the number n
abbrev pub refused_part : ℕ → OriginAnswer
refused_part n = record { refusal = n; in_reads = 0; start = 0; length = 0 }

-- an exported answer and the outcome that it stands for
pub record Names (k : ℕ) (reference ends bases : List ℕ) (o : Origin) (call : OriginOutcome) (r : OriginAnswer) : Type 0 where
  pub refusal : r.refusal ≡ call.refusal
  pub bytes : take r.length (drop r.start (lent_by reference bases r.in_reads)) ≡ call.bytes
  pub fields : r ≡ answered k ends o call.refusal
