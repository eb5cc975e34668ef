-- Demand 3 in words: what is promised of every row of an accepted list. The theorems are in crate theorems, Demand.
use Rattle.std.specs.Prelude.{◌≡◌, ◌⊎◌, ℕ, suc, ◌+◌, ◌-◌, ◌≤◌, ◌<◌, true, List, [], ◌∷◌, length, take, drop, get_or, Float}
use Rattle.std.proofs.Math.Option.{some}
use Rattle.std.specs.Float.Ieee.{lt}
use Rattle.laws.specs.ListLaws.{All}
use Rattle.definition.specs.Limits.{Sample, Input, is_base}
use Rattle.definition.specs.Threading.{Origin}
use Rattle.definition.specs.Listing.{Row}
use Rattle.definition.specs.Origins.{read_at}
use Rattle.definition.specs.Calls.{origin_call}

-- ---- where an edge's bases come from

-- "A read's byte is usable if it is A, C, G, T or N and its quality is not below the minimum": the byte at place p of a read.
abbrev pub UsableAt : Sample → List ℕ → List ℕ → ℕ → Type 0
UsableAt s read qualities p = (is_base (get_or read p 0) ≡ true) × (s.quality ≤ get_or qualities p 0)

-- "inside one usable stretch of the read named": the k + 1 places from the origin's on lie between `first` and `past`, a maximal run of usable bytes.
pub record InOneStretch (s : Sample) (o : Origin) : Type 0 where
  pub number : ℕ
  pub named : o.sequence ≡ suc number
  pub read : List ℕ
  pub qualities : List ℕ
  pub is_read : read_at number 0 s.ends s.bases ≡ some read
  pub is-qualities : read_at number 0 s.ends s.qualities ≡ some qualities
  pub first : ℕ
  pub past : ℕ
  pub in-read : past ≤ length read
  pub usable : (p : ℕ) → first ≤ p → p < past → UsableAt s read qualities p
  pub starts : (first ≡ 0) ⊎ ((p : ℕ) × (first ≡ suc p) × (UsableAt s read qualities p → ⊥))
  pub stops : (past ≡ length read) ⊎ (UsableAt s read qualities past → ⊥)
  pub from : first ≤ o.place
  pub upto : o.place + suc s.k ≤ past

-- the k + 1 places from the origin's on lie in the reference
pub record InReference (s : Sample) (o : Origin) : Type 0 where
  pub named : o.sequence ≡ 0
  pub upto : o.place + suc s.k ≤ length s.reference

-- "every edge's k+1 bases are, byte for byte, those at its origin": the origin call hands back, without refusal, the k + 1 bases from place j on.
abbrev pub SpelledAt : Sample → Origin → List ℕ → ℕ → Type 0
SpelledAt s o bases j = origin_call s.k s.reference s.ends s.bases o ≡ record { refusal = 0; bytes = take (suc s.k) (drop j bases) }

-- ---- a row

-- "Every path of an accepted list begins with the reference's first k bases and ends with its last k"; "A path of e edges has k+e bases; its edge i,
-- from 0, spells those from i to i+k".
pub record Spelled {S : Type 0} (s : Sample) (r : Row S) : Type 0 where
  pub bases-fit : length r.bases ≡ s.k + r.edges
  pub origins-fit : length r.origins ≡ r.edges
  pub begins : take s.k r.bases ≡ take s.k s.reference
  pub finishes : drop r.edges r.bases ≡ drop (length s.reference - s.k) s.reference
  pub spells : (none : Origin) (j : ℕ) → j < r.edges → SpelledAt s (get_or r.origins j none) r.bases j
  pub lies : (none : Origin) (j : ℕ) → j < r.edges → InReference s (get_or r.origins j none) ⊎ InOneStretch s (get_or r.origins j none)

-- ---- the list

-- by the comparison of f64 that the code makes
abbrev pub Outscores : Row Float → Row Float → Type 0
Outscores a b = lt b.score a.score ≡ true

-- "no path outscores the one above it", nor any other above
abbrev pub NoneOutscores : List (Row Float) → Type 0
NoneOutscores [] = Unit {0}
NoneOutscores (r ∷ rs) = All (λ q. Outscores q r → ⊥) rs × NoneOutscores rs

-- "All else is equal between two runs when everything handed in agrees, save perhaps the paths asked, the output slices and the workspace."
pub record AllElseEqual (a b : Input) : Type 0 where
  pub sample : a.sample ≡ b.sample
  pub threshold : a.threshold ≡ b.threshold
  pub recovery : a.recovery ≡ b.recovery
  pub graph_maxima : a.graph_maxima ≡ b.graph_maxima
  pub search_maxima : a.search_maxima ≡ b.search_maxima
  pub column : a.column ≡ b.column
