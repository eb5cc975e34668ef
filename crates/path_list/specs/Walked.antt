-- The edges of the closed paths, one row of `most` places for each.
use Rattle.std.specs.Prelude.{◌≡◌, List, ℕ, ◌+◌, ◌*◌, ◌<◌, ◌≤◌, length, get_or, take, drop, Float}
use Rattle.std.proofs.Common.{ap, ◌∙◌, arith}
use Rattle.std.proofs.lemmas.List.Edits.{sets}
use Rattle.path_store.specs.Cells.{count_of, Inside}
use Rattle.path_edges.specs.Path.{Table, edges, inside}
use Rattle.path_list.specs.Laid.{Laid, laid-sets, laid-read, row_low}

-- the record of the closed path i
abbrev pub record_at : List ℕ → ℕ → ℕ
record_at closed i = get_or closed i 0

-- ... and its edges
abbrev pub walk_of : List ℕ → List ℕ → List ℕ → List ℕ → ℕ → List ℕ
walk_of index targets t closed i = edges index targets t (record_at closed i)

-- the closed paths are among the n records, none longer than its row; `room` is the length of the slice of rows
pub record Walkable (index targets t : List ℕ) (sc : List Float) (closed : List ℕ) (count most room : ℕ) : Type 0 where
  pub records : ℕ
  pub table : Table index targets t sc records
  pub known : (i : ℕ) → i < count → record_at closed i < records
  pub short : (i : ℕ) → i < count → count_of t (record_at closed i) ≤ most
  pub closed-room : count ≤ length closed
  pub walks-room : count * most ≤ room

abbrev pub Walked : List ℕ → List ℕ → List ℕ → List ℕ → ℕ → ℕ → List ℕ → List ℕ → Type 0
Walked index targets t closed most i old walks = Laid most (walk_of index targets t closed) old i walks

module _ (index targets t : List ℕ) (sc : List Float) (closed : List ℕ) (count most room : ℕ) (W : Walkable index targets t sc closed count most room) where
  module _ (i : ℕ) (h : i < count) where
    -- the row ends within the slice
    pub row_in : i * most + most ≤ room
    row_in = let a = row_low i count most h in let b = W.walks-room in omega arith

    pub walk-length : count_of t (record_at closed i) ≡ length (walk_of index targets t closed i)
    walk-length = (W.table.rows (record_at closed i) (W.known i h)).count

    pub walk-short : length (walk_of index targets t closed i) ≤ most
    walk-short = let a = walk-length in let b = W.short i h in omega arith

    pub walk_inside : Inside t sc (record_at closed i)
    walk_inside = inside index targets t sc W.records W.table (record_at closed i) (W.known i h)

  pub walked_next : (i : ℕ) (old walks walks' : List ℕ) → i < count → length old ≡ room → Walked index targets t closed most i old walks
      → walks' ≡ sets walks (i * most) (walk_of index targets t closed i) → Walked index targets t closed most (i + 1) old walks'
  walked_next i old walks walks' h e L s =
      laid-sets most (walk_of index targets t closed) old i walks walks' L (let a = row_in i h in let b = walk-short i h in omega arith) s

  -- the edges of the closed path i are read from its row
  pub walked-read : (old walks : List ℕ) → length old ≡ room → Walked index targets t closed most count old walks → (i : ℕ) → i < count
      → take (count_of t (record_at closed i)) (drop (i * most) walks) ≡ walk_of index targets t closed i
  walked-read old walks e L i h =
      ap (λ n. take n (drop (i * most) walks)) (walk-length i h)
      ∙ laid-read most (walk_of index targets t closed) old count i walks L h (λ j k. walk-short j k) (let a = W.walks-room in omega arith)
