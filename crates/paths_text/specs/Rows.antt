-- The rows of an accepted list, read back from the columns that the call for the list has written: what `write_list` prints of them is what the definition
-- prints.
use Rattle.std.specs.Prelude.{◌≡◌, take, drop, Float}
use Rattle.std.proofs.Common.{refl, sym, ap, ◌∙◌, List, [], ◌∷◌, map, ℕ, suc, ◌+◌, ◌*◌, ◌<◌, ◌≤◌, suc-mul, arith, length, get_or}
use Rattle.std.proofs.Math.ListN.{length-map, get_or-append}
use Rattle.std.proofs.Math.Seq.{slice}
use Rattle.std.specs.Float.{nan}
use Rattle.laws.specs.ListLaws.{All, nil, cons}
use Rattle.definition.specs.Listing.{Row}
use Rattle.definition.specs.Calls.{written_at, written_rows}
use Rattle.paths_output.specs.Written.{length-written}
use Rattle.text_form.specs.Parts.{part_slice}
use Rattle.paths_text.specs.Moves.{take-written, slice-here}
use Rattle.paths_output.specs.Listing.{Held, none_left, one_more}

-- ---- rows of bases, each a stride behind the one before

module _ (S : ℕ) where
  -- what stands before the first row is as it was
  rows_before : (xs : List (List ℕ)) (q : ℕ) (T : List ℕ) (n : ℕ) → All (λ x. length x ≤ S) xs → q + length xs * S ≤ length T → n ≤ q
      → take n (written_rows S q xs T) ≡ take n T
  unfolding written_rows
  rows_before [] q T n a h k = refl
  rows_before (x ∷ xs) q T n (cons l a) h k =
      let m = suc-mul (length xs) S in
      let e = length-written q x T (omega arith) in
      rows_before xs (q + S) (written_at q x T) n a (omega arith) (omega arith) ∙ take-written q x T (omega arith) n k

  -- the first row stands at its place
  row_first : (x : List ℕ) (xs : List (List ℕ)) (q : ℕ) (T : List ℕ) → length x ≤ S → All (λ x. length x ≤ S) xs → q + suc (length xs) * S ≤ length T
      → slice q (q + length x) (written_rows S (q + S) xs (written_at q x T)) ≡ x
  row_first x xs q T l a h =
      let m = suc-mul (length xs) S in
      let e = length-written q x T (omega arith) in
      ap (drop q) (rows_before xs (q + S) (written_at q x T) (q + length x) a (omega arith) (omega arith))
      ∙ slice-here q x T (omega arith)

-- ---- all columns

-- a path of e edges has k + e bases, and no more edges than the maximum
pub record Sized (k : ℕ) (r : Row Float) : Type 0 where
  pub spelled : length r.bases ≡ k + r.edges
  pub short : r.edges ≤ 128

abbrev pub scores_of : List (Row Float) → List Float
scores_of rs = map (λ (r : Row Float). r.score) rs

abbrev pub closings_of : List (Row Float) → List ℕ
closings_of rs = map (λ (r : Row Float). r.closing) rs

abbrev pub edges_of : List (Row Float) → List ℕ
edges_of rs = map (λ (r : Row Float). r.edges) rs

bases_of : List (Row Float) → List (List ℕ)
bases_of rs = map (λ (r : Row Float). r.bases) rs

-- the columns from place i on begin with those of the rows
record Aligned (scores : List Float) (closings edges : List ℕ) (i : ℕ) (rs : List (Row Float)) : Type 0 where
  scored : (j : ℕ) → j < length rs → get_or scores (i + j) nan ≡ get_or (scores_of rs) j nan
  closed : (j : ℕ) → j < length rs → get_or closings (i + j) 0 ≡ get_or (closings_of rs) j 0
  edged : (j : ℕ) → j < length rs → get_or edges (i + j) 0 ≡ get_or (edges_of rs) j 0

module _ (k : ℕ) (scores : List Float) (closings edges : List ℕ) where
  sized-bases : (rs : List (Row Float)) → All (Sized k) rs → All (λ x. length x ≤ k + 128) (bases_of rs)
  unfolding bases_of
  sized-bases [] nil = nil
  sized-bases (r ∷ rs) (cons s a) = cons {x = r.bases} (let x = s.spelled in let y = s.short in omega arith) (sized-bases rs a)

  aligned_next : (i : ℕ) (r : Row Float) (rs : List (Row Float)) → Aligned scores closings edges i (r ∷ rs) → Aligned scores closings edges (i + 1) rs
  aligned_next i r rs f =
      record {
        scored = λ j l. (let y : (i + 1) + j ≡ i + suc j = omega arith in ap (λ (n : ℕ). get_or scores n nan) y ∙ f.scored (suc j) (omega arith));
        closed = λ j l. (let y : (i + 1) + j ≡ i + suc j = omega arith in ap (λ (n : ℕ). get_or closings n 0) y ∙ f.closed (suc j) (omega arith));
        edged = λ j l. (let y : (i + 1) + j ≡ i + suc j = omega arith in ap (λ (n : ℕ). get_or edges n 0) y ∙ f.edged (suc j) (omega arith));
      }

  -- the rows from row i on
  held-from : (rs : List (Row Float)) (i : ℕ) (T B : List ℕ) → All (Sized k) rs → Aligned scores closings edges i rs
      → i * (k + 128) + length rs * (k + 128) ≤ length T → B ≡ written_rows (k + 128) (i * (k + 128)) (bases_of rs) T
      → Held scores closings edges B k i rs
  unfolding written_rows bases_of
  held-from [] i T B a f h e = none_left
  held-from (r ∷ rs) i T B (cons s a) f h e =
      let S : ℕ = k + 128 in
      let z : i + 0 ≡ i = omega arith in
      let edges_are : get_or edges i 0 ≡ r.edges = ap (λ (n : ℕ). get_or edges n 0) (sym z) ∙ f.edged 0 (omega arith) in
      let ml : length (map (λ (r : Row Float). r.bases) rs) ≡ length rs = length-map rs (λ (r : Row Float). r.bases) in
      let m = suc-mul (length rs) S in
      let n = suc-mul i S in
      let w : i + 1 ≡ suc i = omega arith in
      let step : i * S + S ≡ (i + 1) * S = rw w (sym n) in
      let t = s.spelled in
      let u = s.short in
      let v = length-written (i * S) r.bases T (omega arith) in
      let mm : suc (length (map (λ (r : Row Float). r.bases) rs)) * S ≡ suc (length rs) * S = ap (λ (y : ℕ). suc y * S) ml in
      one_more
      (record {
        score = ap (λ (n : ℕ). get_or scores n nan) (sym z) ∙ f.scored 0 (omega arith);
        closing = ap (λ (n : ℕ). get_or closings n 0) (sym z) ∙ f.closed 0 (omega arith);
        edge_count = edges_are;
        spelled =
            part_slice (i * S) (i * S + (k + get_or edges i 0)) B (omega arith)
            ∙ ap (λ (y : ℕ). slice (i * S) (i * S + y) B) (ap (λ (y : ℕ). k + y) edges_are ∙ sym t)
            ∙ ap (slice (i * S) (i * S + length r.bases)) e
            ∙ row_first S r.bases (map (λ (r : Row Float). r.bases) rs) (i * S) T (omega arith) (sized-bases rs a) (omega arith);
      })
      (held-from rs (i + 1) (written_at (i * S) r.bases T) B a
      (aligned_next i r rs f)
      (omega arith)
      (e ∙ ap (λ (q : ℕ). written_rows S q (map (λ (r : Row Float). r.bases) rs) (written_at (i * S) r.bases T)) step))

-- a place of what was written at the front
front_at : {A : Type 0} (xs old : List A) (x : A) (j : ℕ) → j < length xs → get_or (written_at 0 xs old) (0 + j) x ≡ get_or xs j x
unfolding written_at
front_at xs old x j h =
    let e : 0 + j ≡ j = omega arith in
    ap (λ (n : ℕ). get_or (written_at 0 xs old) n x) e ∙ get_or-append xs (drop (0 + length xs) old) x j h

-- the columns of an accepted list, over columns and bases that held anything
pub held-listed : (k : ℕ) (rs : List (Row Float)) (scores : List Float) (closings edges bases : List ℕ) → All (Sized k) rs
    → length rs * (k + 128) ≤ length bases
    → Held (written_at 0 (scores_of rs) scores) (written_at 0 (closings_of rs) closings) (written_at 0 (edges_of rs) edges)
    (written_rows (k + 128) 0 (map (λ (r : Row Float). r.bases) rs) bases) k 0 rs
unfolding bases_of
held-listed k rs scores closings edges bases a l =
    let z : 0 * (k + 128) ≡ 0 = omega arith in
    let m = length-map rs (λ (r : Row Float). r.score) in
    let n = length-map rs (λ (r : Row Float). r.closing) in
    let o = length-map rs (λ (r : Row Float). r.edges) in
    held-from k (written_at 0 (scores_of rs) scores) (written_at 0 (closings_of rs) closings) (written_at 0 (edges_of rs) edges) rs 0 bases
    (written_rows (k + 128) 0 (map (λ (r : Row Float). r.bases) rs) bases) a
    (record {
      scored = λ j i. front_at (scores_of rs) scores nan j (omega arith);
      closed = λ j i. front_at (closings_of rs) closings 0 j (omega arith);
      edged = λ j i. front_at (edges_of rs) edges 0 j (omega arith);
    })
    (omega arith)
    (ap (λ (q : ℕ). written_rows (k + 128) q (map (λ (r : Row Float). r.bases) rs) bases) (sym z))
