-- What the definition writes into the output slices is what a caller reads: `read_back`. Assumes nothing.
use Rattle.std.specs.Prelude.{◌≡◌, false, get_or, Float}
use Rattle.std.proofs.Math.Path.{refl, ap}
use Rattle.std.proofs.Common.{sym, ◌∙◌, mul-le-mul_right, drop_at}
use Prim.Native.Nat.{ℕ, zero, suc, ◌+◌, ◌*◌, ◌≤◌, ◌<◌}
use native.Mathlib.Omega.{arith}
use mathlib.Core.List.{List, [], ◌∷◌, ◌++◌, append_assoc, map}
use Rattle.std.proofs.Math.ListN.{length, take, drop, length-map, get_or-map, get_or-append}
use Rattle.std.proofs.lemmas.List.Edits.{sets-eq}
use Rattle.std.proofs.Math.Seq.{length-sets, take-append-le, take-take, take-append_seam, length-take-le}
use Rattle.std.specs.Float.{nan}
use Rattle.laws.specs.ListLaws.{All, nil, cons, all_map, all-mono, part-part}
use Rattle.definition.specs.Limits.{Input, bases_stride}
use Rattle.definition.specs.Threading.{Origin}
use Rattle.definition.specs.Listing.{Row}
use Rattle.definition.specs.Calls.{written_at, written_rows, path_row, ListSlices, listed_slices}
use Rattle.promises.specs.Reading.{no_record, origins_of, row_beside, read_row, read_from, read_rows}

-- ---- rows that lie one behind the other

module _ {A : Type 0} where
  length-written : (p : ℕ) (xs old : List A) → p + length xs ≤ length old → length (written_at p xs old) ≡ length old
  unfolding written_at
  length-written p xs old h =
      ap (λ (l : List A). length l) (sym (sets-eq xs old p h ∙ append_assoc (take p old) xs (drop (p + length xs) old))) ∙ length-sets old p xs

  -- what lies before the place written at stays
  written-before : (n p : ℕ) (xs old : List A) → n ≤ p → p ≤ length old → take n (written_at p xs old) ≡ take n old
  unfolding written_at
  written-before n p xs old h k =
      let z : length (take p old) ≡ p = length-take-le p old k in
      take-append-le n (take p old) (xs ++ drop (p + length xs) old) (omega arith) ∙ take-take n p old h

  -- what is written is read
  written-here : (p : ℕ) (xs old : List A) → p ≤ length old → take (length xs) (drop p (written_at p xs old)) ≡ xs
  unfolding written_at
  written-here p xs old k =
      ap (take (length xs)) (drop_at (take p old) (xs ++ drop (p + length xs) old) p (length-take-le p old k))
      ∙ take-append_seam xs (drop (p + length xs) old)

  module _ (stride : ℕ) where
    -- what lies before the first row stays
    rows_before : (xs : List (List A)) (n p : ℕ) (old : List A) → All (λ x. length x ≤ stride) xs → p + length xs * stride ≤ length old → n ≤ p
        → take n (written_rows stride p xs old) ≡ take n old
    unfolding written_rows
    rows_before [] n p old a h l = refl
    rows_before (x ∷ xs) n p old (cons s a) h l =
        let m : suc (length xs) * stride ≡ length xs * stride + stride = omega arith in
        let e = length-written p x old (omega arith) in
        rows_before xs n (p + stride) (written_at p x old) a (omega arith) (omega arith) ∙ written-before n p x old l (omega arith)

    -- each row is read where it was written
    pub row-at : (xs : List (List A)) (none : List A) (j p : ℕ) (old : List A) → All (λ x. length x ≤ stride) xs → p + length xs * stride ≤ length old
        → j < length xs → take (length (get_or xs j none)) (drop (p + j * stride) (written_rows stride p xs old)) ≡ get_or xs j none
    unfolding written_rows
    row-at [] none j p old a h l = absurd (omega arith)
    row-at (x ∷ xs) none zero p old (cons s a) h l =
        let m : suc (length xs) * stride ≡ length xs * stride + stride = omega arith in
        let z : p + 0 * stride ≡ p = omega arith in
        let e = length-written p x old (omega arith) in
        let new = written_rows stride (p + stride) xs (written_at p x old) in
        rw z
        (sym (part-part (length x) (p + stride) p new (omega arith))
        ∙ ap (λ (l : List A). take (length x) (drop p l)) (rows_before xs (p + stride) (p + stride) (written_at p x old) a (omega arith) (omega arith))
        ∙ part-part (length x) (p + stride) p (written_at p x old) (omega arith)
        ∙ written-here p x old (omega arith))
    row-at (x ∷ xs) none (suc j) p old (cons s a) h l =
        let m : suc (length xs) * stride ≡ length xs * stride + stride = omega arith in
        let z : p + suc j * stride ≡ (p + stride) + j * stride = omega arith in
        let e = length-written p x old (omega arith) in
        rw z (row-at xs none j (p + stride) (written_at p x old) a (omega arith) (omega arith))

  -- the same rows, where they are made of other things
  made_at : {B : Type 0} (f : B → List A) (ys : List B) (none : B) (stride j : ℕ) (old : List A) → All (λ y. length (f y) ≤ stride) ys
      → length ys * stride ≤ length old → j < length ys
      → take (length (f (get_or ys j none))) (drop (j * stride) (written_rows stride 0 (map f ys) old)) ≡ f (get_or ys j none)
  made_at f ys none stride j old a h l =
      let m = length-map ys f in
      let n : length (map f ys) * stride ≡ length ys * stride = ap (λ (k : ℕ). k * stride) m in
      let e : get_or (map f ys) j (f none) ≡ f (get_or ys j none) = get_or-map f ys j none in
      let z : 0 + j * stride ≡ j * stride = omega arith in
      rw (← e, ← z) (row-at stride (map f ys) (f none) j 0 old (all_map f (λ y s. s) a) (omega arith) (omega arith))

-- ---- the slices of an accepted list

-- "A path of e edges has k+e bases", an origin for each edge, and no more edges than the maximum
pub record Fits (i : Input) (r : Row Float) : Type 0 where
  pub bases : length r.bases ≡ i.sample.k + r.edges
  pub origins : length r.origins ≡ r.edges
  pub edges : r.edges ≤ i.search_maxima.path_edges

-- the output slices are as long as told for n rows
pub record LongFor (i : Input) (n : ℕ) (o : ListSlices) : Type 0 where
  pub rows : n ≤ length o.rows
  pub bases : n * (i.sample.k + i.search_maxima.path_edges) ≤ length o.bases
  pub sequences : n * i.search_maxima.path_edges ≤ length o.sequences
  pub places : n * i.search_maxima.path_edges ≤ length o.places

fewer-rows : (i : Input) (n m : ℕ) (o : ListSlices) → n ≤ m → LongFor i m o → LongFor i n o
fewer-rows i n m o h l =
    let s = i.sample.k + i.search_maxima.path_edges in
    let p = i.search_maxima.path_edges in
    let a : n * s ≤ m * s = mul-le-mul_right s h in
    let b : n * p ≤ m * p = mul-le-mul_right p h in
    let c = l.rows in
    let d = l.bases in
    let e = l.sequences in
    let f = l.places in
    record { rows = omega arith; bases = omega arith; sequences = omega arith; places = omega arith }

-- two columns of origins, side by side again
origins-back : (os : List Origin) → origins_of (map (λ (o : Origin). o.sequence) os) (map (λ (o : Origin). o.place) os) ≡ os
unfolding origins_of
origins-back [] = refl
origins-back (o ∷ os) = ap (λ (l : List Origin). o ∷ l) (origins-back os)

abbrev no_row : Row Float
no_row = record { score = nan; closing = 0; edges = 0; is_ref = false; bases = []; origins = [] }

all-at : {A : Type 0} {P : A → Type 0} {xs : List A} (none : A) (j : ℕ) → All P xs → j < length xs → P (get_or xs j none)
all-at none j nil l = absurd (omega arith)
all-at none zero (cons p a) l = p
all-at none (suc j) (cons p a) l = all-at none j a (omega arith)

module _ (i : Input) (rs : List (Row Float)) (old : ListSlices) (fit : All (Fits i) rs) (long : LongFor i (length rs) old) where
  record-at : (j : ℕ) → j < length rs → get_or (listed_slices i rs old).rows j no_record ≡ path_row (get_or rs j no_row)
  unfolding listed_slices written_at path_row
  record-at j l =
      let m = length-map rs path_row in
      get_or-append (map path_row rs) (drop (0 + length (map path_row rs)) old.rows) no_record j (omega arith) ∙ get_or-map path_row rs j no_row

  module _ (j : ℕ) (l : j < length rs) where
    bases-at : take (i.sample.k + (get_or rs j no_row).edges) (drop (j * (i.sample.k + i.search_maxima.path_edges)) (listed_slices i rs old).bases)
        ≡ (get_or rs j no_row).bases
    unfolding listed_slices bases_stride
    bases-at =
        let s = i.sample.k + i.search_maxima.path_edges in
        let short : All (λ r. length r.bases ≤ s) rs = all-mono (λ r h. (let a = h.bases in let b = h.edges in omega arith)) fit in
        ap (λ (n : ℕ). take n (drop (j * s) (listed_slices i rs old).bases)) (sym (all-at no_row j fit l).bases)
        ∙ made_at (λ (r : Row Float). r.bases) rs no_row s j old.bases short long.bases l

    -- a number of each origin, in a slice of its own
    column-at : (f : Origin → ℕ) (o : List ℕ) → length rs * i.search_maxima.path_edges ≤ length o
        → take (get_or rs j no_row).edges
        (drop (j * i.search_maxima.path_edges) (written_rows i.search_maxima.path_edges 0 (map (λ (r : Row Float). map f r.origins) rs) o))
        ≡ map f (get_or rs j no_row).origins
    column-at f o h =
        let s = i.search_maxima.path_edges in
        let g : Row Float → List ℕ = λ r. map f r.origins in
        let short : All (λ r. length (g r) ≤ s) rs = all-mono (λ r h. (let a = h.origins in let b = h.edges in let c = length-map r.origins f in omega arith)) fit in
        let r : Row Float = get_or rs j no_row in
        let e : r.edges ≡ length (map f r.origins) = sym (length-map r.origins f ∙ (all-at no_row j fit l).origins) in
        ap (λ (n : ℕ). take n (drop (j * s) (written_rows s 0 (map g rs) o))) e ∙ made_at g rs no_row s j o short h l

    origins-at : origins_of (take (get_or rs j no_row).edges (drop (j * i.search_maxima.path_edges) (listed_slices i rs old).sequences))
        (take (get_or rs j no_row).edges (drop (j * i.search_maxima.path_edges) (listed_slices i rs old).places))
        ≡ (get_or rs j no_row).origins
    unfolding listed_slices
    origins-at =
        rw (column-at (λ (o : Origin). o.sequence) old.sequences long.sequences, column-at (λ (o : Origin). o.place) old.places long.places)
        (origins-back (get_or rs j no_row).origins)

    beside : row_beside i (listed_slices i rs old) j (path_row (get_or rs j no_row)) ≡ get_or rs j no_row
    unfolding row_beside path_row
    beside =
        λ t.
        record {
          score = (get_or rs j no_row).score;
          closing = (get_or rs j no_row).closing;
          edges = (get_or rs j no_row).edges;
          is_ref = (get_or rs j no_row).is_ref;
          bases = bases-at t;
          origins = origins-at t;
        }

    row_back : read_row i (listed_slices i rs old) j ≡ get_or rs j no_row
    unfolding read_row
    row_back = ap (row_beside i (listed_slices i rs old) j) (record-at j l) ∙ beside

-- rows that are read one by one
from_back : (i : Input) (o : ListSlices) (rs : List (Row Float)) (r : ℕ) → ((j : ℕ) → j < length rs → read_row i o (r + j) ≡ get_or rs j no_row)
    → read_from i o r (length rs) ≡ rs
unfolding read_from
from_back i o [] r h = refl
from_back i o (x ∷ rs) r h =
    let z : r + 0 ≡ r = omega arith in
    let first : read_row i o r ≡ x = ap (read_row i o) (sym z) ∙ h 0 (omega arith) in
    let rest : read_from i o (suc r) (length rs) ≡ rs =
    from_back i o rs (suc r) (λ j l. (let y : suc r + j ≡ r + suc j = omega arith in ap (read_row i o) y ∙ h (suc j) (omega arith))) in
    rw (first, rest)

-- The rows that the definition writes are the rows that a caller reads, whatever the slices held.
pub read_back : (i : Input) (rs : List (Row Float)) (old : ListSlices) → All (Fits i) rs → length rs ≤ i.asked → LongFor i i.asked old
    → read_rows i (listed_slices i rs old) (length rs) ≡ rs
unfolding read_rows
read_back i rs old fit few long =
    from_back i (listed_slices i rs old) rs 0
    (λ j l. (let z : 0 + j ≡ j = omega arith in
    ap (read_row i (listed_slices i rs old)) z ∙ row_back i rs old fit (fewer-rows i (length rs) i.asked old few long) j l))
