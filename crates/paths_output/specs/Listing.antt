-- An accepted list as columns of numbers: its lines, and how long they are.
use Rattle.std.specs.Prelude.{◌≡◌, not, T, drop, Float}
use Rattle.std.proofs.Common.{refl, sym, ◌∙◌, mul-le-mul, suc-mul, List, [], ◌∷◌, ◌++◌, append-nil, ℕ, zero, suc, ◌+◌, ◌-◌, ◌*◌, ◌<◌, ◌≤◌, arith, length, get_or, length-append, length-drop, length-take-le}
use Rattle.std.specs.Float.{nan}
use Rattle.std.specs.Float.Ieee.{is_nan}
use Rattle.definition.specs.Listing.{Row, listed}
use Rattle.definition.specs.Text.{path_line, path_lines, first_line, printed_of}
use Rattle.paths_output.specs.Written.{Wrote, wrote_then, Begun, begin, piece-room, piece-done}
use Rattle.text_form.specs.Parts.{part}
use Rattle.paths_output.specs.Lines.{first-most, path-most}

-- what row i must have: a place in every column, a score that is a number, and bases that lie within theirs
pub record RowFits (scores : List Float) (closings edges bases : List ℕ) (k i : ℕ) : Type 0 where
  pub score : T (not (is_nan (get_or scores i nan)))
  pub scored : i < length scores
  pub closed : i < length closings
  pub edged : i < length edges
  pub edges_most : get_or edges i 0 ≤ 128
  pub k-most : k ≤ 128
  pub i-most : i < 8
  pub inside : i * (k + 128) + (k + 128) ≤ length bases

pub record Columns (scores : List Float) (closings edges bases : List ℕ) (k paths : ℕ) : Type 0 where
  pub score : (i : ℕ) → i < paths → T (not (is_nan (get_or scores i nan)))
  pub scored : paths ≤ length scores
  pub closed : paths ≤ length closings
  pub edged : paths ≤ length edges
  pub edges_most : (i : ℕ) → i < paths → get_or edges i 0 ≤ 128
  pub k-most : k ≤ 128
  pub paths-most : paths ≤ 8
  pub inside : paths * (k + 128) ≤ length bases

module _ (scores : List Float) (closings edges bases : List ℕ) (k : ℕ) where
  -- the line of row i
  unfoldable pub line_at : ℕ → List ℕ
  line_at i =
      path_line (i + 1) (get_or scores i nan) (get_or closings i 0) (get_or edges i 0)
      (part (i * (k + 128)) (i * (k + 128) + (k + get_or edges i 0)) bases)

  -- the lines of n rows from row i on
  unfoldable pub lines_from : ℕ → ℕ → List ℕ
  lines_from i zero = []
  lines_from i (suc n) = line_at i ++ lines_from (i + 1) n

  pub lines_next : (i n : ℕ) → i < n → lines_from i (n - i) ≡ line_at i ++ lines_from (i + 1) (n - (i + 1))
  unfolding lines_from
  lines_next i n h = let e : n - i ≡ suc (n - (i + 1)) = omega arith in rw e

  pub lines_end : (i n : ℕ) → n ≤ i → lines_from i (n - i) ≡ []
  unfolding lines_from
  lines_end i n h = let e : n - i ≡ 0 = omega arith in rw e

module _ {scores : List Float} {closings edges bases : List ℕ} {k paths : ℕ} (c : Columns scores closings edges bases k paths) where
  pub row_fits : (i : ℕ) → i < paths → RowFits scores closings edges bases k i
  row_fits i h =
      let a = c.inside in
      let m : (i + 1) * (k + 128) ≤ paths * (k + 128) = mul-le-mul (omega arith) (omega arith) in
      let x : (i + 1) * (k + 128) ≡ i * (k + 128) + (k + 128) = (let y = suc-mul i (k + 128) in let z : i + 1 ≡ suc i = omega arith in rw z y) in
      record {
        score = c.score i h;
        scored = (let y = c.scored in omega arith);
        closed = (let y = c.closed in omega arith);
        edged = (let y = c.edged in omega arith);
        edges_most = c.edges_most i h;
        k-most = c.k-most;
        i-most = (let y = c.paths-most in omega arith);
        inside = omega arith;
      }

  -- closing numbers are of 32 bits
  module _ (small : (i : ℕ) → get_or closings i 0 < 4294967296) where
    line-most : (i : ℕ) → i < paths → length (line_at scores closings edges bases k i) ≤ 307
    unfolding line_at
    line-most i h =
        let f = row_fits i h in
        let a : ℕ = i * (k + 128) in
        let e : ℕ = get_or edges i 0 in
        let x = f.inside in
        let y = f.edges_most in
        let z = f.k-most in
        let w = f.i-most in
        let d = length-drop a bases in
        let n : (a + (k + e)) - a ≡ k + e = omega arith in
        let l : length (part a (a + (k + e)) bases) ≡ (a + (k + e)) - a = length-take-le ((a + (k + e)) - a) (drop a bases) (omega arith) in
        let m = path-most (i + 1) (get_or scores i nan) (get_or closings i 0) e (part a (a + (k + e)) bases) (omega arith) (small i) (omega arith) in
        omega arith

    lines-most : (n i : ℕ) → i + n ≤ paths → length (lines_from scores closings edges bases k i n) ≤ n * 307
    unfolding lines_from
    lines-most zero i h = omega arith
    lines-most (suc n) i h =
        let a = length-append (line_at scores closings edges bases k i) (lines_from scores closings edges bases k (i + 1) n) in
        let b = line-most i (omega arith) in
        let d = lines-most n (i + 1) (omega arith) in
        omega arith

    -- all that is printed has room in 2,491 bytes
    pub list-most : (pushes : ℕ) → pushes < 4294967296 → length (first_line paths pushes ++ lines_from scores closings edges bases k 0 paths) ≤ 2491
    list-most pushes h =
        let p = c.paths-most in
        let a = length-append (first_line paths pushes) (lines_from scores closings edges bases k 0 paths) in
        let b = first-most paths pushes (omega arith) h in
        let d = lines-most paths 0 (omega arith) in
        omega arith

-- i lines are written behind place `from`
pub record Listing (scores : List Float) (closings edges bases : List ℕ) (k paths : ℕ) (old now : List ℕ) (from at i : ℕ) : Type 0 where
  pub begun : Begun old now from at (lines_from scores closings edges bases k 0 paths) (lines_from scores closings edges bases k i (paths - i))
  pub inside : i ≤ paths

module _ (scores : List Float) (closings edges bases : List ℕ) (k paths : ℕ) where
  abbrev lines : List ℕ
  lines = lines_from scores closings edges bases k 0 paths

  -- the first line leaves room for the others
  pub list-start : (pushes : ℕ) {old now : List ℕ} {at : ℕ} → length (first_line paths pushes ++ lines) ≤ length old → Wrote old now 0 (first_line paths pushes) at
      → length now ≡ length old → Listing scores closings edges bases k paths now now at at 0
  list-start pushes {old} {now} {at} h w e =
      let z : paths - 0 ≡ paths = omega arith in
      let a = length-append (first_line paths pushes) lines in
      let b = w.next in
      record { begun = rw z (begin now at lines (omega arith)); inside = omega arith }

  module _ {old now : List ℕ} {from at i : ℕ} (l : Listing scores closings edges bases k paths old now from at i) where
    next : i < paths → Begun old now from at lines (line_at scores closings edges bases k i ++ lines_from scores closings edges bases k (i + 1) (paths - (i + 1)))
    next h = let e = lines_next scores closings edges bases k i paths h in rw e at l.begun

    pub list-room : i < paths → at + length (line_at scores closings edges bases k i) ≤ length now
    list-room h = piece-room (line_at scores closings edges bases k i) (lines_from scores closings edges bases k (i + 1) (paths - (i + 1))) (next h)

    pub list-next : i < paths → {new : List ℕ} {r : ℕ} → Wrote now new at (line_at scores closings edges bases k i) r → length new ≡ length now
        → Listing scores closings edges bases k paths old new from r (i + 1)
    list-next h w e =
        record {
          begun = piece-done (line_at scores closings edges bases k i) (lines_from scores closings edges bases k (i + 1) (paths - (i + 1))) (next h) w e;
          inside = omega arith;
        }

    -- behind the first line
    pub list-end : (pushes : ℕ) {before : List ℕ} → paths ≤ i → length (first_line paths pushes ++ lines) ≤ length before → Wrote before old 0 (first_line paths pushes) from
        → Wrote before now 0 (first_line paths pushes ++ lines) at
    list-end pushes h m w =
        let e = lines_end scores closings edges bases k i paths h in
        let b : Begun old now from at lines [] = rw e at l.begun in
        let f : b.done ≡ lines = sym (append-nil b.done) ∙ b.whole in
        let v : Wrote old now from lines at = rw (← f) b.wrote in
        let a = length-append (first_line paths pushes) lines in
        wrote_then (omega arith) w v

-- ---- the lines of the definition

-- the columns hold the rows rs from row i on
pub record Hold (scores : List Float) (closings edges bases : List ℕ) (k i : ℕ) (r : Row Float) : Type 0 where
  pub score : get_or scores i nan ≡ r.score
  pub closing : get_or closings i 0 ≡ r.closing
  pub edge_count : get_or edges i 0 ≡ r.edges
  pub spelled : part (i * (k + 128)) (i * (k + 128) + (k + get_or edges i 0)) bases ≡ r.bases

module _ (scores : List Float) (closings edges bases : List ℕ) (k : ℕ) where
  pub data Held : ℕ → List (Row Float) → Type 0 where
    none_left : {i : ℕ} → Held i []
    one_more : {i : ℕ} {r : Row Float} {rs : List (Row Float)} → Hold scores closings edges bases k i r → Held (i + 1) rs → Held i (r ∷ rs)

  lines_are : (i : ℕ) (rs : List (Row Float)) → Held i rs → lines_from scores closings edges bases k i (length rs) ≡ path_lines (i + 1) rs
  unfolding lines_from path_lines line_at
  lines_are i [] h = refl
  lines_are i (r ∷ rs) (one_more x h) =
      let e : suc (i + 1) ≡ (i + 1) + 1 = omega arith in
      rw (x.score, x.spelled, x.closing, x.edge_count, lines_are (i + 1) rs h, e)

  -- what `write_list` writes is what the definition prints of an accepted list
  pub list-prints : (rs : List (Row Float)) (pushes longest : ℕ) → Held 0 rs
      → first_line (length rs) pushes ++ lines_from scores closings edges bases k 0 (length rs) ≡ printed_of (listed rs pushes longest)
  unfolding printed_of
  list-prints rs pushes longest h = let e = lines_are 0 rs h in rw e
