-- The rows of the list in the order of the ranks: what the columns hold, and the bases and origins laid out row by row.
use Rattle.std.specs.Prelude.{◌≡◌, refl, ◌⊎◌, ℕ, ◌+◌, ◌-◌, ◌*◌, ◌<◌, ◌≤◌, get_or, set, Float, List, ◌++◌, map}
use Rattle.std.proofs.Common.{sym, subst, ◌∙◌, inl, inr, add-one, arith, length-set, length-drop, length-append, get_or-set_same, get_or-set_other, get_or-append-add, get_or-drop, get_or-take, length-take-le, append_assoc}
use Rattle.std.proofs.Math.Path.{ap}
use Rattle.std.proofs.Math.Decide.{dec_lt}
use Rattle.std.proofs.Math.ListN.{length, take, drop, get_or-append}
use Rattle.std.proofs.lemmas.List.{length-map}
use Rattle.std.proofs.lemmas.List.Edits.{sets}
use Rattle.std.proofs.Math.Seq.{ext_get_or, take_all, paste}
use Rattle.std.specs.Float.{nan}
use Rattle.laws.specs.Rows.{rows, length-rows, get_d_rows}
use Rattle.laws.specs.Sorting.{same_or}
use Rattle.definition.specs.Calls.{written_at}
use Rattle.assembly.specs.Fields.{HasEdge, IsEdgeField, edge_cell, edge_field}
use Rattle.graph_kmers.specs.Paths.{Spells, bases_of, bases-length}
use Rattle.path_store.specs.Cells.{count_of, score_of, Inside}
use Rattle.path_list.specs.Laid.{Laid, row_low, laid_next, laid-sets}
use Rattle.path_list.specs.Walked.{record_at}
use Rattle.path_list.specs.Ranks.{Lists, Ready, count_at, walk_at, ready-spells}

-- `count` ranks, each the number of a closed path
pub record Placed (count : ℕ) (rank : List ℕ) : Type 0 where
  pub room : count ≤ length rank
  pub known : (r : ℕ) → r < count → get_or rank r 0 < count
  pub few : count ≤ 128

-- ... whose records are in the tables
pub record Known (t : List ℕ) (sc : List Float) (closed : List ℕ) (count : ℕ) : Type 0 where
  pub closed-room : count ≤ length closed
  pub inside : (i : ℕ) → i < count → Inside t sc (record_at closed i)

-- ... and their edges, written out
pub record Kept (l : Lists) (count : ℕ) : Type 0 where
  pub records : Known l.t l.sc l.closed count
  pub short : (i : ℕ) → i < count → count_at l i ≤ l.most
  pub walks-room : count * l.most ≤ length l.walks

module _ (l : Lists) (count : ℕ) (K : Kept l count) (i : ℕ) (h : i < count) where
  -- the row of the path i ends within the slice, and its edges within the row
  pub kept-room : (i * l.most ≤ length l.walks) × (i * l.most + count_at l i ≤ length l.walks)
  kept-room = let a = row_low i count l.most h in let b = K.walks-room in let c = K.short i h in (omega arith, omega arith)

  pub kept-length : length (walk_at l i) ≡ count_at l i
  kept-length = length-take-le (count_at l i) (drop (i * l.most) l.walks) (let a = kept-room in let b = length-drop (i * l.most) l.walks in omega arith)

-- ---- the columns

-- the first i places of a column; what is beyond is as it was
pub record Column {A : Type 0} (none : A) (value : ℕ → A) (i : ℕ) (old column : List A) : Type 0 where
  pub at : (r : ℕ) → r < i → get_or column r none ≡ value r
  pub beyond : (r : ℕ) → i ≤ r → get_or column r none ≡ get_or old r none
  pub long : length column ≡ length old

module _ {A : Type 0} (none : A) (value : ℕ → A) where
  pub column-start : (column : List A) → Column none value 0 column column
  column-start column = record { at = λ r h. absurd (omega arith); beyond = λ r h. refl; long = refl }

  pub column-next : (i : ℕ) (old column : List A) (x : A) → Column none value i old column → i < length old → x ≡ value i → Column none value (i + 1) old (set column i x)
  column-next i old column x C h e =
      record {
        at = λ r l. go r (same_or r i (let z = add-one i in omega arith));
        beyond = λ r l. get_or-set_other column i r x none (omega arith) ∙ C.beyond r (omega arith);
        long = length-set column i x ∙ C.long;
      }
    where
      go : (r : ℕ) → (r ≡ i) ⊎ (r < i) → get_or (set column i x) r none ≡ value r
      go r (inl q) = rw q (get_or-set_same column i x none (let z = C.long in omega arith) ∙ e)
      go r (inr k) = get_or-set_other column i r x none (omega arith) ∙ C.at r k

  -- so the rows are written over the front of the column
  pub column-is : (n : ℕ) (old column : List A) → n ≤ length old → Column none value n old column → column ≡ written_at 0 (rows value n) old
  unfolding written_at
  column-is n old column h C =
      ext_get_or none column (rows value n ++ drop (0 + length (rows value n)) old) size (λ r k. each r (dec_lt r n))
    where
      long-rows : length (rows value n) ≡ n
      long-rows = length-rows value n

      size : length column ≡ length (rows value n ++ drop (0 + length (rows value n)) old)
      size =
          let a = length-append (rows value n) (drop (0 + length (rows value n)) old) in
          let b = length-drop (0 + length (rows value n)) old in
          let c = long-rows in
          let d = C.long in
          omega arith

      each : (r : ℕ) → Dec (r < n) → get_or column r none ≡ get_or (rows value n ++ drop (0 + length (rows value n)) old) r none
      each r (yes l) =
          C.at r l
          ∙ sym (get_d_rows value n r none l)
          ∙ sym (get_or-append (rows value n) (drop (0 + length (rows value n)) old) none r (let c = long-rows in omega arith))
      each r (no l) =
          let k = length (rows value n) in
          let e : k + (r - k) ≡ r = (let c = long-rows in omega arith) in
          let d : 0 + k + (r - k) ≡ r = (let c = long-rows in omega arith) in
          let a : get_or (rows value n ++ drop (0 + k) old) r none ≡ get_or (drop (0 + k) old) (r - k) none =
          ap (λ (j : ℕ). get_or (rows value n ++ drop (0 + k) old) j none) (sym e) ∙ get_or-append-add (rows value n) (drop (0 + k) old) (r - k) none in
          let b : get_or (drop (0 + k) old) (r - k) none ≡ get_or old r none = get_or-drop (0 + k) old (r - k) none ∙ ap (λ (j : ℕ). get_or old j none) d in
          C.beyond r (omega arith) ∙ sym (a ∙ b)

-- what the columns tell of row r
abbrev pub score_row : List Float → List ℕ → List ℕ → ℕ → Float
score_row sc closed rank r = score_of sc (record_at closed (get_or rank r 0))

abbrev pub closing_row : List ℕ → ℕ → ℕ
closing_row rank r = get_or rank r 0 + 1

abbrev pub edges_row : List ℕ → List ℕ → List ℕ → ℕ → ℕ
edges_row t closed rank r = count_of t (record_at closed (get_or rank r 0))

-- the three columns, up to row i of `count`
pub record ColumnsTo (t : List ℕ) (sc : List Float) (closed rank : List ℕ) (count i : ℕ) (ss₀ : List Float) (cs₀ es₀ : List ℕ) (ss : List Float) (cs es : List ℕ) : Type 0 where
  pub low : i ≤ count
  pub scores : Column nan (score_row sc closed rank) i ss₀ ss
  pub closings : Column 0 (closing_row rank) i cs₀ cs
  pub edges : Column 0 (edges_row t closed rank) i es₀ es

pub record Columns (t : List ℕ) (sc : List Float) (closed rank : List ℕ) (count : ℕ) (ss₀ : List Float) (cs₀ es₀ : List ℕ) (ss : List Float) (cs es : List ℕ) : Type 0 where
  pub scores : (r : ℕ) → r < count → get_or ss r nan ≡ score_of sc (record_at closed (get_or rank r 0))
  pub closings : (r : ℕ) → r < count → get_or cs r 0 ≡ get_or rank r 0 + 1
  pub edges : (r : ℕ) → r < count → get_or es r 0 ≡ count_of t (record_at closed (get_or rank r 0))
  pub scores-are : ss ≡ written_at 0 (rows (score_row sc closed rank) count) ss₀
  pub closings-are : cs ≡ written_at 0 (rows (closing_row rank) count) cs₀
  pub edges_are : es ≡ written_at 0 (rows (edges_row t closed rank) count) es₀

module _ (t : List ℕ) (sc : List Float) (closed rank : List ℕ) (count : ℕ) where
  module _ (i : ℕ) (ss₀ : List Float) (cs₀ es₀ : List ℕ) (ss : List Float) (cs es : List ℕ) (C : ColumnsTo t sc closed rank count i ss₀ cs₀ es₀ ss cs es) where
    pub columns-next : i < count → count ≤ length ss₀ → count ≤ length cs₀ → count ≤ length es₀ → (x : Float) (y z : ℕ) → x ≡ score_of sc (record_at closed (get_or rank i 0)) → y ≡ get_or rank i 0 + 1
        → z ≡ count_of t (record_at closed (get_or rank i 0)) → ColumnsTo t sc closed rank count (i + 1) ss₀ cs₀ es₀ (set ss i x) (set cs i y) (set es i z)
    columns-next h a b c x y z p q w =
        record {
          low = omega arith;
          scores = column-next nan _ i ss₀ ss x C.scores (omega arith) p;
          closings = column-next 0 _ i cs₀ cs y C.closings (omega arith) q;
          edges = column-next 0 _ i es₀ es z C.edges (omega arith) w;
        }

    pub columns-end : count ≤ i → count ≤ length ss₀ → count ≤ length cs₀ → count ≤ length es₀ → Columns t sc closed rank count ss₀ cs₀ es₀ ss cs es
    columns-end h a b c =
        let e : i ≡ count = (let l = C.low in omega arith) in
        record {
          scores = λ r l. C.scores.at r (omega arith);
          closings = λ r l. C.closings.at r (omega arith);
          edges = λ r l. C.edges.at r (omega arith);
          scores-are = column-is nan _ count ss₀ ss a (subst (λ (j : ℕ). Column nan (score_row sc closed rank) j ss₀ ss) e C.scores);
          closings-are = column-is 0 _ count cs₀ cs b (subst (λ (j : ℕ). Column 0 (closing_row rank) j cs₀ cs) e C.closings);
          edges_are = column-is 0 _ count es₀ es c (subst (λ (j : ℕ). Column 0 (edges_row t closed rank) j es₀ es) e C.edges);
        }

-- ---- the bases

-- the bases of row r
abbrev pub bases_at : Lists → List ℕ → ℕ → List ℕ
bases_at l rank r = bases_of l.k l.text l.vs l.es (walk_at l (get_or rank r 0))

module _ (l : Lists) (count : ℕ) (R : Ready l count) (rank : List ℕ) (P : Placed count rank) where
  pub ready-known : Known l.t l.sc l.closed count
  ready-known = record { closed-room = R.closed-room; inside = R.inside }

  pub ready-kept : Kept l count
  ready-kept = record { records = ready-known; short = R.short; walks-room = R.walks-room }

  module _ (r : ℕ) (h : r < count) where
    pub row-bases : length (bases_at l rank r) ≡ l.k + count_at l (get_or rank r 0)
    row-bases = bases-length (R.spells (get_or rank r 0) (P.known r h))

    pub row_fits : length (bases_at l rank r) ≤ l.k + l.most
    row_fits = let a = row-bases in let b = R.short (get_or rank r 0) (P.known r h) in omega arith

    pub bases-room : (size : ℕ) → count * (l.k + l.most) ≤ size → r * (l.k + l.most) + (l.k + l.most) ≤ size
    bases-room size k = let a = row_low r count (l.k + l.most) h in omega arith

    pub bases-asks : (w : List ℕ) (size : ℕ) → w ≡ walk_at l (get_or rank r 0) → count * (l.k + l.most) ≤ size
        → Spells l.k l.text l.vs l.es w (length w) × (r * (l.k + l.most) + (l.k + length w) ≤ size)
    bases-asks w size e k =
        let a = bases-room size k in
        let b = R.short (get_or rank r 0) (P.known r h) in
        let c = kept-length l count ready-kept (get_or rank r 0) (P.known r h) in
        let d = ap (λ (x : List ℕ). length x) e in
        (ready-spells l count R (get_or rank r 0) w (P.known r h) e, omega arith)

    pub bases-next : (old out out' w : List ℕ) → w ≡ walk_at l (get_or rank r 0) → count * (l.k + l.most) ≤ length old
        → Laid (l.k + l.most) (bases_at l rank) old r out
        → out' ≡ paste out (r * (l.k + l.most)) (bases_of l.k l.text l.vs l.es w) (l.k + length w)
        → Laid (l.k + l.most) (bases_at l rank) old (r + 1) out'
    unfolding written_at
    bases-next old out out' w e k L g =
        let stride = l.k + l.most in
        let a = bases-room (length old) k in
        let b = row_fits in
        let c = kept-length l count ready-kept (get_or rank r 0) (P.known r h) in
        let q : out' ≡ paste out (r * (l.k + l.most)) (bases_at l rank r) (l.k + count_at l (get_or rank r 0)) = rw (e, c) at g in
        let s : take (l.k + count_at l (get_or rank r 0)) (bases_at l rank r) ≡ bases_at l rank r =
        take_all (l.k + count_at l (get_or rank r 0)) (bases_at l rank r) (let z = row-bases in omega arith)
        in
        laid_next (l.k + l.most) (bases_at l rank) old r out out' L (omega arith)
        (q
        ∙ ap (λ (x : List ℕ). take (r * (l.k + l.most)) out ++ x ++ drop (r * (l.k + l.most) + (l.k + count_at l (get_or rank r 0))) out) s
        ∙ ap (λ m. take (r * (l.k + l.most)) out ++ bases_at l rank r ++ drop (r * (l.k + l.most) + m) out) (sym row-bases)
        ∙ append_assoc (take (r * (l.k + l.most)) out) (bases_at l rank r) (drop (r * (l.k + l.most) + length (bases_at l rank r)) out))

-- ---- the origins

-- the edges of the closed paths, written out, are rows of the table of edges
pub record Filed (es t : List ℕ) (sc : List Float) (closed walks : List ℕ) (most count : ℕ) : Type 0 where
  pub records : Known t sc closed count
  pub short : (i : ℕ) → i < count → count_of t (record_at closed i) ≤ most
  pub walks-room : count * most ≤ length walks
  pub edge-room : (i x : ℕ) → i < count → x < count_of t (record_at closed i) → HasEdge es (get_or (drop (i * most) walks) x 0)

-- field j of the edges of row r
abbrev pub fields_at : List ℕ → List ℕ → List ℕ → List ℕ → ℕ → ℕ → List ℕ → ℕ → List ℕ
fields_at es t closed walks most j rank r =
    map (λ e. edge_field es e j) (take (count_of t (record_at closed (get_or rank r 0))) (drop (get_or rank r 0 * most) walks))

module _ (es t : List ℕ) (sc : List Float) (closed walks : List ℕ) (most count : ℕ) (F : Filed es t sc closed walks most count) where
  module _ (rank : List ℕ) (P : Placed count rank) (r : ℕ) (h : r < count) where
    in-walks : count_of t (record_at closed (get_or rank r 0)) ≤ length (drop (get_or rank r 0 * most) walks)
    in-walks =
        let a = row_low (get_or rank r 0) count most (P.known r h) in
        let b = F.walks-room in
        let c = F.short (get_or rank r 0) (P.known r h) in
        let d = length-drop (get_or rank r 0 * most) walks in
        omega arith

    pub filed-room : (size : ℕ) → count * most ≤ size → r * most + most ≤ size
    filed-room size k = let a = row_low r count most h in omega arith

    -- the edges of row r
    abbrev edges_at : List ℕ
    edges_at = take (count_of t (record_at closed (get_or rank r 0))) (drop (get_or rank r 0 * most) walks)

    long : length edges_at ≡ count_of t (record_at closed (get_or rank r 0))
    long = length-take-le (count_of t (record_at closed (get_or rank r 0))) (drop (get_or rank r 0 * most) walks) in-walks

    pub filed-asks : (j : ℕ) (w : List ℕ) (size : ℕ) → w ≡ edges_at → IsEdgeField j → count * most ≤ size
        → ((x : ℕ) → x < length w → edge_cell (get_or w x 0) j < length es) × (r * most + length w ≤ size)
    filed-asks j w size e l k =
        let a = filed-room size k in
        let b = F.short (get_or rank r 0) (P.known r h) in
        let c = long in
        rw e (
          (λ x m. rw (get_or-take (count_of t (record_at closed (get_or rank r 0))) (drop (get_or rank r 0 * most) walks) x 0 (omega arith))
              (let z = F.edge-room (get_or rank r 0) x (P.known r h) (omega arith) in omega arith)),
          omega arith,
        )

    pub filed-next : (j : ℕ) (old out out' w : List ℕ) → w ≡ edges_at → count * most ≤ length old
        → Laid most (fields_at es t closed walks most j rank) old r out → out' ≡ sets out (r * most) (map (λ e. edge_field es e j) w)
        → Laid most (fields_at es t closed walks most j rank) old (r + 1) out'
    filed-next j old out out' w e k L g =
        let a = filed-room (length old) k in
        let b = F.short (get_or rank r 0) (P.known r h) in
        let c : length (fields_at es t closed walks most j rank r) ≡ count_of t (record_at closed (get_or rank r 0)) =
        length-map edges_at (λ e. edge_field es e j) ∙ long
        in
        let q : out' ≡ sets out (r * most) (fields_at es t closed walks most j rank r) = rw e at g in
        laid-sets most (fields_at es t closed walks most j rank) old r out out' L (omega arith) q
