-- A record is put behind the n of a table: the new one is right, and the earlier ones stay what they are.
use Rattle.std.specs.Prelude.{◌≡◌, ◌⊎◌, List, [], ◌∷◌, ◌++◌, length, set, Float}
use Rattle.std.proofs.Common.{◌∙◌, inl, inr, eq-or-lt_of_le, arith, length-append, refl, sym, ap, ℕ, zero, suc, ◌+◌, ◌-◌, ◌*◌, ◌<◌, ◌≤◌, get_or, length-set}
use Rattle.laws.specs.Records.{field}
use Rattle.path_store.specs.declared.records.PathRecord.{PathRecord}
use Rattle.path_store.specs.Walk.{end_from, after, Runs, Graph, end-append}
use Rattle.path_store.specs.Steps.{after-low}
use Rattle.path_store.specs.Cells.{parent_of, count_of, end_of, Inside, path_at, put_cells, put-length, put_other, put-at, put-read}
use Rattle.path_edges.specs.Path.{last_edge, piece, piece-length, piece-end, chain-end-at, edges, edges-same, edges-next, Right, Table, Rooted, Same, table-rising}

-- ---- a table whose first n records have the same parents, pieces, counts and ends
module _ (index targets t u : List ℕ) (sc sd : List Float) (n : ℕ) (T : Table index targets t sc n) (h : Same 6 t u n) where
  pub edges-kept : (r : ℕ) → r < n → edges index targets u r ≡ edges index targets t r
  edges-kept r l = edges-same index targets t u n r (table-rising index targets t sc n T) h l

  pub right_kept : (r : ℕ) → r < n → Right index targets u r
  right_kept r l =
      let R = T.rows r l in
      let a = h r 0 l (omega arith) in
      let c = h r 1 l (omega arith) in
      record {
        rises = rw a R.rises;
        runs =
            λ q.
            let q' : 0 < parent_of t r = rw a at q in
            rw (a, c, h (parent_of t r - 1) 4 (omega (arith, R.rises)) (omega arith)) (R.runs q');
        last = rw (h r 2 l (omega arith)) R.last;
        count = h r 3 l (omega arith) ∙ R.count ∙ ap (λ es. length es) (sym (edges-kept r l));
        low = rw (h r 4 l (omega arith)) R.low;
        forks =
            λ q.
            let q' : 0 < parent_of t r = rw a at q in
            rw (a, c, h (parent_of t r - 1) 4 (omega (arith, R.rises)) (omega arith), h r 5 l (omega arith)) (R.forks q');
      }

  pub table_kept : n * 9 ≤ length u → n ≤ length sd → Table index targets u sd n
  table_kept f g = record { room = f; scored = g; graph = T.graph; rows = right_kept }

  pub rooted-kept : (source : ℕ) → Rooted index targets source t n → Rooted index targets source u n
  rooted-kept source R r l = h r 4 l (omega arith) ∙ R r l ∙ ap (λ es. end_from targets source es) (sym (edges-kept r l))

-- ---- the last vertex of a piece is one of the graph's
pub ends_low : (index targets : List ℕ) → Graph index targets → (u c l : ℕ) → u < length index → Runs index targets u c → l ≤ length targets
    → end_from targets u (piece index targets u c l) < length index
ends_low index targets g u c zero h r k = rw (chain-end-at index targets u c) (after-low index targets g u c h r)
ends_low index targets g u c (suc e) h r k = rw (piece-end index targets u c e) (g.far e (omega arith))

-- ---- what is asked of a new record: p is its parent
pub record Fresh (index targets t : List ℕ) (sc : List Float) (n p : ℕ) (row : PathRecord) : Type 0 where
  pub table : Table index targets t sc n
  pub room : Inside t sc n
  pub known : p < n
  pub parent : row.parent ≡ suc p
  pub runs : Runs index targets (end_of t p) row.chain
  pub last : row.edge ≤ length targets
  pub count : row.edges ≡ count_of t p + row.chain + length (last_edge row.edge)
  pub end : row.end ≡ end_from targets (end_of t p) (piece index targets (end_of t p) row.chain row.edge)
  pub fork : row.fork ≡ after index targets (end_of t p) row.chain

-- and what is then known: u and sd are the tables with the record
pub record Pushed (index targets t : List ℕ) (sc : List Float) (n p : ℕ) (row : PathRecord) (u : List ℕ) (sd : List Float) : Type 0 where
  pub table : Table index targets u sd (n + 1)
  pub same : Same 9 t u n
  pub read : path_at u sd n ≡ row
  pub is : edges index targets u n ≡ edges index targets t p ++ piece index targets (end_of t p) row.chain row.edge
  pub kept : (r : ℕ) → r < n → edges index targets u r ≡ edges index targets t r

-- the first n records stay where another is put
pub put_same : (t : List ℕ) (n : ℕ) (row : PathRecord) → Same 9 t (put_cells t n row) n
put_same t n row r j l m = put_other t n row r j (omega arith) m

same-six : (t u : List ℕ) (n : ℕ) → Same 9 t u n → Same 6 t u n
same-six t u n h r j l m = h r j l (omega arith)

module _ (index targets t : List ℕ) (sc : List Float) (n p : ℕ) (row : PathRecord) (F : Fresh index targets t sc n p row) where
  u : List ℕ
  u = put_cells t n row

  sd : List Float
  sd = set sc n row.score

  cell : (j : ℕ) → j < 9 → field u 9 n j ≡ get_or (row.parent ∷ row.chain ∷ row.edge ∷ row.edges ∷ row.end ∷ row.fork ∷ row.since ∷ row.joined ∷ field u 9 n 8 ∷ []) j 0
  unfolding u
  cell j l = go j l
    where
      go : (j : ℕ) → j < 9
          → field (put_cells t n row) 9 n j ≡ get_or (row.parent ∷ row.chain ∷ row.edge ∷ row.edges ∷ row.end ∷ row.fork ∷ row.since ∷ row.joined ∷ field (put_cells t n row) 9 n 8 ∷ []) j 0
      go zero l = put-at t n row F.room.cells 0 l
      go (suc zero) l = put-at t n row F.room.cells 1 l
      go (suc (suc zero)) l = put-at t n row F.room.cells 2 l
      go (suc (suc (suc zero))) l = put-at t n row F.room.cells 3 l
      go (suc (suc (suc (suc zero)))) l = put-at t n row F.room.cells 4 l
      go (suc (suc (suc (suc (suc zero))))) l = put-at t n row F.room.cells 5 l
      go (suc (suc (suc (suc (suc (suc zero)))))) l = put-at t n row F.room.cells 6 l
      go (suc (suc (suc (suc (suc (suc (suc zero))))))) l = put-at t n row F.room.cells 7 l
      go (suc (suc (suc (suc (suc (suc (suc (suc zero)))))))) l = refl
      go (suc (suc (suc (suc (suc (suc (suc (suc (suc j))))))))) l = absurd (omega arith)

  fore : Same 9 t u n
  unfolding u
  fore = put_same t n row

  kept : (r : ℕ) → r < n → edges index targets u r ≡ edges index targets t r
  kept r m = edges-kept index targets t u sc sd n F.table (same-six t u n fore) r m

  rising : (r : ℕ) → r < n + 1 → parent_of u r ≤ r
  rising r m = go (eq-or-lt_of_le (omega arith))
    where
      go : (r ≡ n) ⊎ (r < n) → parent_of u r ≤ r
      go (inl h) = rw (h, cell 0 (omega arith)) (omega (arith, F.parent, F.known))
      go (inr h) = (right_kept index targets t u sc sd n F.table (same-six t u n fore) r h).rises

  new : edges index targets u n ≡ edges index targets t p ++ piece index targets (end_of t p) row.chain row.edge
  new =
      edges-next index targets u (n + 1) n p rising (omega arith) (cell 0 (omega arith) ∙ F.parent)
      ∙ (rw (cell 1 (omega arith), cell 2 (omega arith), fore p 4 F.known (omega arith)) (ap (λ es. es ++ piece index targets (end_of t p) row.chain row.edge) (kept p F.known)))

  first : Right index targets u n
  first =
      let m : suc p - 1 ≡ p = omega arith in
      let a : parent_of u n ≡ suc p = cell 0 (omega arith) ∙ F.parent in
      let e : end_of u n ≡ end_from targets (end_of t p) (piece index targets (end_of t p) row.chain row.edge) = cell 4 (omega arith) ∙ F.end in
      record {
        rises = rising n (omega arith);
        runs = λ _. rw (a, m, fore p 4 F.known (omega arith), cell 1 (omega arith)) F.runs;
        last = rw (cell 2 (omega arith)) F.last;
        count =
            cell 3 (omega arith)
            ∙ omega
            (arith, F.count, (F.table.rows p F.known).count, ap (λ es. length es) new, length-append (edges index targets t p) (piece index targets (end_of t p) row.chain row.edge), piece-length index targets (end_of t p) row.chain row.edge);
        low =
            rw e
            (ends_low index targets F.table.graph (end_of t p) row.chain row.edge (F.table.rows p F.known).low F.runs F.last);
        forks = λ _. rw (a, m, fore p 4 F.known (omega arith), cell 1 (omega arith), cell 5 (omega arith)) F.fork;
      }

  pub pushed : Pushed index targets t sc n p row (put_cells t n row) (set sc n row.score)
  unfolding u sd
  pushed =
      record {
        table =
            record {
              room = omega (arith, put-length t n row, F.room.cells);
              scored = omega (arith, length-set sc n row.score, F.room.score);
              graph = F.table.graph;
              rows = λ r m. go r (eq-or-lt_of_le (omega arith));
            };
        same = fore;
        read = put-read t n row F.room.cells sc F.room.score;
        is = new;
        kept = kept;
      }
    where
      go : (r : ℕ) → (r ≡ n) ⊎ (r < n) → Right index targets u r
      go r (inl h) = rw h first
      go r (inr h) = right_kept index targets t u sc sd n F.table (same-six t u n fore) r h

  pub pushed-rooted : (source : ℕ) → Rooted index targets source t n → Rooted index targets source (put_cells t n row) (n + 1)
  unfolding u sd
  pushed-rooted source R r l = go (eq-or-lt_of_le (omega arith))
    where
      go : (r ≡ n) ⊎ (r < n) → end_of u r ≡ end_from targets source (edges index targets u r)
      go (inl h) =
          rw h
          (cell 4 (omega arith)
          ∙ F.end
          ∙ ap (λ x. end_from targets x (piece index targets (end_of t p) row.chain row.edge)) (R p F.known)
          ∙ sym (end-append targets source (edges index targets t p) (piece index targets (end_of t p) row.chain row.edge))
          ∙ ap (λ es. end_from targets source es) (sym new))
      go (inr h) = rooted-kept index targets t u sc sd n F.table (same-six t u n fore) source R r h
