-- What a caller carries along: a table of n paths that all start at the source. Each function's outcome keeps it, and the other paths stay what they are.
use Rattle.std.specs.Prelude.{refl, Result, Ok, Err, ◌⊎◌, ◌≢◌, true, false, List, ℕ, ◌+◌, ◌<◌, ◌≤◌, leb, ltb, length, Float}
use Rattle.std.proofs.Common.{sym, inl, inr, arith, get_or-set_other, ◌≡◌, ap, leb-true, leb-false, ltb-true, ltb-false, set}
use Rattle.std.specs.Float.{nan}
use Rattle.laws.specs.BoolLaws.{Bool-cases}
use Rattle.definition.specs.Threading.{Ends}
use Rattle.definition.specs.Evidence.{Branches}
use Rattle.definition.specs.Search.{SearchInput}
use Rattle.path_store.specs.declared.records.PathRecord.{PathRecord}
use Rattle.refusals.specs.declared.Refusal.{Refusal}
use Rattle.refusals.specs.declared.Refusal.TheVariants.{PathSize}
use Rattle.refusals.specs.Numbers.{number}
use Rattle.path_growth.specs.declared.Taken.{Taken}
use Rattle.path_growth.specs.declared.Extension.{Extension}
use Rattle.path_store.specs.Walk.{Graph}
use Rattle.path_store.specs.Cells.{trees_of, count_of, end_of, score_of, Inside, path_at, put_cells, put_other}
use Rattle.path_edges.specs.Path.{Table, Rooted}
use Rattle.path_growth.specs.Push.{Fresh, pushed, pushed-rooted, put_same, edges-kept}
use Rattle.path_growth.specs.Cut.{cut_of}
use Rattle.path_growth.specs.Grow.{start_row, extended_row, closed_row, recovered_row, joined_row, Following, Store, grow, Grown, join, Joined}
use Rattle.path_growth.specs.Extend.{started, started-rooted, extended_fresh, closed-fresh, recovered-fresh}
use Rattle.path_growth.specs.View.{view_of, closed_of, has_tree, view-kept, closed-kept}
use Rattle.path_growth.specs.Join.{Childless, joined_same, joined-table, joined-rooted, joined-apart}

pub record Held (index targets : List ℕ) (source : ℕ) (t : List ℕ) (sc : List Float) (n : ℕ) : Type 0 where
  pub table : Table index targets t sc n
  pub rooted : Rooted index targets source t n

-- ---- what an answer tells of the tables

pub record Put (t : List ℕ) (sc : List Float) (n : ℕ) (row : PathRecord) (m : ℕ) (t' : List ℕ) (sc' : List Float) : Type 0 where
  pub number : m ≡ n
  pub cells : t' ≡ put_cells t n row
  pub scores : sc' ≡ set sc n row.score

pub record Kept (t : List ℕ) (sc : List Float) (k : ℕ) (t' : List ℕ) (sc' : List Float) : Type 0 where
  pub number : k ≡ 11
  pub cells : t' ≡ t
  pub scores : sc' ≡ sc

abbrev Answer : Type 0
Answer = Result ℕ Refusal

made-number : {a b : ℕ} → ◌≡◌ {A = Answer} (Ok a) (Ok b) → a ≡ b
made-number e = cc

refused-number : {a b : Refusal} → ◌≡◌ {A = Answer} (Err a) (Err b) → number a ≡ number b
refused-number e = cc

made-refused : {A : Type 0} {a : ℕ} {b : Refusal} → ◌≡◌ {A = Answer} (Ok a) (Err b) → A
made-refused e = let z : ◌≡◌ {A = ℕ} 0 1 = cc in absurd (omega arith)

module _ (t : List ℕ) (sc : List Float) (n : ℕ) (row : PathRecord) (most : ℕ) (t' : List ℕ) (sc' : List Float) where
  pub grown-made : (m : ℕ) → Grown t sc n row most (Ok m) t' sc' → Put t sc n row m t' sc' × (row.edges ≤ most)
  unfolding grow
  grown-made m g = go (Bool-cases (leb row.edges most))
    where
      go : (leb row.edges most ≡ true) ⊎ (leb row.edges most ≡ false) → Put t sc n row m t' sc' × (row.edges ≤ most)
      go (inl h) =
          let e : ◌≡◌ {A = Store} (record { answer = Ok m; cells = t'; scores = sc' }) (record { answer = Ok n; cells = put_cells t n row; scores = set sc n row.score }) =
          rw (h, grow) at g
          in
          (record { number = made-number (ap (λ (x : Store). x.answer) e); cells = ap (λ (x : Store). x.cells) e; scores = ap (λ (x : Store). x.scores) e }, leb-true row.edges most h)
      go (inr h) =
          let e : ◌≡◌ {A = Store} (record { answer = Ok m; cells = t'; scores = sc' }) (record { answer = Err PathSize; cells = t; scores = sc }) = rw (h, grow) at g in
          made-refused (ap (λ (x : Store). x.answer) e)

  pub grown-refused : (r : Refusal) → Grown t sc n row most (Err r) t' sc' → Kept t sc (number r) t' sc' × (most < row.edges)
  unfolding grow
  grown-refused r g = go (Bool-cases (leb row.edges most))
    where
      go : (leb row.edges most ≡ true) ⊎ (leb row.edges most ≡ false) → Kept t sc (number r) t' sc' × (most < row.edges)
      go (inl h) =
          let e : ◌≡◌ {A = Store} (record { answer = Err r; cells = t'; scores = sc' }) (record { answer = Ok n; cells = put_cells t n row; scores = set sc n row.score }) =
          rw (h, grow) at g
          in
          made-refused (sym (ap (λ (x : Store). x.answer) e))
      go (inr h) =
          let e : ◌≡◌ {A = Store} (record { answer = Err r; cells = t'; scores = sc' }) (record { answer = Err PathSize; cells = t; scores = sc }) = rw (h, grow) at g in
          (record { number = refused-number (ap (λ (x : Store). x.answer) e); cells = ap (λ (x : Store). x.cells) e; scores = ap (λ (x : Store). x.scores) e }, leb-false row.edges most h)

module _ (t : List ℕ) (sc : List Float) (r v most : ℕ) (t' : List ℕ) (sc' : List Float) where
  pub joined_made : (m : ℕ) → Joined t sc r v most (Ok m) t' sc' → Put t sc r (joined_row (path_at t sc r) v) m t' sc' × (trees_of t r < most)
  unfolding join
  joined_made m g = go (Bool-cases (ltb (trees_of t r) most))
    where
      go : (ltb (trees_of t r) most ≡ true) ⊎ (ltb (trees_of t r) most ≡ false) → Put t sc r (joined_row (path_at t sc r) v) m t' sc' × (trees_of t r < most)
      go (inl h) =
          let e : ◌≡◌ {A = Store} (record { answer = Ok m; cells = t'; scores = sc' }) (record { answer = Ok r; cells = put_cells t r (joined_row (path_at t sc r) v); scores = set sc r (score_of sc r) }) =
          rw (h, join) at g
          in
          (record { number = made-number (ap (λ (x : Store). x.answer) e); cells = ap (λ (x : Store). x.cells) e; scores = ap (λ (x : Store). x.scores) e }, ltb-true (trees_of t r) most h)
      go (inr h) =
          let e : ◌≡◌ {A = Store} (record { answer = Ok m; cells = t'; scores = sc' }) (record { answer = Err PathSize; cells = t; scores = sc }) = rw (h, join) at g in
          made-refused (ap (λ (x : Store). x.answer) e)

  pub joined-refused : (a : Refusal) → Joined t sc r v most (Err a) t' sc' → Kept t sc (number a) t' sc' × (most ≤ trees_of t r)
  unfolding join
  joined-refused a g = go (Bool-cases (ltb (trees_of t r) most))
    where
      go : (ltb (trees_of t r) most ≡ true) ⊎ (ltb (trees_of t r) most ≡ false) → Kept t sc (number a) t' sc' × (most ≤ trees_of t r)
      go (inl h) =
          let e : ◌≡◌ {A = Store} (record { answer = Err a; cells = t'; scores = sc' }) (record { answer = Ok r; cells = put_cells t r (joined_row (path_at t sc r) v); scores = set sc r (score_of sc r) }) =
          rw (h, join) at g
          in
          made-refused (sym (ap (λ (x : Store). x.answer) e))
      go (inr h) =
          let e : ◌≡◌ {A = Store} (record { answer = Err a; cells = t'; scores = sc' }) (record { answer = Err PathSize; cells = t; scores = sc }) = rw (h, join) at g in
          (record { number = refused-number (ap (λ (x : Store). x.answer) e); cells = ap (λ (x : Store). x.cells) e; scores = ap (λ (x : Store). x.scores) e }, ltb-false (trees_of t r) most h)

module _ (index targets : List ℕ) (source : ℕ) where
  -- ---- the start path
  pub held_start : (t : List ℕ) (sc : List Float) → Graph index targets → source < length index → Inside t sc 0
      → Held index targets source (put_cells t 0 (start_row source)) (set sc 0 (start_row source).score) 1
  held_start t sc g s I = record { table = started index targets t sc source g s I; rooted = started-rooted index targets t sc source I }

  -- ---- a new record: an extension, a closed path, a recovered path
  module _ (t : List ℕ) (sc : List Float) (n : ℕ) (H : Held index targets source t sc n) (I : Inside t sc n) where
    held-pushed : (p : ℕ) (row : PathRecord) → Fresh index targets t sc n p row → Held index targets source (put_cells t n row) (set sc n row.score) (n + 1)
    held-pushed p row F = record { table = (pushed index targets t sc n p row F).table; rooted = pushed-rooted index targets t sc n p row F source H.rooted }

    module _ (taken : Taken) (K : taken.path < n) (F : Following index targets t taken.path taken) where
      pub held-extended : (x : Extension) → x.edge < length targets → Held index targets source (put_cells t n (extended_row t targets taken x)) (set sc n x.score) (n + 1)
      held-extended x h = held-pushed taken.path (extended_row t targets taken x) (extended_fresh index targets t sc n taken H.table I K F x h)

      pub held-closed : Held index targets source (put_cells t n (closed_row t sc taken)) (set sc n (score_of sc taken.path)) (n + 1)
      held-closed = held-pushed taken.path (closed_row t sc taken) (closed-fresh index targets t sc n taken H.table I K F)

    pub held-recovered : (path k e : ℕ) → path < n → 0 < k → k ≤ count_of t path → e < length targets
        → Held index targets source (put_cells t n (recovered_row index t sc targets path k e)) (set sc n (score_of sc path)) (n + 1)
    held-recovered path k e K pos low h =
        held-pushed (cut_of t k path).parent (recovered_row index t sc targets path k e) (recovered-fresh index targets t sc n path k e H.table I K pos low h)

    -- the earlier paths stay, whatever the new record is
    pub pushed-view : (f : SearchInput) (ends : ℕ → Ends) (bs : List Branches) (row : PathRecord) (r : ℕ) → r < n
        → view_of f ends index targets bs (put_cells t n row) (set sc n row.score) r ≡ view_of f ends index targets bs t sc r
    pushed-view f ends bs row r l =
        view-kept f ends index targets bs t (put_cells t n row) sc (set sc n row.score) n r H.table (put_same t n row) (get_or-set_other sc n r row.score nan (omega arith)) l

    pub pushed-closed : (f : SearchInput) (ends : ℕ → Ends) (row : PathRecord) (k r : ℕ) → r < n
        → closed_of ends index targets (put_cells t n row) (set sc n row.score) k r ≡ closed_of ends index targets t sc k r
    pushed-closed f ends row k r l =
        closed-kept f ends index targets t (put_cells t n row) sc (set sc n row.score) n k r H.table (λ a b x y. put_same t n row a b x (omega arith))
        (get_or-set_other sc n r row.score nan (omega arith)) l

    -- the chain that was followed before the record was put
    pub following-pushed : (row : PathRecord) (taken : Taken) → taken.path < n → Following index targets t taken.path taken → Following index targets (put_cells t n row) taken.path taken
    following-pushed row taken K F =
        let e : end_of (put_cells t n row) taken.path ≡ end_of t taken.path = put_same t n row taken.path 4 K (omega arith) in
        record { path = F.path; chain = rw e F.chain; vertex = rw e F.vertex }

  -- ---- a tree joins the path r
  module _ (t : List ℕ) (sc : List Float) (n r v : ℕ) (H : Held index targets source t sc n) (l : r < n) where
    pub held-joined : Held index targets source (put_cells t r (joined_row (path_at t sc r) v)) sc n
    held-joined = record { table = joined-table index targets t sc n r v H.table l; rooted = joined-rooted index targets t sc n r v H.table l source H.rooted }

    pub following-joined : (taken : Taken) → taken.path < n → Following index targets t taken.path taken
        → Following index targets (put_cells t r (joined_row (path_at t sc r) v)) taken.path taken
    following-joined taken K F =
        let e : end_of (put_cells t r (joined_row (path_at t sc r) v)) taken.path ≡ end_of t taken.path =
        joined_same index targets t sc n r v H.table l taken.path 4 K (omega arith)
        in
        record { path = F.path; chain = rw e F.chain; vertex = rw e F.vertex }

    -- a path that is not r stays, where r has no children yet
    pub joined-view : (f : SearchInput) (ends : ℕ → Ends) (bs : List Branches) → Childless t n r → (q : ℕ) → q < n → q ≢ r
        → view_of f ends index targets bs (put_cells t r (joined_row (path_at t sc r) v)) sc q ≡ view_of f ends index targets bs t sc q
    joined-view f ends bs childless q m d =
        cc
        (edges-kept index targets t (put_cells t r (joined_row (path_at t sc r) v)) sc sc n H.table (joined_same index targets t sc n r v H.table l) q m, joined-apart index targets t sc n r v H.table l (has_tree f) f.source childless q m d, put_other t r (joined_row (path_at t sc r) v) q 6 d (omega arith))

    pub joined-closed : (f : SearchInput) (ends : ℕ → Ends) (k q : ℕ) → q < n
        → closed_of ends index targets (put_cells t r (joined_row (path_at t sc r) v)) sc k q ≡ closed_of ends index targets t sc k q
    joined-closed f ends k q m =
        closed-kept f ends index targets t (put_cells t r (joined_row (path_at t sc r) v)) sc sc n k q H.table (joined_same index targets t sc n r v H.table l) refl m

-- a followed path is the one that was asked for
pub following-own : (index targets t : List ℕ) (r : ℕ) (taken : Taken) → Following index targets t r taken → Following index targets t taken.path taken
following-own index targets t r taken F = record { path = refl; chain = rw F.path F.chain; vertex = rw F.path F.vertex }
