-- The edges of a path, read off its record and those above it; what holds of a table of records; and the walks up the parents.
use Rattle.std.specs.Prelude.{◌≡◌, ◌⊎◌, cond, Option, option_to_list, List, [], ◌∷◌, ◌++◌, eqb, length, get_or, Float}
use Rattle.std.proofs.Common.{sym, ◌∙◌, inl, inr, arith, length-append, refl, ap, ℕ, zero, suc, ◌+◌, ◌-◌, ◌*◌, ◌<◌, ◌≤◌}
use Rattle.std.proofs.lemmas.List.Edits.{sets}
use Rattle.std.proofs.Math.Seq.{length-sets}
use Rattle.laws.specs.Records.{field}
use Rattle.laws.specs.Stores.{sets-append, sets-back}
use Rattle.path_store.specs.declared.upward.Link.{Link}
use Rattle.path_store.specs.Climbs.{Climbs}
use Rattle.path_store.specs.Cells.{numbered, parent_of, chain_of, edge_of, count_of, end_of, fork_of, Inside}
use Rattle.path_store.specs.Walk.{end_from, times, hits, run, after, Runs, Graph, run_length, end-run, end-append, end-one, end-nil, times-append, times-step, times-le, hits-nil, hits-le, hits-append}

-- ---- what a record adds to its parent, whose last vertex is u: c edges of the chain, and the last edge where there is one

abbrev pub last_edge : ℕ → List ℕ
last_edge zero = []
last_edge (suc e) = e ∷ []

pub piece : List ℕ → List ℕ → ℕ → ℕ → ℕ → List ℕ
piece index targets u c l = run index targets u c ++ last_edge l

-- ---- the edges of a path: those of its parent, and its own piece. A parent's number is below the path's, so the number bounds the steps.

pub up_by : List ℕ → List ℕ → List ℕ → ℕ → ℕ → List ℕ
up_by index targets t zero r = []
up_by index targets t (suc n) r =
    elim (parent_of t r) [ zero ↦ [] | suc p ↦ up_by index targets t n p ++ piece index targets (end_of t p) (chain_of t r) (edge_of t r) ]

pub edges : List ℕ → List ℕ → List ℕ → ℕ → List ℕ
edges index targets t r = up_by index targets t (suc r) r

abbrev pub piece_of : List ℕ → List ℕ → List ℕ → ℕ → List ℕ
piece_of index targets t r = piece index targets (end_of t (parent_of t r - 1)) (chain_of t r) (edge_of t r)

-- ---- a table of records

-- the record r is right
pub record Right (index targets t : List ℕ) (r : ℕ) : Type 0 where
  pub rises : parent_of t r ≤ r
  pub runs : 0 < parent_of t r → Runs index targets (end_of t (parent_of t r - 1)) (chain_of t r)
  pub last : edge_of t r ≤ length targets
  pub count : count_of t r ≡ length (edges index targets t r)
  pub low : end_of t r < length index
  pub forks : 0 < parent_of t r → fork_of t r ≡ after index targets (end_of t (parent_of t r - 1)) (chain_of t r)

pub record Table (index targets t : List ℕ) (sc : List Float) (n : ℕ) : Type 0 where
  pub room : n * 9 ≤ length t
  pub scored : n ≤ length sc
  pub graph : Graph index targets
  pub rows : (r : ℕ) → r < n → Right index targets t r

-- every path starts at the source
abbrev pub Rooted : List ℕ → List ℕ → ℕ → List ℕ → ℕ → Type 0
Rooted index targets source t n = (r : ℕ) → r < n → end_of t r ≡ end_from targets source (edges index targets t r)

-- the first k cells of the first n records are the same
abbrev pub Same : ℕ → List ℕ → List ℕ → ℕ → Type 0
Same k t u n = (r j : ℕ) → r < n → j < k → field u 9 r j ≡ field t 9 r j

pub inside : (index targets t : List ℕ) (sc : List Float) (n : ℕ) → Table index targets t sc n → (r : ℕ) → r < n → Inside t sc r
inside index targets t sc n T r l = record { cells = omega (arith, T.room); score = omega (arith, T.scored) }

-- the table's front is a table
pub table-front : (index targets t : List ℕ) (sc : List Float) (n m : ℕ) → Table index targets t sc n → m ≤ n → Table index targets t sc m
table-front index targets t sc n m T l =
    record { room = omega (arith, T.room); scored = omega (arith, T.scored); graph = T.graph; rows = λ r h. T.rows r (omega arith) }

-- ---- laws of pieces

pub last_edge-is : (l : ℕ) → 0 < l → last_edge l ≡ (l - 1) ∷ []
last_edge-is zero h = absurd (omega arith)
last_edge-is (suc l) h = let e : suc l - 1 ≡ l = omega arith in rw e

pub last-short : (l : ℕ) → length (last_edge l) ≤ 1
last-short zero = omega arith
last-short (suc l) = omega arith

-- a last edge as the code takes it
pub last-listed : (l : ℕ) (e : Option ℕ) → e ≡ numbered l → option_to_list e ≡ last_edge l
last-listed zero e h = rw h
last-listed (suc l) e h = rw h

pub piece_is : (index targets : List ℕ) (u c l : ℕ) → piece index targets u c l ≡ run index targets u c ++ last_edge l
unfolding piece
piece_is index targets u c l = refl

pub piece-length : (index targets : List ℕ) (u c l : ℕ) → length (piece index targets u c l) ≡ c + length (last_edge l)
unfolding piece
piece-length index targets u c l = omega (arith, length-append (run index targets u c) (last_edge l), run_length index targets u c)

pub piece-hits : (index targets : List ℕ) (u c l v : ℕ) → hits targets v (piece index targets u c l) ≡ hits targets v (run index targets u c) + hits targets v (last_edge l)
unfolding piece
piece-hits index targets u c l v = hits-append targets v (run index targets u c) (last_edge l)

-- the last vertex of a piece that ends with an edge, and of one that ends with its chain
pub piece-end : (index targets : List ℕ) (u c e : ℕ) → end_from targets u (piece index targets u c (suc e)) ≡ get_or targets e 0
unfolding piece
piece-end index targets u c e = end-append targets u (run index targets u c) (e ∷ []) ∙ end-one targets (end_from targets u (run index targets u c)) e

pub chain-end-at : (index targets : List ℕ) (u c : ℕ) → end_from targets u (piece index targets u c 0) ≡ after index targets u c
unfolding piece
chain-end-at index targets u c = end-append targets u (run index targets u c) [] ∙ end-nil targets (end_from targets u (run index targets u c)) ∙ end-run index targets u c

write-both : (index targets out mid fin : List ℕ) (at u c l : ℕ) → mid ≡ sets out at (run index targets u c) → fin ≡ sets mid (at + c) (last_edge l)
    → fin ≡ sets out at (piece index targets u c l)
unfolding piece
write-both index targets out mid fin at u c l h k =
    k
    ∙ ap (λ x. sets x (at + c) (last_edge l)) h
    ∙ ap (λ x. sets (sets out at (run index targets u c)) (at + x) (last_edge l)) (sym (run_length index targets u c))
    ∙ sym (sets-append out at (run index targets u c) (last_edge l))

-- ---- laws of the edges

pub Nat-cases : (n : ℕ) → (n ≡ 0) ⊎ (n ≡ suc (n - 1))
Nat-cases zero = inl refl
Nat-cases (suc n) = inr (omega arith)

module _ (index targets : List ℕ) where
  up_start : (t : List ℕ) (n r : ℕ) → parent_of t r ≡ 0 → up_by index targets t n r ≡ []
  unfolding up_by
  up_start t zero r h = refl
  up_start t (suc n) r h = rw (h, up_by)

  up_next : (t : List ℕ) (n r p : ℕ) → parent_of t r ≡ suc p
      → up_by index targets t (suc n) r ≡ up_by index targets t n p ++ piece index targets (end_of t p) (chain_of t r) (edge_of t r)
  unfolding up_by
  up_next t n r p h = rw (h, up_by)

  -- tables that agree below k give the same edges below k, whatever the fuel above the number
  up_same : (t u : List ℕ) (k m n r : ℕ) → ((i : ℕ) → i < k → parent_of t i ≤ i) → Same 6 t u k → r < k → r < m → r < n
      → up_by index targets u m r ≡ up_by index targets t n r
  up_same t u k zero n r rise same l p q = absurd (omega arith)
  up_same t u k (suc m) zero r rise same l p q = absurd (omega arith)
  up_same t u k (suc m) (suc n) r rise same l p q =
      go (λ i h. up_same t u k m n i rise same (omega (arith, rise r l)) (omega (arith, rise r l)) (omega (arith, rise r l))) (Nat-cases (parent_of t r))
    where
      go : ((i : ℕ) → i < parent_of t r → up_by index targets u m i ≡ up_by index targets t n i) → (parent_of t r ≡ 0) ⊎ (parent_of t r ≡ suc (parent_of t r - 1))
          → up_by index targets u (suc m) r ≡ up_by index targets t (suc n) r
      go up (inl h) = up_start u (suc m) r (same r 0 l (omega arith) ∙ h) ∙ sym (up_start t (suc n) r h)
      go up (inr h) =
          let f = parent_of t r - 1 in
          let fl : f < k = omega (arith, rise r l) in
          up_next u m r f (same r 0 l (omega arith) ∙ h)
          ∙ (rw (same r 1 l (omega arith), same r 2 l (omega arith), same f 4 fl (omega arith), up f (omega arith)))
          ∙ sym (up_next t n r f h)

  pub edges-same : (t u : List ℕ) (k r : ℕ) → ((i : ℕ) → i < k → parent_of t i ≤ i) → Same 6 t u k → r < k → edges index targets u r ≡ edges index targets t r
  unfolding edges
  edges-same t u k r rise same l = up_same t u k (suc r) (suc r) r rise same l (omega arith) (omega arith)

  pub edges_none : (t : List ℕ) (r : ℕ) → parent_of t r ≡ 0 → edges index targets t r ≡ []
  unfolding edges
  edges_none t r h = up_start t (suc r) r h

  pub edges-next : (t : List ℕ) (k r p : ℕ) → ((i : ℕ) → i < k → parent_of t i ≤ i) → r < k → parent_of t r ≡ suc p
      → edges index targets t r ≡ edges index targets t p ++ piece index targets (end_of t p) (chain_of t r) (edge_of t r)
  unfolding edges
  edges-next t k r p rise l h =
      let q : p < r = omega (arith, rise r l) in
      up_next t r r p h
      ∙ ap (λ es. es ++ piece index targets (end_of t p) (chain_of t r) (edge_of t r)) (up_same t t k r (suc p) p rise (λ i j _ _. refl) (omega arith) q (omega arith))

-- what a walk of the piece that the path of a link adds to its parent asks
pub record Piece (index targets t : List ℕ) (sc : List Float) (k : Link) : Type 0 where
  pub graph : Graph index targets
  pub own : Inside t sc k.path
  pub has : parent_of t k.path ≡ suc k.parent
  pub rises : k.parent < k.path
  pub runs : Runs index targets (end_of t k.parent) (chain_of t k.path)
  pub last : edge_of t k.path ≤ length targets
  pub low : end_of t k.parent < length index
  pub forks : fork_of t k.path ≡ after index targets (end_of t k.parent) (chain_of t k.path)

-- the piece by the parent that the link tells
pub piece-up : {index targets t : List ℕ} {sc : List Float} {k : Link} → Piece index targets t sc k
    → piece index targets (end_of t k.parent) (chain_of t k.path) (edge_of t k.path) ≡ piece_of index targets t k.path
piece-up {index} {targets} {t} {k = k} P =
    let e : k.parent ≡ parent_of t k.path - 1 = omega (arith, P.has) in
    ap (λ x. piece index targets (end_of t x) (chain_of t k.path) (edge_of t k.path)) e

module _ (index targets t : List ℕ) (sc : List Float) (n : ℕ) (T : Table index targets t sc n) where
  pub table-rising : (r : ℕ) → r < n → parent_of t r ≤ r
  table-rising r l = (T.rows r l).rises

  pub edges-up : (r : ℕ) → r < n → 0 < parent_of t r → edges index targets t r ≡ edges index targets t (parent_of t r - 1) ++ piece_of index targets t r
  edges-up r l h = edges-next index targets t n r (parent_of t r - 1) table-rising l (omega arith)

  pub piece-at : (k : Link) → k.path < n → parent_of t k.path ≡ suc k.parent → Piece index targets t sc k
  piece-at k l h =
      let R = T.rows k.path l in
      let e : parent_of t k.path - 1 ≡ k.parent = omega arith in
      record {
        graph = T.graph;
        own = inside index targets t sc n T k.path l;
        has = h;
        rises = omega (arith, R.rises);
        runs = rw e at (R.runs (omega arith));
        last = R.last;
        low = (T.rows k.parent (omega (arith, R.rises))).low;
        forks = rw e at (R.forks (omega arith));
      }

  pub table-climbs : Climbs t sc n
  table-climbs = record { room = T.room; scored = T.scored; rises = table-rising }

  pub count-up : (r : ℕ) → r < n → 0 < parent_of t r
      → length (edges index targets t r) ≡ length (edges index targets t (parent_of t r - 1)) + length (piece_of index targets t r)
  count-up r l h = ap (λ es. length es) (edges-up r l h) ∙ length-append (edges index targets t (parent_of t r - 1)) (piece_of index targets t r)

pub parent-inside : (index targets t : List ℕ) (sc : List Float) (k : Link) → Piece index targets t sc k → Inside t sc k.parent
parent-inside index targets t sc k P = record { cells = omega (arith, P.own.cells, P.rises); score = omega (arith, P.own.score, P.rises) }

-- ---- the values that the code has read of a record and of its parent
module _ (index targets t : List ℕ) (sc : List Float) (k : Link) (P : Piece index targets t sc k) (u c : ℕ) (o : Option ℕ)
    (U : u ≡ end_of t k.parent) (C : c ≡ chain_of t k.path) (O : o ≡ numbered (edge_of t k.path)) where
  l : ℕ
  l = edge_of t k.path

  last : option_to_list o ≡ last_edge l
  unfolding l
  last = last-listed (edge_of t k.path) o O

  read : piece index targets u c l ≡ piece_of index targets t k.path
  unfolding l
  read = rw (U, C) (piece-up P)

  pub read_low : u < length index
  read_low = rw U P.low

  pub read-runs : Runs index targets u c
  read-runs = rw (U, C) P.runs

  pub read-hits : (v a b : ℕ) → a ≡ hits targets v (run index targets u c) → b ≡ hits targets v (option_to_list o)
      → a + b ≡ hits targets v (piece_of index targets t k.path)
  read-hits v a b h q = omega (arith, piece-hits index targets u c l v, ap (λ x. hits targets v x) read, ap (λ x. hits targets v x) last)

  pub read_fits : (v a b : ℕ) → a ≡ hits targets v (run index targets u c) → b ≡ hits targets v (option_to_list o) → a + b ≤ c + 1
  read_fits v a b h q =
      omega
      (arith, hits-le targets v (run index targets u c), run_length index targets u c, hits-le targets v (option_to_list o), ap (λ x. length x) last, last-short l)

  pub read-room : length (piece_of index targets t k.path) ≡ c + length (option_to_list o)
  read-room = ap (λ x. length x) (sym read) ∙ piece-length index targets u c l ∙ ap (λ x. c + length x) (sym last)

  pub read-write : (out mid fin : List ℕ) (at b d : ℕ) → b ≡ count_of t k.parent → d ≡ c → mid ≡ sets out (at + b) (run index targets u c)
      → fin ≡ sets mid (at + b + d) (option_to_list o) → fin ≡ sets out (at + count_of t k.parent) (piece_of index targets t k.path)
  read-write out mid fin at b d B D h e =
      write-both index targets out mid fin (at + b) u c l h (e ∙ ap (λ x. sets mid (at + b + d) x) last ∙ ap (λ x. sets mid (at + b + x) (last_edge l)) D)
      ∙ ap (λ x. sets out (at + b) x) read
      ∙ ap (λ x. sets out (at + x) (piece_of index targets t k.path)) B

-- ---- count_in_path

-- the walk has not begun, or the count of the path's edges was told
abbrev pub Told : List ℕ → ℕ → ℕ → Type 0
Told t path r = (r ≡ path) ⊎ (count_of t path < 4294967296)

pub told_now : (t : List ℕ) (path r : ℕ) → Told t path r → count_of t r < 4294967296 → count_of t path < 4294967296
told_now t path r (inl h) e = rw h at e
told_now t path r (inr h) e = h

pub record Upward (index targets : List ℕ) (source : ℕ) (t : List ℕ) (n path v r k : ℕ) : Type 0 where
  pub low : r < n
  pub is : k + times targets source v (edges index targets t r) ≡ times targets source v (edges index targets t path)

module _ (index targets : List ℕ) (source : ℕ) (t : List ℕ) (sc : List Float) (n : ℕ) (T : Table index targets t sc n) where
  pub upward-start : (path v : ℕ) → path < n → Upward index targets source t n path v path 0
  upward-start path v l = record { low = l; is = omega arith }

  module _ (path v r k : ℕ) (l₀ : path < n) (U : Upward index targets source t n path v r k) where
    module _ (p : ℕ) (h : parent_of t r ≡ suc p) where
      pub upward-low : (p < r) × (p < n)
      upward-low = omega (arith, U.low, (T.rows r U.low).rises)

      more : times targets source v (edges index targets t r) ≡ times targets source v (edges index targets t p) + hits targets v (piece_of index targets t r)
      more =
          let e : parent_of t r - 1 ≡ p = omega arith in
          ap (λ es. times targets source v es) (edges-up index targets t sc n T r U.low (omega arith))
          ∙ times-append targets source v (edges index targets t (parent_of t r - 1)) (piece_of index targets t r)
          ∙ ap (λ x. times targets source v (edges index targets t x) + hits targets v (piece_of index targets t r)) e

      pub upward-fits : (d : ℕ) → d ≡ hits targets v (piece_of index targets t r) → k + d ≤ count_of t path + 1
      upward-fits d e = omega (arith, U.is, more, times-le targets source v (edges index targets t path), (T.rows path l₀).count)

      pub upward-next : (d : ℕ) → d ≡ hits targets v (piece_of index targets t r) → Upward index targets source t n path v p (k + d)
      upward-next d e = record { low = upward-low.1; is = omega (arith, U.is, more) }

    at-start : parent_of t r ≡ 0 → times targets source v (edges index targets t r) ≡ cond (eqb v source) 1 0
    at-start h =
        ap (λ es. times targets source v es) (edges_none index targets t r h) ∙ times-step targets source v [] ∙ omega (arith, hits-nil targets v)

    pub upward-end-fits : (d : ℕ) → parent_of t r ≡ 0 → d ≡ cond (eqb v source) 1 0 → k + d ≤ count_of t path + 1
    upward-end-fits d h e = omega (arith, U.is, at-start h, times-le targets source v (edges index targets t path), (T.rows path l₀).count)

    pub upward-end : (d : ℕ) → parent_of t r ≡ 0 → d ≡ cond (eqb v source) 1 0 → k + d ≡ times targets source v (edges index targets t path)
    upward-end d h e = omega (arith, U.is, at-start h)

-- ---- write_path: filled from the back
pub record Filling (index targets t : List ℕ) (n path : ℕ) (out₀ : List ℕ) (at : ℕ) (out : List ℕ) (r : ℕ) : Type 0 where
  pub size : length out ≡ length out₀
  pub low : r < n
  pub room : at + length (edges index targets t r) ≤ length out₀
  pub is : sets out at (edges index targets t r) ≡ sets out₀ at (edges index targets t path)

module _ (index targets t : List ℕ) (sc : List Float) (n : ℕ) (T : Table index targets t sc n) where
  module _ (path : ℕ) (out₀ : List ℕ) (at : ℕ) (out : List ℕ) (r : ℕ) (U : Filling index targets t n path out₀ at out r) where
    module _ (p : ℕ) (h : parent_of t r ≡ suc p) where
      pub filling-piece : Piece index targets t sc (record { path = r; parent = p })
      filling-piece = piece-at index targets t sc n T (record { path = r; parent = p }) U.low h

      pub filling-low : (p < r) × (p < n)
      filling-low = omega (arith, U.low, (T.rows r U.low).rises)

      before : parent_of t r - 1 ≡ p
      before = omega arith

      up : edges index targets t r ≡ edges index targets t p ++ piece_of index targets t r
      up = edges-up index targets t sc n T r U.low (omega arith) ∙ ap (λ x. edges index targets t x ++ piece_of index targets t r) before

      sum : length (edges index targets t r) ≡ length (edges index targets t p) + length (piece_of index targets t r)
      sum = ap (λ es. length es) up ∙ length-append (edges index targets t p) (piece_of index targets t r)

      place : count_of t p ≡ length (edges index targets t p)
      place = (T.rows p filling-low.1).count

      pub filling-room : at + count_of t p + length (piece_of index targets t r) ≤ length out
      filling-room = omega (arith, place, U.room, U.size, sum)

      pub filling-next : (out' : List ℕ) → out' ≡ sets out (at + count_of t p) (piece_of index targets t r)
          → Filling index targets t n path out₀ at out' p
      filling-next out' e =
          record {
            size = ap (λ x. length x) e ∙ length-sets out (at + count_of t p) (piece_of index targets t r) ∙ U.size;
            low = filling-low.1;
            room = omega (arith, U.room, sum);
            is =
                ap (λ x. sets x at (edges index targets t p)) (e ∙ ap (λ x. sets out (at + x) (piece_of index targets t r)) place)
                ∙ sets-back out at (edges index targets t p) (piece_of index targets t r)
                ∙ ap (λ x. sets out at x) (sym up)
                ∙ U.is;
          }

    pub filling-end : parent_of t r ≡ 0 → out ≡ sets out₀ at (edges index targets t path)
    filling-end h = ap (λ es. sets out at es) (sym (edges_none index targets t r h)) ∙ U.is
