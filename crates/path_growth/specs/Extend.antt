-- What the new records say of the edges: an extension is the path, its chain and an edge; a closed path is the path and its chain; a recovered path is
-- the front of a path and an edge.
use Rattle.std.specs.Prelude.{◌≡◌, ◌⊎◌, true, false, leb, length, take, set, Float}
use Rattle.std.proofs.Common.{◌∙◌, inl, inr, add-one, length-set, take_all, refl, sym, ap, List, [], ◌∷◌, ◌++◌, append_assoc, append-nil, ℕ, zero, suc, ◌+◌, ◌-◌, ◌<◌, ◌≤◌, arith, leb-true, leb-false}
use Rattle.std.proofs.lemmas.List.{take-append-le}
use Rattle.std.proofs.Math.Seq.{take-append-add}
use Rattle.laws.specs.BoolLaws.{Bool-cases}
use Rattle.path_growth.specs.declared.Taken.{Taken}
use Rattle.path_growth.specs.declared.Extension.{Extension}
use Rattle.path_growth.specs.declared.Cut.{Cut}
use Rattle.path_store.specs.Walk.{chain, end_from, run, Runs, Graph, sole, next, run_length, run-zero, runs-zero, end-nil}
use Rattle.path_store.specs.Cells.{parent_of, chain_of, edge_of, count_of, end_of, Inside, put_cells, put-length, put-at}
use Rattle.path_edges.specs.Path.{Table, Rooted, Right, inside, edges, edges-up, edges_none, count-up, piece_of, piece, piece_is, piece-length, piece-end, chain-end-at, last_edge, last-short}
use Rattle.path_growth.specs.Push.{Fresh}
use Rattle.path_growth.specs.Cut.{before, owner_by, owner_of, cut_at, cut_of, Owned, owned, owner_here, owner-up, has-parent, before-some, table-links}
use Rattle.path_growth.specs.Grow.{start_row, extended_row, closed_row, recovered_row, Following}

-- the path of the edges es with its chain, and then the edge l - 1 where l is not 0
pub longer : List ℕ → List ℕ → ℕ → List ℕ → ℕ → List ℕ
longer index targets source es l = es ++ chain index targets (end_from targets source es) ++ last_edge l

pub longer-is : (index targets : List ℕ) (source : ℕ) (es : List ℕ) (l : ℕ) → longer index targets source es l ≡ es ++ chain index targets (end_from targets source es) ++ last_edge l
unfolding longer
longer-is index targets source es l = refl

one-edge : (e : ℕ) → last_edge (e + 1) ≡ e ∷ []
one-edge e = rw (add-one e)

-- ---- the start path

pub started : (index targets t : List ℕ) (sc : List Float) (source : ℕ) → Graph index targets → source < length index → Inside t sc 0
    → Table index targets (put_cells t 0 (start_row source)) (set sc 0 (start_row source).score) 1
started index targets t sc source g s I =
    let u = put_cells t 0 (start_row source) in
    let a : parent_of u 0 ≡ 0 = put-at t 0 (start_row source) I.cells 0 (omega arith) in
    let b : edge_of u 0 ≡ 0 = put-at t 0 (start_row source) I.cells 2 (omega arith) in
    let c : count_of u 0 ≡ 0 = put-at t 0 (start_row source) I.cells 3 (omega arith) in
    let e : end_of u 0 ≡ source = put-at t 0 (start_row source) I.cells 4 (omega arith) in
    let first : Right index targets u 0 =
    record {
      rises = omega (arith, a);
      runs = λ h. absurd (omega (arith, a));
      last = omega (arith, b);
      count = c ∙ ap (λ es. length es) (sym (edges_none index targets u 0 a));
      low = omega (arith, e);
      forks = λ h. absurd (omega (arith, a));
    }
    in
    record {
      room = omega (arith, put-length t 0 (start_row source), I.cells);
      scored = omega (arith, length-set sc 0 (start_row source).score, I.score);
      graph = g;
      rows = λ r h. let z : r ≡ 0 = omega arith in rw z first;
    }

pub started-edges : (index targets t : List ℕ) (sc : List Float) (source : ℕ) → Inside t sc 0 → edges index targets (put_cells t 0 (start_row source)) 0 ≡ []
started-edges index targets t sc source I = edges_none index targets (put_cells t 0 (start_row source)) 0 (put-at t 0 (start_row source) I.cells 0 (omega arith))

pub started-rooted : (index targets t : List ℕ) (sc : List Float) (source : ℕ) → Inside t sc 0 → Rooted index targets source (put_cells t 0 (start_row source)) 1
started-rooted index targets t sc source I r l =
    let z : r ≡ 0 = omega arith in
    rw z
    (put-at t 0 (start_row source) I.cells 4 (omega arith)
    ∙ sym (end-nil targets source)
    ∙ ap (λ es. end_from targets source es) (sym (started-edges index targets t sc source I)))

-- ---- an extension, and a closed path
module _ (index targets t : List ℕ) (sc : List Float) (n : ℕ) (taken : Taken) (T : Table index targets t sc n) (I : Inside t sc n) (K : taken.path < n)
    (F : Following index targets t taken.path taken) where
  pub extended_fresh : (x : Extension) → x.edge < length targets → Fresh index targets t sc n taken.path (extended_row t targets taken x)
  extended_fresh x h =
      record {
        table = T;
        room = I;
        known = K;
        parent = add-one taken.path;
        runs = F.chain.runs;
        last = omega arith;
        count = omega (arith, ap (λ es. length es) (one-edge x.edge));
        end = rw (add-one x.edge) (sym (piece-end index targets (end_of t taken.path) taken.chain x.edge));
        fork = F.vertex;
      }

  pub closed-fresh : Fresh index targets t sc n taken.path (closed_row t sc taken)
  closed-fresh =
      record {
        table = T;
        room = I;
        known = K;
        parent = add-one taken.path;
        runs = F.chain.runs;
        last = omega arith;
        count = omega arith;
        end = F.vertex ∙ sym (chain-end-at index targets (end_of t taken.path) taken.chain);
        fork = F.vertex;
      }

  -- the piece behind the path is its chain and the edge
  pub piece-longer : (source l : ℕ) → Rooted index targets source t n
      → edges index targets t taken.path ++ piece index targets (end_of t taken.path) taken.chain l ≡ longer index targets source (edges index targets t taken.path) l
  unfolding longer
  piece-longer source l R =
      let u = end_of t taken.path in
      let es = edges index targets t taken.path in
      ap (λ x. es ++ x) (piece_is index targets u taken.chain l)
      ∙ sym (append_assoc es (run index targets u taken.chain) (last_edge l))
      ∙ ap (λ x. (es ++ x) ++ last_edge l) (sym F.chain.is ∙ ap (λ x. chain index targets x) (R taken.path K))

-- ---- a recovered path

pub record CutIs (index targets t : List ℕ) (n path k : ℕ) (cut : Cut) : Type 0 where
  pub known : cut.parent < n
  pub runs : Runs index targets (end_of t cut.parent) cut.chain
  pub size : count_of t cut.parent + cut.chain ≡ k
  pub is : edges index targets t cut.parent ++ run index targets (end_of t cut.parent) cut.chain ≡ take k (edges index targets t path)

module _ (index targets t : List ℕ) (sc : List Float) (n : ℕ) (T : Table index targets t sc n) (k : ℕ) (pos : 0 < k) where
  up-front : (r : ℕ) → r < n → k ≤ before t r → take k (edges index targets t (parent_of t r - 1)) ≡ take k (edges index targets t r)
  up-front r l h =
      let f = has-parent t k pos r h in
      let p = parent_of t r - 1 in
      let c : k ≤ length (edges index targets t p) =
      omega (arith, before-some t r (parent_of t r) refl (λ z. omega arith), (T.rows p (omega (arith, (T.rows r l).rises))).count)
      in
      sym (take-append-le k (edges index targets t p) (piece_of index targets t r) c) ∙ ap (λ es. take k es) (sym (edges-up index targets t sc n T r l f))

  Same-front : ℕ → ℕ → Type 0
  Same-front r a = (take k (edges index targets t a) ≡ take k (edges index targets t r)) × (k ≤ count_of t a)

  owner-front : (m r : ℕ) → r < n → k ≤ count_of t r → Same-front r (owner_by t k m r)
  unfolding owner_by Same-front
  owner-front zero r l c = (refl, c)
  owner-front (suc m) r l c =
      go (λ p q. owner-front m (parent_of t r - 1) (omega (arith, (T.rows r l).rises)) q) (Bool-cases (leb k (before t r)))
    where
      go : (0 < parent_of t r → k ≤ count_of t (parent_of t r - 1) → Same-front (parent_of t r - 1) (owner_by t k m (parent_of t r - 1)))
          → (leb k (before t r) ≡ true) ⊎ (leb k (before t r) ≡ false) → Same-front r (owner_by t k (suc m) r)
      go ih (inl h) =
          let b = leb-true k (before t r) h in
          let p = has-parent t k pos r b in
          let i = ih p (omega (arith, before-some t r (parent_of t r) refl (λ z. omega arith))) in
          rw (owner-up t k m r b) (i.0 ∙ up-front r l b, i.1)
      go ih (inr h) = rw (owner_here t k (suc m) r (leb-false k (before t r) h)) (refl, c)

  run-front : (u c j : ℕ) → j ≤ c → take j (run index targets u c) ≡ run index targets u j
  unfolding run
  run-front u c zero h = refl
  run-front u zero (suc j) h = absurd (omega arith)
  run-front u (suc c) (suc j) h = ap (λ l. sole index u ∷ l) (run-front (next index targets u) c j (omega arith))

  runs-front : (u c j : ℕ) → j ≤ c → Runs index targets u c → Runs index targets u j
  unfolding Runs
  runs-front u c zero h r = tt
  runs-front u zero (suc j) h r = absurd (omega arith)
  runs-front u (suc c) (suc j) h r = (r.0, runs-front (next index targets u) c j (omega arith) r.1)

  module _ (path a : ℕ) (O : Owned t n k a) (S : Same-front path a) where
    front-is : take k (edges index targets t a) ≡ take k (edges index targets t path)
    unfolding Same-front
    front-is = S.0

    front_low : k ≤ count_of t a
    unfolding Same-front
    front_low = S.1

    p : ℕ
    p = parent_of t a - 1

    p-low : parent_of t a - 1 < n
    p-low = omega (arith, O.low, O.has, (T.rows a O.low).rises)

    -- the cut falls in the owner's chain: its parent and a shorter chain
    inside_is : (j : ℕ) → count_of t (parent_of t a - 1) + j ≡ k → j ≤ chain_of t a
        → edges index targets t (parent_of t a - 1) ++ run index targets (end_of t (parent_of t a - 1)) j ≡ take k (edges index targets t path)
    inside_is j e h =
        let q = parent_of t a - 1 in
        let u = end_of t q in
        let c = chain_of t a in
        let m : k ≡ length (edges index targets t q) + j = omega (arith, (T.rows q p-low).count) in
        sym
        (sym front-is
        ∙ ap (λ es. take k es) (edges-up index targets t sc n T a O.low O.has)
        ∙ ap (λ x. take x (edges index targets t q ++ piece_of index targets t a)) m
        ∙ take-append-add (edges index targets t q) (piece_of index targets t a) j
        ∙ ap (λ x. edges index targets t q ++ take j x) (piece_is index targets u c (edge_of t a))
        ∙ ap (λ x. edges index targets t q ++ x) (take-append-le j (run index targets u c) (last_edge (edge_of t a)) (omega (arith, run_length index targets u c)) ∙ run-front u c j h))

    whole : chain_of t a < k - count_of t (parent_of t a - 1) → k ≡ count_of t a
    whole h =
        omega (
          arith,
          front_low,
          (T.rows a O.low).count,
          (T.rows (parent_of t a - 1) p-low).count,
          count-up index targets t sc n T a O.low O.has,
          piece-length index targets (end_of t (parent_of t a - 1)) (chain_of t a) (edge_of t a),
          last-short (edge_of t a),
        )

    cut-at : CutIs index targets t n path k (cut_at t k a)
    unfolding cut_at
    cut-at = go (Bool-cases (leb (k - count_of t (parent_of t a - 1)) (chain_of t a)))
      where
        go : (leb (k - count_of t (parent_of t a - 1)) (chain_of t a) ≡ true) ⊎ (leb (k - count_of t (parent_of t a - 1)) (chain_of t a) ≡ false)
            → CutIs index targets t n path k (cut_at t k a)
        go (inl h) =
            let b = leb-true (k - count_of t (parent_of t a - 1)) (chain_of t a) h in
            let s : count_of t (parent_of t a - 1) + (k - count_of t (parent_of t a - 1)) ≡ k = omega (arith, O.below) in
            rw (h, cut_at)
            (record {
              known = p-low;
              runs = runs-front (end_of t (parent_of t a - 1)) (chain_of t a) (k - count_of t (parent_of t a - 1)) b ((T.rows a O.low).runs O.has);
              size = s;
              is = inside_is (k - count_of t (parent_of t a - 1)) s b;
            })
        go (inr h) =
            let b = leb-false (k - count_of t (parent_of t a - 1)) (chain_of t a) h in
            rw (h, cut_at)
            (record {
              known = omega (arith, O.low);
              runs = runs-zero index targets (end_of t a);
              size = omega (arith, whole b);
              is =
                  ap (λ x. edges index targets t a ++ x) (run-zero index targets (end_of t a))
                  ∙ append-nil (edges index targets t a)
                  ∙ sym (take_all k (edges index targets t a) (omega (arith, whole b, (T.rows a O.low).count)))
                  ∙ front-is;
            })

  pub cut-is : (path : ℕ) → path < n → k ≤ count_of t path → CutIs index targets t n path k (cut_of t k path)
  unfolding owner_of
  cut-is path l c =
      cut-at path (owner_of t k path) (owned t sc n k (table-links index targets t sc n T) pos path l c) (owner-front path path l c)

-- what the walk to the end of a cut asks
pub record Ends (index targets t : List ℕ) (sc : List Float) (cut : Cut) : Type 0 where
  pub graph : Graph index targets
  pub own : Inside t sc cut.parent
  pub runs : Runs index targets (end_of t cut.parent) cut.chain
  pub low : end_of t cut.parent < length index

pub cut-ends : (index targets t : List ℕ) (sc : List Float) (path k : ℕ) (cut : Cut) → Table index targets t sc (path + 1) → 0 < k → k ≤ count_of t path → cut ≡ cut_of t k path
    → Ends index targets t sc cut
cut-ends index targets t sc path k cut T pos low e =
    let C = cut-is index targets t sc (path + 1) T k pos path (omega arith) low in
    rw e
    (record {
      graph = T.graph;
      own = inside index targets t sc (path + 1) T (cut_of t k path).parent C.known;
      runs = C.runs;
      low = (T.rows (cut_of t k path).parent C.known).low;
    })

pub cut-known : (index targets t : List ℕ) (sc : List Float) (path k : ℕ) (cut : Cut) → Table index targets t sc (path + 1) → 0 < k → k ≤ count_of t path → cut ≡ cut_of t k path
    → cut.parent ≤ path
cut-known index targets t sc path k cut T pos low e =
    rw e (let l = (cut-is index targets t sc (path + 1) T k pos path (omega arith) low).known in omega arith)

module _ (index targets t : List ℕ) (sc : List Float) (n path k e : ℕ) (T : Table index targets t sc n) (I : Inside t sc n) (K : path < n) (pos : 0 < k) (low : k ≤ count_of t path)
    (h : e < length targets) where
  pub recovered-fresh : Fresh index targets t sc n (cut_of t k path).parent (recovered_row index t sc targets path k e)
  recovered-fresh =
      let C = cut-is index targets t sc n T k pos path K low in
      let cut = cut_of t k path in
      record {
        table = T;
        room = I;
        known = C.known;
        parent = add-one cut.parent;
        runs = C.runs;
        last = omega arith;
        count = omega (arith, C.size, ap (λ es. length es) (one-edge e));
        end = rw (add-one e) (sym (piece-end index targets (end_of t cut.parent) cut.chain e));
        fork = refl;
      }

  pub recovered-piece : edges index targets t (cut_of t k path).parent ++ piece index targets (end_of t (cut_of t k path).parent) (cut_of t k path).chain (e + 1)
      ≡ take k (edges index targets t path) ++ e ∷ []
  recovered-piece =
      let C = cut-is index targets t sc n T k pos path K low in
      let cut = cut_of t k path in
      let q = cut.parent in
      ap (λ x. edges index targets t q ++ x) (piece_is index targets (end_of t q) cut.chain (e + 1))
      ∙ sym (append_assoc (edges index targets t q) (run index targets (end_of t q) cut.chain) (last_edge (e + 1)))
      ∙ ap (λ x. x ++ last_edge (e + 1)) C.is
      ∙ ap (λ x. take k (edges index targets t path) ++ x) (one-edge e)
