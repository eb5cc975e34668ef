-- A record as the definition's path, and what each function's tables say of it: the start path, an extension, a joined tree, a closed path, a recovered
-- path, the repeat rule. `bs` are the active trees of the path, which another table holds.
use Rattle.std.specs.Prelude.{◌≡◌, Bool, false, not, ◌||◌, cond, ℕ, suc, ◌+◌, ◌<◌, ◌≤◌, length, set, Float}
use Rattle.std.proofs.Common.{sym, ◌∙◌, add-one, arith, le-leb, refl, ap, List, [], ◌∷◌, ◌++◌, map, take, get_or-set_same}
use Rattle.std.proofs.lemmas.Bool.{lt-leb}
use Rattle.std.proofs.lemmas.List.{length-map}
use Rattle.std.specs.Float.Ieee.{nan}
use Rattle.laws.specs.Lists.{keep, is_some, is_empty}
use Rattle.definition.specs.Refusal.{ok, refused}
use Rattle.definition.specs.Threading.{Ends}
use Rattle.definition.specs.Evidence.{Branches, tree_at}
use Rattle.definition.specs.Search.{SearchInput, Path, Closed, walk_trees, lengthen, repeat_rule}
use Rattle.definition.specs.Search as defs
use Rattle.path_store.specs.declared.records.PathRecord.{PathRecord}
use Rattle.path_growth.specs.declared.Taken.{Taken}
use Rattle.path_growth.specs.declared.Extension.{Extension}
use Rattle.path_store.specs.Walk.{times}
use Rattle.path_store.specs.Cells.{parent_of, count_of, end_of, since_of, joined_of, score_of, Inside, put_cells, put-at, put-recovered}
use Rattle.path_edges.specs.Path.{Table, Rooted, Same, edges, edges-same}
use Rattle.path_growth.specs.Push.{Fresh, pushed}
use Rattle.path_growth.specs.Cut.{cut_of}
use Rattle.path_growth.specs.Grow.{start_row, extended_row, closed_row, recovered_row, Following}
use Rattle.path_growth.specs.Extend.{longer, started-edges, extended_fresh, closed-fresh, piece-longer, recovered-fresh, recovered-piece}
use Rattle.path_edges.specs.Visit.{vertices_of, visited, visited-same, visited-recovered, visited-start, visited-next, keeps, keeps-is}
use Rattle.path_growth.specs.Link.{Agrees, end_same, targets-same, times-same, longer-same, closed_same, recovered-same}

-- the vertices that have a tree
abbrev pub has_tree : SearchInput → ℕ → Bool
has_tree f v = is_some (tree_at f.trees v)

-- the record r as a path
abbrev pub view_of : SearchInput → (ℕ → Ends) → List ℕ → List ℕ → List Branches → List ℕ → List Float → ℕ → Path Float
view_of f ends index targets bs t sc r =
    record {
      edges = map ends (edges index targets t r);
      score = score_of sc r;
      active = bs;
      visited = visited (has_tree f) index targets f.source t r;
      since = since_of t r;
    }

-- the record r as a closed path
abbrev pub closed_of : (ℕ → Ends) → List ℕ → List ℕ → List ℕ → List Float → ℕ → ℕ → Closed Float
closed_of ends index targets t sc closing r = record { closing = closing; edges = map ends (edges index targets t r); score = score_of sc r }

module _ (f : SearchInput) (ends : ℕ → Ends) (index targets : List ℕ) where
  -- ---- a record that stays
  pub view-kept : (bs : List Branches) (t u : List ℕ) (sc sd : List Float) (n r : ℕ) → Table index targets t sc n → Same 9 t u n → score_of sd r ≡ score_of sc r → r < n
      → view_of f ends index targets bs u sd r ≡ view_of f ends index targets bs t sc r
  view-kept bs t u sc sd n r T h s l =
      let rise : (i : ℕ) → i < n → parent_of t i ≤ i = λ i k. (T.rows i k).rises in
      cc
      (edges-same index targets t u n r rise (λ a b x y. h a b x (omega arith)) l, s, visited-same (has_tree f) index targets f.source t u n r rise h l, h r 6 l (omega arith))

  pub closed-kept : (t u : List ℕ) (sc sd : List Float) (n k r : ℕ) → Table index targets t sc n → Same 6 t u n → score_of sd r ≡ score_of sc r → r < n
      → closed_of ends index targets u sd k r ≡ closed_of ends index targets t sc k r
  closed-kept t u sc sd n k r T h s l = cc (edges-same index targets t u n r (λ i k. (T.rows i k).rises) h l, s)

  -- ---- the start path
  pub start-view : (t : List ℕ) (sc : List Float) → Inside t sc 0
      → view_of f ends index targets [] (put_cells t 0 (start_row f.source)) (set sc 0 (start_row f.source).score) 0
      ≡ record { edges = []; score = (start_row f.source).score; active = []; visited = []; since = 0 }
  start-view t sc I =
      let row = start_row f.source in
      let u = put_cells t 0 row in
      let j : joined_of u 0 ≡ 0 = put-at t 0 row I.cells 7 (omega arith) in
      let v : visited (has_tree f) index targets f.source u 0 ≡ [] =
      visited-start (has_tree f) index targets f.source u 0 (put-recovered t 0 row I.cells) (put-at t 0 row I.cells 0 (omega arith)) ∙ (rw j)
      in
      let e : map ends (edges index targets u 0) ≡ [] = ap (λ x. map ends x) (started-edges index targets t sc f.source I) in
      let s : score_of (set sc 0 row.score) 0 ≡ row.score = get_or-set_same sc 0 row.score nan I.score in
      let d : since_of u 0 ≡ 0 = put-at t 0 row I.cells 6 (omega arith) in
      cc

  -- ---- a pushed record whose joined cell is empty and which was not recovered: it has visited what its parent has
  pushed-visited : (t : List ℕ) (sc : List Float) (n p : ℕ) (row : PathRecord) → Fresh index targets t sc n p row → row.joined ≡ 0 → row.recovered ≡ false
      → visited (has_tree f) index targets f.source (put_cells t n row) n ≡ visited (has_tree f) index targets f.source t p
  pushed-visited t sc n p row F j m =
      let u = put_cells t n row in
      let P = pushed index targets t sc n p row F in
      let rise : (i : ℕ) → i < n + 1 → parent_of u i ≤ i = λ i k. (P.table.rows i k).rises in
      let a : parent_of u n ≡ suc p = put-at t n row F.room.cells 0 (omega arith) ∙ F.parent in
      let b : joined_of u n ≡ 0 = put-at t n row F.room.cells 7 (omega arith) ∙ j in
      visited-next (has_tree f) index targets f.source u (n + 1) n p rise (omega arith) (put-recovered t n row F.room.cells ∙ m) a
      ∙ (rw b)
      ∙ visited-same (has_tree f) index targets f.source t u n p (λ i k. (F.table.rows i k).rises) P.same F.known

  module _ (A : Agrees f index targets ends) where
    -- ---- an extension
    module _ (t : List ℕ) (sc : List Float) (n : ℕ) (taken : Taken) (T : Table index targets t sc n) (R : Rooted index targets f.source t n) (I : Inside t sc n)
        (K : taken.path < n) (F : Following index targets t taken.path taken) where
      c : List Ends
      c = defs.chain f (defs.end_from f.source (map ends (edges index targets t taken.path)))

      module _ (x : Extension) (h : x.edge < length targets) where
        new-edges : map ends (edges index targets (put_cells t n (extended_row t targets taken x)) n) ≡ map ends (edges index targets t taken.path) ++ c ++ ends x.edge ∷ []
        unfolding c
        new-edges =
            let P = pushed index targets t sc n taken.path (extended_row t targets taken x) (extended_fresh index targets t sc n taken T I K F x h) in
            ap (λ y. map ends y) (P.is ∙ piece-longer index targets t sc n taken T I K F f.source (x.edge + 1) R)
            ∙ ap (λ y. map ends (longer index targets f.source (edges index targets t taken.path) y)) (add-one x.edge)
            ∙ longer-same f index targets ends A f.source (edges index targets t taken.path) x.edge

        new-length : length (map ends (edges index targets t taken.path) ++ c ++ ends x.edge ∷ []) ≡ count_of t taken.path + taken.chain + 1
        new-length =
            let row = extended_row t targets taken x in
            let P = pushed index targets t sc n taken.path row (extended_fresh index targets t sc n taken T I K F x h) in
            ap (λ (y : List Ends). length y) (sym new-edges)
            ∙ length-map (edges index targets (put_cells t n row) n) ends
            ∙ sym (P.table.rows n (omega arith)).count
            ∙ put-at t n row I.cells 3 (omega arith)

        module _ (bs : List Branches) (guided free : Bool) where
          pub extended-full : f.path_edges < (extended_row t targets taken x).edges
              → lengthen f (view_of f ends index targets bs t sc taken.path) (defs.chain f (defs.end_from f.source (map ends (edges index targets t taken.path)))) (ends x.edge) x.score guided free
              ≡ refused 11
          unfolding lengthen c
          extended-full g = rw (lt-leb (length (map ends (edges index targets t taken.path) ++ c ++ ends x.edge ∷ [])) f.path_edges (omega (arith, new-length)), lengthen)

          pub extended-made : (extended_row t targets taken x).edges ≤ f.path_edges
              → x.since ≡ cond (not (is_empty (walk_trees (ends x.edge) bs)) || guided) 0 (cond free (since_of t taken.path) (suc (since_of t taken.path)))
              → lengthen f (view_of f ends index targets bs t sc taken.path) (defs.chain f (defs.end_from f.source (map ends (edges index targets t taken.path)))) (ends x.edge) x.score guided free
              ≡ ok (view_of f ends index targets (walk_trees (ends x.edge) bs) (put_cells t n (extended_row t targets taken x)) (set sc n x.score) n)
          unfolding lengthen c
          extended-made g s =
              let row = extended_row t targets taken x in
              let u = put_cells t n row in
              let v = pushed-visited t sc n taken.path row (extended_fresh index targets t sc n taken T I K F x h) refl refl in
              let d : since_of u n ≡ x.since = put-at t n row I.cells 6 (omega arith) in
              let w : score_of (set sc n x.score) n ≡ x.score = get_or-set_same sc n x.score nan I.score in
              rw (le-leb (length (map ends (edges index targets t taken.path) ++ c ++ ends x.edge ∷ [])) f.path_edges (omega (arith, new-length)), lengthen)
              (sym (rw (new-edges, w, v, d, s)))

      -- ---- a closed path
      pub closed-edges : map ends (edges index targets (put_cells t n (closed_row t sc taken)) n) ≡ map ends (edges index targets t taken.path) ++ defs.chain f (defs.end_from f.source (map ends (edges index targets t taken.path)))
      closed-edges =
          let P = pushed index targets t sc n taken.path (closed_row t sc taken) (closed-fresh index targets t sc n taken T I K F) in
          ap (λ y. map ends y) (P.is ∙ piece-longer index targets t sc n taken T I K F f.source 0 R) ∙ closed_same f index targets ends A f.source (edges index targets t taken.path)

      pub closed-length : length (map ends (edges index targets t taken.path) ++ defs.chain f (defs.end_from f.source (map ends (edges index targets t taken.path)))) ≡ (closed_row t sc taken).edges
      closed-length =
          let row = closed_row t sc taken in
          let P = pushed index targets t sc n taken.path row (closed-fresh index targets t sc n taken T I K F) in
          ap (λ (y : List Ends). length y) (sym closed-edges)
          ∙ length-map (edges index targets (put_cells t n row) n) ends
          ∙ sym (P.table.rows n (omega arith)).count
          ∙ put-at t n row I.cells 3 (omega arith)

      -- the closed path that `close_at` adds
      pub closed-view : (closing : ℕ)
          → closed_of ends index targets (put_cells t n (closed_row t sc taken)) (set sc n (score_of sc taken.path)) closing n
          ≡ record { closing = closing; edges = map ends (edges index targets t taken.path) ++ defs.chain f (defs.end_from f.source (map ends (edges index targets t taken.path))); score = score_of sc taken.path }
      closed-view closing = cc (closed-edges, get_or-set_same sc n (score_of sc taken.path) nan I.score)

    -- ---- a recovered path, as `recover` makes it
    pub recovered-view : (t : List ℕ) (sc : List Float) (n path k e : ℕ) → Table index targets t sc n → Inside t sc n → path < n → 0 < k → k ≤ count_of t path → e < length targets
        → view_of f ends index targets [] (put_cells t n (recovered_row index t sc targets path k e)) (set sc n (score_of sc path)) n
        ≡ record {
          edges = take k (map ends (edges index targets t path)) ++ ends e ∷ [];
          score = score_of sc path;
          active = [];
          visited = keep (has_tree f) (defs.vertices_from f.source (take k (map ends (edges index targets t path)) ++ ends e ∷ []));
          since = 0;
        }
    unfolding defs.vertices_from
    recovered-view t sc n path k e T I K pos low h =
        let row = recovered_row index t sc targets path k e in
        let u = put_cells t n row in
        let P = pushed index targets t sc n (cut_of t k path).parent row (recovered-fresh index targets t sc n path k e T I K pos low h) in
        let es : edges index targets u n ≡ take k (edges index targets t path) ++ e ∷ [] = P.is ∙ recovered-piece index targets t sc n path k e T I K pos low h in
        let a : map ends (edges index targets u n) ≡ take k (map ends (edges index targets t path)) ++ ends e ∷ [] =
        ap (λ x. map ends x) es ∙ recovered-same f index targets ends A k (edges index targets t path) e
        in
        let j : joined_of u n ≡ 0 = put-at t n row I.cells 7 (omega arith) in
        let vs : vertices_of targets f.source (edges index targets u n) ≡ f.source ∷ map (λ (d : Ends). d.to) (take k (map ends (edges index targets t path)) ++ ends e ∷ []) =
        ap (λ (x : List ℕ). f.source ∷ x) (targets-same f index targets ends A (edges index targets u n) ∙ ap (λ x. map (λ (d : Ends). d.to) x) a)
        in
        let v : visited (has_tree f) index targets f.source u n ≡ keep (has_tree f) (f.source ∷ map (λ (d : Ends). d.to) (take k (map ends (edges index targets t path)) ++ ends e ∷ [])) =
        visited-recovered (has_tree f) index targets f.source u n (put-recovered t n row I.cells) ∙ (rw j) ∙ ap (λ x. keep (has_tree f) x) vs
        in
        let s : score_of (set sc n (score_of sc path)) n ≡ score_of sc path = get_or-set_same sc n (score_of sc path) nan I.score in
        let d : since_of u n ≡ 0 = put-at t n row I.cells 6 (omega arith) in
        rw (a, v, s, d)

    pub recovered-length : (t : List ℕ) (sc : List Float) (n path k e : ℕ) → Table index targets t sc n → Inside t sc n → path < n → 0 < k → k ≤ count_of t path → e < length targets
        → length (take k (map ends (edges index targets t path)) ++ ends e ∷ []) ≡ k + 1
    recovered-length t sc n path k e T I K pos low h =
        let row = recovered_row index t sc targets path k e in
        let P = pushed index targets t sc n (cut_of t k path).parent row (recovered-fresh index targets t sc n path k e T I K pos low h) in
        ap (λ (x : List Ends). length x) (sym (ap (λ x. map ends x) (P.is ∙ recovered-piece index targets t sc n path k e T I K pos low h) ∙ recovered-same f index targets ends A k (edges index targets t path) e))
        ∙ length-map (edges index targets (put_cells t n row) n) ends
        ∙ sym (P.table.rows n (omega arith)).count
        ∙ put-at t n row I.cells 3 (omega arith)

    -- ---- the repeat rule, and the count that a single extension asks for
    pub keeps-view : (bs : List Branches) (t : List ℕ) (sc : List Float) (n r : ℕ) → Rooted index targets f.source t n → r < n
        → keeps index targets f.source t r ≡ repeat_rule f (view_of f ends index targets bs t sc r)
    unfolding repeat_rule
    keeps-view bs t sc n r R l =
        let e : end_of t r ≡ defs.end_from f.source (map ends (edges index targets t r)) = R r l ∙ end_same f index targets ends A f.source (edges index targets t r) in
        keeps-is index targets f.source t r ∙ (rw (e, times-same f index targets ends A f.source (defs.end_from f.source (map ends (edges index targets t r))) (edges index targets t r)))

    pub times-view : (t : List ℕ) (r v : ℕ) → times targets f.source v (edges index targets t r) ≡ defs.times v (defs.vertices_from f.source (map ends (edges index targets t r)))
    times-view t r v = times-same f index targets ends A f.source v (edges index targets t r)
