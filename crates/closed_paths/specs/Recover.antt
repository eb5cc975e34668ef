-- The definition's `recover`, by what the functions tell: the best closed path through the vertex, where it is split, and the record that is made.
use Rattle.std.specs.Prelude.{◌≡◌, ◌⊎◌, Option, Some, None, Bool, true, false, cond, List, [], ◌∷◌, ◌++◌, map, length, get_or, take, set, Float}
use Rattle.std.proofs.Common.{sym, ◌∙◌, inl, inr, arith, refl, ap, ℕ, zero, suc, ◌+◌, ◌-◌, ◌<◌, ◌≤◌, eqb, eq-eqb, le-leb}
use Rattle.std.proofs.Math.Option.{none, some}
use Rattle.std.proofs.Math.Option as math
use Rattle.std.proofs.lemmas.Bool.{lt-leb}
use Rattle.laws.specs.Lists.{any, keep, find_last, position}
use Rattle.laws.specs.ListLaws.{All, nil, cons, all_append, all-find_last}
use Rattle.laws.specs.BoolLaws.{Bool-cases}
use Rattle.laws.specs.Finding.{position-hit, position_past, last-later, last-first, on_some}
use Rattle.definition.specs.Threading.{Ends, eq_ends}
use Rattle.definition.specs.Score.{column_scoring}
use Rattle.definition.specs.Search.{SearchInput, Path, State, made, broken, greatest, vertices_from, recover}
use Rattle.path_store.specs.Walk.{Graph, run, Runs, sole, next}
use Rattle.path_store.specs.Cells.{parent_of, chain_of, edge_of, count_of, end_of, score_of, Inside, put_cells}
use Rattle.path_edges.specs.Path.{Table, edges, edges_none, edges-up, last_edge, piece_is, piece_of, Nat-cases}
use Rattle.path_growth.specs.Grow.{recovered_row}
use Rattle.path_growth.specs.Link.{Agrees}
use Rattle.path_growth.specs.View.{view_of, closed_of, recovered-view, recovered-length}
use Rattle.closed_paths.specs.Best.{best_of, closed_at, found_at, best-greatest}
use Rattle.closed_paths.specs.Split.{last_into, split_at, last-ends, place-ends}

-- ---- every edge of a path is one of the graph's

module _ (index targets : List ℕ) (g : Graph index targets) where
  run_in : (u c : ℕ) → Runs index targets u c → All (λ e. e < length targets) (run index targets u c)
  unfolding run Runs
  run_in u zero r = nil
  run_in u (suc c) r = cons {x = sole index u} (omega (arith, g.near u, r.0)) (run_in (next index targets u) c r.1)

  last-in : (l : ℕ) → l ≤ length targets → All (λ e. e < length targets) (last_edge l)
  last-in zero h = nil
  last-in (suc e) h = cons {x = e} (omega arith) nil

module _ (index targets t : List ℕ) (sc : List Float) (n : ℕ) (T : Table index targets t sc n) where
  piece-in : (r : ℕ) → r < n → 0 < parent_of t r → All (λ e. e < length targets) (piece_of index targets t r)
  piece-in r l h =
      rw (piece_is index targets (end_of t (parent_of t r - 1)) (chain_of t r) (edge_of t r))
      (all_append (run_in index targets T.graph (end_of t (parent_of t r - 1)) (chain_of t r) ((T.rows r l).runs h)) (last-in index targets T.graph (edge_of t r) (T.rows r l).last))

  in-to : (m r : ℕ) → r < m → r < n → All (λ e. e < length targets) (edges index targets t r)
  in-to zero r a l = absurd (omega arith)
  in-to (suc m) r a l = go (λ p b c. in-to m p b c) (Nat-cases (parent_of t r))
    where
      go : ((p : ℕ) → p < m → p < n → All (λ e. e < length targets) (edges index targets t p)) → (parent_of t r ≡ 0) ⊎ (parent_of t r ≡ suc (parent_of t r - 1))
          → All (λ e. e < length targets) (edges index targets t r)
      go up (inl z) = rw (edges_none index targets t r z) nil
      go up (inr z) =
          let p = parent_of t r - 1 in
          let h : 0 < parent_of t r = omega arith in
          let q : (p < m) × (p < n) = omega (arith, (T.rows r l).rises) in
          rw (edges-up index targets t sc n T r l h) (all_append (up p q.0 q.1) (piece-in r l h))

  pub edges-in : (r : ℕ) → r < n → All (λ e. e < length targets) (edges index targets t r)
  edges-in r l = in-to (suc r) r (omega arith) l

-- every place of a list with this property has it
pub all-at : (P : ℕ → Type 0) (xs : List ℕ) → All P xs → (i : ℕ) → i < length xs → P (get_or xs i 0)
all-at P [] a i h = absurd (omega arith)
all-at P (x ∷ xs) (cons p a) zero h = p
all-at P (x ∷ xs) (cons p a) (suc i) h = all-at P xs a i (omega arith)

-- ---- where the path is split

pub found_below : (p : ℕ → Bool) (es : List ℕ) (d : ℕ) → find_last p es ≡ some d → position (eqb d) es < length es
found_below p [] d h = let z : ◌≡◌ {A = ℕ} 0 1 = cc in absurd (omega arith)
found_below p (x ∷ es) d h = go (find_last p es) refl (λ k. found_below p es d k)
  where
    later : position (eqb d) es < length es → (eqb d x ≡ true) ⊎ (eqb d x ≡ false) → position (eqb d) (x ∷ es) < suc (length es)
    later ih (inl k) = omega (arith, position-hit (eqb d) x es k)
    later ih (inr k) = omega (arith, position_past (eqb d) x es k)

    first : (b : Bool) → cond b (some x) none ≡ some d → position (eqb d) (x ∷ es) < suc (length es)
    first true k = let q : x ≡ d = cc in omega (arith, position-hit (eqb d) x es (eq-eqb d x (sym q)))
    first false k = let z : ◌≡◌ {A = ℕ} 0 1 = cc in absurd (omega arith)

    go : (o : math.Option ℕ) → find_last p es ≡ o → (find_last p es ≡ some d → position (eqb d) es < length es) → position (eqb d) (x ∷ es) < suc (length es)
    go none e ih = first (p x) (sym (last-first p x es e) ∙ h)
    go (some y) e ih = later (ih (e ∙ sym (last-later p x y es e) ∙ h)) (Bool-cases (eqb d x))

-- what a split says
pub record SplitIs (targets : List ℕ) (v : ℕ) (es : List ℕ) (k : ℕ) : Type 0 where
  pub edge : ℕ
  pub last : last_into targets v es ≡ some edge
  pub place : k ≡ suc (position (eqb edge) es)

split-zero : (targets : List ℕ) (v : ℕ) (es : List ℕ) (o : math.Option ℕ) → last_into targets v es ≡ o → split_at targets v es ≡ 0 → last_into targets v es ≡ none
unfolding split_at
split-zero targets v es none e h = e
split-zero targets v es (some d) e h =
    let z : suc (position (eqb d) es) ≡ 0 = rw (e, split_at) at h in
    absurd (omega arith)

split-is : (targets : List ℕ) (v : ℕ) (es : List ℕ) (o : math.Option ℕ) (k : ℕ) → last_into targets v es ≡ o → k ≡ split_at targets v es → 0 < k → SplitIs targets v es k
unfolding split_at
split-is targets v es none k e h p =
    let z : k ≡ 0 = rw (e, split_at) at h in
    absurd (omega arith)
split-is targets v es (some d) k e h p = record { edge = d; last = e; place = rw (e, split_at) at h }

-- a split keeps no more edges than there are
pub split-low : (targets : List ℕ) (v : ℕ) (es : List ℕ) (k : ℕ) → k ≡ split_at targets v es → 0 < k → k ≤ length es
split-low targets v es k h p =
    let S = split-is targets v es (last_into targets v es) k refl h p in
    omega (arith, S.place, found_below (λ d. eqb (get_or targets d 0) v) es S.edge S.last)

-- ---- `recover`
module _ (f : SearchInput) (ends : ℕ → Ends) (index targets : List ℕ) (A : Agrees f index targets ends) (column : List Float) (closing : ℕ → ℕ) (t : List ℕ) (sc : List Float) (n : ℕ)
    (T : Table index targets t sc n) (e : ℕ) (cs : List ℕ) (s : State Float) (C : s.closed ≡ map (closed_at f ends index targets A column closing t sc (ends e).from) cs) where
  top : (b : Option ℕ) → b ≡ best_of index targets f.source t sc (ends e).from cs
      → greatest (column_scoring column) (keep (λ c. any (eqb (ends e).from) (vertices_from f.source c.edges)) s.closed) ≡ found_at f ends index targets A column closing t sc (ends e).from b
  top b h = rw (C, h) (best-greatest f ends index targets A column closing t sc (ends e).from cs)

  pub recover-none : (b : Option ℕ) → b ≡ best_of index targets f.source t sc (ends e).from cs → b ≡ None → recover (column_scoring column) f (ends e) s ≡ made s []
  unfolding recover
  recover-none b h z =
      let g : greatest (column_scoring column) (keep (λ c. any (eqb (ends e).from) (vertices_from f.source c.edges)) s.closed) ≡ none =
      top b h ∙ ap (λ x. found_at f ends index targets A column closing t sc (ends e).from x) z
      in
      rw (g, recover)

  module _ (b : ℕ) (h : Some b ≡ best_of index targets f.source t sc (ends e).from cs) (l : b < n) where
    found : greatest (column_scoring column) (keep (λ c. any (eqb (ends e).from) (vertices_from f.source c.edges)) s.closed) ≡ some (closed_of ends index targets t sc (closing b) b)
    found = top (Some b) h

    pub recover-lost : split_at targets (ends e).from (edges index targets t b) ≡ 0 → recover (column_scoring column) f (ends e) s ≡ made s []
    unfolding recover
    recover-lost z =
        let o : find_last (λ (d : Ends). eqb d.to (ends e).from) (map ends (edges index targets t b)) ≡ none =
        last-ends f index targets ends A (ends e).from (edges index targets t b)
        ∙ ap (λ x. on_some ends x) (split-zero targets (ends e).from (edges index targets t b) (last_into targets (ends e).from (edges index targets t b)) refl z)
        in
        rw (found, o, recover)

    module _ (k : ℕ) (K : k ≡ split_at targets (ends e).from (edges index targets t b)) (pos : 0 < k) where
      S : SplitIs targets (ends e).from (edges index targets t b) k
      S = split-is targets (ends e).from (edges index targets t b) (last_into targets (ends e).from (edges index targets t b)) k refl K pos

      edge-low : S.edge < length targets
      edge-low = (all-find_last (λ d. eqb (get_or targets d 0) (ends e).from) (edges-in index targets t sc n T b l) S.last).0

      last-is : find_last (λ (d : Ends). eqb d.to (ends e).from) (map ends (edges index targets t b)) ≡ some (ends S.edge)
      last-is = last-ends f index targets ends A (ends e).from (edges index targets t b) ∙ ap (λ x. on_some ends x) S.last

      place_is : suc (position (eq_ends (ends S.edge)) (map ends (edges index targets t b))) ≡ k
      place_is = ap suc (place-ends f index targets ends A S.edge (edges index targets t b) edge-low (edges-in index targets t sc n T b l)) ∙ sym S.place

      pub recover-low : k ≤ count_of t b
      recover-low = omega (arith, split-low targets (ends e).from (edges index targets t b) k K pos, (T.rows b l).count)

      module _ (I : Inside t sc n) (E : e < length targets) where
        size : length (take k (map ends (edges index targets t b)) ++ ends e ∷ []) ≡ k + 1
        size = recovered-length f ends index targets A t sc n b k e T I l pos recover-low E

        pub recover-over : f.path_edges < k + 1 → recover (column_scoring column) f (ends e) s ≡ broken 11
        unfolding recover
        recover-over m =
            rw
            (found, last-is, place_is, lt-leb (length (take k (map ends (edges index targets t b)) ++ ends e ∷ [])) f.path_edges (omega (arith, size)), recover)

        pub recover-made : k + 1 ≤ f.path_edges
            → recover (column_scoring column) f (ends e) s
            ≡ made s (view_of f ends index targets [] (put_cells t n (recovered_row index t sc targets b k e)) (set sc n (score_of sc b)) n ∷ [])
        unfolding recover
        recover-made m =
            rw
            (found, last-is, place_is, le-leb (length (take k (map ends (edges index targets t b)) ++ ends e ∷ [])) f.path_edges (omega (arith, size)), recover, place_is)
            (ap (λ (p : Path Float). made s (p ∷ [])) (sym (recovered-view f ends index targets A t sc n b k e T I l pos recover-low E)))
