-- A tree joins a taken path: its record changes in place, and no path but it sees that, since it has no children yet.
use Rattle.std.specs.Prelude.{◌≡◌, ◌⊎◌, ◌≢◌, Bool, true, false, eqb, length, set, Float}
use Rattle.std.proofs.Common.{sym, ◌∙◌, inl, inr, arith, ap, List, [], ◌∷◌, ◌++◌, ℕ, zero, suc, ◌+◌, ◌-◌, ◌*◌, ◌<◌, ◌≤◌, lt-ltb, le-ltb, add-one}
use Rattle.std.proofs.Math.Option.{none, some}
use Rattle.std.proofs.Math.Decide.{ℕ_discrete}
use Rattle.std.proofs.lemmas.List.{set-get_or}
use Rattle.std.specs.Float.{nan}
use Rattle.laws.specs.Lists.{any, keep}
use Rattle.laws.specs.Records.{field}
use Rattle.laws.specs.BoolLaws.{Bool-cases}
use Rattle.definition.specs.Refusal.{ok, refused}
use Rattle.definition.specs.Threading.{Ends}
use Rattle.definition.specs.Evidence.{Branches, has_branch, tree_at}
use Rattle.definition.specs.Search.{SearchInput, join_tree}
use Rattle.path_store.specs.declared.records.PathRecord.{PathRecord}
use Rattle.path_store.specs.Cells.{parent_of, since_of, joined_of, trees_of, recovered_of, score_of, path_at, put_cells, put-length, put-at, put_other, put-recovered}
use Rattle.path_edges.specs.Path.{Table, Rooted, Same, edges, inside, Nat-cases}
use Rattle.path_growth.specs.Push.{edges-kept, table_kept, rooted-kept}
use Rattle.path_growth.specs.Grow.{joined_row}
use Rattle.path_edges.specs.Visit.{vertices_of, visited, visited-same, visited-recovered, visited-start, visited-next}
use Rattle.path_growth.specs.View.{view_of, has_tree}

-- no record has r for its parent
abbrev pub Childless : List ℕ → ℕ → ℕ → Type 0
Childless t n r = (q : ℕ) → q < n → parent_of t q ≢ suc r

module _ (index targets t : List ℕ) (sc : List Float) (n r v : ℕ) (T : Table index targets t sc n) (l : r < n) where
  row : PathRecord
  row = joined_row (path_at t sc r) v

  room : r * 9 + 9 ≤ length t
  room = (inside index targets t sc n T r l).cells

  own : (j : ℕ) → j < 6 → field (put_cells t r (joined_row (path_at t sc r) v)) 9 r j ≡ field t 9 r j
  own zero h = put-at t r (joined_row (path_at t sc r) v) room 0 (omega arith)
  own (suc zero) h = put-at t r (joined_row (path_at t sc r) v) room 1 (omega arith)
  own (suc (suc zero)) h = put-at t r (joined_row (path_at t sc r) v) room 2 (omega arith)
  own (suc (suc (suc zero))) h = put-at t r (joined_row (path_at t sc r) v) room 3 (omega arith)
  own (suc (suc (suc (suc zero)))) h = put-at t r (joined_row (path_at t sc r) v) room 4 (omega arith)
  own (suc (suc (suc (suc (suc zero))))) h = put-at t r (joined_row (path_at t sc r) v) room 5 (omega arith)
  own (suc (suc (suc (suc (suc (suc j)))))) h = absurd (omega arith)

  -- the edges of every path stay
  pub joined_same : Same 6 t (put_cells t r (joined_row (path_at t sc r) v)) n
  joined_same q j h m = go (ℕ_discrete q r)
    where
      go : Dec (q ≡ r) → field (put_cells t r (joined_row (path_at t sc r) v)) 9 q j ≡ field t 9 q j
      go (yes e) = rw e (own j m)
      go (no d) = put_other t r (joined_row (path_at t sc r) v) q j d (omega arith)

  -- the scores stay
  pub joined-scores : set sc r (score_of sc r) ≡ sc
  joined-scores = set-get_or sc r nan

  pub joined-table : Table index targets (put_cells t r (joined_row (path_at t sc r) v)) sc n
  joined-table =
      table_kept index targets t (put_cells t r (joined_row (path_at t sc r) v)) sc sc n T joined_same
      (omega (arith, put-length t r (joined_row (path_at t sc r) v), T.room)) T.scored

  pub joined-rooted : (source : ℕ) → Rooted index targets source t n → Rooted index targets source (put_cells t r (joined_row (path_at t sc r) v)) n
  joined-rooted source R = rooted-kept index targets t (put_cells t r (joined_row (path_at t sc r) v)) sc sc n T joined_same source R

  module _ (has : ℕ → Bool) (source : ℕ) where
    u : List ℕ
    u = put_cells t r (joined_row (path_at t sc r) v)

    below : Same 9 t u r
    unfolding u
    below q j h m = put_other t r (joined_row (path_at t sc r) v) q j (omega arith) m

    rise : (i : ℕ) → i < n → parent_of t i ≤ i
    rise i h = (T.rows i h).rises

    rise-u : (i : ℕ) → i < n → parent_of u i ≤ i
    unfolding u
    rise-u i h = (joined-table.rows i h).rises

    marks : recovered_of u r ≡ recovered_of t r
    unfolding u
    marks = put-recovered t r (joined_row (path_at t sc r) v) room

    joins : joined_of u r ≡ suc v
    unfolding u
    joins = put-at t r (joined_row (path_at t sc r) v) room 7 (omega arith) ∙ add-one v

    parent : parent_of u r ≡ parent_of t r
    unfolding u
    parent = own 0 (omega arith)

    -- the path has visited v more
    pub joined-visited : joined_of t r ≡ 0 → visited has index targets source (put_cells t r (joined_row (path_at t sc r) v)) r ≡ v ∷ visited has index targets source t r
    unfolding u
    joined-visited j = go (Bool-cases (recovered_of t r)) (Nat-cases (parent_of t r))
      where
        go : (recovered_of t r ≡ true) ⊎ (recovered_of t r ≡ false) → (parent_of t r ≡ 0) ⊎ (parent_of t r ≡ suc (parent_of t r - 1))
            → visited has index targets source u r ≡ v ∷ visited has index targets source t r
        go (inl h) c =
            let b : visited has index targets source t r ≡ keep has (vertices_of targets source (edges index targets t r)) = visited-recovered has index targets source t r h ∙ (rw j) in
            visited-recovered has index targets source u r (marks ∙ h) ∙ (rw (joins, edges-kept index targets t u sc sc n T joined_same r l, b))
        go (inr h) (inl c) =
            let b : visited has index targets source t r ≡ [] = visited-start has index targets source t r h c ∙ (rw j) in
            visited-start has index targets source u r (marks ∙ h) (parent ∙ c) ∙ (rw (joins, b))
        go (inr h) (inr c) =
            let p = parent_of t r - 1 in
            let b : visited has index targets source t r ≡ visited has index targets source t p = visited-next has index targets source t n r p rise l h c ∙ (rw j) in
            let d : visited has index targets source u p ≡ visited has index targets source t p =
            visited-same has index targets source t u r p (λ i k. rise i (omega arith)) below (omega (arith, rise r l))
            in
            visited-next has index targets source u n r p rise-u l (marks ∙ h) (parent ∙ c) ∙ (rw (joins, b, d))

    -- no other path sees it
    module _ (childless : Childless t n r) where
      apart-to : (m q : ℕ) → q < m → q < n → q ≢ r → visited has index targets source u q ≡ visited has index targets source t q
      unfolding u
      apart-to zero q a b d = absurd (omega arith)
      apart-to (suc m) q a b d = go (λ p x y z. apart-to m p (omega arith) y (λ e. childless q b (x ∙ ap suc e))) (Bool-cases (recovered_of t q)) (Nat-cases (parent_of t q))
        where
          cell : (j : ℕ) → j < 9 → field u 9 q j ≡ field t 9 q j
          cell j h = put_other t r (joined_row (path_at t sc r) v) q j d h

          go : ((p : ℕ) → parent_of t q ≡ suc p → p < n → p < q → visited has index targets source u p ≡ visited has index targets source t p) → (recovered_of t q ≡ true) ⊎ (recovered_of t q ≡ false)
              → (parent_of t q ≡ 0) ⊎ (parent_of t q ≡ suc (parent_of t q - 1)) → visited has index targets source u q ≡ visited has index targets source t q
          go up (inl h) c =
              visited-recovered has index targets source u q ((rw (cell 8 (omega arith))) ∙ h)
              ∙ (rw (cell 7 (omega arith), edges-kept index targets t u sc sc n T joined_same q b))
              ∙ sym (visited-recovered has index targets source t q h)
          go up (inr h) (inl c) =
              visited-start has index targets source u q ((rw (cell 8 (omega arith))) ∙ h) (cell 0 (omega arith) ∙ c)
              ∙ (rw (cell 7 (omega arith)))
              ∙ sym (visited-start has index targets source t q h c)
          go up (inr h) (inr c) =
              let p = parent_of t q - 1 in
              visited-next has index targets source u n q p rise-u b ((rw (cell 8 (omega arith))) ∙ h) (cell 0 (omega arith) ∙ c)
              ∙ (rw (cell 7 (omega arith), up p c (omega (arith, rise q b)) (omega (arith, rise q b))))
              ∙ sym (visited-next has index targets source t n q p rise b h c)

      pub joined-apart : (q : ℕ) → q < n → q ≢ r → visited has index targets source (put_cells t r (joined_row (path_at t sc r) v)) q ≡ visited has index targets source t q
      unfolding u
      joined-apart q b d = apart-to (suc q) q (omega arith) b d

  -- ---- `join_tree`
  module _ (f : SearchInput) (ends : ℕ → Ends) (bs : List Branches) where
    pub join-none : tree_at f.trees v ≡ none → join_tree f v (view_of f ends index targets bs t sc r) ≡ ok (view_of f ends index targets bs t sc r)
    unfolding join_tree
    join-none h = rw (h, join_tree)

    module _ (b : Branches) (h : tree_at f.trees v ≡ some b) where
      pub join-bare : has_branch b ≡ false → join_tree f v (view_of f ends index targets bs t sc r) ≡ ok (view_of f ends index targets bs t sc r)
      unfolding join_tree
      join-bare e = rw (h, e, join_tree)

      module _ (e : has_branch b ≡ true) where
        pub join-had : any (eqb v) (visited (has_tree f) index targets f.source t r) ≡ true → join_tree f v (view_of f ends index targets bs t sc r) ≡ ok (view_of f ends index targets bs t sc r)
        unfolding join_tree
        join-had g = rw (h, e, g, join_tree)

        module _ (g : any (eqb v) (visited (has_tree f) index targets f.source t r) ≡ false) (k : length bs ≡ trees_of t r) where
          pub join-over : f.active ≤ trees_of t r → join_tree f v (view_of f ends index targets bs t sc r) ≡ refused 11
          unfolding join_tree
          join-over m = rw (h, e, g, le-ltb (length bs) f.active (omega arith), join_tree)

          pub join-made : joined_of t r ≡ 0 → trees_of t r < f.active
              → join_tree f v (view_of f ends index targets bs t sc r) ≡ ok (view_of f ends index targets (bs ++ b ∷ []) (put_cells t r (joined_row (path_at t sc r) v)) sc r)
          unfolding join_tree
          join-made j m =
              let a = edges-kept index targets t (put_cells t r (joined_row (path_at t sc r) v)) sc sc n T joined_same r l in
              let w = joined-visited (has_tree f) f.source j in
              let d : since_of (put_cells t r (joined_row (path_at t sc r) v)) r ≡ 0 = put-at t r (joined_row (path_at t sc r) v) room 6 (omega arith) in
              rw (h, e, g, lt-ltb (length bs) f.active (omega arith), join_tree) (sym (rw (a, w, d)))
