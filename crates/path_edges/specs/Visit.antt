-- The vertices whose trees a path has visited, read off the record and those above it. A record tells the tree that joined when its path was taken; a
-- recovered path starts anew, with all its vertices that have a tree.
use Rattle.std.specs.Prelude.{◌≡◌, ◌⊎◌, Option, Some, None, IfSome, Bool, true, false, ◌||◌, List, [], ◌∷◌, map, eqb, ltb, leb, get_or, Float}
use Rattle.std.proofs.Common.{◌∙◌, inl, inr, arith, eq-eqb, ne_eqb, eqb-true, lt-ltb, refl, sym, ap, ℕ, zero, suc, ◌+◌, ◌-◌, ◌<◌, ◌≤◌}
use Rattle.laws.specs.Lists.{any, keep, tally}
use Rattle.laws.specs.BoolLaws.{Bool-cases, both_ways}
use Rattle.path_store.specs.Walk.{times}
use Rattle.path_store.specs.Cells.{numbered, parent_of, end_of, since_of, joined_of, recovered_of, Inside}
use Rattle.path_edges.specs.Path.{edges, edges-same, Same, Table, table-front, inside, Nat-cases}

-- the vertices of a path of these edges from the source
abbrev pub vertices_of : List ℕ → ℕ → List ℕ → List ℕ
vertices_of targets source es = source ∷ map (λ e. get_or targets e 0) es

-- a vertex + 1 that joined, if any
abbrev pub joined_to : ℕ → List ℕ → List ℕ
joined_to zero vs = vs
joined_to (suc v) vs = v ∷ vs

module _ (has_tree : ℕ → Bool) (index targets : List ℕ) (source : ℕ) where
  pub visited_by : List ℕ → ℕ → ℕ → List ℕ
  visited_by t zero r = []
  visited_by t (suc n) r =
      elim (recovered_of t r) [
        | true ↦ joined_to (joined_of t r) (keep has_tree (vertices_of targets source (edges index targets t r)))
        | false ↦ elim (parent_of t r) [ zero ↦ joined_to (joined_of t r) [] | suc p ↦ joined_to (joined_of t r) (visited_by t n p) ]
      ]

  pub visited : List ℕ → ℕ → List ℕ
  visited t r = visited_by t (suc r) r

  -- ---- the three ways
  by-recovered : (t : List ℕ) (n r : ℕ) → recovered_of t r ≡ true
      → visited_by t (suc n) r ≡ joined_to (joined_of t r) (keep has_tree (vertices_of targets source (edges index targets t r)))
  unfolding visited_by
  by-recovered t n r h = rw (h, visited_by)

  by-start : (t : List ℕ) (n r : ℕ) → recovered_of t r ≡ false → parent_of t r ≡ 0 → visited_by t (suc n) r ≡ joined_to (joined_of t r) []
  unfolding visited_by
  by-start t n r h k = rw (h, k, visited_by)

  by_next : (t : List ℕ) (n r p : ℕ) → recovered_of t r ≡ false → parent_of t r ≡ suc p → visited_by t (suc n) r ≡ joined_to (joined_of t r) (visited_by t n p)
  unfolding visited_by
  by_next t n r p h k = rw (h, k, visited_by)

  -- ---- tables that agree below k, whatever the fuel above the number
  by-same : (t u : List ℕ) (k m n r : ℕ) → ((i : ℕ) → i < k → parent_of t i ≤ i) → Same 9 t u k → r < k → r < m → r < n
      → visited_by u m r ≡ visited_by t n r
  by-same t u k zero n r rise same l p q = absurd (omega arith)
  by-same t u k (suc m) zero r rise same l p q = absurd (omega arith)
  by-same t u k (suc m) (suc n) r rise same l p q =
      go (λ i h. by-same t u k m n i rise same (omega (arith, rise r l)) (omega (arith, rise r l)) (omega (arith, rise r l))) (Bool-cases (recovered_of t r)) (Nat-cases (parent_of t r))
    where
      j : joined_of u r ≡ joined_of t r
      j = same r 7 l (omega arith)

      marks : recovered_of u r ≡ recovered_of t r
      marks = rw (same r 8 l (omega arith))

      go : ((i : ℕ) → i < parent_of t r → visited_by u m i ≡ visited_by t n i) → (recovered_of t r ≡ true) ⊎ (recovered_of t r ≡ false)
          → (parent_of t r ≡ 0) ⊎ (parent_of t r ≡ suc (parent_of t r - 1)) → visited_by u (suc m) r ≡ visited_by t (suc n) r
      go up (inl h) c =
          by-recovered u m r (marks ∙ h)
          ∙ (rw (j, edges-same index targets t u k r rise (λ a b x y. same a b x (omega arith)) l))
          ∙ sym (by-recovered t n r h)
      go up (inr h) (inl c) = by-start u m r (marks ∙ h) (same r 0 l (omega arith) ∙ c) ∙ (rw j) ∙ sym (by-start t n r h c)
      go up (inr h) (inr c) =
          by_next u m r (parent_of t r - 1) (marks ∙ h) (same r 0 l (omega arith) ∙ c)
          ∙ (rw (j, up (parent_of t r - 1) (omega arith)))
          ∙ sym (by_next t n r (parent_of t r - 1) h c)

  pub visited-same : (t u : List ℕ) (k r : ℕ) → ((i : ℕ) → i < k → parent_of t i ≤ i) → Same 9 t u k → r < k → visited u r ≡ visited t r
  unfolding visited
  visited-same t u k r rise same l = by-same t u k (suc r) (suc r) r rise same l (omega arith) (omega arith)

  pub visited-recovered : (t : List ℕ) (r : ℕ) → recovered_of t r ≡ true → visited t r ≡ joined_to (joined_of t r) (keep has_tree (vertices_of targets source (edges index targets t r)))
  unfolding visited
  visited-recovered t r h = by-recovered t r r h

  pub visited-start : (t : List ℕ) (r : ℕ) → recovered_of t r ≡ false → parent_of t r ≡ 0 → visited t r ≡ joined_to (joined_of t r) []
  unfolding visited
  visited-start t r h c = by-start t r r h c

  pub visited-next : (t : List ℕ) (k r p : ℕ) → ((i : ℕ) → i < k → parent_of t i ≤ i) → r < k → recovered_of t r ≡ false → parent_of t r ≡ suc p
      → visited t r ≡ joined_to (joined_of t r) (visited t p)
  unfolding visited
  visited-next t k r p rise l h c =
      by_next t r r p h c
      ∙ ap (λ x. joined_to (joined_of t r) x) (by-same t t k r (suc p) p rise (λ a b _ _. refl) (omega (arith, rise r l)) (omega (arith, rise r l)) (omega arith))

-- ---- a vertex with a tree: the others may be left out or kept

any-keep : (h : ℕ → Bool) (v : ℕ) → h v ≡ true → (xs : List ℕ) → any (eqb v) (keep h xs) ≡ any (eqb v) xs
any-keep h v t [] = refl
any-keep h v t (x ∷ xs) = go (h x) refl (Bool-cases (eqb v x)) (any-keep h v t xs)
  where
    go : (b : Bool) → h x ≡ b → (eqb v x ≡ true) ⊎ (eqb v x ≡ false) → any (eqb v) (keep h xs) ≡ any (eqb v) xs
        → any (eqb v) (keep h (x ∷ xs)) ≡ any (eqb v) (x ∷ xs)
    go true e c ih = rw (e, ih)
    go false e (inl c) ih = both_ways (rw (eqb-true v x c) at t) e
    go false e (inr c) ih = rw (e, ih, c)

any-joined : (v j : ℕ) (xs ys : List ℕ) → any (eqb v) xs ≡ any (eqb v) ys → any (eqb v) (joined_to j xs) ≡ any (eqb v) (joined_to j ys)
any-joined v zero xs ys e = e
any-joined v (suc w) xs ys e = rw e

every_one : ℕ → Bool
every_one v = true

-- the vertices visited where every vertex counts as one with a tree: what the code looks through
pub seen : List ℕ → List ℕ → ℕ → List ℕ → ℕ → List ℕ
seen index targets source t r = visited every_one index targets source t r

module _ (has_tree : ℕ → Bool) (index targets : List ℕ) (source : ℕ) (v : ℕ) (tree : has_tree v ≡ true) where
  seen_by : (t : List ℕ) (n r : ℕ) → any (eqb v) (visited_by has_tree index targets source t n r) ≡ any (eqb v) (visited_by every_one index targets source t n r)
  unfolding visited_by every_one
  seen_by t zero r = refl
  seen_by t (suc n) r = go (λ p. seen_by t n p) (Bool-cases (recovered_of t r)) (Nat-cases (parent_of t r))
    where
      go : ((p : ℕ) → any (eqb v) (visited_by has_tree index targets source t n p) ≡ any (eqb v) (visited_by every_one index targets source t n p))
          → (recovered_of t r ≡ true) ⊎ (recovered_of t r ≡ false) → (parent_of t r ≡ 0) ⊎ (parent_of t r ≡ suc (parent_of t r - 1))
          → any (eqb v) (visited_by has_tree index targets source t (suc n) r) ≡ any (eqb v) (visited_by every_one index targets source t (suc n) r)
      go up (inl h) c =
          let vs = vertices_of targets source (edges index targets t r) in
          ap (λ x. any (eqb v) x) (by-recovered has_tree index targets source t n r h)
          ∙ any-joined v (joined_of t r) (keep has_tree vs) (keep every_one vs) (any-keep has_tree v tree vs ∙ sym (any-keep every_one v refl vs))
          ∙ sym (ap (λ x. any (eqb v) x) (by-recovered every_one index targets source t n r h))
      go up (inr h) (inl c) =
          ap (λ x. any (eqb v) x) (by-start has_tree index targets source t n r h c) ∙ sym (ap (λ x. any (eqb v) x) (by-start every_one index targets source t n r h c))
      go up (inr h) (inr c) =
          let p = parent_of t r - 1 in
          ap (λ x. any (eqb v) x) (by_next has_tree index targets source t n r p h c)
          ∙ any-joined v (joined_of t r) (visited_by has_tree index targets source t n p) (visited_by every_one index targets source t n p) (up p)
          ∙ sym (ap (λ x. any (eqb v) x) (by_next every_one index targets source t n r p h c))

  -- for a vertex with a tree
  pub seen-visited : (t : List ℕ) (r : ℕ) → any (eqb v) (seen index targets source t r) ≡ any (eqb v) (visited has_tree index targets source t r)
  unfolding seen visited
  seen-visited t r = sym (seen_by t (suc r) r)

-- ---- has_visited: `up` is a record, or none above the start path

abbrev pub seen_up : List ℕ → List ℕ → ℕ → List ℕ → Option ℕ → List ℕ
seen_up index targets source t None = []
seen_up index targets source t (Some r) = seen index targets source t r

pub record Visiting (index targets : List ℕ) (source : ℕ) (t : List ℕ) (path v : ℕ) (up : Option ℕ) : Type 0 where
  pub low : IfSome up (λ r. r < path + 1)
  pub is : any (eqb v) (seen_up index targets source t up) ≡ any (eqb v) (seen index targets source t path)

-- a vertex is among others where it stands there at least once
tally-any : (v : ℕ) (xs : List ℕ) → ltb 0 (tally (eqb v) xs) ≡ any (eqb v) xs
tally-any v [] = refl
tally-any v (x ∷ xs) = go (Bool-cases (eqb v x)) (tally-any v xs)
  where
    go : (eqb v x ≡ true) ⊎ (eqb v x ≡ false) → ltb 0 (tally (eqb v) xs) ≡ any (eqb v) xs → ltb 0 (tally (eqb v) (x ∷ xs)) ≡ any (eqb v) (x ∷ xs)
    go (inl h) ih = rw h (lt-ltb 0 (1 + tally (eqb v) xs) (omega arith))
    go (inr h) ih = let z : 0 + tally (eqb v) xs ≡ tally (eqb v) xs = omega arith in rw (h, z) ih

-- how often v stands in a path, against whether it stands there
pub times-any : (targets : List ℕ) (source v : ℕ) (es : List ℕ) → ltb 0 (times targets source v es) ≡ any (eqb v) (vertices_of targets source es)
unfolding times
times-any targets source v es = tally-any v (vertices_of targets source es)

joined-hit : (v : ℕ) (xs : List ℕ) → any (eqb v) (joined_to (v + 1) xs) ≡ true
joined-hit v xs = let e : v + 1 ≡ suc v = omega arith in rw (e, eq-eqb v v refl)

joined-miss : (v j : ℕ) (xs : List ℕ) → (j ≡ v + 1 → ⊥) → any (eqb v) (joined_to j xs) ≡ any (eqb v) xs
joined-miss v zero xs h = refl
joined-miss v (suc w) xs h = rw (ne_eqb v w (λ e. h (omega arith)))

module _ (index targets : List ℕ) (source : ℕ) (t : List ℕ) (sc : List Float) (path v : ℕ) (T : Table index targets t sc (path + 1)) where
  pub visiting-start : Visiting index targets source t path v (Some path)
  visiting-start = record { low = omega arith; is = refl }

  module _ (r : ℕ) (I : Visiting index targets source t path v (Some r)) where
    pub visiting-inside : Inside t sc r
    visiting-inside = inside index targets t sc (path + 1) T r I.low

    pub visiting-table : Table index targets t sc (r + 1)
    visiting-table = table-front index targets t sc (path + 1) (r + 1) T (omega (arith, I.low))

    pub visiting-rises : parent_of t r ≤ r
    visiting-rises = (T.rows r I.low).rises

    -- the record's list, whatever its kind, by what joined it
    rest : List ℕ
    rest =
        elim (recovered_of t r) [
          | true ↦ keep every_one (vertices_of targets source (edges index targets t r))
          | false ↦ seen_up index targets source t (numbered (parent_of t r))
        ]

    by-rest : seen index targets source t r ≡ joined_to (joined_of t r) rest
    unfolding seen rest
    by-rest = go (Bool-cases (recovered_of t r)) (Nat-cases (parent_of t r))
      where
        go : (recovered_of t r ≡ true) ⊎ (recovered_of t r ≡ false) → (parent_of t r ≡ 0) ⊎ (parent_of t r ≡ suc (parent_of t r - 1))
            → visited every_one index targets source t r ≡ joined_to (joined_of t r) rest
        go (inl m) c = visited-recovered every_one index targets source t r m ∙ (rw (m, rest))
        go (inr m) (inl c) = visited-start every_one index targets source t r m c ∙ (rw (m, c, rest))
        go (inr m) (inr c) =
            visited-next every_one index targets source t (path + 1) r (parent_of t r - 1) (λ i l. (T.rows i l).rises) I.low m c
            ∙ ap (λ x. joined_to (joined_of t r) (seen_up index targets source t (numbered x))) (sym c)
            ∙ (rw (m, rest))

    pub visiting-hit : joined_of t r ≡ v + 1 → true ≡ any (eqb v) (seen index targets source t path)
    visiting-hit j = sym (joined-hit v rest) ∙ ap (λ x. any (eqb v) (joined_to x rest)) (sym j) ∙ ap (λ x. any (eqb v) x) (sym by-rest) ∙ I.is

    past : (joined_of t r ≡ v + 1 → ⊥) → any (eqb v) rest ≡ any (eqb v) (seen index targets source t path)
    past j = sym (joined-miss v (joined_of t r) rest j) ∙ ap (λ x. any (eqb v) x) (sym by-rest) ∙ I.is

    pub visiting-recovered : (k : ℕ) → (joined_of t r ≡ v + 1 → ⊥) → recovered_of t r ≡ true
        → k ≡ times targets source v (edges index targets t r) → ltb 0 k ≡ any (eqb v) (seen index targets source t path)
    unfolding rest every_one
    visiting-recovered k j m e =
        rw e
        (times-any targets source v (edges index targets t r)
        ∙ sym (any-keep every_one v refl (vertices_of targets source (edges index targets t r)))
        ∙ (rw (m, rest) at (past j)))

    pub visiting-next : (up : Option ℕ) → up ≡ numbered (parent_of t r) → (joined_of t r ≡ v + 1 → ⊥) → recovered_of t r ≡ false
        → Visiting index targets source t path v up
    unfolding rest
    visiting-next up u j m =
        record { low = rw u (upper (parent_of t r) (omega (arith, I.low, visiting-rises))); is = rw u (rw (m, rest) at (past j)) }
      where
        upper : (p : ℕ) → p ≤ path + 1 → IfSome (numbered p) (λ x. x < path + 1)
        upper zero h = tt
        upper (suc p) h = omega arith

  pub visiting-end : Visiting index targets source t path v None → false ≡ any (eqb v) (seen index targets source t path)
  visiting-end I = I.is

-- ---- the repeat rule: a path is kept if it has guidance, or its last vertex stands in it once

pub keeps : List ℕ → List ℕ → ℕ → List ℕ → ℕ → Bool
keeps index targets source t r = eqb (since_of t r) 0 || leb (times targets source (end_of t r) (edges index targets t r)) 1

pub keeps-is : (index targets : List ℕ) (source : ℕ) (t : List ℕ) (r : ℕ)
    → keeps index targets source t r ≡ (eqb (since_of t r) 0 || leb (times targets source (end_of t r) (edges index targets t r)) 1)
unfolding keeps
keeps-is index targets source t r = refl

pub keeps-guided : (index targets : List ℕ) (source : ℕ) (t : List ℕ) (r s : ℕ) → s ≡ since_of t r → s ≡ 0 → true ≡ keeps index targets source t r
unfolding keeps
keeps-guided index targets source t r s e h = sym (rw (eq-eqb (since_of t r) 0 (sym e ∙ h)))

pub keeps-once : (index targets : List ℕ) (source : ℕ) (t : List ℕ) (r s v k : ℕ) → s ≡ since_of t r → (s ≡ 0 → ⊥) → v ≡ end_of t r
    → k ≡ times targets source v (edges index targets t r) → leb k 1 ≡ keeps index targets source t r
unfolding keeps
keeps-once index targets source t r s v k e h f g =
    let a : k ≡ times targets source (end_of t r) (edges index targets t r) = rw f at g in
    rw (a, ne_eqb (since_of t r) 0 (λ z. h (e ∙ z)))
