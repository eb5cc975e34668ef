-- The best closed path through a vertex: the greatest score, ties to the later closed.
use Rattle.std.specs.Prelude.{◌≡◌, ◌⊎◌, Option, Some, None, IfSome, Bool, cond, eqb, get_or, take, Float}
use Rattle.std.proofs.Common.{◌∙◌, add-one, take-suc, get_or-take, length-take-le, refl, sym, ap, inl, inr, true, false, List, [], ◌∷◌, ◌++◌, map, ℕ, zero, suc, ◌+◌, ◌<◌, ◌≤◌, arith, lt-ltb, le-ltb, length}
use Rattle.std.proofs.Math.Option as math
use Rattle.std.specs.Float.Ieee.{is_nan, lt}
use Rattle.laws.specs.Lists.{any, keep}
use Rattle.laws.specs.BoolLaws.{Bool-cases, both_ways}
use Rattle.laws.specs.ListLaws.{All, nil, cons}
use Rattle.laws.specs.FloatFacts.{lt-chain, nlt-chain}
use Rattle.definition.specs.Threading.{Ends}
use Rattle.definition.specs.Score.{column_scoring}
use Rattle.definition.specs.Search.{SearchInput, Closed, greatest, vertices_from}
use Rattle.path_store.specs.Walk.{times}
use Rattle.path_store.specs.Cells.{score_of}
use Rattle.path_edges.specs.Path.{Table, edges}
use Rattle.path_edges.specs.Visit.{vertices_of, times-any}
use Rattle.path_growth.specs.Link.{Agrees, targets-same}
use Rattle.path_growth.specs.View.{closed_of}

-- ---- outscored: the best so far, if there is one, has a greater score than the path c
module _ (sc : List Float) where
  abbrev pub outscores : Option ℕ → ℕ → Bool
  outscores None c = false
  outscores (Some d) c = lt (score_of sc c) (score_of sc d)

module _ (index targets : List ℕ) (source : ℕ) (t : List ℕ) (sc : List Float) (v : ℕ) where
  -- the path goes through v
  abbrev pub through : ℕ → Bool
  through c = any (eqb v) (vertices_of targets source (edges index targets t c))

  -- of a path c, which goes through v or not, and the best of those that closed after it
  of_both : Bool → ℕ → Option ℕ → Option ℕ
  of_both false c best = best
  of_both true c None = Some c
  of_both true c (Some d) = cond (lt (score_of sc d) (score_of sc c)) (Some c) (Some d)

  pub better : ℕ → Option ℕ → Option ℕ
  better c best = of_both (through c) c best

  pub best_of : List ℕ → Option ℕ
  best_of [] = None
  best_of (c ∷ cs) = better c (best_of cs)

  -- of the best of some paths and a path c that closed after them: c, unless the best outscores it
  of_next : Bool → Option ℕ → ℕ → Option ℕ
  of_next false best c = best
  of_next true None c = Some c
  of_next true (Some d) c = cond (lt (score_of sc c) (score_of sc d)) (Some d) (Some c)

  pub later : Option ℕ → ℕ → Option ℕ
  later best c = of_next (through c) best c

  -- ---- later
  next-out : (p : Bool) (best : Option ℕ) (c : ℕ) → outscores sc best c ≡ true → of_next p best c ≡ best
  unfolding of_next
  next-out false best c h = refl
  next-out true None c h = both_ways h refl
  next-out true (Some d) c h = rw h

  next-on : (best : Option ℕ) (c : ℕ) → outscores sc best c ≡ false → of_next true best c ≡ Some c
  unfolding of_next
  next-on None c h = refl
  next-on (Some d) c h = rw h

  next-not : (best : Option ℕ) (c : ℕ) → of_next false best c ≡ best
  unfolding of_next
  next-not best c = refl

  next-is : (p : Bool) (best : Option ℕ) (c : ℕ) → (of_next p best c ≡ best) ⊎ (of_next p best c ≡ Some c)
  unfolding of_next
  next-is false best c = inl refl
  next-is true None c = inr refl
  next-is true (Some d) c = go (lt (score_of sc c) (score_of sc d)) refl
    where
      go : (b : Bool) → lt (score_of sc c) (score_of sc d) ≡ b → (of_next true (Some d) c ≡ Some d) ⊎ (of_next true (Some d) c ≡ Some c)
      go true h = inl (rw h)
      go false h = inr (rw h)

  module _ (c : ℕ) (best : Option ℕ) (b : Bool) (e : b ≡ outscores sc best c) where
    pub later-less : b ≡ true → best ≡ later best c
    unfolding later
    later-less h = sym (next-out (through c) best c (sym e ∙ h))

    module _ (f : b ≡ false) (k : ℕ) (K : k ≡ times targets source v (edges index targets t c)) where
      pub later-none : k ≡ 0 → best ≡ later best c
      unfolding later
      later-none z =
          let a : through c ≡ false = sym (times-any targets source v (edges index targets t c)) ∙ le-ltb 0 (times targets source v (edges index targets t c)) (omega arith) in
          rw a (sym (next-not best c))

      pub later-some : (k ≡ 0 → ⊥) → Some c ≡ later best c
      unfolding later
      later-some z =
          let a : through c ≡ true = sym (times-any targets source v (edges index targets t c)) ∙ lt-ltb 0 (times targets source v (edges index targets t c)) (omega arith) in
          rw a (sym (next-on best c (sym e ∙ f)))

  -- ---- the best of some paths and one that closed after them, where the scores are numbers
  both-next : (p r : Bool) (c : ℕ) (b : Option ℕ) (x : ℕ) → ((d : ℕ) → b ≡ Some d → is_nan (score_of sc d) ≡ false)
      → of_both p c (of_next r b x) ≡ of_next r (of_both p c b) x
  unfolding of_both of_next
  both-next false r c b x number = refl
  both-next true false c b x number = refl
  both-next true true c None x number = refl
  both-next true true c (Some d) x number = go (lt (score_of sc x) (score_of sc d)) refl (lt (score_of sc d) (score_of sc c)) refl
    where
      go : (p : Bool) → lt (score_of sc x) (score_of sc d) ≡ p → (q : Bool) → lt (score_of sc d) (score_of sc c) ≡ q
          → of_both true c (of_next true (Some d) x) ≡ of_next true (of_both true c (Some d)) x
      go true e true g = rw (e, g, lt-chain (score_of sc x) (score_of sc d) (score_of sc c) e g)
      go true e false g = rw (e, g, e)
      go false e true g = rw (e, g)
      go false e false g = rw (e, g, e, nlt-chain (score_of sc x) (score_of sc d) (score_of sc c) (number d refl) e g)

  both-number : (p : Bool) (c : ℕ) (b : Option ℕ) (d : ℕ) → is_nan (score_of sc c) ≡ false → ((y : ℕ) → b ≡ Some y → is_nan (score_of sc y) ≡ false)
      → of_both p c b ≡ Some d → is_nan (score_of sc d) ≡ false
  unfolding of_both
  both-number false c b d n number h = number d h
  both-number true c None d n number h = let z : c ≡ d = cc in rw z at n
  both-number true c (Some y) d n number h = go (lt (score_of sc y) (score_of sc c)) refl
    where
      go : (p : Bool) → lt (score_of sc y) (score_of sc c) ≡ p → is_nan (score_of sc d) ≡ false
      go true e = let q : Some c ≡ Some d = rw e at h in let z : c ≡ d = cc in rw z at n
      go false e = let q : Some y ≡ Some d = rw e at h in number d q

  best-number : (cs : List ℕ) → All (λ c. is_nan (score_of sc c) ≡ false) cs → (d : ℕ) → best_of cs ≡ Some d → is_nan (score_of sc d) ≡ false
  unfolding best_of better
  best-number [] nil d h = cc
  best-number (c ∷ cs) (cons p ps) d h = both-number (through c) c (best_of cs) d p (best-number cs ps) h

  best-snoc : (cs : List ℕ) (x : ℕ) → All (λ c. is_nan (score_of sc c) ≡ false) cs → best_of (cs ++ x ∷ []) ≡ later (best_of cs) x
  unfolding best_of better later of_both of_next
  best-snoc [] x nil = go (through x)
    where
      go : (p : Bool) → of_both p x None ≡ of_next p None x
      go true = refl
      go false = refl
  best-snoc (c ∷ cs) x (cons p ps) = ap (λ y. of_both (through c) c y) (best-snoc cs x ps) ∙ both-next (through c) (through x) c (best_of cs) x (best-number cs ps)

  -- ---- best_through
  pub record Searching (closed : List ℕ) (i : ℕ) (best : Option ℕ) : Type 0 where
    pub low : i ≤ length closed
    pub known : IfSome best (λ b. b < length sc)
    pub is : best ≡ best_of (take i closed)

  -- each of the closed paths stands in a table, and its score is a number
  pub record ClosedIn (closed : List ℕ) : Type 0 where
    pub tables : (i : ℕ) → i < length closed → Table index targets t sc (get_or closed i 0 + 1)
    pub numbers : (i : ℕ) → i < length closed → is_nan (score_of sc (get_or closed i 0)) ≡ false

  module _ (closed : List ℕ) (C : ClosedIn closed) where
    pub searching-start : Searching closed 0 None
    unfolding best_of
    searching-start = record { low = omega arith; known = tt; is = refl }

    all-numbers : (i : ℕ) → i ≤ length closed → All (λ c. is_nan (score_of sc c) ≡ false) (take i closed)
    all-numbers i l = all-taken closed i (λ j h. C.numbers j (omega arith)) l
      where
        all-taken : (xs : List ℕ) (n : ℕ) → ((j : ℕ) → j < n → is_nan (score_of sc (get_or xs j 0)) ≡ false) → n ≤ length xs → All (λ c. is_nan (score_of sc c) ≡ false) (take n xs)
        all-taken xs zero h m = nil
        all-taken [] (suc n) h m = absurd (omega arith)
        all-taken (x ∷ xs) (suc n) h m = cons (h 0 (omega arith)) (all-taken xs n (λ j k. h (suc j) (omega arith)) (omega arith))

    module _ (i : ℕ) (best : Option ℕ) (S : Searching closed i best) where
      later-known : (c : ℕ) → c < length sc → IfSome (later best c) (λ b. b < length sc)
      unfolding later
      later-known c l = go (next-is (through c) best c)
        where
          go : (of_next (through c) best c ≡ best) ⊎ (of_next (through c) best c ≡ Some c) → IfSome (of_next (through c) best c) (λ b. b < length sc)
          go (inl e) = rw e S.known
          go (inr e) = rw e l

      pub searching-next : (b : Option ℕ) → i < length closed → b ≡ later best (get_or closed i 0) → Searching closed (i + 1) b
      searching-next b h g =
          let c = get_or closed i 0 in
          let e : take (i + 1) closed ≡ take i closed ++ c ∷ [] = rw (add-one i) (take-suc closed i 0 h) in
          let l : c < length sc = omega (arith, (C.tables i h).scored) in
          record {
            low = omega arith;
            known = rw g (later-known c l);
            is = g ∙ ap (λ x. later x c) S.is ∙ sym (best-snoc (take i closed) c (all-numbers i S.low)) ∙ ap (λ x. best_of x) (sym e);
          }

  -- of a longer list the paths that closed are the first
  pub closed-front : (closed : List ℕ) (n : ℕ) → n ≤ length closed → ((i : ℕ) → i < n → Table index targets t sc (get_or closed i 0 + 1))
      → ((i : ℕ) → i < n → is_nan (score_of sc (get_or closed i 0)) ≡ false) → ClosedIn (take n closed)
  closed-front closed n l T N =
      record {
        tables = λ i h. let k : i < n = omega (arith, length-take-le n closed l) in rw (get_or-take n closed i 0 k) (T i k);
        numbers = λ i h. let k : i < n = omega (arith, length-take-le n closed l) in rw (get_or-take n closed i 0 k) (N i k);
      }

-- ---- the definition's greatest

module _ (f : SearchInput) (ends : ℕ → Ends) (index targets : List ℕ) (A : Agrees f index targets ends) (column : List Float) (closing : ℕ → ℕ) (t : List ℕ) (sc : List Float)
    (v : ℕ) where
  -- the closed paths, each with its closing number
  abbrev pub closed_at : ℕ → Closed Float
  closed_at c = closed_of ends index targets t sc (closing c) c

  abbrev pub found_at : Option ℕ → math.Option (Closed Float)
  found_at None = math.none
  found_at (Some c) = math.some (closed_at c)

  through_same : (c : ℕ) → any (eqb v) (vertices_from f.source (closed_at c).edges) ≡ through index targets f.source t sc v c
  unfolding vertices_from
  through_same c = ap (λ (x : List ℕ). any (eqb v) (f.source ∷ x)) (sym (targets-same f index targets ends A (edges index targets t c)))

  abbrev hits : Closed Float → Bool
  hits c = any (eqb v) (vertices_from f.source c.edges)

  step : (c : ℕ) (cs : List (Closed Float)) (b : Option ℕ) → through index targets f.source t sc v c ≡ true → greatest (column_scoring column) cs ≡ found_at b
      → greatest (column_scoring column) (closed_at c ∷ cs) ≡ found_at (better index targets f.source t sc v c b)
  unfolding greatest column_scoring better of_both
  step c cs None m e = rw (e, greatest, m)
  step c cs (Some d) m e = go (lt (score_of sc d) (score_of sc c)) refl
    where
      go : (b : Bool) → lt (score_of sc d) (score_of sc c) ≡ b
          → greatest (column_scoring column) (closed_at c ∷ cs) ≡ found_at (better index targets f.source t sc v c (Some d))
      go true h = rw (e, greatest, h, m, h)
      go false h = rw (e, greatest, h, m, h)

  pub best-greatest : (cs : List ℕ)
      → greatest (column_scoring column) (keep (λ c. any (eqb v) (vertices_from f.source c.edges)) (map closed_at cs)) ≡ found_at (best_of index targets f.source t sc v cs)
  unfolding greatest best_of better of_both
  best-greatest [] = refl
  best-greatest (c ∷ cs) = go (Bool-cases (through index targets f.source t sc v c)) (best-greatest cs)
    where
      go : (through index targets f.source t sc v c ≡ true) ⊎ (through index targets f.source t sc v c ≡ false)
          → greatest (column_scoring column) (keep hits (map closed_at cs)) ≡ found_at (best_of index targets f.source t sc v cs)
          → greatest (column_scoring column) (keep hits (closed_at c ∷ map closed_at cs)) ≡ found_at (best_of index targets f.source t sc v (c ∷ cs))
      go (inl m) ih =
          let k : hits (closed_at c) ≡ true = through_same c ∙ m in
          rw k (step c (keep hits (map closed_at cs)) (best_of index targets f.source t sc v cs) m ih)
      go (inr m) ih =
          let k : hits (closed_at c) ≡ false = through_same c ∙ m in
          let e : best_of index targets f.source t sc v cs ≡ better index targets f.source t sc v c (best_of index targets f.source t sc v cs) = sym (rw m) in
          rw k (ih ∙ ap (λ x. found_at x) e)
