-- Pivotal edges: a mark for each edge tells whether it is still unvisited, and the edges of a path that reached the sink are struck out by clearing
-- their marks. The list of the definition is the edges in their order that are still marked.
use Rattle.std.specs.Prelude.{◌≡◌, ◌⊎◌, ◌≢◌, true, false, ℕ, zero, suc, ◌-◌, ◌<◌, ◌≤◌, eqb, length, get_or, set, Float}
use Rattle.std.proofs.Common.{sym, ◌∙◌, inl, inr, arith, eq-eqb, ne_eqb, get_or-set_same, get_or-set_other, refl, ap, List, [], ◌∷◌, ◌++◌, map, length-set, ltb}
use Rattle.std.proofs.Math.Decide.{ℕ_discrete}
use Rattle.std.proofs.lemmas.List.{set_comm}
use Rattle.laws.specs.Lists.{keep, drop_first}
use Rattle.laws.specs.ListLaws.{All, cons, all-mono, all_keep, all-zip}
use Rattle.laws.specs.Finding.{drop-hit, drop_past, drop-map}
use Rattle.laws.specs.BoolLaws.{Bool-cases}
use Rattle.definition.specs.Threading.{Ends, eq_ends}
use Rattle.definition.specs.Search.{SearchInput, cross_off}
use Rattle.path_store.specs.Walk.{run, Runs, sole, next}
use Rattle.path_store.specs.Cells.{parent_of, chain_of, edge_of, end_of}
use Rattle.path_edges.specs.Path.{last_edge, piece_is, piece_of, Table, edges, edges-up, edges_none, piece-at, piece-up}
use Rattle.path_growth.specs.Link.{Agrees}

-- the marks of these edges are cleared
abbrev pub clears : List ℕ → List ℕ → List ℕ
clears m [] = m
clears m (e ∷ es) = clears (set m e 0) es

pub length-clears : (m es : List ℕ) → length (clears m es) ≡ length m
length-clears m [] = refl
length-clears m (e ∷ es) = length-clears (set m e 0) es ∙ length-set m e 0

clears-append : (m a b : List ℕ) → clears m (a ++ b) ≡ clears (clears m a) b
clears-append m [] b = refl
clears-append m (x ∷ a) b = clears-append (set m x 0) a b

-- the order does not matter
clear-clears : (m : List ℕ) (x : ℕ) (b : List ℕ) → set (clears m b) x 0 ≡ clears (set m x 0) b
clear-clears m x [] = refl
clear-clears m x (y ∷ b) = clear-clears (set m y 0) x b ∙ ap (λ l. clears l b) (go (ℕ_discrete y x))
  where
    go : Dec (y ≡ x) → set (set m y 0) x 0 ≡ set (set m x 0) y 0
    go (yes e) = rw e
    go (no d) = set_comm m y x 0 0 d

clears-back : (m a b : List ℕ) → clears (clears m b) a ≡ clears m (a ++ b)
clears-back m [] b = refl
clears-back m (x ∷ a) b = ap (λ l. clears l a) (clear-clears m x b) ∙ clears-back (set m x 0) a b

-- ---- cross_off: of a path's edges only the last one of each record is looked at

-- no chain goes on by the edge e
abbrev pub Fork : List ℕ → ℕ → Type 0
Fork index e = (u : ℕ) → get_or index u 0 ≡ suc e → ⊥

-- the marks of the edges that no chain goes on by are what they are once those of the edges es are cleared
pub record Struck (index m es m' : List ℕ) : Type 0 where
  pub size : length m' ≡ length m
  pub same : (e : ℕ) → e < length m → Fork index e → get_or m' e 0 ≡ get_or (clears m es) e 0

-- marks that agree at e do so still once the same ones are cleared
clears-agree : (e : ℕ) (ds m n : List ℕ) → e < length m → length m ≡ length n → get_or m e 0 ≡ get_or n e 0 → get_or (clears m ds) e 0 ≡ get_or (clears n ds) e 0
clears-agree e [] m n b l h = h
clears-agree e (d ∷ ds) m n b l h =
    clears-agree e ds (set m d 0) (set n d 0) (simp length-set b) (length-set m d 0 ∙ l ∙ sym (length-set n d 0)) (go (ℕ_discrete d e))
  where
    go : Dec (d ≡ e) → get_or (set m d 0) e 0 ≡ get_or (set n d 0) e 0
    go (yes q) = rw q (get_or-set_same m e 0 0 b ∙ sym (get_or-set_same n e 0 0 (omega arith)))
    go (no q) = get_or-set_other m d e 0 0 (λ z. q (sym z)) ∙ h ∙ sym (get_or-set_other n d e 0 0 (λ z. q (sym z)))

-- a chain leaves the marks of the others as they are
run-off : (index targets : List ℕ) (e : ℕ) → Fork index e → (m : List ℕ) (u c : ℕ) → Runs index targets u c → get_or (clears m (run index targets u c)) e 0 ≡ get_or m e 0
unfolding run Runs
run-off index targets e F m u zero r = refl
run-off index targets e F m u (suc c) r =
    run-off index targets e F (set m (sole index u) 0) (next index targets u) c r.1 ∙ get_or-set_other m (sole index u) e 0 0 (λ z. F u (omega (arith, r.0)))

pub record Crossing (index targets t : List ℕ) (n path : ℕ) (m₀ m : List ℕ) (r : ℕ) : Type 0 where
  pub size : length m ≡ length m₀
  pub low : r < n
  pub is : (e : ℕ) → e < length m₀ → Fork index e → get_or (clears m (edges index targets t r)) e 0 ≡ get_or (clears m₀ (edges index targets t path)) e 0

module _ (index targets t : List ℕ) (sc : List Float) (n : ℕ) (T : Table index targets t sc n) where
  module _ (path : ℕ) (m₀ m : List ℕ) (r : ℕ) (U : Crossing index targets t n path m₀ m r) where
    module _ (p : ℕ) (h : parent_of t r ≡ suc p) where
      pub crossing-low : (p < r) × (p < n)
      crossing-low = omega (arith, U.low, (T.rows r U.low).rises)

      -- the last edge alone, and all edges that the record adds
      own : (e : ℕ) → e < length m₀ → Fork index e → get_or (clears m (last_edge (edge_of t r))) e 0 ≡ get_or (clears m (piece_of index targets t r)) e 0
      own e b F =
          let P = piece-at index targets t sc n T (record { path = r; parent = p }) U.low h in
          let u = end_of t p in
          let c = chain_of t r in
          let k = length-clears m (run index targets u c) in
          sym
          (ap (λ x. get_or (clears m x) e 0) (sym (piece-up P) ∙ piece_is index targets u c (edge_of t r))
          ∙ ap (λ (x : List ℕ). get_or x e 0) (clears-append m (run index targets u c) (last_edge (edge_of t r)))
          ∙ clears-agree e (last_edge (edge_of t r)) (clears m (run index targets u c)) m (omega (arith, U.size)) k (run-off index targets e F m u c P.runs))

      pub crossing-next : (m' : List ℕ) → m' ≡ clears m (last_edge (edge_of t r)) → Crossing index targets t n path m₀ m' p
      crossing-next m' z =
          let a : parent_of t r - 1 ≡ p = omega arith in
          let up : edges index targets t r ≡ edges index targets t p ++ piece_of index targets t r =
          edges-up index targets t sc n T r U.low (omega arith) ∙ ap (λ x. edges index targets t x ++ piece_of index targets t r) a
          in
          let i = length-clears m (last_edge (edge_of t r)) in
          let j = length-clears m (piece_of index targets t r) in
          record {
            size = ap (λ x. length x) z ∙ i ∙ U.size;
            low = crossing-low.1;
            is =
                λ e b F.
                ap (λ x. get_or (clears x (edges index targets t p)) e 0) z
                ∙ clears-agree e (edges index targets t p) (clears m (last_edge (edge_of t r))) (clears m (piece_of index targets t r)) (omega (arith, i, U.size)) (i ∙ sym j) (own e b F)
                ∙ ap (λ (x : List ℕ). get_or x e 0) (clears-back m (edges index targets t p) (piece_of index targets t r))
                ∙ ap (λ x. get_or (clears m x) e 0) (sym up)
                ∙ U.is e b F;
          }

    pub crossing-end : parent_of t r ≡ 0 → Struck index m₀ (edges index targets t path) m
    crossing-end h =
        record {
          size = U.size;
          same = λ e b F. ap (λ es. get_or (clears m es) e 0) (sym (edges_none index targets t r h)) ∙ U.is e b F;
        }

-- ---- the definition's list

-- the edges that are still marked, in their order
abbrev pub unvisited : List ℕ → List ℕ → List ℕ
unvisited order m = keep (λ e. ltb 0 (get_or m e 0)) order

-- no number stands twice
abbrev pub Distinct : List ℕ → Type 0
Distinct [] = Unit {0}
Distinct (x ∷ xs) = All (λ y. x ≢ y) xs × Distinct xs

module _ (m : List ℕ) (e : ℕ) where
  other : (x : ℕ) → e ≢ x → ltb 0 (get_or (set m e 0) x 0) ≡ ltb 0 (get_or m x 0)
  other x d = ap (λ y. ltb 0 y) (get_or-set_other m e x 0 0 (λ q. d (sym q)))

  none_left : (xs : List ℕ) → All (λ y. e ≢ y) xs → unvisited xs (set m e 0) ≡ unvisited xs m
  none_left [] a = refl
  none_left (x ∷ xs) (cons d a) = rw (other x d, none_left xs a)

  cleared : e < length m → ltb 0 (get_or (set m e 0) e 0) ≡ false
  cleared l = ap (λ y. ltb 0 y) (get_or-set_same m e 0 0 l)

  -- one mark cleared is one element struck out
  one-off : (xs : List ℕ) → Distinct xs → e < length m → unvisited xs (set m e 0) ≡ drop_first (eqb e) (unvisited xs m)
  one-off [] d l = refl
  one-off (x ∷ xs) d l = go (ℕ_discrete e x) (Bool-cases (ltb 0 (get_or m x 0))) (one-off xs d.1 l)
    where
      go : Dec (e ≡ x) → (ltb 0 (get_or m x 0) ≡ true) ⊎ (ltb 0 (get_or m x 0) ≡ false) → unvisited xs (set m e 0) ≡ drop_first (eqb e) (unvisited xs m)
          → unvisited (x ∷ xs) (set m e 0) ≡ drop_first (eqb e) (unvisited (x ∷ xs) m)
      go (yes q) (inl h) ih =
          let a : All (λ y. e ≢ y) xs = rw q d.0 in
          let z : ltb 0 (get_or (set m e 0) x 0) ≡ false = rw (← q) (cleared l) in
          rw (z, h) (none_left xs a ∙ sym (drop-hit (eqb e) x (unvisited xs m) (eq-eqb e x q)))
      go (yes q) (inr h) ih =
          let a : All (λ y. e ≢ y) xs = rw q d.0 in
          let z : ltb 0 (get_or (set m e 0) x 0) ≡ false = rw (← q) (cleared l) in
          rw (z, h) ih
      go (no q) (inl h) ih = rw (other x q, h) (ap (λ (l : List ℕ). x ∷ l) ih ∙ sym (drop_past (eqb e) x (unvisited xs m) (ne_eqb e x q)))
      go (no q) (inr h) ih = rw (other x q, h) ih

module _ (f : SearchInput) (index targets : List ℕ) (ends : ℕ → Ends) (A : Agrees f index targets ends) where
  struck : (e : ℕ) (xs : List ℕ) → e < length targets → All (λ x. x < length targets) xs → map ends (drop_first (eqb e) xs) ≡ drop_first (eq_ends (ends e)) (map ends xs)
  struck e xs l a = sym (drop-map (eqb e) (eq_ends (ends e)) ends xs (all-mono (λ x h. A.apart e x l h) a))

  -- the marks of a path's edges cleared: the path's edges struck out
  crossed : (order m es : List ℕ) → Distinct order → All (λ x. x < length targets) order → length targets ≤ length m → All (λ e. e < length targets) es
      → map ends (unvisited order (clears m es)) ≡ cross_off (map ends es) (map ends (unvisited order m))
  unfolding cross_off
  crossed order m [] d o l a = refl
  crossed order m (e ∷ es) d o l (cons h a) =
      crossed order (set m e 0) es d o (omega (arith, length-set m e 0)) a
      ∙ ap (λ x. cross_off (map ends es) x)
      (ap (λ x. map ends x) (one-off m e order d (omega arith)) ∙ struck e (unvisited order m) h (all_keep (λ x. ltb 0 (get_or m x 0)) o))

  -- marks that agree tell the same edges
  agreed : (order m n : List ℕ) → All (λ e. get_or m e 0 ≡ get_or n e 0) order → unvisited order m ≡ unvisited order n
  agreed [] m n a = refl
  agreed (x ∷ xs) m n (cons h a) = rw (h, agreed xs m n a)

  -- the same of marks that are struck out: every pivotal edge is one that no chain goes on by
  pub struck-out : (order m es m' : List ℕ) → Distinct order → All (λ x. x < length targets) order → All (Fork index) order → length targets ≤ length m → All (λ e. e < length targets) es
      → Struck index m es m' → map ends (unvisited order m') ≡ cross_off (map ends es) (map ends (unvisited order m))
  struck-out order m es m' d o F l a S =
      ap (λ x. map ends x) (agreed order m' (clears m es) (all-mono (λ x h. S.same x (omega (arith, h.0)) h.1) (all-zip o F)))
      ∙ crossed order m es d o l a
