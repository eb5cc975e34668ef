-- "An allowance that always suffices": the search of a built graph never makes more pushes than `enough` of its edges, its tree nodes and the path-edge maximum.
use Rattle.std.specs.Prelude.{◌≡◌, ◌⊎◌, Bool, true, false, ◌&&◌, List, [], leb, length}
use Rattle.std.proofs.Math.Path.{refl}
use Rattle.std.proofs.Common.{ap, subst, sym, ◌∙◌, inl, inr, leb-true}
use Prim.Native.Nat.{ℕ, suc, ◌+◌, ◌*◌, ◌^◌, ◌≤◌, ◌<◌, min}
use native.Mathlib.Omega.{arith}
use Rattle.std.proofs.Math.Nat.{mul-le-mul_left, mul-le-mul_right}
use Rattle.std.proofs.Math.Option.{some}
use Rattle.laws.specs.Lists.{total}
use Rattle.laws.specs.ListLaws.{and_left, and_right, All}
use Rattle.definition.specs.Refusal.{ok, refused, first_broken}
use Rattle.definition.specs.Score.{Scoring}
use Rattle.definition.specs.Limits.{Sample, GraphMaxima, Input, k_fits, reference_fits, reference_bases, reads_fit, sample_rules}
use Rattle.definition.specs.Threading.{Ends, Graph, threaded, support_of, leaving, symbolic_of, with_symbolic}
use Rattle.definition.specs.Evidence.{nodes, evidence}
use Rattle.definition.specs.Search.{State, Turn, more, ended, failed, full, join_tree, run, pivotal_edges, first_state, search}
use Rattle.definition.specs.Building.{Built, built, built_of}
use Rattle.definition.specs.Listing.{search_input}
use Rattle.definition.specs.Enough.{enough, free_search, Covers, Suffices}
use Rattle.theorems.proofs.Walks.{refused-ok, ok_same}
use Rattle.theorems.proofs.Turns.{last_of, same_some, no-some, search-enough}
use Rattle.theorems.proofs.Trees.{evidence-rising}
use Rattle.theorems.proofs.Tables.{symbolic-rises}
use Rattle.theorems.proofs.Degrees.{rises-differ}
use Rattle.theorems.proofs.Origins.{built-is}
use Rattle.theorems.proofs.Counts.{SmallTree, counts-small}
use Rattle.theorems.proofs.Supports.{leaving-small}
use Rattle.theorems.proofs.Allowance.{NotFull, search-allowed}
use Rattle.theorems.proofs.Checks.{holds-first}
use Rattle.theorems.proofs.Twice.{any-keeps}
use Rattle.theorems.proofs.Refuses.{OnlyTurn}
use Rattle.allowance.proofs.Ways.{five-offered}
use Rattle.allowance.proofs.Weights.{below, below_up}
use Rattle.allowance.proofs.Spent.{Lean, Within, spent-pushes, turns-within}
use Rattle.allowance.proofs.Joins.{joins-always}
use Rattle.allowance.proofs.Free.{run-free}
use Rattle.allowance.proofs.Covered.{only-eleven}

-- ---- the formula grows with each of its numbers

pub enough-up : (e e' n n' l l' : ℕ) → e ≤ e' → n ≤ n' → l ≤ l' → enough e n l ≤ enough e' n' l'
unfolding enough
enough-up e e' n n' l l' h k j =
    let a : l * 5 ^ min l (3 * n + 6) ≤ l' * 5 ^ min l' (3 * n' + 6) = unfold below in below_up l l' (3 * n + 6) (3 * n' + 6) j (omega arith) in
    let b = mul-le-mul_left (suc e) (let c : suc (l * 5 ^ min l (3 * n + 6)) ≤ suc (l' * 5 ^ min l' (3 * n' + 6)) = omega arith in c) in
    let c = mul-le-mul_right (suc (l' * 5 ^ min l' (3 * n' + 6))) (let d : suc e ≤ suc e' = omega arith in d) in
    omega arith

-- ---- a built graph

-- what rules 1 to 4 leave of a sample
record Sound (s : Sample) : Type 0 where
  two : 2 ≤ s.k
  long : s.k ≤ length s.reference
  fits : reference_fits s.k s.reference ≡ true
  bases : reference_bases s.reference ≡ true
  reads : reads_fit s ≡ true

sound : (s : Sample) → first_broken (sample_rules s) ≡ 0 → Sound s
unfolding sample_rules k_fits reference_fits
sound s e =
    let a = holds-first 0 _ _ e in
    let b = holds-first 1 _ _ a.1 in
    let c = holds-first 2 _ _ b.1 in
    let d = holds-first 3 _ _ c.1 in
    record {
      two = leb-true 2 s.k (and_left (leb 2 s.k) _ a.0);
      long = leb-true s.k (length s.reference) (and_left (leb s.k (length s.reference)) _ b.0);
      fits = b.0;
      bases = c.0;
      reads = d.0;
    }

built-lean : (i : Input) (b : Built) → Sound i.sample → built i.sample i.graph_maxima ≡ ok b → Lean (search_input i b)
unfolding search_input
built-lean i b s e =
    let is = built-is i.sample i.graph_maxima b e in
    let some-k : 1 ≤ i.sample.k = omega (arith, s.two) in
    record {
      rising = rw is.2 (evidence-rising i.sample (threaded i.sample));
      few = five-offered i.sample (search_input i b) some-k s.long s.bases is.1 (ap (symbolic_of i.sample) is.0);
      differ = rw is.1 (rises-differ (with_symbolic i.sample (threaded i.sample)) (symbolic-rises i.sample));
    }

-- no count and no total passes 65,535
built-small : (i : Input) (b : Built) → Sound i.sample → built i.sample i.graph_maxima ≡ ok b
    → All (SmallTree 65535) b.trees × ((v : ℕ) → total support_of (leaving b.edges v) ≤ 65535)
built-small i b s e =
    let is = built-is i.sample i.graph_maxima b e in
    (rw is.2 (counts-small i.sample (threaded i.sample) s.reads s.two), λ v. rw is.1 (leaving-small i.sample s.fits s.reads v))

-- the maxima of a graph that was built are not below what it has
pub built-fits : (s : Sample) (m : GraphMaxima) (b : Built) → built s m ≡ ok b → (length b.edges ≤ m.edges) × (length (nodes b.trees) ≤ m.nodes)
unfolding built built_of
built-fits s m b e = go (leb (suc (length g.kmers)) m.vertices && leb (length (with_symbolic s g)) m.edges) (leb (length (nodes (evidence s g))) m.nodes) refl refl
  where
    g : Graph
    g = threaded s

    go : (x y : Bool) → (leb (suc (length g.kmers)) m.vertices && leb (length (with_symbolic s g)) m.edges) ≡ x → leb (length (nodes (evidence s g))) m.nodes ≡ y
        → (length b.edges ≤ m.edges) × (length (nodes b.trees) ≤ m.nodes)
    go false y u w = refused-ok (rw (u, built_of) at e)
    go true false u w = refused-ok (rw (u, built_of, w) at e)
    go true true u w =
        subst (λ (z : Built). (length z.edges ≤ m.edges) × (length (nodes z.trees) ≤ m.nodes)) (ok_same (rw (u, built_of, w) at e))
        (leb-true _ _ (and_right (leb (suc (length g.kmers)) m.vertices) _ u), leb-true _ _ w)

-- ---- the search of a built graph: of a sample that breaks none of 1 to 4

module _ {S : Type 0} (𝓢 : Scoring S) (i : Input) (b : Built) (fine : first_broken (sample_rules i.sample) ≡ 0) (is-built : built i.sample i.graph_maxima ≡ ok b) where
  -- the formula, of the built graph
  abbrev pub most : ℕ
  most = enough (length b.edges) (length (nodes b.trees)) i.search_maxima.path_edges

  abbrev lean : Lean (search_input i b)
  lean = built-lean i b (sound i.sample fine) is-built

  abbrev Bound : ℕ → Turn S → Type 0
  Bound limit t = Within 𝓢 (search_input i b) lean most limit t

  -- the pivotal edges that are tried
  abbrev pivotal : Bool → List Ends
  pivotal recovery = elim recovery as (λ _. List Ends) [ true ↦ pivotal_edges (search_input i b) | false ↦ [] ]

  -- the search after n turns, with a maximum
  abbrev pub after_turns : ℕ → ℕ → Bool → ℕ → Turn S
  after_turns asked limit recovery n = run 𝓢 (search_input i b) asked limit n (more (first_state 𝓢 (pivotal recovery)))

  -- the turns that `search` makes
  abbrev turns_of : ℕ → Bool → ℕ
  turns_of limit recovery = suc (limit + length (pivotal recovery))

  within : (asked limit n : ℕ) (recovery : Bool) → Bound limit (after_turns asked limit recovery n)
  unfolding search_input
  within asked limit n recovery = turns-within 𝓢 (search_input i b) lean asked limit n recovery

  bound-free : (limit : ℕ) (t : Turn S) → most ≤ limit → Bound limit t → NotFull t
  bound-free limit (more s) h w = tt
  bound-free limit (ended s) h w = tt
  bound-free limit (failed n) h w = tt
  bound-free limit (full s ps) h w = omega (arith, w.0)

  bound-few : (limit : ℕ) (t : Turn S) (s : State S) → Bound limit t → last_of t ≡ some s → s.pushes ≤ most
  bound-few limit (more x) s w h = rw (← same_some h) (spent-pushes 𝓢 (search_input i b) lean most x w)
  bound-few limit (ended x) s w h = rw (← same_some h) w
  bound-few limit (failed k) s w h = no-some h
  bound-few limit (full x ps) s w h = rw (← same_some h) w.1

  -- ---- with a maximum

  -- No search is stopped by a maximum of pushes that is not below the formula.
  pub never-full : (asked limit : ℕ) (recovery : Bool) → most ≤ limit → NotFull (search 𝓢 (search_input i b) asked limit recovery)
  unfolding search
  never-full asked limit recovery h =
      bound-free limit (after_turns asked limit recovery (turns_of limit recovery)) h (within asked limit (turns_of limit recovery) recovery)

  -- Any greater maximum makes the same search.
  pub same-search : (asked limit : ℕ) (recovery : Bool) → most ≤ limit → search 𝓢 (search_input i b) asked limit recovery ≡ search 𝓢 (search_input i b) asked most recovery
  unfolding enough
  same-search asked limit recovery h = search-allowed (any-keeps 𝓢) (search_input i b) asked most limit recovery (omega arith) h (never-full asked most recovery (omega arith))

  -- Whatever the maximum, no more pushes have been made after any number of turns, whether the search then goes on, ends, or its pushes have run out.
  pub pushes-few : (asked limit n : ℕ) (recovery : Bool) (s : State S) → last_of (after_turns asked limit recovery n) ≡ some s → s.pushes ≤ most
  pushes-few asked limit n recovery s e = bound-few limit (after_turns asked limit recovery n) s (within asked limit n recovery) e

  pub search-few : (asked limit : ℕ) (recovery : Bool) (s : State S) → last_of (search 𝓢 (search_input i b) asked limit recovery) ≡ some s → s.pushes ≤ most
  unfolding search
  search-few asked limit recovery s e = pushes-few asked limit (turns_of limit recovery) recovery s e

  -- With a column covering all counts, 11 is the only number with which it is refused.
  pub search-eleven : Covers 𝓢 65535 → (asked limit : ℕ) (recovery : Bool) → OnlyTurn (λ k. k ≡ 11) (search 𝓢 (search_input i b) asked limit recovery)
  unfolding search_input
  search-eleven covers =
      let small = built-small i b (sound i.sample fine) is-built in
      only-eleven 𝓢 (search_input i b) 65535 covers small.0 small.1

  -- ---- with none

  -- A maximum that is not below the formula makes the search that no maximum makes, turn by turn.
  pub no-maximum : (asked limit n : ℕ) (recovery : Bool) → most ≤ limit → after_turns asked limit recovery n ≡ free_search 𝓢 (search_input i b) asked recovery n
  unfolding free_search
  no-maximum asked limit n recovery h = run-free 𝓢 (search_input i b) asked limit n (first_state 𝓢 (pivotal recovery)) (bound-free limit (after_turns asked limit recovery n) h (within asked limit n recovery))

  free-few : (asked n : ℕ) (recovery : Bool) (s : State S) → last_of (free_search 𝓢 (search_input i b) asked recovery n) ≡ some s → s.pushes ≤ most
  free-few asked n recovery s e = pushes-few asked most n recovery s (ap last_of (no-maximum asked most n recovery (omega arith)) ∙ e)

  comes-to : Covers 𝓢 65535 → (asked : ℕ) (recovery : Bool)
      → ((s : State S) × (free_search 𝓢 (search_input i b) asked recovery (turns_of most recovery) ≡ ended s)) ⊎ (free_search 𝓢 (search_input i b) asked recovery (turns_of most recovery) ≡ failed 11)
  unfolding search enough
  comes-to covers asked recovery =
      go (search 𝓢 (search_input i b) asked most recovery) refl (never-full asked most recovery (omega arith)) (search-eleven covers asked most recovery)
    where
      same : search 𝓢 (search_input i b) asked most recovery ≡ free_search 𝓢 (search_input i b) asked recovery (turns_of most recovery)
      same = no-maximum asked most (turns_of most recovery) recovery (omega arith)

      some-most : 0 < most
      some-most = omega arith

      go : (t : Turn S) → search 𝓢 (search_input i b) asked most recovery ≡ t → NotFull t → OnlyTurn (λ k. k ≡ 11) t
          → ((s : State S) × (free_search 𝓢 (search_input i b) asked recovery (turns_of most recovery) ≡ ended s)) ⊎ (free_search 𝓢 (search_input i b) asked recovery (turns_of most recovery) ≡ failed 11)
      go (more s) e w l = absurd (search-enough (any-keeps 𝓢) (search_input i b) most asked recovery s some-most e)
      go (ended s) e w l = inl (s, sym same ∙ e)
      go (failed k) e w l = inr (sym same ∙ e ∙ ap failed l)
      go (full s ps) e w l = absurd w

  -- Request m: with a column covering all counts, and no maximum on pushes or on column places, the search ends or meets 11, and never pushes more than the formula.
  pub suffices : Covers 𝓢 65535 → (asked : ℕ) (recovery : Bool) → Suffices 𝓢 (search_input i b) asked recovery most
  suffices covers asked recovery = record { turns = turns_of most recovery; comes = comes-to covers asked recovery; few = few }
    where
      few : (n : ℕ) (s : State S) → (free_search 𝓢 (search_input i b) asked recovery n ≡ more s) ⊎ (free_search 𝓢 (search_input i b) asked recovery n ≡ ended s) → s.pushes ≤ most
      few n s (inl e) = free-few asked n recovery s (ap last_of e)
      few n s (inr e) = free-few asked n recovery s (ap last_of e)

  -- With as many active trees allowed as there are trees, none of its paths meets 11 for them: as if there were no maximum.
  pub no-active-maximum : length b.trees ≤ i.search_maxima.active → (asked n : ℕ) (recovery : Bool) (s : State S) → free_search 𝓢 (search_input i b) asked recovery n ≡ more s
      → All (λ p. (v k : ℕ) → join_tree (search_input i b) v p ≡ refused k → ⊥) s.waiting
  unfolding search_input
  no-active-maximum ample asked n recovery s e =
      joins-always 𝓢 (search_input i b) ample asked most n _ s (ap last_of (no-maximum asked most n recovery (omega arith) ∙ e))

  -- Before anything is built: the formula of the maxima is not below that of the graph.
  pub maxima-suffice : most ≤ enough i.graph_maxima.edges i.graph_maxima.nodes i.search_maxima.path_edges
  maxima-suffice = let m = built-fits i.sample i.graph_maxima b is-built in enough-up _ _ _ _ _ _ m.0 m.1 (omega arith)
