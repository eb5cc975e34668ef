-- What an accepted run for the list is made of, whatever the scoring; then the list's order (A) and fewer paths asked (B).
use mathlib.Core.Path.{◌≡◌, refl, sym, ap, ◌∙◌}
use mathlib.Core.Logic.{◌⊎◌, inl, inr}
use Prim.Native.Nat.{ℕ, ◌≤◌}
use native.Mathlib.Omega.{arith}
use mathlib.Core.Bool.{Bool, true, false}
use mathlib.Core.List.{List, [], ◌∷◌, map}
use mathlib.Core.Option.{some}
use lib.Dec.{leb, eqb}
use borrow.Author.Tests.{eqb-true, lt-leb, eq-eqb}
use Rattle.laws.specs.Lists.{keep}
use Rattle.laws.specs.Insertion.{Sorted, all-sorted, sorted-sorted, keep-sorted}
use Rattle.laws.specs.ListLaws.{clash, or-none, All, nil, all-mono, all_map, keep-map, keep-none}
use Rattle.definition.specs.Refusal.{Result, ok, refused}
use Rattle.definition.specs.Score.{Scoring}
use Rattle.definition.specs.Limits.{Input}
use Rattle.definition.specs.Search.{SearchInput, Closed, State, Turn, more, ended, failed, full, search}
use Rattle.definition.specs.Building.{Built, built}
use Rattle.definition.specs.Listing.{search_input, Row, row_of, above, list_order, refusal, listed, list_of, answer_of, after_build}
use Rattle.theorems.proofs.Order.{Ordered, Keeps, above-order}
use Rattle.theorems.proofs.Walks.{GoodState, Numbered}
use Rattle.theorems.proofs.Turns.{last_of, numbered-above, search-reached, search-fewer}

-- the graph that was built, the state that the search came to, and the rows made of it
pub record Found {S : Type 0} (𝓢 : Scoring S) (i : Input) (rows : List (Row S)) (pushes longest : ℕ) : Type 0 where
  pub some-asked : eqb i.asked 0 ≡ false
  pub graph : Built
  pub is-built : built i.sample i.graph_maxima ≡ ok graph
  pub state : State S
  pub reached : last_of (search 𝓢 (search_input i graph) i.asked i.search_maxima.pushes i.recovery) ≡ some state
  pub are : rows ≡ list_order 𝓢 (map (row_of graph) state.closed)
  pub pushes-are : pushes ≡ state.pushes
  pub longest-is : longest ≡ state.longest

-- no path was asked, or a search was made
abbrev pub Listing : {S : Type 0} → Scoring S → Input → List (Row S) → ℕ → ℕ → Type 0
Listing 𝓢 i rows pushes longest = ((i.asked ≡ 0) × (rows ≡ []) × (pushes ≡ 0) × (longest ≡ 0)) ⊎ Found 𝓢 i rows pushes longest

pub refusal-listed : {S A : Type 0} {n : ℕ} {rows : List (Row S)} {p q : ℕ} → refusal n ≡ listed rows p q → A
refusal-listed e = let z : ◌≡◌ {A = ℕ} 0 1 = cc in absurd (omega arith)

listed-rows : {S : Type 0} {xs ys : List (Row S)} {p q p' q' : ℕ} → listed xs p q ≡ listed ys p' q' → xs ≡ ys
listed-rows e = cc

listed-pushes : {S : Type 0} {xs ys : List (Row S)} {p q p' q' : ℕ} → listed xs p q ≡ listed ys p' q' → p ≡ p'
listed-pushes e = cc

listed-longest : {S : Type 0} {xs ys : List (Row S)} {p q p' q' : ℕ} → listed xs p q ≡ listed ys p' q' → q ≡ q'
listed-longest e = cc

module _ {S : Type 0} (𝓢 : Scoring S) (i : Input) (rows : List (Row S)) (p q : ℕ) where
  state-found : (b : Built) (s : State S) → built i.sample i.graph_maxima ≡ ok b → eqb i.asked 0 ≡ false
      → last_of (search 𝓢 (search_input i b) i.asked i.search_maxima.pushes i.recovery) ≡ some s → list_of 𝓢 b s ≡ listed rows p q → Found 𝓢 i rows p q
  unfolding list_of
  state-found b s eb ea e h =
      record {
        some-asked = ea;
        graph = b;
        is-built = eb;
        state = s;
        reached = e;
        are = sym (listed-rows h);
        pushes-are = sym (listed-pushes h);
        longest-is = sym (listed-longest h);
      }

  search-found : (b : Built) → built i.sample i.graph_maxima ≡ ok b → eqb i.asked 0 ≡ false → (u : Turn S)
      → search 𝓢 (search_input i b) i.asked i.search_maxima.pushes i.recovery ≡ u → answer_of 𝓢 b u ≡ listed rows p q → Found 𝓢 i rows p q
  unfolding answer_of
  search-found b eb ea (more s) e h = state-found b s eb ea (ap last_of e) h
  search-found b eb ea (ended s) e h = state-found b s eb ea (ap last_of e) h
  search-found b eb ea (failed n) e h = refusal-listed h
  search-found b eb ea (full s ps) e h = refusal-listed h

  building : (r : Result Built) → built i.sample i.graph_maxima ≡ r → after_build 𝓢 i r ≡ listed rows p q → Listing 𝓢 i rows p q
  unfolding after_build
  building (refused n) eb h = refusal-listed h
  building (ok b) eb h = asked (eqb i.asked 0) refl
    where
      asked : (z : Bool) → eqb i.asked 0 ≡ z → Listing 𝓢 i rows p q
      asked true u =
          let e : listed [] 0 0 ≡ listed rows p q = rw (u, after_build) at h in
          inl (eqb-true i.asked 0 u, sym (listed-rows e), sym (listed-pushes e), sym (listed-longest e))
      asked false u = inr (search-found b eb u (search 𝓢 (search_input i b) i.asked i.search_maxima.pushes i.recovery) refl (rw (u, after_build) at h))

  pub listing : after_build 𝓢 i (built i.sample i.graph_maxima) ≡ listed rows p q → Listing 𝓢 i rows p q
  listing h = building (built i.sample i.graph_maxima) refl h

-- what holds of every row holds of the list
pub all_listed : {S : Type 0} {P : Row S → Type 0} (𝓢 : Scoring S) {rs : List (Row S)} → All P rs → All P (list_order 𝓢 rs)
unfolding list_order
all_listed 𝓢 a = all-sorted (above 𝓢) a

-- the state of a search is good
pub found-good : {S : Type 0} {𝓢 : Scoring S} {Fine : S → Type 0} → Keeps 𝓢 Fine → {i : Input} {rows : List (Row S)} {p q : ℕ} (h : Found 𝓢 i rows p q)
    → GoodState Fine (search_input i h.graph) h.state × Numbered 0 h.state.closed
found-good K {i} h = search-reached K (search_input i h.graph) i.search_maxima.pushes i.asked i.recovery h.state h.reached

-- ---- (A) the order

-- no row outscores one that stands above it
abbrev pub Falling : {S : Type 0} → Scoring S → List (Row S) → Type 0
Falling 𝓢 [] = Unit {0}
Falling 𝓢 (r ∷ rs) = All (λ q. 𝓢.less r.score q.score ≡ false) rs × Falling 𝓢 rs

module _ {S : Type 0} (𝓢 : Scoring S) where
  sorted-falls : (rs : List (Row S)) → Sorted (above 𝓢) rs → Falling 𝓢 rs
  unfolding above
  sorted-falls [] s = tt
  sorted-falls (r ∷ rs) s = (all-mono (λ q h. (or-none (𝓢.less r.score q.score) _ h).0) s.0, sorted-falls rs s.1)

module _ {S : Type 0} {𝓢 : Scoring S} {Fine : S → Type 0} (K : Keeps 𝓢 Fine) where
  -- the rows of a good state have fine scores
  fine-rows : (f : SearchInput) (b : Built) (s : State S) → GoodState Fine f s → All (λ r. Fine r.score) (map (row_of b) s.closed)
  unfolding row_of
  fine-rows f b s g = all_map (row_of b) (λ c h. h.fine) g.closed

  pub fine-listing : {i : Input} {rows : List (Row S)} {p q : ℕ} → Listing 𝓢 i rows p q → All (λ r. Fine r.score) rows
  fine-listing (inl h) = rw h.1 nil
  fine-listing {i} (inr h) = rw h.are (all_listed 𝓢 (fine-rows (search_input i h.graph) h.graph h.state (found-good K h).0))

  pub falling-listing : Ordered 𝓢 Fine → {i : Input} {rows : List (Row S)} {p q : ℕ} → Listing 𝓢 i rows p q → Falling 𝓢 rows
  unfolding list_order
  falling-listing O (inl h) = rw h.1 tt
  falling-listing O {i} (inr h) =
      rw h.are
      (sorted-falls 𝓢 (list_order 𝓢 (map (row_of h.graph) h.state.closed))
      (sorted-sorted (above 𝓢) (above-order O) (map (row_of h.graph) h.state.closed) (fine-rows (search_input i h.graph) h.graph h.state (found-good K h).0)))

-- ---- (B) fewer paths asked

-- the same input, with another number of paths asked
abbrev pub with_asked : Input → ℕ → Input
with_asked i n =
    record {
      sample = i.sample;
      asked = n;
      threshold = i.threshold;
      recovery = i.recovery;
      graph_maxima = i.graph_maxima;
      search_maxima = i.search_maxima;
      column = i.column;
    }

-- what the search looks at does not depend on it
pub same-input : (i : Input) (n : ℕ) (b : Built) → search_input (with_asked i n) b ≡ search_input i b
unfolding search_input
same-input i n b = refl

module _ {S : Type 0} where
  number-row : (b : Built) (n : ℕ) (cs : List (Closed S)) → keep (λ r. leb r.closing n) (map (row_of b) cs) ≡ map (row_of b) (keep (λ c. leb c.closing n) cs)
  unfolding row_of
  number-row b n cs = keep-map (λ r. leb r.closing n) (row_of b) cs

module _ {S : Type 0} {𝓢 : Scoring S} {Fine : S → Type 0} (O : Ordered 𝓢 Fine) (K : Keeps 𝓢 Fine) where
  closings-fewer : (b : Built) (n : ℕ) (xs ys : List (Closed S)) → keep (λ x. leb x.closing n) ys ≡ xs → All (λ r. Fine r.score) (map (row_of b) ys)
      → list_order 𝓢 (map (row_of b) xs) ≡ keep (λ r. leb r.closing n) (list_order 𝓢 (map (row_of b) ys))
  unfolding list_order
  closings-fewer b n xs ys few fine = rw (keep-sorted (above 𝓢) (above-order O) (λ r. leb r.closing n) (map (row_of b) ys) fine, number-row b n ys, few)

  rows-fewer : (i : Input) (n m : ℕ) (rows rows' : List (Row S)) (p q p' q' : ℕ) → n ≤ m → Found 𝓢 (with_asked i n) rows p q → Found 𝓢 (with_asked i m) rows' p' q'
      → rows ≡ keep (λ r. leb r.closing n) rows'
  rows-fewer i n m rows rows' p q p' q' h a b = rw (a.are, b.are, g) (closings-fewer a.graph n a.state.closed b.state.closed few fine)
    where
      f : SearchInput
      f = search_input i a.graph

      g : b.graph ≡ a.graph
      g =
          let ea : built i.sample i.graph_maxima ≡ ok a.graph = a.is-built in
          let eb : built i.sample i.graph_maxima ≡ ok b.graph = b.is-built in
          cc

      ra : last_of (search 𝓢 f n i.search_maxima.pushes i.recovery) ≡ some a.state
      ra = rw (← (same-input i n a.graph)) a.reached

      rb : last_of (search 𝓢 f m i.search_maxima.pushes i.recovery) ≡ some b.state
      rb = rw (← g, ← (same-input i m b.graph)) b.reached

      fine : All (λ r. Fine r.score) (map (row_of a.graph) b.state.closed)
      fine = fine-rows K f a.graph b.state (search-reached K f i.search_maxima.pushes m i.recovery b.state rb).0

      few : keep (λ c. leb c.closing n) b.state.closed ≡ a.state.closed
      few = search-fewer K f i.search_maxima.pushes n m i.recovery a.state b.state h ra rb

  -- closing numbers are 1 and up, so none is kept up to 0
  rows_none : (i : Input) (rows : List (Row S)) (p q : ℕ) → Found 𝓢 i rows p q → keep (λ r. leb r.closing 0) rows ≡ []
  unfolding row_of
  rows_none i rows p q a =
      keep-none (λ r. leb r.closing 0) {xs = rows}
      (rw a.are (all_listed 𝓢 (all_map (row_of a.graph) (λ c h. lt-leb c.closing 0 h) (numbered-above 0 a.state.closed (found-good K a).1))))

  -- The list for the smaller number is the list for the greater one with every row left out whose closing number is above the smaller.
  pub fewer-listing : (i : Input) (n m : ℕ) (rows rows' : List (Row S)) (p q p' q' : ℕ) → n ≤ m → Listing 𝓢 (with_asked i n) rows p q
      → Listing 𝓢 (with_asked i m) rows' p' q' → rows ≡ keep (λ r. leb r.closing n) rows'
  fewer-listing i n m rows rows' p q p' q' h (inl a) (inl b) = a.1 ∙ ap (keep (λ r. leb r.closing n)) (sym b.1)
  fewer-listing i n m rows rows' p q p' q' h (inl a) (inr b) = a.1 ∙ sym (rw a.0 (rows_none (with_asked i m) rows' p' q' b))
  fewer-listing i n m rows rows' p q p' q' h (inr a) (inl b) = let k : m ≡ 0 = b.0 in clash (sym (eq-eqb n 0 (omega arith)) ∙ a.some-asked)
  fewer-listing i n m rows rows' p q p' q' h (inr a) (inr b) = rows-fewer i n m rows rows' p q p' q' h a b
