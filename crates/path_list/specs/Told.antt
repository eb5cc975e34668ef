-- The list as the definition has it: what the columns and the laid out rows hold is `list_order` of the closed paths' rows.
use Rattle.std.specs.Prelude.{◌≡◌, Bool, false, take, drop, Float, List, [], ◌∷◌, ◌++◌, map, ℕ, zero, suc, ◌+◌, ◌-◌, ◌<◌, ◌≤◌}
use Rattle.std.proofs.Math.Path.{refl, sym, ap}
use Rattle.std.proofs.Common.{◌∙◌, drop-cons, take-suc, get_or-take, arith, eq-eqb}
use Rattle.std.proofs.Math.Option.{some}
use Rattle.std.proofs.Math.ListN.{length, get_or, length-map}
use Rattle.std.proofs.Math.Seq.{length-take-le}
use Rattle.std.proofs.lemmas.List.{map-append}
use Rattle.laws.specs.Lists.{find}
use Rattle.laws.specs.ListLaws.{All, nil, cons, all-mono}
use Rattle.laws.specs.Rows.{rows, rows_more, rows_same, rows_none}
use Rattle.laws.specs.Insertion.{insert, sorted, all-sorted}
use Rattle.laws.specs.Sorting.{insert-map}
use Rattle.definition.specs.Score.{column_scoring}
use Rattle.definition.specs.Threading.{Ends, Origin, Edge, Graph, eq_ends}
use Rattle.definition.specs.Search.{Closed}
use Rattle.definition.specs.Building.{Built}
use Rattle.definition.specs.Listing.{Row, row_of, path_bases, origin_at, above, list_order}
use Rattle.definition.specs.Calls.{path_row, written_at, written_rows}
use Rattle.theorems.proofs.Walks.{Numbered, eq_ends-true}
use Rattle.assembly.specs.Fields.{kmer_place, edge_from, edge_to}
use Rattle.assembly.specs.Table.{table, Distinct, find-table-some}
use Rattle.assembly.specs.Store.{edge_at, edges_of, kmer_at, graph_of}
use Rattle.graph_kmers.specs.Paths.{bases_of, bases-is}
use Rattle.path_rows.specs.Rows.{finished}
use Rattle.search_state.specs.Ground.{name_of}
use Rattle.search_state.specs.State.{closed_record, up_from}
use Rattle.path_list.specs.Walked.{record_at, walk_of}
use Rattle.path_list.specs.Tails.{compare_same}
use Rattle.path_list.specs.Ranks.{Lists, score_at, count_at, walk_at, tail_at, above_at, above-is, Ranked, all-low}

-- the closed paths are spelled by the graph of n vertices and m edges: none takes the symbolic edge
pub record Drawn (text vs es index targets t closed : List ℕ) (k count n m : ℕ) : Type 0 where
  pub vertex : 0 < n
  pub fits : (v : ℕ) → v < n → kmer_place vs v + k ≤ length text
  pub to_in : (e : ℕ) → e < m → edge_to es e < n
  pub real : (i : ℕ) → i < count → All (λ e. e < m) (walk_of index targets t closed i)

-- the tables show the graph, its edges with the symbolic one, and the closed paths
pub record Shows (text vs es index targets t : List ℕ) (sc : List Float) (closed : List ℕ) (k count : ℕ) (b : Built) (found : List (Closed Float)) : Type 0 where
  pub vertices : ℕ
  pub real : ℕ
  pub all : ℕ
  pub drawn : Drawn text vs es index targets t closed k count vertices real
  pub graph : graph_of k text vs vertices es real ≡ b.graph
  pub within : real ≤ all
  pub edges : edges_of es all ≡ b.edges
  pub distinct : Distinct (edge_at es) all
  pub closing : ℕ → ℕ
  pub found-are : found ≡ map (closed_record es index targets closing t sc) (take count closed)
  pub numbered : Numbered 0 found

-- ---- lists

map-two : {A B D : Type 0} (f : B → D) (g : A → B) (l : List A) → map f (map g l) ≡ map (λ x. f (g x)) l
map-two f g [] = refl
map-two {A} {B} {D} f g (x ∷ l) = ap (λ (m : List D). f (g x) ∷ m) (map-two f g l)

map-agree : {A B : Type 0} {P : A → Type 0} (f g : A → B) → ((x : A) → P x → f x ≡ g x) → {l : List A} → All P l → map f l ≡ map g l
map-agree f g h nil = refl
map-agree {A} {B} f g h (cons {x = x} {xs = l} p a) = rw (h x p) (ap (λ (m : List B). g x ∷ m) (map-agree f g h a))

-- the places of a list, from a on
take-from : (l : List ℕ) (a n : ℕ) → a + n ≤ length l → take n (drop a l) ≡ map (λ i. get_or l i 0) (up_from a n)
unfolding up_from
take-from l a zero h = refl
take-from l a (suc n) h =
    ap (λ (m : List ℕ). take (suc n) m) (drop-cons l a 0 (omega arith))
    ∙ ap (λ (m : List ℕ). get_or l a 0 ∷ m) (take-from l (suc a) n (omega arith))

rows-map : {A : Type 0} (f : ℕ → A) (rank : List ℕ) (n : ℕ) → n ≤ length rank → rows (λ r. f (get_or rank r 0)) n ≡ map f (take n rank)
rows-map f rank zero h = rows_none (λ r. f (get_or rank r 0))
rows-map {A} f rank (suc n) h =
    rows_more (λ r. f (get_or rank r 0)) (λ r. f (get_or rank r 0)) n (f (get_or rank n 0)) refl (λ j m. refl)
    ∙ ap (λ (l : List A). l ++ f (get_or rank n 0) ∷ []) (rows-map f rank n (omega arith))
    ∙ sym (map-append f (take n rank) (get_or rank n 0 ∷ []))
    ∙ ap (λ (l : List ℕ). map f l) (sym (take-suc rank n 0 (omega arith)))

-- to sort numbers is to sort what they stand for
sorted-map : {A : Type 0} {P : ℕ → Type 0} (b : ℕ → ℕ → Bool) (d : A → A → Bool) (view : ℕ → A) → ((x y : ℕ) → P x → P y → b x y ≡ d (view x) (view y))
    → {l : List ℕ} → All P l → map view (sorted b l) ≡ sorted d (map view l)
unfolding sorted
sorted-map b d view h nil = refl
sorted-map {A} b d view h (cons {x = x} {xs = l} p a) =
    insert-map b d view x (all-mono (λ y q. h y x q p) (all-sorted b a)) ∙ ap (λ (m : List A). insert d (view x) m) (sorted-map b d view h a)

numbered-at : (n : ℕ) (f : ℕ → Closed Float) (l : List ℕ) → Numbered n (map f l) → (i : ℕ) → i < length l → (f (get_or l i 0)).closing ≡ suc n + i
numbered-at n f [] N i h = absurd (omega arith)
numbered-at n f (x ∷ l) N zero h = let z : suc n + 0 ≡ suc n = omega arith in N.0 ∙ sym z
numbered-at n f (x ∷ l) N (suc i) h = let z : suc n + suc i ≡ suc (suc n) + i = omega arith in numbered-at (suc n) f l N.1 i (omega arith) ∙ sym z

-- ---- the list

-- the outputs are the definition's list
pub record Told (b : Built) (found : List (Closed Float)) (column : List Float) (k most count : ℕ) (ss₀ : List Float) (cs₀ ls₀ : List ℕ) (ss : List Float) (cs ls : List ℕ) (bases sequences places bases' sequences' places' : List ℕ) : Type 0 where
  pub paths : length (list_order (column_scoring column) (map (row_of b) found)) ≡ count
  pub rows : finished ss cs ls count ≡ map path_row (list_order (column_scoring column) (map (row_of b) found))
  pub scores-are : ss ≡ written_at 0 (map (λ (r : Row Float). r.score) (list_order (column_scoring column) (map (row_of b) found))) ss₀
  pub closings-are : cs ≡ written_at 0 (map (λ (r : Row Float). r.closing) (list_order (column_scoring column) (map (row_of b) found))) cs₀
  pub edges_are : ls ≡ written_at 0 (map (λ (r : Row Float). r.edges) (list_order (column_scoring column) (map (row_of b) found))) ls₀
  pub bases-are : bases' ≡ written_rows (k + most) 0 (map (λ (r : Row Float). r.bases) (list_order (column_scoring column) (map (row_of b) found))) bases
  pub sequences-are : sequences' ≡ written_rows most 0 (map (λ (r : Row Float). map (λ (o : Origin). o.sequence) r.origins) (list_order (column_scoring column) (map (row_of b) found))) sequences
  pub places-are : places' ≡ written_rows most 0 (map (λ (r : Row Float). map (λ (o : Origin). o.place) r.origins) (list_order (column_scoring column) (map (row_of b) found))) places

module _ (l : Lists) (index targets : List ℕ) (count : ℕ) (b : Built) (found : List (Closed Float)) (S : Shows l.text l.vs l.es index targets l.t l.sc l.closed l.k count b found)
    (closed-room : count ≤ length l.closed) (same : (i : ℕ) → i < count → walk_at l i ≡ walk_of index targets l.t l.closed i) where
  -- the closed path i, and its row
  abbrev path_at : ℕ → Closed Float
  path_at i = closed_record l.es index targets S.closing l.t l.sc (record_at l.closed i)

  pub row : ℕ → Row Float
  row i = row_of b (path_at i)

  rows_are : map (row_of b) found ≡ map row (up_from 0 count)
  unfolding row
  rows_are =
      ap (λ (c : List (Closed Float)). map (row_of b) c) S.found-are
      ∙ map-two (row_of b) (closed_record l.es index targets S.closing l.t l.sc) (take count l.closed)
      ∙ ap (λ (x : List ℕ). map (λ r. row_of b (closed_record l.es index targets S.closing l.t l.sc r)) x) (take-from l.closed 0 count (omega arith))
      ∙ map-two (λ r. row_of b (closed_record l.es index targets S.closing l.t l.sc r)) (λ i. get_or l.closed i 0) (up_from 0 count)

  -- ---- the parts of a row

  pub row-score : (i : ℕ) → (row i).score ≡ score_at l i
  unfolding row row_of
  row-score i = refl

  pub row-closing : (i : ℕ) → i < count → (row i).closing ≡ i + 1
  unfolding row row_of
  row-closing i h =
      let a : length (take count l.closed) ≡ count = length-take-le count l.closed closed-room in
      let N : Numbered 0 (map (closed_record l.es index targets S.closing l.t l.sc) (take count l.closed)) = rw S.found-are at S.numbered in
      ap (λ r. S.closing r) (sym (get_or-take count l.closed i 0 h))
      ∙ numbered-at 0 (closed_record l.es index targets S.closing l.t l.sc) (take count l.closed) N i (omega arith)
      ∙ (let z : suc 0 + i ≡ i + 1 = omega arith in z)

  pub row-is_ref : (i : ℕ) → (row i).is_ref ≡ false
  unfolding row row_of
  row-is_ref i = refl

  pub row-edges : (i : ℕ) → i < count → (h : count_at l i ≡ length (walk_of index targets l.t l.closed i)) → (row i).edges ≡ count_at l i
  unfolding row row_of
  row-edges i k h = length-map (walk_of index targets l.t l.closed i) (name_of l.es) ∙ sym h

  pub row-bases : (i : ℕ) → i < count → (row i).bases ≡ bases_of l.k l.text l.vs l.es (walk_at l i)
  unfolding row row_of
  row-bases i h =
      ap (λ (g : Graph). path_bases g (map (name_of l.es) (walk_of index targets l.t l.closed i))) (sym S.graph)
      ∙ sym (bases-is l.k l.text l.vs l.es S.vertices S.real (walk_of index targets l.t l.closed i) S.drawn.vertex
      (all-mono (λ e m. S.drawn.to_in e m) (S.drawn.real i h)))
      ∙ ap (λ (w : List ℕ). bases_of l.k l.text l.vs l.es w) (sym (same i h))

  origin-is : (e : ℕ) → e < S.real → origin_at b.edges (name_of l.es e) ≡ (edge_at l.es e).origin
  unfolding origin_at edges_of
  origin-is e h =
      let f : find (λ (d : Edge). eq_ends (name_of l.es e) d.ends) (table (edge_at l.es) S.all) ≡ some (edge_at l.es e) =
      find-table-some (eq_ends (name_of l.es e)) (edge_at l.es) S.all e (let z = S.within in omega arith)
      (rw (eq-eqb (edge_from l.es e) (edge_from l.es e) refl, eq-eqb (edge_to l.es e) (edge_to l.es e) refl))
      (λ j k q. sym (S.distinct e j (let z = S.within in omega arith) k (eq_ends-true (name_of l.es e) (name_of l.es j) q)))
      in
      rw (← S.edges, f, origin_at)

  pub row-origins : (i : ℕ) → i < count → (part : Origin → ℕ) → map part (row i).origins ≡ map (λ e. part (edge_at l.es e).origin) (walk_at l i)
  unfolding row row_of
  row-origins i h part =
      map-two part (origin_at b.edges) (map (name_of l.es) (walk_of index targets l.t l.closed i))
      ∙ map-two (λ (d : Ends). part (origin_at b.edges d)) (name_of l.es) (walk_of index targets l.t l.closed i)
      ∙ map-agree (λ e. part (origin_at b.edges (name_of l.es e))) (λ e. part (edge_at l.es e).origin) (λ e m. ap part (origin-is e m)) (S.drawn.real i h)
      ∙ ap (λ (w : List ℕ). map (λ e. part (edge_at l.es e).origin) w) (sym (same i h))

  -- ---- the order

  spelled : (i : ℕ) → i < count → (row i).bases ≡ kmer_at l.k l.text l.vs 0 ++ tail_at l i
  unfolding bases_of
  spelled i h = row-bases i h

  module _ (column : List Float) where
    agree : (i j : ℕ) → i < count → j < count → above_at l i j ≡ above (column_scoring column) (row i) (row j)
    unfolding above column_scoring
    agree i j h k =
        above-is l i j
        ∙ (rw (row-score i, row-score j, spelled i h, spelled j k, compare_same (kmer_at l.k l.text l.vs 0) (tail_at l i) (tail_at l j)))

    module _ (rank : List ℕ) (R : Ranked (above_at l) count 0 rank) where
      pub order_is : list_order (column_scoring column) (map (row_of b) found) ≡ map row (take count rank)
      unfolding list_order
      order_is =
          let z : count - 0 ≡ count = omega arith in
          ap (λ (x : List (Row Float)). sorted (above (column_scoring column)) x) rows_are
          ∙ sym (sorted-map (above_at l) (above (column_scoring column)) row agree (all-low count 0 count (omega arith)))
          ∙ ap (λ (x : List ℕ). map row x) (ap (λ n. sorted (above_at l) (up_from 0 n)) (sym z) ∙ sym R.is)

      -- one part of every row, as the rows stand in a slice
      pub part-is : {A : Type 0} (part : Row Float → A) (f : ℕ → A) → count ≤ length rank → ((r : ℕ) → r < count → f r ≡ part (row (get_or rank r 0)))
          → rows f count ≡ map part (list_order (column_scoring column) (map (row_of b) found))
      part-is {A} part f m h =
          rows_same f (λ r. part (row (get_or rank r 0))) count h
          ∙ rows-map (λ i. part (row i)) rank count m
          ∙ sym (map-two part row (take count rank))
          ∙ ap (λ (x : List (Row Float)). map part x) (sym order_is)
