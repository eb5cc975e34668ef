-- What the writer of the list asks of its slices, and what it leaves there.
use Rattle.std.specs.Prelude.{◌≡◌, refl, Bool, List, map, ℕ, ◌+◌, ◌*◌, ◌^◌, ◌<◌, ◌≤◌, length, take, drop, Float}
use Rattle.std.proofs.Math.Path.{sym}
use Rattle.std.proofs.Common.{ap, ◌∙◌, arith, length-drop, get_or-take, length-take-le}
use Rattle.std.proofs.Math.Bool.{false}
use Rattle.std.proofs.Math.ListN.{get_or}
use Rattle.std.proofs.lemmas.List.{length-map}
use Rattle.std.specs.Float.Ieee.{nan}
use Rattle.laws.specs.Rows.{rows}
use Rattle.definition.specs.Score.{column_scoring}
use Rattle.definition.specs.Limits.{Input, bases_stride}
use Rattle.definition.specs.Threading.{Origin}
use Rattle.definition.specs.Search.{Closed}
use Rattle.definition.specs.Building.{Built}
use Rattle.definition.specs.Listing.{Row, row_of, list_order}
use Rattle.definition.specs.Calls.{path_row, written_at, written_rows, ListSlices, listed_slices}
use Rattle.definition.specs.Calls as defs
use Rattle.assembly.specs.Fields.{HasVertices, HasEdges, edge_to}
use Rattle.assembly.specs.Store.{edge_at}
use Rattle.graph_kmers.specs.Paths.{Spells}
use Rattle.path_store.specs.Cells.{count_of}
use Rattle.closed_paths.specs.Recover.{all-at}
use Rattle.path_rows.specs.declared.PathRow.{PathRow}
use Rattle.path_rows.specs.Rows.{told, row_at, finished-is, Filled}
use Rattle.path_list.specs.Laid.{Laid, row_low}
use Rattle.path_list.specs.Walked.{record_at, walk_of, Walkable, Walked, walk-length, walk_inside, walked-read}
use Rattle.path_list.specs.Ranks.{Lists, lists, Ready, walk_at, above_at, Ranked, ranked-known}
use Rattle.path_list.specs.Rows.{Placed, Known, Columns, score_row, closing_row, edges_row, Filed, bases_at, fields_at}
use Rattle.path_list.specs.Told.{Drawn, Shows, Told, row, row-score, row-closing, row-is_ref, row-edges, row-bases, row-origins, order_is, part-is}

-- ---- what is asked: the closed paths, the graph that spells them, and the lengths of the slices written

pub record Listable (text vs es index targets t : List ℕ) (sc : List Float) (closed : List ℕ) (k most count walks rank scored closings lengths spellings sequences places : ℕ) : Type 0 where
  pub walkable : Walkable index targets t sc closed count most walks
  pub vertices : ℕ
  pub real : ℕ
  pub drawn : Drawn text vs es index targets t closed k count vertices real
  pub some : 0 < k
  pub small : length text < 2 ^ 32
  pub vertices-room : HasVertices vs vertices
  pub edges_room : HasEdges es real
  pub few : count ≤ 128
  pub rank_room : count ≤ rank
  pub scored-room : count ≤ scored
  pub closings-room : count ≤ closings
  pub lengths-room : count ≤ lengths
  pub spellings-room : count * (k + most) ≤ spellings
  pub sequences-room : count * most ≤ sequences
  pub places-room : count * most ≤ places

module _ (text vs es index targets t : List ℕ) (sc : List Float) (closed : List ℕ) (k most count room rank scored closings lengths spellings sequences places : ℕ)
    (L : Listable text vs es index targets t sc closed k most count room rank scored closings lengths spellings sequences places) where
  module _ (old walks : List ℕ) (e : length old ≡ room) (W : Walked index targets t closed most count old walks) where
    -- the edges written out are those of the closed paths
    pub walked_same : (i : ℕ) → i < count → take (count_of t (record_at closed i)) (drop (i * most) walks) ≡ walk_of index targets t closed i
    walked_same i h = walked-read index targets t sc closed count most room L.walkable old walks e W i h

    walked-edge : (i x : ℕ) → i < count → x < count_of t (record_at closed i) → get_or (drop (i * most) walks) x 0 < L.real
    walked-edge i x h k =
        let a : get_or (take (count_of t (record_at closed i)) (drop (i * most) walks)) x 0 ≡ get_or (drop (i * most) walks) x 0 =
        get_or-take (count_of t (record_at closed i)) (drop (i * most) walks) x 0 k
        in
        let b : get_or (walk_of index targets t closed i) x 0 ≡ get_or (drop (i * most) walks) x 0 = ap (λ (w : List ℕ). get_or w x 0) (sym (walked_same i h)) ∙ a in
        let c = all-at (λ d. d < L.real) (walk_of index targets t closed i) (L.drawn.real i h) x
        (let z = walk-length index targets t sc closed count most room L.walkable i h in omega arith)
        in
        omega arith

    walks-size : count * most ≤ length walks
    walks-size = let a = W.size in let b = L.walkable.walks-room in omega arith

    in-walks : (i : ℕ) → i < count → count_of t (record_at closed i) ≤ length (drop (i * most) walks)
    in-walks i h =
        let a = row_low i count most h in
        let b = walks-size in
        let c = L.walkable.short i h in
        let d = length-drop (i * most) walks in
        omega arith

    spelled : (i : ℕ) → i < count → Spells k text vs es (drop (i * most) walks) (count_of t (record_at closed i))
    spelled i h =
        let v = L.vertices-room in
        let d = L.edges_room in
        let z = L.drawn.vertex in
        record {
          some = L.some;
          small = L.small;
          long = in-walks i h;
          first-room = omega arith;
          first_fits = L.drawn.fits 0 L.drawn.vertex;
          edge-room = λ x m. (let a = walked-edge i x h m in omega arith);
          to_room = λ x m. (let a = L.drawn.to_in (get_or (drop (i * most) walks) x 0) (walked-edge i x h m) in omega arith);
          to-fits = λ x m. L.drawn.fits (edge_to es (get_or (drop (i * most) walks) x 0)) (L.drawn.to_in (get_or (drop (i * most) walks) x 0) (walked-edge i x h m));
        }

    pub ready_of : Ready (lists text vs es t sc closed walks k most) count
    ready_of =
        record {
          closed-room = L.walkable.closed-room;
          inside = λ i h. walk_inside index targets t sc closed count most room L.walkable i h;
          short = L.walkable.short;
          walks-room = walks-size;
          spells = λ i h. spelled i h;
          few = L.few;
        }

    pub filed-of : Filed es t sc closed walks most count
    filed-of =
        record {
          records = record { closed-room = L.walkable.closed-room; inside = λ i h. walk_inside index targets t sc closed count most room L.walkable i h };
          short = L.walkable.short;
          walks-room = walks-size;
          edge-room = λ i x h m. (let a = walked-edge i x h m in let b = L.edges_room in omega arith);
        }

  pub known_of : Known t sc closed count
  known_of = record { closed-room = L.walkable.closed-room; inside = λ i h. walk_inside index targets t sc closed count most room L.walkable i h }

  pub placed_of : (above : ℕ → ℕ → Bool) (ranks : List ℕ) → length ranks ≡ rank → Ranked above count 0 ranks → Placed count ranks
  placed_of above ranks e R =
      let s : count ≤ length ranks = (let a = L.rank_room in omega arith) in
      let n : length (take count ranks) ≡ count = length-take-le count ranks s in
      record {
        room = s;
        known = λ r h. rw (sym (get_or-take count ranks r 0 h)) (all-at (λ y. y < count) (take count ranks) (ranked-known above count 0 ranks R) r (omega arith));
        few = L.few;
      }

-- ---- what is left: for all that the tables show, the definition's list

abbrev pub Listed : List ℕ → List ℕ → List ℕ → List ℕ → List ℕ → List ℕ → List Float → List ℕ → ℕ → ℕ → ℕ → List Float → List ℕ → List ℕ → List Float → List ℕ → List ℕ → List ℕ → List ℕ → List ℕ → List ℕ → List ℕ → List ℕ → Type 0
Listed text vs es index targets t sc closed k most count ss₀ cs₀ ls₀ ss cs ls bases sequences places bases' sequences' places' =
    (b : Built) (found : List (Closed Float)) (column : List Float) → Shows text vs es index targets t sc closed k count b found
    → Told b found column k most count ss₀ cs₀ ls₀ ss cs ls bases sequences places bases' sequences' places'

module _ (text vs es index targets t : List ℕ) (sc : List Float) (closed : List ℕ) (k most count room rank scored closings lengths spellings sequences places : ℕ)
    (L : Listable text vs es index targets t sc closed k most count room rank scored closings lengths spellings sequences places)
    (old walks : List ℕ) (e : length old ≡ room) (W : Walked index targets t closed most count old walks)
    (ranks : List ℕ) (u : length ranks ≡ rank) (R : Ranked (above_at (lists text vs es t sc closed walks k most)) count 0 ranks) where
  abbrev l : Lists
  l = lists text vs es t sc closed walks k most

  placed : Placed count ranks
  placed = placed_of text vs es index targets t sc closed k most count room rank scored closings lengths spellings sequences places L (above_at l) ranks u R

  same : (i : ℕ) → i < count → walk_at l i ≡ walk_of index targets t closed i
  same i h = walked_same text vs es index targets t sc closed k most count room rank scored closings lengths spellings sequences places L old walks e W i h

  module _ (b : Built) (found : List (Closed Float)) (S : Shows text vs es index targets t sc closed k count b found) where
    abbrev row-of : ℕ → Row Float
    row-of i = row l index targets count b found S L.walkable.closed-room same i

    module _ (ss₀ : List Float) (cs₀ ls₀ : List ℕ) (ss : List Float) (cs ls : List ℕ) (C : Columns t sc closed ranks count ss₀ cs₀ ls₀ ss cs ls) (r : ℕ) (h : r < count) where
      abbrev at : ℕ
      at = get_or ranks r 0

      score-told : score_row sc closed ranks r ≡ (row-of at).score
      score-told = sym (row-score l index targets count b found S L.walkable.closed-room same at)

      closing-told : closing_row ranks r ≡ (row-of at).closing
      closing-told = sym (row-closing l index targets count b found S L.walkable.closed-room same at (placed.known r h))

      edges-told : edges_row t closed ranks r ≡ (row-of at).edges
      edges-told =
          sym (row-edges l index targets count b found S L.walkable.closed-room same at (placed.known r h)
          (walk-length index targets t sc closed count most room L.walkable at (placed.known r h)))

      row_told : told (row_at ss cs ls r) ≡ path_row (row-of (get_or ranks r 0))
      unfolding path_row
      row_told =
          let p : get_or ss r nan ≡ (row-of at).score = C.scores r h ∙ score-told in
          let q : get_or cs r 0 ≡ (row-of at).closing = C.closings r h ∙ closing-told in
          let w : get_or ls r 0 ≡ (row-of at).edges = C.edges r h ∙ edges-told in
          let z : false ≡ (row-of at).is_ref = sym (row-is_ref l index targets count b found S L.walkable.closed-room same at) in
          λ j. record { score = p j; closing = q j; edges = w j; is_ref = z j }

    bases-told : (r : ℕ) → r < count → bases_at l ranks r ≡ (row-of (get_or ranks r 0)).bases
    bases-told r h = sym (row-bases l index targets count b found S L.walkable.closed-room same (get_or ranks r 0) (placed.known r h))

    origins-told : (part : Origin → ℕ) (r : ℕ) → r < count → map (λ x. part (edge_at es x).origin) (walk_at l (get_or ranks r 0)) ≡ map part (row-of (get_or ranks r 0)).origins
    origins-told part r h = sym (row-origins l index targets count b found S L.walkable.closed-room same (get_or ranks r 0) (placed.known r h) part)

    module _ (column : List Float) where
      part : {A : Type 0} (get : Row Float → A) (f : ℕ → A) → ((r : ℕ) → r < count → f r ≡ get (row-of (get_or ranks r 0)))
          → rows f count ≡ map get (list_order (column_scoring column) (map (row_of b) found))
      part get f h = part-is l index targets count b found S L.walkable.closed-room same column ranks R get f placed.room h

      how-many : length (list_order (column_scoring column) (map (row_of b) found)) ≡ count
      how-many =
          ap (λ (x : List (Row Float)). length x) (order_is l index targets count b found S L.walkable.closed-room same column ranks R)
          ∙ length-map (take count ranks) row-of
          ∙ length-take-le count ranks placed.room

  pub list_of : (ss₀ : List Float) (cs₀ ls₀ : List ℕ) (ss : List Float) (cs ls : List ℕ) → Columns t sc closed ranks count ss₀ cs₀ ls₀ ss cs ls
      → (bs bs' : List ℕ) → Laid (k + most) (bases_at (lists text vs es t sc closed walks k most) ranks) bs count bs'
      → (qs qs' : List ℕ) → Laid most (fields_at es t closed walks most 4 ranks) qs count qs'
      → (ps ps' : List ℕ) → Laid most (fields_at es t closed walks most 5 ranks) ps count ps'
      → Listed text vs es index targets t sc closed k most count ss₀ cs₀ ls₀ ss cs ls bs qs ps bs' qs' ps'
  list_of ss₀ cs₀ ls₀ ss cs ls C bs bs' B qs qs' Q ps ps' P b found column S =
      record {
        paths = how-many b found S column;
        rows =
            finished-is ss cs ls count (λ r. path_row (row-of b found S (get_or ranks r 0))) (row_told b found S ss₀ cs₀ ls₀ ss cs ls C)
            ∙ part b found S column path_row (λ r. path_row (row-of b found S (get_or ranks r 0))) (λ r h. refl);
        scores-are =
            C.scores-are
            ∙ ap (λ (x : List Float). written_at 0 x ss₀)
            (part b found S column (λ (r : Row Float). r.score) (score_row sc closed ranks) (score-told b found S ss₀ cs₀ ls₀ ss cs ls C));
        closings-are =
            C.closings-are
            ∙ ap (λ (x : List ℕ). written_at 0 x cs₀)
            (part b found S column (λ (r : Row Float). r.closing) (closing_row ranks) (closing-told b found S ss₀ cs₀ ls₀ ss cs ls C));
        edges_are =
            C.edges_are
            ∙ ap (λ (x : List ℕ). written_at 0 x ls₀)
            (part b found S column (λ (r : Row Float). r.edges) (edges_row t closed ranks) (edges-told b found S ss₀ cs₀ ls₀ ss cs ls C));
        bases-are =
            B.is
            ∙ ap (λ (x : List (List ℕ)). written_rows (k + most) 0 x bs)
            (part b found S column (λ (r : Row Float). r.bases) (bases_at l ranks) (bases-told b found S));
        sequences-are =
            Q.is
            ∙ ap (λ (x : List (List ℕ)). written_rows most 0 x qs)
            (part b found S column (λ (r : Row Float). map (λ (o : Origin). o.sequence) r.origins) (fields_at es t closed walks most 4 ranks)
            (origins-told b found S (λ (o : Origin). o.sequence)));
        places-are =
            P.is
            ∙ ap (λ (x : List (List ℕ)). written_rows most 0 x ps)
            (part b found S column (λ (r : Row Float). map (λ (o : Origin). o.place) r.origins) (fields_at es t closed walks most 5 ranks)
            (origins-told b found S (λ (o : Origin). o.place)));
      }

-- ---- with the rows copied into the lent records, the four slices of the call

pub slices-are : (i : Input) (b : Built) (found : List (Closed Float)) (k most count : ℕ) → i.sample.k ≡ k → i.search_maxima.path_edges ≡ most
    → (ss₀ : List Float) (cs₀ ls₀ : List ℕ) (ss : List Float) (cs ls bases sequences places bases' sequences' places' : List ℕ) → Told b found i.column k most count ss₀ cs₀ ls₀ ss cs ls bases sequences places bases' sequences' places'
    → (lent lent' : List PathRow) → Filled ss cs ls count lent lent'
    → ◌≡◌ {A = ListSlices} (record { rows = map told lent'; bases = bases'; sequences = sequences'; places = places' })
    (listed_slices i (list_order (column_scoring i.column) (map (row_of b) found)) (record { rows = map told lent; bases = bases; sequences = sequences; places = places }))
unfolding listed_slices bases_stride
slices-are i b found k most count ek em ss₀ cs₀ ls₀ ss cs ls bases sequences places bases' sequences' places' T lent lent' F =
    let p : map told lent' ≡ written_at 0 (map path_row (list_order (column_scoring i.column) (map (row_of b) found))) (map told lent) =
    F.is ∙ ap (λ (x : List defs.PathRow). written_at 0 x (map told lent)) T.rows
    in
    let q = T.bases-are in
    let r = T.sequences-are in
    let s = T.places-are in
    rw (ek, em) (λ j. record { rows = p j; bases = q j; sequences = r j; places = s j })
