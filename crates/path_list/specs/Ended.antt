-- What the end of a search gives the list: the closed paths are among the records, none takes the symbolic edge, and the tables show the graph built.
use Rattle.std.specs.Prelude.{◌≡◌, ◌⊎◌, length, get_or, take, Float, List, [], ◌∷◌, ◌++◌, map, ℕ, zero, suc, ◌+◌, ◌*◌, ◌^◌, ◌<◌, ◌≤◌}
use Rattle.std.proofs.Common.{sym, ◌∙◌, inl, inr, get_or-take, length-take-le, arith}
use Rattle.std.proofs.Math.Path.{ap}
use Rattle.laws.specs.ListLaws.{All, nil, cons}
use Rattle.laws.specs.Sorting.{same_or}
use Rattle.definition.specs.Limits.{Sample}
use Rattle.definition.specs.Threading.{Edge, threaded, with_symbolic}
use Rattle.definition.specs.Evidence.{Branches}
use Rattle.definition.specs.Search.{SearchInput, Closed, State, end_from}
use Rattle.definition.specs.Building.{Built}
use Rattle.theorems.proofs.Walks.{Linked, GoodClosed, GoodState, Numbered}
use Rattle.assembly.specs.Fields.{HasVertices, kmer_place, edge_from, edge_to}
use Rattle.assembly.specs.Table.{Distinct}
use Rattle.assembly.specs.Store.{edge_at, edges_of, graph_of}
use Rattle.assembly.specs.Moves.{kmers-same}
use Rattle.junction_tree_graph.specs.Built.{BuiltAt}
use Rattle.path_edges.specs.Path.{Table}
use Rattle.closed_paths.specs.Recover.{all-at, edges-in}
use Rattle.search_state.specs.Settings.{Setting}
use Rattle.search_state.specs.declared.Progress.{Progress}
use Rattle.search_state.specs.Ground.{name_of, Ground}
use Rattle.search_state.specs.State.{closed_record, Records, Holds}
use Rattle.path_list.specs.Walked.{record_at, walk_of, Walkable}
use Rattle.path_list.specs.Told.{Drawn, Shows}
use Rattle.path_list.specs.List.{Listable}

-- ---- the closed paths are records of the table

module _ (closed : List ℕ) (count records : ℕ) (room : count ≤ length closed) (known : All (λ r. r < records) (take count closed)) where
  pub known_at : (i : ℕ) → i < count → record_at closed i < records
  known_at i h =
      let a : length (take count closed) ≡ count = length-take-le count closed room in
      rw (sym (get_or-take count closed i 0 h)) (all-at (λ r. r < records) (take count closed) known i (omega arith))

  pub walkable-of : {f : SearchInput} {g : Setting} {es x index targets : List ℕ} {bs : ℕ → List Branches} {t : List ℕ} {sc : List Float} {ac : List ℕ} → Records f g es x index targets bs t sc ac records
      → (walks : ℕ) → count * g.most ≤ walks → Walkable index targets t sc closed count g.most walks
  walkable-of R walks w =
      record {
        records = records;
        table = R.held.table;
        known = known_at;
        short = λ i h. R.short (record_at closed i) (known_at i h);
        closed-room = room;
        walks-room = w;
      }

-- ---- no closed path takes the symbolic edge: nothing leaves its far end, and a closed path ends at the sink

module _ (E : List Edge) (es : List ℕ) (n m sink : ℕ) (from_in : (e : ℕ) → e < suc m → edge_from es e < n) (far : edge_to es m ≡ n) (inside : sink < n) where
  walk-real : (w : List ℕ) (v : ℕ) → All (λ e. e < suc m) w → Linked E v (map (name_of es) w) → end_from v (map (name_of es) w) ≡ sink → All (λ e. e < m) w
  unfolding end_from
  walk-real [] v nil l e = nil
  walk-real (d ∷ w) v (cons h a) l e = go (λ k. walk-real w (edge_to es d) a k e) (same_or d m h)
    where
      stuck : (w : List ℕ) → All (λ e. e < suc m) w → Linked E (edge_to es d) (map (name_of es) w) → end_from (edge_to es d) (map (name_of es) w) ≡ sink → edge_to es d ≡ n → ⊥
      stuck [] nil l e z = omega arith
      stuck (c ∷ w) (cons k a) l e z = let q = from_in c k in let p : edge_from es c ≡ edge_to es d = l.1 in omega arith

      go : (Linked E (edge_to es d) (map (name_of es) w) → All (λ e. e < m) w) → (d ≡ m) ⊎ (d < m) → All (λ e. e < m) (d ∷ w)
      go up (inl z) = absurd (stuck w a l.2 e (ap (λ x. edge_to es x) z ∙ far))
      go up (inr k) = cons k (up l.2)

  pub closed-real : {Fine : Float → Type 0} (f : SearchInput) → f.sink ≡ sink → f.edges ≡ E → (index targets t : List ℕ) (sc : List Float) (closing : ℕ → ℕ) (closed : List ℕ) (count records : ℕ)
      → count ≤ length closed → All (λ r. r < records) (take count closed) → Table index targets t sc records → length targets ≡ suc m
      → All (GoodClosed Fine f) (map (closed_record es index targets closing t sc) (take count closed)) → (i : ℕ) → i < count → All (λ e. e < m) (walk_of index targets t closed i)
  closed-real {Fine} f s d index targets t sc closing closed count records room known T size good i h =
      let a : length (take count closed) ≡ count = length-take-le count closed room in
      let z = get_or-take count closed i 0 h in
      let g : GoodClosed Fine f (closed_record es index targets closing t sc (record_at closed i)) = rw z at (at_map (take count closed) good i (omega arith)) in
      let w : All (λ e. e < length targets) (walk_of index targets t closed i) = edges-in index targets t sc records T (record_at closed i) (known_at closed count records room known i h) in
      walk-real (walk_of index targets t closed i) f.source (rw size at w) (rw d at g.linked) (g.at_sink ∙ s)
    where
      at_map : (l : List ℕ) → All (GoodClosed Fine f) (map (closed_record es index targets closing t sc) l) → (i : ℕ) → i < length l → GoodClosed Fine f (closed_record es index targets closing t sc (get_or l i 0))
      at_map [] a i h = absurd (omega arith)
      at_map (x ∷ l) (cons p a) zero h = p
      at_map (x ∷ l) (cons p a) (suc i) h = at_map l a i (omega arith)

-- ---- the graph built, once its vertices' records have gained the symbolic edge and the roots of the trees

module _ (s : Sample) (v e : ℕ) (vs₀ es : List ℕ) (n m sink : ℕ) (B : BuiltAt s v e vs₀ es n m sink) (vs : List ℕ)
    (kept : (u : ℕ) → u < n → kmer_place vs u ≡ kmer_place vs₀ u) where
  pub graph-kept : graph_of s.k (s.reference ++ s.bases) vs n es m ≡ threaded s
  unfolding graph_of
  graph-kept = ap (λ (x : List (List ℕ)). record { kmers = x; edges = edges_of es m }) (kmers-same s.k (s.reference ++ s.bases) vs₀ vs n kept) ∙ B.graph

  pub ends-in : (d : ℕ) → d < suc m → edge_from es d < n
  ends-in d h = go (same_or d m h)
    where
      go : (d ≡ m) ⊎ (d < m) → edge_from es d < n
      go (inl z) = rw z (let a = B.from in let b = B.inside in omega arith)
      go (inr l) = B.good.from_in d l

  module _ {Fine : Float → Type 0} (f : SearchInput) (fs : f.sink ≡ sink) (fe : f.edges ≡ with_symbolic s (threaded s)) (index targets t : List ℕ) (sc : List Float) (closing : ℕ → ℕ) (closed : List ℕ)
      (count records : ℕ) (room : count ≤ length closed) (known : All (λ r. r < records) (take count closed)) (T : Table index targets t sc records) (size : length targets ≡ suc m) (found : List (Closed Float))
      (are : found ≡ map (closed_record es index targets closing t sc) (take count closed)) (good : All (GoodClosed Fine f) found) where
    pub drawn-of : Drawn (s.reference ++ s.bases) vs es index targets t closed s.k count n m
    drawn-of =
        record {
          vertex = (let a = B.inside in omega arith);
          fits = λ u h. rw (kept u h) (B.good.fits u h);
          to_in = B.good.to_in;
          real = closed-real (with_symbolic s (threaded s)) es n m sink ends-in B.to B.inside f fs fe index targets t sc closing closed count records room known T size (rw are at good);
        }

    pub shows-of : (b : Built) → b.graph ≡ threaded s → b.edges ≡ with_symbolic s (threaded s) → Distinct (edge_at es) (m + 1) → Numbered 0 found
        → Shows (s.reference ++ s.bases) vs es index targets t sc closed s.k count b found
    shows-of b g d distinct numbered =
        record {
          vertices = n;
          real = m;
          all = m + 1;
          drawn = drawn-of;
          graph = graph-kept ∙ sym g;
          within = omega arith;
          edges = B.edges ∙ sym d;
          distinct = distinct;
          closing = closing;
          found-are = are;
          numbered = numbered;
        }

-- ---- the state that a search ends in, over the tables of the graph built

module _ (s : Sample) (v e : ℕ) (vs₀ es : List ℕ) (n m sink : ℕ) (B : BuiltAt s v e vs₀ es n m sink) (vs : List ℕ) (kept : (u : ℕ) → u < n → kmer_place vs u ≡ kmer_place vs₀ u)
    (f : SearchInput) (g : Setting) (x index targets : List ℕ) (G : Ground f g vs es x index targets) (ge : g.edges ≡ m + 1) (gs : g.sink ≡ sink)
    (bs : ℕ → List Branches) (closing : ℕ → ℕ) (t : List ℕ) (sc : List Float) (ac queue closed order marks : List ℕ) (p : Progress) (st : State Float)
    (H : Holds f g es x index targets bs closing t sc ac queue closed order marks p st) {Fine : Float → Type 0} (good : GoodState Fine f st) where
  the-edges : f.edges ≡ with_symbolic s (threaded s)
  the-edges = G.settings.edges ∙ ap (λ c. edges_of es c) ge ∙ B.edges

  the_size : length targets ≡ suc m
  the_size = let a = G.size in omega arith

  pub ended-drawn : Drawn (s.reference ++ s.bases) vs es index targets t closed s.k p.closed n m
  ended-drawn =
      drawn-of s v e vs₀ es n m sink B vs kept f (G.sink ∙ gs) the-edges index targets t sc closing closed p.closed p.records H.closed-room H.closed-known H.records.held.table
      the_size st.closed H.closed_is good.closed

  pub ended-shows : (b : Built) → b.graph ≡ threaded s → b.edges ≡ with_symbolic s (threaded s) → Numbered 0 st.closed
      → Shows (s.reference ++ s.bases) vs es index targets t sc closed s.k p.closed b st.closed
  ended-shows b bg be numbered =
      shows-of s v e vs₀ es n m sink B vs kept f (G.sink ∙ gs) the-edges index targets t sc closing closed p.closed p.records H.closed-room H.closed-known H.records.held.table
      the_size st.closed H.closed_is good.closed b bg be (rw ge at G.linked.distinct) numbered

  pub ended-listable : 0 < s.k → length (s.reference ++ s.bases) < 2 ^ 32 → HasVertices vs n → p.closed ≤ 128
      → (walks rank scored closings lengths spellings sequences places : ℕ) → p.closed * g.most ≤ walks → p.closed ≤ rank → p.closed ≤ scored → p.closed ≤ closings → p.closed ≤ lengths
      → p.closed * (s.k + g.most) ≤ spellings → p.closed * g.most ≤ sequences → p.closed * g.most ≤ places
      → Listable (s.reference ++ s.bases) vs es index targets t sc closed s.k g.most p.closed walks rank scored closings lengths spellings sequences places
  ended-listable k small room few walks rank scored closings lengths spellings sequences places a b c d h i j l =
      record {
        walkable = walkable-of closed p.closed p.records H.closed-room H.closed-known H.records walks a;
        vertices = n;
        real = m;
        drawn = ended-drawn;
        some = k;
        small = small;
        vertices-room = room;
        edges_room = (let z = G.linked.room in omega arith);
        few = few;
        rank_room = b;
        scored-room = c;
        closings-room = d;
        lengths-room = h;
        spellings-room = i;
        sequences-room = j;
        places-room = l;
      }
