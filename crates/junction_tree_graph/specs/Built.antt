-- The whole build: what the sample's rules give, the reference first and then the reads, the symbolic edge last, and when the graph fits the maxima.
-- Assumes nothing.
use Rattle.std.specs.Prelude.{◌≡◌, refl, ◌⊎◌, Bool, true, false, Option, None, Some, IsSome, Result, Ok, Err, ◌&&◌, List, [], ◌∷◌, ◌++◌, ℕ, zero, suc, ◌+◌, ◌-◌, ◌*◌, ◌^◌, ◌<◌, ◌≤◌, eqb, leb, get_or}
use Rattle.std.proofs.Common.{sym, ◌∙◌, inl, inr, arith, length-append, leb-true, eqb-true, le-leb}
use Rattle.std.proofs.Math.Path.{ap}
use Rattle.std.proofs.Math.ListN.{length, get_or-append}
use Rattle.std.proofs.Math.Seq.{take-append_seam}
use Rattle.std.proofs.lemmas.Bool.{lt-leb}
use Rattle.laws.specs.Lists.{all, last_or}
use Rattle.laws.specs.ListLaws.{and_left, and_right, clash}
use Rattle.laws.specs.Numbers.{within}
use Rattle.laws.specs.Rows.{rows_none}
use Rattle.definition.specs.Refusal.{Rule, first_broken}
use Rattle.definition.specs.Limits.{Sample, k_fits, reference_fits, is_base, reference_bases, rising, ends_fit, reads_fit, sample_rules}
use Rattle.definition.specs.Stretch.{kmers, stretches}
use Rattle.definition.specs.Threading.{Graph, put, number_of, thread, thread_all, threaded, last_place, sink_of, symbolic_of, with_symbolic}
use Rattle.assembly.specs.Fields.{HasVertices, kmer_place, HasEdges, HasEdge, edge_from, edge_to, edge_support}
use Rattle.tables.specs.Widths.{vertex_numbers, edge_numbers}
use Rattle.assembly.specs.Table.{table-0, length-table}
use Rattle.assembly.specs.Store.{edge_at, edges_of, kmers_of, graph_of, Good, good-distinct}
use Rattle.assembly.specs.Moves.{added_e, added_e-row}
use Rattle.assembly.specs.Kmers.{part, length-of}
use Rattle.assembly.specs.Symbolic.{symbolic, symbolic-put, symbolic-front, symbolic-from, symbolic-to, symbolic-good}
use Rattle.graph_kmers.specs.Index.{Found}
use Rattle.kmer_threading.specs.declared.Most.{Most}
use Rattle.kmer_threading.specs.declared.At.{At}
use Rattle.refusals.specs.declared.Refusal.{Refusal}
use Rattle.refusals.specs.Numbers.{number}
use Rattle.sequence_threading.specs.Starts.{good-empty}
use Rattle.sequence_threading.specs.Stretches.{CameG, OverG, Threaded, Threads, stretch_at}
use Rattle.junction_tree_graph.specs.Spelling.{Has, spelled-empty, thread-has, thread_all-has, number_in, last-kmer}
use Rattle.read_threading.specs.Reads.{reads_of, all-grow, over-on}
use Rattle.junction_tree_graph.specs.Bounds.{threaded-inside, length-symbolic}

abbrev pub sample_of : ℕ → ℕ → List ℕ → List ℕ → List ℕ → List ℕ → Sample
sample_of k least reference ends bases quals = record { k = k; quality = least; reference = reference; ends = ends; bases = bases; qualities = quals }

-- ---- what rules 1 to 4 give
pub record Fits (s : Sample) : Type 0 where
  pub k-low : 2 ≤ s.k
  pub k-high : s.k ≤ 128
  pub low : s.k ≤ length s.reference
  pub high : length s.reference ≤ 1024
  pub base : (i : ℕ) → i < length s.reference → is_base (get_or s.reference i 0) ≡ true
  pub rises : rising 0 s.ends ≡ true
  pub last : last_or 0 s.ends ≡ length s.bases
  pub few : length s.ends ≤ 512
  pub many : length s.bases ≤ 32768
  pub quals : length s.qualities ≡ length s.bases

first_holds : (n : ℕ) (b : Bool) (rs : List Rule) → 0 < n → first_broken (record { number = n; holds = b } ∷ rs) ≡ 0 → (b ≡ true) × (first_broken rs ≡ 0)
unfolding first_broken
first_holds n true rs h e = (refl, e)
first_holds n false rs h e = absurd (omega arith)

within_both : (lo hi n : ℕ) → within lo hi n ≡ true → (lo ≤ n) × (n ≤ hi)
within_both lo hi n h = (leb-true lo n (and_left (leb lo n) (leb n hi) h), leb-true n hi (and_right (leb lo n) (leb n hi) h))

all-at : (l : List ℕ) → all is_base l ≡ true → (i : ℕ) → i < length l → is_base (get_or l i 0) ≡ true
all-at [] h i k = absurd (omega arith)
all-at (x ∷ l) h zero k = and_left (is_base x) (all is_base l) h
all-at (x ∷ l) h (suc i) k = all-at l (and_right (is_base x) (all is_base l) h) i (omega arith)

pub fits-of : (s : Sample) → first_broken (sample_rules s) ≡ 0 → Fits s
unfolding sample_rules k_fits reference_fits reference_bases reads_fit ends_fit
fits-of s h =
    let a = first_holds 1 (k_fits s.k) _ (omega arith) h in
    let b = first_holds 2 (reference_fits s.k s.reference) _ (omega arith) a.1 in
    let c = first_holds 3 (reference_bases s.reference) _ (omega arith) b.1 in
    let d = first_holds 4 (reads_fit s) _ (omega arith) c.1 in
    let k = within_both 2 128 s.k a.0 in
    let r = within_both s.k 1024 (length s.reference) b.0 in
    let e = and_left (ends_fit s.ends s.bases) (eqb (length s.qualities) (length s.bases)) d.0 in
    let e1 = and_left (rising 0 s.ends && eqb (last_or 0 s.ends) (length s.bases) && leb (length s.ends) 512) (leb (length s.bases) 32768) e in
    let e2 = and_left (rising 0 s.ends && eqb (last_or 0 s.ends) (length s.bases)) (leb (length s.ends) 512) e1 in
    record {
      k-low = k.0;
      k-high = k.1;
      low = r.0;
      high = r.1;
      base = all-at s.reference c.0;
      rises = and_left (rising 0 s.ends) (eqb (last_or 0 s.ends) (length s.bases)) e2;
      last = eqb-true (last_or 0 s.ends) (length s.bases) (and_right (rising 0 s.ends) (eqb (last_or 0 s.ends) (length s.bases)) e2);
      few = leb-true (length s.ends) 512 (and_right (rising 0 s.ends && eqb (last_or 0 s.ends) (length s.bases)) (leb (length s.ends) 512) e1);
      many = leb-true (length s.bases) 32768 (and_right (rising 0 s.ends && eqb (last_or 0 s.ends) (length s.bases) && leb (length s.ends) 512) (leb (length s.bases) 32768) e);
      quals = eqb-true (length s.qualities) (length s.bases) (and_right (ends_fit s.ends s.bases) (eqb (length s.qualities) (length s.bases)) d.0);
    }

-- ---- the reference, then the reads
pub record Begins (s : Sample) (vs es : List ℕ) (most : Most) : Type 0 where
  pub fits : Fits s
  pub zero-v : (i : ℕ) → get_or vs i 0 ≡ 0
  pub room-v : HasVertices vs most.vertices
  pub room-e : HasEdges es most.edges
  pub few-v : most.vertices ≤ 4096
  pub few-e : most.edges ≤ 8192

abbrev pub empty_at : At
empty_at = record { vertices = 0; edges = 0; here = 0; steps = 0 }

abbrev pub text_of : Sample → List ℕ
text_of s = s.reference ++ s.bases

module _ {s : Sample} {vs es : List ℕ} {most : Most} (x : Begins s vs es most) where
  small : length (text_of s) ≤ 33792
  small = let z = length-append s.reference s.bases in let a = x.fits.high in let b = x.fits.many in omega arith

  in-text : length s.reference ≤ length (text_of s)
  in-text = let z = length-append s.reference s.bases in omega arith

  base-at : (i : ℕ) → i < length s.reference → is_base (get_or (text_of s) i 0) ≡ true
  base-at i h = rw (get_or-append s.reference s.bases 0 i h) (x.fits.base i h)

  pub begin-threads : Threads s.k (text_of s) vs es most empty_at 0 (length s.reference) 0
  begin-threads =
      let a = x.fits.k-low in
      let b = x.fits.low in
      let c = x.fits.high in
      let d = x.fits.k-high in
      let t = small in
      let u = in-text in
      let e : 0 + s.k - 1 ≡ s.k - 1 = omega arith in
      record {
        starts =
            record {
              good = good-empty s.k (text_of s) vs es x.zero-v;
              vertices = omega arith;
              edges = omega arith;
              room-v = x.room-v;
              room-e = x.room-e;
              few-v = x.few-v;
              few-e = x.few-e;
              supports = λ i h. absurd (omega arith);
              some = omega arith;
              inside = omega arith;
              small = omega arith;
              base = rw e (base-at (s.k - 1) (omega arith));
              steps = omega arith;
            };
        long = b;
        inside = omega arith;
        bases = λ i h. (let z : 0 + i ≡ i = omega arith in rw z (base-at i h));
        place = omega arith;
        steps = omega arith;
      }

  -- nothing is a graph without vertices
  nothing : graph_of s.k (text_of s) vs 0 es 0 ≡ record { kmers = []; edges = [] }
  unfolding graph_of kmers_of edges_of
  nothing = rw (rows_none, table-0)

  the-stretch : stretch_at (text_of s) 0 (length s.reference) 0 0 ≡ record { sequence = 0; place = 0; bytes = s.reference }
  the-stretch = rw (take-append_seam s.reference s.bases)

  abbrev first : Graph
  first = thread true s.k (stretch_at (text_of s) 0 (length s.reference) 0 0) (graph_of s.k (text_of s) vs 0 es 0)

  pub is-threaded : thread_all s.k (reads_of s.k s.quality s.ends s.bases s.qualities) first ≡ threaded s
  unfolding threaded stretches
  is-threaded = rw (the-stretch, nothing)

  pub begin-stop : (vs' es' : List ℕ) (n : Refusal) (r : Result At Refusal) (c c' : ℕ) → Threaded s.k (text_of s) vs' es' most c r first → r ≡ Err n → Threaded s.k (text_of s) vs' es' most c' r (threaded s)
  begin-stop vs' es' n r c c' t e =
      let o : OverG most (number n) first = rw e at t in
      rw e (over-on most (number n) first (threaded s) (rw (← is-threaded) (all-grow s.k (reads_of s.k s.quality s.ends s.bases s.qualities) first)) o)

  module _ (vs' es' : List ℕ) (t : At) (r : Result At Refusal) (c : Threaded s.k (text_of s) vs' es' most (0 + s.k + length s.reference) r first) (e : r ≡ Ok t) where
    came : CameG s.k (text_of s) vs' es' most t (0 + s.k + length s.reference) first
    came = rw e at c

    pub begin-done : (us fs : List ℕ) (q : Result At Refusal)
        → Threaded s.k (text_of s) us fs most (2 * length (text_of s)) q (thread_all s.k (reads_of s.k s.quality s.ends s.bases s.qualities) (graph_of s.k (text_of s) vs' t.vertices es' t.edges))
        → Threaded s.k (text_of s) us fs most (2 * length (text_of s)) q (threaded s)
    begin-done us fs q d = rw (← is-threaded, ← came.is) d

-- ---- the whole: the caller's maxima count the symbolic vertex and edge
pub record Builds (s : Sample) (v e : ℕ) (vs es : List ℕ) : Type 0 where
  pub rules : first_broken (sample_rules s) ≡ 0
  pub vertices-in : within 2 4096 v ≡ true
  pub edges-in : within 1 8192 e ≡ true
  pub length-v : length vs ≡ vertex_numbers v
  pub length-e : length es ≡ edge_numbers e
  pub zero-v : (i : ℕ) → get_or vs i 0 ≡ 0

-- the test of the definition's `built_of`
abbrev pub graph_fits : Sample → ℕ → ℕ → Bool
graph_fits s v e = leb (suc (length (threaded s).kmers)) v && leb (length (with_symbolic s (threaded s))) e

-- the tables hold the graph, and after its m edges the symbolic one, from the sink to vertex n
pub record BuiltAt (s : Sample) (v e : ℕ) (vs es : List ℕ) (n m sink : ℕ) : Type 0 where
  pub fits : graph_fits s v e ≡ true
  pub graph : graph_of s.k (s.reference ++ s.bases) vs n es m ≡ threaded s
  pub edges : edges_of es (m + 1) ≡ with_symbolic s (threaded s)
  pub sink-is : sink ≡ sink_of s (threaded s)
  pub inside : sink < n
  pub vertices-fit : n < v
  pub edges_fit : m < e
  pub good : Good s.k (s.reference ++ s.bases) vs n es m
  pub from : edge_from es m ≡ sink
  pub to : edge_to es m ≡ n
  pub supports : (i : ℕ) → i < m → edge_support es i ≤ 2 * length (s.reference ++ s.bases)

pub record NotBuilt (s : Sample) (v e r : ℕ) : Type 0 where
  pub eight : r ≡ 8
  pub fits_not : graph_fits s v e ≡ false

abbrev pub most_of : ℕ → ℕ → Most
most_of v e = record { vertices = v - 1; edges = e - 1 }

module _ {s : Sample} {v e : ℕ} {vs es : List ℕ} (x : Builds s v e vs es) where
  vs-in : (2 ≤ v) × (v ≤ 4096)
  vs-in = within_both 2 4096 v x.vertices-in

  es-in : (1 ≤ e) × (e ≤ 8192)
  es-in = within_both 1 8192 e x.edges-in

  pub low-v : 1 ≤ v
  low-v = let z = vs-in.0 in omega arith

  pub fits-s : Fits s
  fits-s = fits-of s x.rules

  pub build_begins : Begins s vs es (most_of v e)
  build_begins =
      let a = vs-in.0 in
      let b = vs-in.1 in
      let c = es-in.0 in
      let d = es-in.1 in
      let lv = x.length-v in
      let le = x.length-e in
      record { fits = fits-s; zero-v = x.zero-v; room-v = omega arith; room-e = omega arith; few-v = omega arith; few-e = omega arith }

  and-false : (a b : Bool) → (a ≡ false) ⊎ (b ≡ false) → (a && b) ≡ false
  and-false true b (inl h) = clash h
  and-false true b (inr h) = h
  and-false false b h = refl

  pub build-stop : (n : ℕ) → OverG (most_of v e) n (threaded s) → NotBuilt s v e n
  build-stop n o = record { eight = o.eight; fits_not = and-false (leb (suc (length (threaded s).kmers)) v) (leb (length (with_symbolic s (threaded s))) e) (go o.over) }
    where
      go : (v - 1 < length (threaded s).kmers) ⊎ (e - 1 < length (threaded s).edges) → (leb (suc (length (threaded s).kmers)) v ≡ false) ⊎ (leb (length (with_symbolic s (threaded s))) e ≡ false)
      go (inl h) = inl (lt-leb (suc (length (threaded s).kmers)) v (let z = vs-in.0 in omega arith))
      go (inr h) = inr (lt-leb (length (with_symbolic s (threaded s))) e (let z = length-symbolic s (threaded s) (threaded-inside s) in let y = es-in.0 in omega arith))

  module _ {vs' es' : List ℕ} {t : At} {c : ℕ} (g : CameG s.k (text_of s) vs' es' (most_of v e) t c (threaded s)) where
    kmers-are : (threaded s).kmers ≡ kmers_of s.k (text_of s) vs' t.vertices
    unfolding graph_of
    kmers-are = ap (λ (y : Graph). y.kmers) (sym g.is)

    edges_are : (threaded s).edges ≡ edges_of es' t.edges
    unfolding graph_of
    edges_are = ap (λ (y : Graph). y.edges) (sym g.is)

    count-v : length (threaded s).kmers ≡ t.vertices
    count-v = ap length kmers-are ∙ length-of s.k (text_of s) vs' t.vertices

    place_in : length s.reference - s.k + s.k ≤ length (text_of s)
    place_in = let a = fits-s.low in let z = length-append s.reference s.bases in omega arith

    -- the reference's last kmer
    last-is : last_or [] (kmers s.k s.reference) ≡ part s.k (text_of s) (length s.reference - s.k)
    last-is =
        let z : 0 + (length s.reference - s.k) ≡ length s.reference - s.k = omega arith in
        ap (λ (l : List ℕ). last_or [] (kmers s.k l)) (sym (take-append_seam s.reference s.bases))
        ∙ last-kmer s.k (text_of s) 0 (length s.reference) (let a = fits-s.k-low in omega arith) fits-s.low (let y = length-append s.reference s.bases in omega arith)
        ∙ rw z

    has_last : Has (threaded s) (part s.k (text_of s) (length s.reference - s.k))
    has_last =
        let z : 0 + (length s.reference - s.k) ≡ length s.reference - s.k = omega arith in
        rw (← is-threaded build_begins)
        (thread_all-has s.k (reads_of s.k s.quality s.ends s.bases s.qualities) _ _
        (rw (nothing build_begins, ← z)
        (thread-has s.k true (text_of s) 0 (length s.reference) 0 0 (record { kmers = []; edges = [] }) (let a = fits-s.k-low in omega arith) fits-s.low
        (let y = length-append s.reference s.bases in omega arith) (spelled-empty s.k))))

    pub sink-asks : (length s.reference - s.k + s.k ≤ length (text_of s)) × (HasVertices vs' t.vertices) × ((u : ℕ) → u < t.vertices → kmer_place vs' u + s.k ≤ length (text_of s))
    sink-asks = (place_in, (let a = g.fine.room-v in let b = g.fine.vertices in omega arith), g.fine.good.fits)

    last_in : number_of (kmers_of s.k (text_of s) vs' t.vertices) (part s.k (text_of s) (length s.reference - s.k)) < t.vertices
    last_in =
        let x = part s.k (text_of s) (length s.reference - s.k) in
        let z = number_in (threaded s) x has_last in
        let y = count-v in
        let u : number_of (kmers_of s.k (text_of s) vs' t.vertices) x ≡ number_of (threaded s).kmers x = rw kmers-are in
        omega arith

    -- so the lookup finds it
    pub sink-found : (o : Option ℕ) → Found t.vertices (number_of (kmers_of s.k (text_of s) vs' t.vertices) (part s.k (text_of s) (length s.reference - s.k))) o → IsSome o
    sink-found None h = absurd (let z = last_in in omega arith)
    sink-found (Some w) h = refl

    module _ (le : length es' ≡ length es) (sink : ℕ) (hs : sink ≡ number_of (kmers_of s.k (text_of s) vs' t.vertices) (part s.k (text_of s) (length s.reference - s.k))) where
      the-sink : sink ≡ sink_of s (threaded s)
      unfolding sink_of
      the-sink = hs ∙ rw (kmers-are, last-is)

      sink-in : sink < t.vertices
      sink-in = let z = last_in in omega arith

      room-m : HasEdge es' t.edges
      room-m = let a = g.fine.edges in let b = x.length-e in let c = es-in.0 in omega arith

      pub symbolic-asks : (HasEdge es' t.edges) × (sink < 2 ^ 32) × (t.vertices < 2 ^ 32) × (length s.reference - s.k < 2 ^ 32)
      symbolic-asks =
          let a = g.fine.vertices in
          let b = g.fine.few-v in
          let d = sink-in in
          let h = fits-s.high in
          (room-m, omega arith, omega arith, omega arith)

      count-e : length (threaded s).edges ≡ t.edges
      unfolding edges_of
      count-e = ap length edges_are ∙ length-table (edge_at es') t.edges (good-distinct g.fine.good)

      with-is : put (symbolic sink t.vertices (length s.reference - s.k)) (edges_of es' t.edges) ≡ with_symbolic s (threaded s)
      unfolding with_symbolic symbolic_of last_place
      with-is = rw (← the-sink, count-v, edges_are)

      graph_is : graph_of s.k (text_of s) vs' t.vertices (added_e es' t.edges (symbolic sink t.vertices (length s.reference - s.k)) 1) t.edges ≡ threaded s
      unfolding graph_of
      graph_is = rw (symbolic-front es' t.edges sink t.vertices (length s.reference - s.k) room-m) g.is

      fits-v : suc (length (threaded s).kmers) ≤ v
      fits-v = let a = g.fine.vertices in let b = vs-in.0 in let d = count-v in omega arith

      fits-e : length (with_symbolic s (threaded s)) ≤ e
      fits-e = let a = g.fine.edges in let b = es-in.0 in let d = count-e in let h = length-symbolic s (threaded s) (threaded-inside s) in omega arith

      pub built-at : c ≤ 2 * length (text_of s) → (fs : List ℕ) → fs ≡ added_e es' t.edges (symbolic sink t.vertices (length s.reference - s.k)) 1
          → BuiltAt s v e vs' fs t.vertices t.edges sink
      built-at h fs d =
          rw d (record {
            fits = rw (le-leb (suc (length (threaded s).kmers)) v fits-v) (le-leb (length (with_symbolic s (threaded s))) e fits-e);
            graph = graph_is;
            edges = symbolic-put es' t.edges sink t.vertices (length s.reference - s.k) room-m ∙ with-is;
            sink-is = the-sink;
            inside = sink-in;
            vertices-fit = (let a = g.fine.vertices in let b = vs-in.0 in omega arith);
            edges_fit = (let a = g.fine.edges in let b = es-in.0 in omega arith);
            good = symbolic-good es' t.edges sink t.vertices (length s.reference - s.k) room-m g.fine.good;
            from = symbolic-from es' t.edges sink t.vertices (length s.reference - s.k) room-m;
            to = symbolic-to es' t.edges sink t.vertices (length s.reference - s.k) room-m;
            supports =
                λ i l.
                rw (added_e-row es' t.edges (symbolic sink t.vertices (length s.reference - s.k)) 1 i 2 (omega arith) (omega arith))
                (let a = g.fine.supports i l in let b = g.counted in omega arith);
          })
