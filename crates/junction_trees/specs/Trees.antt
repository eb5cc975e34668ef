-- The whole: what the built graph gives, the roots cleared and then all walks, and when the trees fit the maximum. Assumes nothing.
use Rattle.std.specs.Prelude.{◌≡◌, true, List, [], ◌++◌, ℕ, suc, ◌*◌, ◌^◌, ◌<◌, ◌≤◌, leb, get_or, Result, Ok, Err, length}
use Rattle.std.proofs.Common.{sym, ◌∙◌, arith, mul-le-mul_right, length-append, ap, leb-true, le-leb}
use Rattle.std.proofs.Math.Decide.{dec_lt}
use borrow.Author.Tests.{lt-leb}
use Rattle.laws.specs.ListLaws.{and_right}
use Rattle.laws.specs.Numbers.{within}
use Rattle.definition.specs.Refusal.{first_broken, ok, refused}
use Rattle.definition.specs.Building.{built, built_of}
use Rattle.definition.specs.Limits.{Sample, sample_rules}
use Rattle.definition.specs.Stretch.{stretches}
use Rattle.definition.specs.Threading.{Graph, threaded, symbolic_of, with_symbolic}
use Rattle.definition.specs.Evidence.{evidence, nodes}
use Rattle.tables.specs.Widths.{vertex_numbers, edge_numbers, open_numbers}
use Rattle.assembly.specs.Store.{graph_of}
use Rattle.assembly.specs.Kmers.{length-of}
use Rattle.junction_tree_graph.specs.declared.Built.{Built}
use Rattle.junction_tree_graph.specs.Built.{Fits, fits-of, BuiltAt}
use Rattle.read_threading.specs.Reads.{reads_of}
use Rattle.threading_node.specs.Slots.{told, Beyond}
use Rattle.threading_tree.specs.Held.{HeldWalk, held_start, held-under, held-nodes, held-room}
use Rattle.junction_trees.specs.declared.Ground.{Ground}
use Rattle.refusals.specs.declared.Refusal.{Refusal}
use Rattle.refusals.specs.Numbers.{number}
use Rattle.junction_trees.specs.Roots.{root_of, Kept, kept_on, Cleared, graph-kept, good-kept}
use Rattle.junction_trees.specs.Steps.{Sound, sound-kept, State}
use Rattle.junction_trees.specs.Stretches.{begun, ground_of, Answered, Walking}
use Rattle.junction_trees.specs.Reads.{ReadsWalk, walks_of}

-- what the whole asks: the sample obeys its rules, the tables hold its graph as build_graph leaves it (within any maxima), and the nodes are zero
pub record Gathers (s : Sample) (vs es x op : List ℕ) (b : Built) (most : ℕ) : Type 0 where
  pub rules : first_broken (sample_rules s) ≡ 0
  pub vertices : ℕ
  pub edges : ℕ
  pub vertices-in : within 2 4096 vertices ≡ true
  pub length-v : length vs ≡ vertex_numbers vertices
  pub length-e : length es ≡ edge_numbers edges
  pub built : BuiltAt s vertices edges vs es b.vertices b.edges b.sink
  pub few : most < 2 ^ 32
  pub room : told most ≤ length x
  pub room_open : open_numbers most ≤ length op
  pub zero-x : (i : ℕ) → i < told most → get_or x i 0 ≡ 0

-- the tables hold the definition's trees, with nothing open; field 11 of a vertex's record is the slot of its root
pub record Evident (s : Sample) (vs x op : List ℕ) (most c : ℕ) : Type 0 where
  pub fits : length (nodes (evidence s (threaded s))) ≤ most
  pub count : length (nodes (evidence s (threaded s))) ≡ c
  pub bound : ℕ
  pub small : bound < 2 ^ 32
  pub held : HeldWalk (begun (evidence s (threaded s))) most c 0 bound (root_of vs) x op

pub record NotEvident (s : Sample) (most r : ℕ) : Type 0 where
  pub nine : r ≡ 9
  pub over : most < length (nodes (evidence s (threaded s)))

abbrev pub EvidentOf : Sample → List ℕ → List ℕ → List ℕ → ℕ → Result ℕ Refusal → Type 0
EvidentOf s vs x op most (Ok c) = Evident s vs x op most c
EvidentOf s vs x op most (Err r) = NotEvident s most (number r)

pub record Gathered (s : Sample) (vs vs' x x' op op' : List ℕ) (b : Built) (most : ℕ) (r : Result ℕ Refusal) : Type 0 where
  pub is : EvidentOf s vs' x' op' most r
  -- the graph's tables have changed in field 11 of the vertices' records alone
  pub kept : Kept b.vertices vs vs'
  pub beyond : Beyond (told most) x x'
  pub beyond-open : Beyond (open_numbers most) op op'

-- so the graph that was built stands there still
pub built-kept : {s : Sample} {v e : ℕ} {vs vs' es : List ℕ} {n m sink : ℕ} → Kept n vs vs' → BuiltAt s v e vs es n m sink → BuiltAt s v e vs' es n m sink
built-kept {s = s} {es = es} {m = m} p a =
    record {
      fits = a.fits;
      graph = graph-kept p s.k (s.reference ++ s.bases) es m ∙ a.graph;
      edges = a.edges;
      sink-is = a.sink-is;
      inside = a.inside;
      vertices-fit = a.vertices-fit;
      edges_fit = a.edges_fit;
      good = good-kept p s.k (s.reference ++ s.bases) a.good;
      from = a.from;
      to = a.to;
      supports = a.supports;
    }

-- ---- the definition's answer for the graph with its trees
module _ {s : Sample} {v e : ℕ} {vs es : List ℕ} {n m sink : ℕ} (a : BuiltAt s v e vs es n m sink) (most : ℕ) where
  pub built-fits : length (nodes (evidence s (threaded s))) ≤ most
      → built s (record { vertices = v; edges = e; nodes = most }) ≡ ok (record { graph = threaded s; edges = with_symbolic s (threaded s); trees = evidence s (threaded s) })
  unfolding built built_of
  built-fits h = rw (a.fits, built_of, le-leb (length (nodes (evidence s (threaded s)))) most h)

  pub built-over : (r : ℕ) → NotEvident s most r → built s (record { vertices = v; edges = e; nodes = most }) ≡ refused r
  unfolding built built_of
  built-over r o = rw (a.fits, built_of, lt-leb (length (nodes (evidence s (threaded s)))) most o.over, o.nine)

abbrev pub ground_for : Sample → Built → ℕ → Ground
ground_for s b most = record { k = s.k; built = b; most = most }

module _ {s : Sample} {vs es x op : List ℕ} {b : Built} {most : ℕ} (q : Gathers s vs es x op b most) where
  fits : Fits s
  fits = fits-of s q.rules

  small : length (s.reference ++ s.bases) ≤ 33792
  small = let z = length-append s.reference s.bases in let a = fits.high in let c = fits.many in omega arith

  sound : Sound (ground_for s b most) (s.reference ++ s.bases) vs es
  sound =
      let z = q.length-v in
      let y = q.built.vertices-fit in
      let w = q.length-e in
      let u = q.built.edges_fit in
      let h = leb-true q.vertices 4096 (and_right (leb 2 q.vertices) (leb q.vertices 4096) q.vertices-in) in
      record {
        good = q.built.good;
        some = (let k = fits.k-low in omega arith);
        room-v = omega arith;
        room-e = omega arith;
        few = omega arith;
        sink = q.built.inside;
        small = small;
      }

  module _ (vs₁ : List ℕ) (c : Cleared vs b.vertices vs₁ b.vertices) where
    no-roots : (v : ℕ) → root_of vs₁ v ≡ 0
    no-roots v = go (dec_lt v b.vertices)
      where
        go : Dec (v < b.vertices) → root_of vs₁ v ≡ 0
        go (yes h) = c.none v h
        go (no h) = c.kept.beyond v (omega arith) ∙ q.built.good.zeros v 11 (omega arith) (omega arith)

    start : State (ground_for s b most) (begun []) (length s.reference) 0 0 vs₁ x op
    start =
        record {
          held =
              held-under (length s.reference * suc (length s.reference)) (omega arith)
              (held_start most (root_of vs₁) x op (record { long = q.room; few = q.few }) q.room_open q.zero-x no-roots);
          few = omega arith;
        }

    pub gather-walks : ReadsWalk (ground_for s b most) s.reference s.ends s.bases s.qualities vs₁ es x op 0
    gather-walks =
        record {
          sound = sound-kept c.kept sound;
          trees = [];
          state = start;
          rises = fits.rises;
          last = fits.last;
          quals-b = fits.quals;
          few = fits.few;
        }

    graph_is : ground_of (ground_for s b most) (s.reference ++ s.bases) vs₁ es ≡ threaded s
    graph_is = graph-kept c.kept s.k (s.reference ++ s.bases) es b.edges ∙ q.built.graph

    many-v : length (threaded s).kmers ≡ b.vertices
    unfolding graph_of
    many-v = ap (λ (g : Graph). length g.kmers) (sym q.built.graph) ∙ length-of s.k (s.reference ++ s.bases) vs b.vertices

    trees-are : walks_of (ground_for s b most) (s.reference ++ s.bases) vs₁ es (reads_of s.k s.quality s.ends s.bases s.qualities) [] ≡ evidence s (threaded s)
    unfolding evidence stretches symbolic_of
    trees-are = rw (graph_is, q.built.sink-is, ← many-v)

    pub gather-done : (vs' x' op' : List ℕ) (r : Result ℕ Refusal)
        → Walking (walks_of (ground_for s b most) (s.reference ++ s.bases) vs₁ es (reads_of s.k s.quality s.ends s.bases s.qualities)) (ground_for s b most) (length s.reference) (length (s.reference ++ s.bases)) 0 vs₁ vs' x x' op op' r
        → Gathered s vs vs' x x' op op' b most r
    gather-done vs' x' op' r w =
        record { is = go r (rw trees-are at (w.is [] start)); kept = kept_on c.kept w.frame.kept; beyond = w.frame.beyond; beyond-open = w.frame.beyond-open }
      where
        bounded : (p : ℕ) → p ≤ 33792 → p * suc p < 2 ^ 32
        bounded p h = let a : p * suc p ≤ 33792 * suc p = mul-le-mul_right (suc p) h in omega arith

        go : (r : Result ℕ Refusal) → Answered (ground_for s b most) (evidence s (threaded s)) (length (s.reference ++ s.bases)) vs' x' op' r → EvidentOf s vs' x' op' most r
        go (Ok n) st =
            record {
              fits = held-room st.held;
              count = held-nodes st.held;
              bound = length (s.reference ++ s.bases) * suc (length (s.reference ++ s.bases));
              small = bounded (length (s.reference ++ s.bases)) small;
              held = st.held;
            }
        go (Err n) st = record { nine = st.0; over = st.1 }
