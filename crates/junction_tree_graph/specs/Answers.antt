-- What the code answers, case by case. Assumes nothing.
use Rattle.std.specs.Prelude.{◌≡◌, true, false, Option, IsSome, Result, Ok, Err, ◌&&◌, List, leb, ℕ, ◌+◌, ◌-◌, ◌*◌, ◌^◌, ◌<◌, ◌≤◌, length}
use Rattle.std.proofs.Common.{arith}
use Rattle.laws.specs.ListLaws.{and_left, and_right}
use Rattle.laws.specs.Numbers.{within}
use Rattle.definition.specs.Refusal.{ok, refused}
use Rattle.definition.specs.Limits.{Sample, GraphMaxima, graph_maxima_fit}
use Rattle.definition.specs.Evidence.{evidence, nodes}
use Rattle.definition.specs.Building.{built, built_of}
use Rattle.definition.specs.Threading.{threaded, number_of, with_symbolic}
use Rattle.assembly.specs.Fields.{HasVertices, kmer_place, HasEdge}
use Rattle.assembly.specs.Store.{kmers_of}
use Rattle.assembly.specs.Moves.{added_e}
use Rattle.assembly.specs.Kmers.{part}
use Rattle.graph_kmers.specs.Index.{Finding, Found}
use Rattle.assembly.specs.Symbolic.{symbolic}
use Rattle.kmer_threading.specs.declared.At.{At}
use Rattle.refusals.specs.declared.Refusal.{Refusal}
use Rattle.refusals.specs.Numbers.{number}
use Rattle.junction_tree_graph.specs.declared.Built.{Built}
use Rattle.sequence_threading.specs.Stretches.{OverG, CameG, Threaded}
use Rattle.junction_tree_graph.specs.Built.{Builds, graph_fits, BuiltAt, NotBuilt, most_of, text_of, build-stop, sink-asks, sink-found, symbolic-asks, built-at}

abbrev pub BuiltOf : Sample → ℕ → ℕ → List ℕ → List ℕ → Result Built Refusal → Type 0
BuiltOf s v e vs es (Ok b) = BuiltAt s v e vs es b.vertices b.edges b.sink
BuiltOf s v e vs es (Err n) = NotBuilt s v e (number n)

-- the index has the kmers of the graph
abbrev pub FoundOf : ℕ → List ℕ → List ℕ → List ℕ → Result Built Refusal → Type 0
FoundOf k text vs idx (Ok b) = Finding k text vs idx b.vertices
FoundOf k text vs idx (Err n) = Unit {0}

-- ---- the whole build in the code's words
module _ {s : Sample} {v e : ℕ} {vs es : List ℕ} (x : Builds s v e vs es) (vs' es' : List ℕ) (r : Result At Refusal)
    (h : Threaded s.k (text_of s) vs' es' (most_of v e) (2 * length (text_of s)) r (threaded s)) where
  pub answer-stop : (n : Refusal) → r ≡ Err n → NotBuilt s v e (number n)
  answer-stop n d =
      let o : OverG (most_of v e) (number n) (threaded s) = rw d at h in
      build-stop x (number n) o

  module _ (t : At) (d : r ≡ Ok t) where
    came : CameG s.k (text_of s) vs' es' (most_of v e) t (2 * length (text_of s)) (threaded s)
    came = rw d at h

    pub answer-asks : (length s.reference - s.k + s.k ≤ length (text_of s)) × (HasVertices vs' t.vertices) × ((u : ℕ) → u < t.vertices → kmer_place vs' u + s.k ≤ length (text_of s))
    answer-asks = sink-asks x came

    pub answer-found : (o : Option ℕ) → Found t.vertices (number_of (kmers_of s.k (text_of s) vs' t.vertices) (part s.k (text_of s) (length s.reference - s.k))) o → IsSome o
    answer-found o f = sink-found x came o f

    module _ (le : length es' ≡ length es) (sink : ℕ) (hs : sink ≡ number_of (kmers_of s.k (text_of s) vs' t.vertices) (part s.k (text_of s) (length s.reference - s.k))) where
      pub answer-symbolic : (HasEdge es' t.edges) × (sink < 2 ^ 32) × (t.vertices < 2 ^ 32) × (length s.reference - s.k < 2 ^ 32)
      answer-symbolic = symbolic-asks x came le sink hs

      pub answer-done : (fs : List ℕ) → fs ≡ added_e es' t.edges (symbolic sink t.vertices (length s.reference - s.k)) 1 → BuiltAt s v e vs' fs t.vertices t.edges sink
      answer-done fs f = built-at x came le sink hs (omega arith) fs f

-- ---- what this is to the call for the graph: its maxima's limits, and refusal 8
pub maxima-in : (m : GraphMaxima) → graph_maxima_fit m ≡ true → (within 2 4096 m.vertices ≡ true) × (within 1 8192 m.edges ≡ true)
unfolding graph_maxima_fit
maxima-in m h =
    let a = and_left (within 2 4096 m.vertices && within 1 8192 m.edges) (within 1 16384 m.nodes) h in
    (and_left (within 2 4096 m.vertices) (within 1 8192 m.edges) a, and_right (within 2 4096 m.vertices) (within 1 8192 m.edges) a)

pub not-built : (s : Sample) (m : GraphMaxima) (r : ℕ) → NotBuilt s m.vertices m.edges r → built s m ≡ refused r
unfolding built built_of
not-built s m r n = rw (n.fits_not, built_of, n.eight)

pub is-built : (s : Sample) (m : GraphMaxima) → graph_fits s m.vertices m.edges ≡ true
    → built s m ≡ elim (leb (length (nodes (evidence s (threaded s)))) m.nodes) [
      | false ↦ refused 9
      | true ↦ ok (record { graph = threaded s; edges = with_symbolic s (threaded s); trees = evidence s (threaded s) })
    ]
unfolding built built_of
is-built s m h = rw (h, built_of)
