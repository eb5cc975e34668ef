-- "Threading", second half: the graph. Vertices are kmers, numbered from 0 by birth; edges stand in rising order of their ends, each pair of ends
-- once. "The reference is threaded first, then reads in order"; the symbolic vertex and edge come last.
use Prim.Native.Nat.{ℕ, zero, suc, ◌+◌, ◌-◌, compare, Ordering}
use Rattle.std.specs.Prelude.{Bool, true, false, ◌&&◌, ◌||◌, List, [], ◌∷◌, ◌++◌, eqb, length, get_or}
use Rattle.std.proofs.Math.Option.{Option, none, some}
use Rattle.laws.specs.Lists.{keep, find, position, last_or, sole}
use Rattle.laws.specs.Numbers.{then, eq_list}
use Rattle.definition.specs.Limits.{Sample}
use Rattle.definition.specs.Stretch.{Stretch, kmers, stretches}

-- an edge's name: the vertex that it leaves and the one that it enters
pub record Ends : Type 0 where
  pub from : ℕ
  pub to : ℕ

abbrev pub compare_ends : Ends → Ends → Ordering
compare_ends a b = then (compare a.from b.from) (compare a.to b.to)

abbrev pub eq_ends : Ends → Ends → Bool
eq_ends a b = eqb a.from b.from && eqb a.to b.to

-- "The origin is the first sequence that made the edge, at its left kmer's place": 0 the reference, else the read, from 1; the place from 0.
pub record Origin : Type 0 where
  pub sequence : ℕ
  pub place : ℕ

-- `is_ref` is the reference mark
pub record Edge : Type 0 where
  pub ends : Ends
  pub support : ℕ
  pub is_ref : Bool
  pub origin : Origin

-- Everything that reads a support reads it through this name.
unfoldable pub support_of : Edge → ℕ
support_of e = e.support

-- vertex v has the kmer at place v
pub record Graph : Type 0 where
  pub kmers : List (List ℕ)
  pub edges : List Edge

-- ---- neighbours: in rising vertex number, since the edges stand in order

unfoldable pub leaving : List Edge → ℕ → List Edge
leaving es v = keep (λ e. eqb e.ends.from v) es

unfoldable pub entering : List Edge → ℕ → List Edge
entering es v = keep (λ e. eqb e.ends.to v) es

-- the last base of a vertex's kmer
unfoldable pub last_base : List (List ℕ) → ℕ → ℕ
last_base ks v = last_or 0 (get_or ks v [])

-- ---- counting in the table of edges

-- one step over an edge, as an edge: a new edge's first support, or what a known one gains
unfoldable pub one_step : Bool → Origin → Ends → Edge
one_step ref o d = record { ends = d; support = 1; is_ref = ref; origin = o }

-- What both edges of one pair of ends come to: the supports are added, the mark is kept, and the origin is that of the edge that was there.
unfoldable pub merge : Edge → Edge → Edge
merge old new = record { ends = old.ends; support = old.support + new.support; is_ref = old.is_ref || new.is_ref; origin = old.origin }

-- count an edge: add it to the one of the same ends, or put it in its place
unfoldable pub put : Edge → List Edge → List Edge
put n [] = n ∷ []
put n (e ∷ es) =
    elim (compare_ends n.ends e.ends) [ Ordering.lt ↦ n ∷ e ∷ es | Ordering.eq ↦ merge e n ∷ es | Ordering.gt ↦ e ∷ put n es ]

-- ---- one step

-- The number of a kmer: its place in the list, or the next free number. A kmer that is not there is added at the end.
unfoldable pub number_of : List (List ℕ) → List ℕ → ℕ
number_of ks x = position (λ y. eq_list y x) ks

unfoldable pub with_kmer : List (List ℕ) → List ℕ → List (List ℕ)
with_kmer ks x = elim (eqb (number_of ks x) (length ks)) [ true ↦ ks ++ x ∷ [] | false ↦ ks ]

-- the graph so far and the vertex that threading has reached
pub record Threading : Type 0 where
  pub graph : Graph
  pub here : ℕ

-- the out-edge whose target ends in the base b
unfoldable pub follow : Graph → ℕ → ℕ → Option Edge
follow g v b = find (λ e. eqb (last_base g.kmers e.ends.to) b) (leaving g.edges v)

-- one more support for the edge from the vertex reached to v, over the vertices ks
unfoldable pub step_to : Bool → Origin → Threading → List (List ℕ) → ℕ → Threading
step_to ref o t ks v =
    record { graph = record { kmers = ks; edges = put (one_step ref o (record { from = t.here; to = v })) t.graph.edges }; here = v }

-- "Each step follows the out-edge whose target ends in the next base, or else makes an edge to that kmer's vertex, new if needed": the step to the
-- kmer x, whose left neighbour stands at the origin o. (Rust: extend_chain_by_one)
unfoldable pub step : Bool → Origin → List ℕ → Threading → Threading
step ref o x t =
    elim (follow t.graph t.here (last_or 0 x)) [
      | some e ↦ step_to ref o t t.graph.kmers e.ends.to
      | none ↦ step_to ref o t (with_kmer t.graph.kmers x) (number_of t.graph.kmers x)
    ]

-- a step to each kmer in order; the left neighbour of the first stands at place i of sequence s
unfoldable pub steps : Bool → ℕ → ℕ → List (List ℕ) → Threading → Threading
steps ref s i [] t = t
steps ref s i (x ∷ xs) t = steps ref s (suc i) xs (step ref (record { sequence = s; place = i }) x t)

-- ---- backward counting

-- "while a vertex has exactly one predecessor, that edge gains 1": n is the number of steps left. (Rust: increase_counts_backwards)
unfoldable pub backward : ℕ → ℕ → List Edge → List Edge
backward zero v es = es
backward (suc n) v es = elim (sole (entering es v)) [ none ↦ es | some e ↦ backward n e.ends.from (put (one_step false e.origin e.ends) es) ]

-- ---- a whole sequence, and the whole build

-- "At the start of each stretch, counting runs backwards .. for at most k-1 edges": x is the first kmer.
unfoldable pub start_at : ℕ → List ℕ → Graph → Threading
start_at k x g =
    let v = number_of g.kmers x in
    record { graph = record { kmers = with_kmer g.kmers x; edges = backward (k - 1) v g.edges }; here = v }

-- the kmers of a run, in order
unfoldable pub thread_kmers : Bool → ℕ → Stretch → List (List ℕ) → Graph → Graph
thread_kmers ref k r [] g = g
thread_kmers ref k r (x ∷ xs) g = (steps ref r.sequence r.place xs (start_at k x g)).graph

-- (Rust: thread_sequence)
unfoldable pub thread : Bool → ℕ → Stretch → Graph → Graph
thread ref k r g = thread_kmers ref k r (kmers k r.bytes) g

unfoldable pub thread_all : ℕ → List Stretch → Graph → Graph
thread_all k [] g = g
thread_all k (r ∷ rs) g = thread_all k rs (thread false k r g)

-- the graph before the symbolic vertex and edge
unfoldable pub threaded : Sample → Graph
threaded s =
    thread_all s.k (stretches s)
    (thread true s.k (record { sequence = 0; place = 0; bytes = s.reference }) (record { kmers = []; edges = [] }))

-- ---- the symbolic vertex and edge

-- the place of the reference's last kmer
unfoldable pub last_place : Sample → ℕ
last_place s = length s.reference - s.k

-- "the reference's last vertex, called the sink"
unfoldable pub sink_of : Sample → Graph → ℕ
sink_of s g = number_of g.kmers (last_or [] (kmers s.k s.reference))

-- "After all threading comes the symbolic vertex": the edge from the sink to the next number
unfoldable pub symbolic_of : Sample → Graph → Ends
symbolic_of s g = record { from = sink_of s g; to = length g.kmers }

-- "with an edge of support 0 from the sink .. marked reference; its origin is the place of the reference's last kmer"
unfoldable pub with_symbolic : Sample → Graph → List Edge
with_symbolic s g =
    put (record { ends = symbolic_of s g; support = 0; is_ref = true; origin = record { sequence = 0; place = last_place s } }) g.edges

-- A key: to unfold it is to unfold every definition of this file. The worked cases compute with it; a proof names only what it needs.
unfoldable pub open_threading : Unit {0}
unfolding support_of leaving entering last_base one_step merge put number_of with_kmer follow step_to step steps backward start_at thread_kmers thread thread_all threaded last_place sink_of symbolic_of with_symbolic
open_threading = tt
