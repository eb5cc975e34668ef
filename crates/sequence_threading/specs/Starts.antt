-- The start of a stretch: its first kmer's vertex, known or new, and the count backwards from it. Assumes nothing.
use Rattle.std.specs.Prelude.{◌≡◌, true, Result, Ok, Err, List, ℕ, ◌+◌, ◌-◌, ◌^◌, ◌<◌, ◌≤◌, length, get_or}
use Rattle.std.proofs.Math.Path.{refl}
use Rattle.std.proofs.Common.{sym, inl, arith}
use Rattle.definition.specs.Limits.{is_base}
use Rattle.definition.specs.Threading.{Threading, number_of, with_kmer, backward, start_at}
use Rattle.kmer_threading.specs.declared.Most.{Most}
use Rattle.kmer_threading.specs.declared.At.{At}
use Rattle.refusals.specs.declared.Refusal.{Refusal}
use Rattle.refusals.specs.Numbers.{number}
use Rattle.assembly.specs.Fields.{HasVertices, vertex_cell, HasEdges, edge_support}
use Rattle.assembly.specs.Store.{edges_of, kmers_of, graph_of, Good}
use Rattle.assembly.specs.Kmers.{part, last-part}
use Rattle.sequence_threading.specs.Backs.{Backs, Backed, backed-good, ins-of}
use Rattle.kmer_threading.specs.Steps.{threading_of, Came, Stepped, GotAt, NoVertex, Got}

-- nothing in zeroed tables is a graph: what the first call of all starts from
pub good-empty : (k : ℕ) (text vs es : List ℕ) → ((i : ℕ) → get_or vs i 0 ≡ 0) → Good k text vs 0 es 0
good-empty k text vs es z =
    record {
      from_in = λ i h. absurd (omega arith);
      to_in = λ i h. absurd (omega arith);
      slot = λ i h. absurd (omega arith);
      full = λ v c h. absurd (omega arith);
      base = λ v h. absurd (omega arith);
      fits = λ v h. absurd (omega arith);
      ins = λ v h. absurd (omega arith);
      into = λ v h. absurd (omega arith);
      zeros = λ v c h l. z (vertex_cell v c);
    }

pub record Starts (k : ℕ) (text vs es : List ℕ) (most : Most) (s : At) (q : ℕ) : Type 0 where
  pub good : Good k text vs s.vertices es s.edges
  pub vertices : s.vertices ≤ most.vertices
  pub edges : s.edges ≤ most.edges
  pub room-v : HasVertices vs most.vertices
  pub room-e : HasEdges es most.edges
  pub few-v : most.vertices ≤ 4096
  pub few-e : most.edges ≤ 8192
  pub supports : (i : ℕ) → i < s.edges → edge_support es i ≤ s.steps
  pub some : 0 < k
  pub inside : q + k ≤ length text
  pub small : length text < 2 ^ 32
  pub base : is_base (get_or text (q + k - 1) 0) ≡ true
  pub steps : s.steps + k < 2 ^ 32

module _ {k : ℕ} {text vs es : List ℕ} {most : Most} {s : At} {q : ℕ} (x : Starts k text vs es most s q) where
  abbrev will : Threading
  will = start_at k (part k text q) (graph_of k text vs s.vertices es s.edges)

  is-will : will ≡ record { graph = record { kmers = with_kmer (kmers_of k text vs s.vertices) (part k text q); edges = backward (k - 1) (number_of (kmers_of k text vs s.vertices) (part k text q)) (edges_of es s.edges) }; here = number_of (kmers_of k text vs s.vertices) (part k text q) }
  unfolding start_at graph_of
  is-will = refl

  pub start-full : (vs' es' : List ℕ) (c : ℕ) (n : Refusal) (r : Result At Refusal) → Got k text vs vs' most s q r → r ≡ Err n → Stepped k text vs' es' most c r will
  start-full vs' es' c n r g e =
      let y : NoVertex k text vs most s q (number n) = rw e at g in
      rw e (record { eight = y.eight; over = inl (rw is-will y.over) })

  module _ (vs' : List ℕ) (t : At) (r : Result At Refusal) (g : Got k text vs vs' most s q r) (e : r ≡ Ok t) where
    got : GotAt k text vs vs' most s q t
    got = rw e at g

    good-t : Good k text vs' t.vertices es t.edges
    good-t = rw got.edges (got.good es s.edges (rw (last-part k text q x.some x.inside) x.base) x.good)

    pub start-backs : Backs vs' es t t.here (k - 1)
    start-backs =
        record {
          ins = ins-of good-t;
          at = got.here;
          room-v = let r = x.room-v in let v = got.vertices in let l = got.length-v in omega arith;
          room-e = let r = x.room-e in let v = x.edges in let l = got.edges in omega arith;
          few-e = let r = x.few-e in let v = x.edges in let l = got.edges in omega arith;
          supports = λ i h. (let z = x.supports i (rw got.edges at h) in let u = got.steps in omega arith);
          steps = let r = x.steps in let u = got.steps in omega arith;
        }

    pub start-came : (es' : List ℕ) → length es' ≡ length es → Backed es es' t t.here (k - 1)
        → Came k text vs' es' most (record { vertices = t.vertices; edges = t.edges; here = t.here; steps = t.steps + k }) (s.steps + k) will
    unfolding threading_of graph_of
    start-came es' l b =
        record {
          counted = (let u = got.steps in omega arith);
          is = rw (got.kmers, b.is, got.number, got.edges) (sym is-will);
          fine =
              record {
                good = backed-good b good-t;
                here = got.here;
                vertices = got.vertices;
                edges = rw got.edges x.edges;
                room-v = rw got.length-v x.room-v;
                room-e = rw l x.room-e;
                few-v = x.few-v;
                few-e = x.few-e;
                supports = λ i h. (let z = b.supports i h in omega arith);
              };
        }
