-- Once the sink's free slot names the symbolic edge, the graph is as the walk asks: where the symbolic vertex has a record. Assumes nothing.
use Rattle.std.specs.Prelude.{◌≡◌, List, ℕ, ◌+◌, ◌<◌, ◌≤◌}
use Rattle.std.proofs.Common.{arith}
use Rattle.std.proofs.Math.Decide.{ℕ_discrete}
use Rattle.assembly.specs.Fields.{HasVertex, HasEdges, edge_from, edge_to}
use Rattle.assembly.specs.Store.{Good}
use Rattle.assembly.specs.Symbolic.{linked, length-linked}
use Rattle.out_edges.specs.Linked.{linked-distinct, linked-slots}
use Rattle.pivotal_edges.specs.Walk.{Linked}

pub linked_of : {k : ℕ} {text vs : List ℕ} {n : ℕ} {es : List ℕ} {m : ℕ} → Good k text vs n es m → (sink : ℕ) → sink < n → edge_from es m ≡ sink → edge_to es m ≡ n
    → HasVertex vs n → HasEdges es (m + 1) → m + 1 ≤ 8192 → Linked (linked vs sink m) es (m + 1)
linked_of {vs = vs} {n = n} {es = es} {m = m} g sink hs hf ht room re few =
    record {
      distinct = linked-distinct g sink hs hf ht (omega arith);
      slots = λ v h. linked-slots g sink hs hf ht (omega arith) v;
      to_in = λ i h. rw (length-linked vs sink m) (to i h (ℕ_discrete i m));
      source_in = rw (length-linked vs sink m) (omega arith);
      room = re;
      few = few;
    }
  where
    to : (i : ℕ) → i < m + 1 → Dec (i ≡ m) → HasVertex vs (edge_to es i)
    to i h (yes e) = let y : edge_to es i ≡ n = rw e ht in omega arith
    to i h (no e) = let y = g.to_in i (omega arith) in omega arith
