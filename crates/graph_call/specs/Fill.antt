-- The graph and its trees, and then their rows: what each part asks, and what the answer is to the definition. Assumes nothing.
use Rattle.std.specs.Prelude.{◌≡◌, List, ℕ, ◌+◌, ◌*◌, ◌≤◌, length, Result, Ok, Err}
use Rattle.std.proofs.Common.{sym, ap, ◌∙◌, arith}
use Rattle.refusals.specs.declared.Refusal.{Refusal}
use Rattle.refusals.specs.Numbers.{number}
use Rattle.definition.specs.Refusal as definition
use Rattle.definition.specs.Refusal.{refused}
use Rattle.definition.specs.Limits.{Sample, GraphMaxima, edge_width}
use Rattle.definition.specs.Threading.{threaded, with_symbolic}
use Rattle.definition.specs.Evidence.{nodes, evidence}
use Rattle.definition.specs.Building.{Built, built}
use Rattle.definition.specs.Calls.{GraphOutcome, graph_of, written_at, flat, edge_row, node_row}
use Rattle.assembly.specs.Fields.{HasVertex, HasVertices}
use Rattle.tables.specs.Widths.{edge_numbers, open_numbers}
use Rattle.assembly.specs.Table.{length-table}
use Rattle.assembly.specs.Store.{edge_at, edges_of}
use Rattle.out_edges.specs.Sorted.{Orders}
use Rattle.assembly.specs.Symbolic.{linked}
use Rattle.out_edges.specs.Linked.{linked-distinct, linked-orders}
use Rattle.threading_tree.specs.Write.{Writable, Written, held-writable, held-written}
use Rattle.junction_trees.specs.Roots.{root_of}
use Rattle.junction_trees.specs.Stretches.{begun}
use Rattle.graph_work.specs.declared.Raise.{Raise}
use Rattle.graph_work.specs.Raise.{RaisedAt, RaisedOf, raised-built, edges_few, nodes-few}
use Rattle.graph_call.specs.declared.GraphAnswer.{GraphAnswer}
use Rattle.graph_call.specs.Lent.{Lent}
use Rattle.graph_call.specs.Outcome.{outcome, refused_answer}

-- ---- the rows

pub record Writes (wv we wx wo es ns : List ℕ) (b : Raise) (cap : ℕ) : Type 0 where
  pub sink-in : HasVertex wv b.built.sink
  pub few : b.built.edges + 1 ≤ 8192
  pub many : b.nodes ≤ 16384
  pub orders : Orders (linked wv b.built.sink b.built.edges) we es (b.built.edges + 1)
  pub long : (b.built.edges + 1) * edge_width ≤ length es
  pub nodes : Writable cap b.nodes wx wo ns

pub record Wrote (we wx wo wo' es es' ns ns' : List ℕ) (b : Raise) (r : GraphAnswer) : Type 0 where
  pub answer : r ≡ record { refusal = 0; edges = b.built.edges + 1; nodes = b.nodes }
  pub edges : es' ≡ written_at 0 (flat edge_row (edges_of we (b.built.edges + 1))) es
  pub nodes : Written b.nodes wx wo wo' ns ns'

-- ---- the whole

same_outcome : (a a' b b' : ℕ) (x x' y y' : List ℕ) → a ≡ a' → b ≡ b' → x ≡ x' → y ≡ y'
    → ◌≡◌ {A = GraphOutcome} (record { refusal = 0; edges = a; nodes = b; edge_slice = x; node_slice = y }) (record { refusal = 0; edges = a'; nodes = b'; edge_slice = x'; node_slice = y' })
same_outcome a a' b b' x x' y y' p q r s = λ i. record { refusal = 0; edges = p i; nodes = q i; edge_slice = r i; node_slice = s i }

module _ {s : Sample} {m : GraphMaxima} {es ns wv we wi wx wo : List ℕ} (x : Lent s m es ns wv we wi wx wo) where
  module _ (vs es₁ xs os : List ℕ) (r : Result Raise Refusal) (h : RaisedOf s m vs es₁ xs os r) where
    pub fill-refused : (e : Refusal) → r ≡ Err e → (a : GraphAnswer) → a ≡ refused_answer (number e) → outcome a es ns ≡ graph_of (built s m) es ns
    unfolding graph_of
    fill-refused e d a f =
        let o : built s m ≡ refused (number e) = rw d at h in
        ap (λ (q : GraphAnswer). outcome q es ns) f ∙ sym (ap (λ (q : definition.Result Built). graph_of q es ns) o)

    module _ (b : Raise) (d : r ≡ Ok b) (lv : length vs ≡ length wv) (le : length es₁ ≡ length we) (lo : length os ≡ length wo) where
      raised : RaisedAt s m vs es₁ xs os b
      raised = rw d at h

      room-v : HasVertices vs b.built.vertices
      room-v = let l = x.w-vertices in let f = raised.at.vertices-fit in let q = lv in omega arith

      pub fill-writes : Writes vs es₁ xs os es ns b m.nodes
      fill-writes =
          let at = raised.at in
          let there = raised.there in
          let a = at.edges_fit in
          let f = edges_few m x.maxima in
          let l = x.edges in
          let ln = x.nodes in
          let le' : length es₁ ≡ edge_numbers m.edges = le ∙ x.w-edges in
          let lo' : length os ≡ open_numbers m.nodes = lo ∙ x.w-open in
          let rv = room-v in
          let si = at.inside in
          let k = there.fits in
          let kc = there.count in
          record {
            sink-in = omega arith;
            few = omega arith;
            many = (let j = nodes-few m x.maxima in omega arith);
            orders = linked-orders at.good b.built.sink at.inside at.from at.to room-v es (omega arith) (omega arith) (omega arith);
            long = omega arith;
            nodes = held-writable (begun (evidence s (threaded s))) m.nodes b.nodes 0 there.bound (root_of vs) xs os there.held os ns (omega arith) (omega arith);
          }

      edges-many : length (with_symbolic s (threaded s)) ≡ b.built.edges + 1
      unfolding edges_of
      edges-many =
          let at = raised.at in
          sym (ap length at.edges) ∙ length-table (edge_at es₁) (b.built.edges + 1) (linked-distinct at.good b.built.sink at.inside at.from at.to room-v)

      pub fill_done : (es₃ ns₃ os₃ : List ℕ) (a : GraphAnswer) → Wrote es₁ xs os os₃ es es₃ ns ns₃ b a → outcome a es₃ ns₃ ≡ graph_of (built s m) es ns
      unfolding graph_of
      fill_done es₃ ns₃ os₃ a w =
          let there = raised.there in
          let p : es₃ ≡ written_at 0 (flat edge_row (with_symbolic s (threaded s))) es = rw raised.at.edges at w.edges in
          let q : ns₃ ≡ written_at 0 (flat node_row (nodes (evidence s (threaded s)))) ns
          = held-written (begun (evidence s (threaded s))) m.nodes b.nodes 0 there.bound (root_of vs) xs os there.held os ns os₃ ns₃ w.nodes in
          ap (λ (q : GraphAnswer). outcome q es₃ ns₃) w.answer
          ∙ same_outcome (b.built.edges + 1) _ b.nodes _ es₃ _ ns₃ _ (sym edges-many) (sym there.count) p q ∙ sym (ap (λ (o : definition.Result Built). graph_of o es ns) (raised-built raised))
