use Prim.Native.Nat.{◌-◌, ◌+◌}
use Rattle.pivotal_edges.specs.Turns.{Turning}
use Rattle.pivotal_edges.proofs.create_pivotal_edges_in_topological_order.Given as goal

abbrev pub invariant-loop-front : goal.invariant-loop-front
invariant-loop-front l = Turning l.graph.edges.now l.graph.count l.initial.queue l.initial.visited l.initial.out l.queue l.visited l.out l.front l.tail l.found

abbrev pub decreases-loop-front : goal.decreases-loop-front
decreases-loop-front l = l.graph.count + l.graph.count - l.front
