use Rattle.std.proofs.Common.{◌-◌, length}
use Rattle.graph_rows.specs.Listing.{Listing}
use Rattle.graph_rows.proofs.write_edges.Given as goal

abbrev pub invariant-loop-p : goal.invariant-loop-p
invariant-loop-p l = Listing l.graph.edges.now l.initial.out l.out l.graph.count l.v 0 l.p

abbrev pub decreases-loop-p : goal.decreases-loop-p
decreases-loop-p l = length l.graph.vertices.now - l.v
