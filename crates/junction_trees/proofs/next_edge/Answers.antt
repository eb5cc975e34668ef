use Rattle.junction_trees.specs.Degrees.{next-edge-is}
use Rattle.junction_trees.proofs.next_edge.Goals as goal

pub returns : goal.returns
returns c = next-edge-is _ _ _ _ _ c.out_edge.ensures c.from-b.ensures _ c.byte_at.ensures
