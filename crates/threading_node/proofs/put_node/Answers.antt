use Rattle.std.proofs.Common.{arith, length-set}
use Rattle.threading_node.specs.Slots.{placed-is}
use Rattle.threading_node.proofs.put_node.Goals as goal

pub bounds-nodes-k-2 : goal.bounds-nodes-k-2
bounds-nodes-k-2 c = simp length-set (omega arith)

pub bounds-nodes-k-3 : goal.bounds-nodes-k-3
bounds-nodes-k-3 c = simp length-set (omega arith)

pub bounds-nodes-k-4 : goal.bounds-nodes-k-4
bounds-nodes-k-4 c = simp length-set (omega arith)

pub bounds-nodes-k-5 : goal.bounds-nodes-k-5
bounds-nodes-k-5 c = simp length-set (omega arith)

pub returns : goal.returns
returns c = rw c.link_to.ensures (placed-is _ _ _ _ _ _)
