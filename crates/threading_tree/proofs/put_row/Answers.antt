use Rattle.std.proofs.Common.{arith, length-set}
use Rattle.threading_tree.proofs.put_row.Goals as goal

pub bounds-out-row-2 : goal.bounds-out-row-2
bounds-out-row-2 c = simp length-set (omega arith)

pub bounds-out-row-3 : goal.bounds-out-row-3
bounds-out-row-3 c = simp length-set (omega arith)

pub bounds-out-row-4 : goal.bounds-out-row-4
bounds-out-row-4 c = simp length-set (omega arith)
