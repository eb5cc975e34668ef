use Rattle.std.proofs.Common.{arith}
use Rattle.sequence_threading.specs.Backs.{back_none, backs-many, backs-next, backs-on}
use Rattle.sequence_threading.proofs.+increase_counts_backwards.Goals as goal

pub returns-then-left-eq0 : goal.returns-then-left-eq0
returns-then-left-eq0 t c = back_none c.requires c.if-left-eq0.true

pub returns-then-incoming_count-ne1 : goal.returns-then-incoming_count-ne1
returns-then-incoming_count-ne1 t c = backs-many c.requires _ c.incoming_count.ensures c.if-incoming_count-ne1.true

pub increase_counts_backwards-requires : goal.increase_counts_backwards-requires
increase_counts_backwards-requires t c = (
  (let m = c.decreases in let h = c.if-left-eq0.false in omega arith),
  backs-next c.requires _ c.incoming_count.ensures c.if-incoming_count-ne1.false _ (rw c.unwrap-i.ensures at c.incoming_edge.ensures) c.if-left-eq0.false _ c.edge_from-from.ensures _ c.inc_edge.ensures,
)

pub returns : goal.returns
returns t c = backs-on c.requires _ c.incoming_count.ensures c.if-incoming_count-ne1.false _ (rw c.unwrap-i.ensures at c.incoming_edge.ensures) c.if-left-eq0.false _ c.edge_from-from.ensures _ c.inc_edge.ensures _ c.increase_counts_backwards.ensures
