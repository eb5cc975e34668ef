use Rattle.threading_tree.specs.Write.{writer-slot, writer-start, node_in, row_in, depth-fits, stack-in, next_row, next-depth, writer-down, falls_down, stack-up, writer-up, writer-end, next-fits, stack-offset, stack-offset-up}
use Rattle.threading_tree.proofs.Trees.write_nodes.Goals as goal

pub first_child-at-requires : goal.first_child-at-requires
first_child-at-requires c = writer-slot _ _ _ _ _ c.requires

pub loop-at-init : goal.loop-at-init
loop-at-init c = writer-start _ _ _ _ _ c.requires _ c.first_child-at.ensures

pub returns-then-depth-eq0 : goal.returns-then-depth-eq0
returns-then-depth-eq0 c = writer-end _ _ _ _ _ c.requires _ _ _ _ _ c.loop-at.invariant c.in_default.not-Some c.if-depth-eq0.true

pub offset_bounds-stack-depth : goal.offset_bounds-stack-depth
offset_bounds-stack-depth c = record { fits = stack-offset-up _ _ _ _ _ c.requires _ _ _ _ _ c.loop-at.invariant c.in_default.not-Some }

pub bounds-stack-depth : goal.bounds-stack-depth
bounds-stack-depth c = stack-up _ _ _ _ _ c.requires _ _ _ _ _ c.loop-at.invariant c.in_default.not-Some c.if-depth-eq0.false

pub loop-at-preserved-in_default : goal.loop-at-preserved-in_default
loop-at-preserved-in_default c = writer-up _ _ _ _ _ c.requires _ _ _ _ _ c.loop-at.invariant c.in_default.not-Some c.if-depth-eq0.false _ c.slot_at-at.ensures

pub edge_of-requires : goal.edge_of-requires
edge_of-requires c = node_in _ _ _ _ _ c.requires _ _ _ _ _ c.loop-at.invariant _ c.in-Some.is

pub evidence_count-requires : goal.evidence_count-requires
evidence_count-requires c = node_in _ _ _ _ _ c.requires _ _ _ _ _ c.loop-at.invariant _ c.in-Some.is

pub overflow_cast-depth : goal.overflow_cast-depth
overflow_cast-depth c = record { fits = depth-fits _ _ _ _ _ c.requires _ _ _ _ _ c.loop-at.invariant _ c.in-Some.is }

pub put_row-requires : goal.put_row-requires
put_row-requires c = row_in _ _ _ _ _ c.requires _ _ _ _ _ c.loop-at.invariant _ c.in-Some.is

pub next_sibling-requires : goal.next_sibling-requires
next_sibling-requires c = node_in _ _ _ _ _ c.requires _ _ _ _ _ c.loop-at.invariant _ c.in-Some.is

pub link_to-requires : goal.link_to-requires
link_to-requires c = next-fits _ _ _ _ _ c.requires _ _ _ _ _ c.loop-at.invariant _ c.in-Some.is _ c.next_sibling.ensures

pub offset_bounds-stack-depth-in-loop-at : goal.offset_bounds-stack-depth-in-loop-at
offset_bounds-stack-depth-in-loop-at c = record { fits = stack-offset _ _ _ _ _ c.requires _ _ _ _ _ c.loop-at.invariant _ c.in-Some.is }

pub bounds-stack-depth-in-loop-at : goal.bounds-stack-depth-in-loop-at
bounds-stack-depth-in-loop-at c = stack-in _ _ _ _ _ c.requires _ _ _ _ _ c.loop-at.invariant _ c.in-Some.is

pub first_child-at-requires-in-loop-at : goal.first_child-at-requires-in-loop-at
first_child-at-requires-in-loop-at c = node_in _ _ _ _ _ c.requires _ _ _ _ _ c.loop-at.invariant _ c.in-Some.is

pub overflow_add-depth : goal.overflow_add-depth
overflow_add-depth c = record { fits = next-depth _ _ _ _ _ c.requires _ _ _ _ _ c.loop-at.invariant _ c.in-Some.is }

pub overflow_add-row : goal.overflow_add-row
overflow_add-row c = record { fits = next_row _ _ _ _ _ c.requires _ _ _ _ _ c.loop-at.invariant _ c.in-Some.is }

pub loop-at-smaller : goal.loop-at-smaller
loop-at-smaller c = falls_down _ _ _ _ _ c.requires _ _ _ _ _ c.loop-at.invariant _ c.in-Some.is

pub loop-at-preserved : goal.loop-at-preserved
loop-at-preserved c = writer-down _ _ _ _ _ c.requires _ _ _ _ _ c.loop-at.invariant _ c.in-Some.is _ _ _ _ _ c.edge_of.ensures c.evidence_count.ensures c.first_child-at-in-loop-at.ensures c.next_sibling.ensures c.link_to.ensures _ c.put_row.ensures
