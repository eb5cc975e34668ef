-- `fork_offers::has_stopping_evidence` meets its contract. The loop's invariant: the answer of the trees that are left is that of all.
use Rattle.std.proofs.Common.{sym}
use Rattle.fork_offers.specs.Stops.{stopping-start, stopping-end, stopping-yes, stopping-no, stopping-next}
use Rattle.fork_offers.specs.Actives.{active-slot, active-readable}
use Rattle.fork_offers.proofs.has_stopping_evidence.Goals as goal

pub loop-i-init : goal.loop-i-init
loop-i-init c = stopping-start _ _ _ _ _ _ _ _ c.requires

pub first_child-start-requires : goal.first_child-start-requires
first_child-start-requires c = active-slot _ _ _ _ _ _ c.loop-i.invariant.rest c.loop-i-test.true _ c.from.ensures

pub child_slot-requires : goal.child_slot-requires
child_slot-requires c = active-readable _ _ _ _ _ _ c.loop-i.invariant.rest c.loop-i-test.true _ c.from.ensures _ c.first_child-start.ensures

pub total_out_for_branch-requires : goal.total_out_for_branch-requires
total_out_for_branch-requires c = active-readable _ _ _ _ _ _ c.loop-i.invariant.rest c.loop-i-test.true _ c.from.ensures _ c.first_child-start.ensures

pub returns-then-is_some : goal.returns-then-is_some
returns-then-is_some c = stopping-yes _ _ _ _ _ _ _ _ _ c.loop-i.invariant c.loop-i-test.true _ c.from.ensures _ c.first_child-start.ensures _ c.child_slot.ensures (sym c.if-is_some.ensures)

pub returns-then-total_out_for_branch-least : goal.returns-then-total_out_for_branch-least
returns-then-total_out_for_branch-least c = stopping-no _ _ _ _ _ _ _ _ _ c.loop-i.invariant c.loop-i-test.true _ c.from.ensures _ c.first_child-start.ensures _ c.child_slot.ensures (sym c.if-is_some.ensures) _ c.total_out_for_branch.ensures c.if-total_out_for_branch-least.true

pub loop-i-preserved : goal.loop-i-preserved
loop-i-preserved c = stopping-next _ _ _ _ _ _ _ _ _ c.loop-i.invariant c.loop-i-test.true _ c.from.ensures _ c.first_child-start.ensures _ c.child_slot.ensures (sym c.if-is_some.ensures) _ c.total_out_for_branch.ensures c.if-total_out_for_branch-least.false

pub returns : goal.returns
returns c = stopping-end _ _ _ _ _ _ _ _ _ c.loop-i.invariant c.loop-i-test.false
