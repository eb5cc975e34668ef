-- `fork_offers::Junction::applicable_next_edges` meets its contract. The loop's invariant: the rows written, with what the fork offers for the trees that are left, are what it offers for all.
use Rattle.fork_offers.specs.Actives.{active-slot, active-readable}
use Rattle.fork_offers.specs.Offers.{forking-start, forking-edges, forking-end, forking-best, forking-closed, forking-tree, forking-next}
use Rattle.fork_offers.proofs.Junction.applicable_next_edges.Goals as goal

pub loop-i-init : goal.loop-i-init
loop-i-init c = forking-start _ _ _ _ _ _ _ _ _ _ _ _ _ c.requires

pub first_child-start-requires : goal.first_child-start-requires
first_child-start-requires c = active-slot _ _ _ _ _ _ c.loop-i.invariant.rest c.loop-i-test.true _ c.from.ensures

pub total_out_for_branch-total-requires : goal.total_out_for_branch-total-requires
total_out_for_branch-total-requires c = active-readable _ _ _ _ _ _ c.loop-i.invariant.rest c.loop-i-test.true _ c.from.ensures _ c.first_child-start.ensures

pub offer_best-requires : goal.offer_best-requires
offer_best-requires c = (forking-best _ _ _ _ _ _ _ _ _ _ _ _ _ _ _ _ c.loop-i.invariant c.loop-i-test.true _ c.from.ensures _ c.first_child-start.ensures _ c.total_out_for_branch-total.ensures c.if-total-least.true, (active-readable _ _ _ _ _ _ c.loop-i.invariant.rest c.loop-i-test.true _ c.from.ensures _ c.first_child-start.ensures).1)

pub returns-then-total-least : goal.returns-then-total-least
returns-then-total-least c = forking-closed _ _ _ _ _ _ _ _ _ _ _ _ _ _ _ _ c.loop-i.invariant c.loop-i-test.true _ c.from.ensures _ c.first_child-start.ensures _ c.total_out_for_branch-total.ensures c.if-total-least.true _ _ c.offer_best.ensures

pub offer_branches-k-requires : goal.offer_branches-k-requires
offer_branches-k-requires c = (forking-tree _ _ _ _ _ _ _ _ _ _ _ _ _ _ _ _ c.loop-i.invariant c.loop-i-test.true _ c.from.ensures _ c.first_child-start.ensures _ c.total_out_for_branch-total.ensures c.if-total-least.false, (active-readable _ _ _ _ _ _ c.loop-i.invariant.rest c.loop-i-test.true _ c.from.ensures _ c.first_child-start.ensures).1)

pub loop-i-preserved : goal.loop-i-preserved
loop-i-preserved c = forking-next _ _ _ _ _ _ _ _ _ _ _ _ _ _ _ _ c.loop-i.invariant c.loop-i-test.true _ c.from.ensures _ c.first_child-start.ensures _ c.total_out_for_branch-total.ensures c.if-total-least.false _ _ c.offer_branches-k.ensures

pub offer_edges-requires : goal.offer_edges-requires
offer_edges-requires c = forking-edges _ _ _ _ _ _ _ _ _ _ _ _ _ _ _ _ c.loop-i.invariant c.loop-i-test.false _ c.total_support-total.ensures

pub returns : goal.returns
returns c = forking-end _ _ _ _ _ _ _ _ _ _ _ _ _ _ _ _ c.loop-i.invariant c.loop-i-test.false _ c.total_support-total.ensures _ _ c.offer_edges.ensures
