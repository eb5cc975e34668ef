-- `fork_offers::Junction::offer_branches` meets its contract. The loop's invariant: the rows written, with what the rest of the row of siblings offers, are what the whole offers.
use Rattle.threading_node.specs.Turns.{begun, turned, turned-none}
use Rattle.threading_tree.specs.Read.{readable-rowed}
use Rattle.fork_offers.specs.Trees.{branching-start, branching-end, branching-adds, branching-next}
use Rattle.fork_offers.proofs.Junction.offer_branches.Goals as goal

pub loop-s-init : goal.loop-s-init
loop-s-init c =
    let b = begun c.into_iter-s-iterator.ensures.into_iter_gives c.siblings_from-s-items.ensures in
    (rw (b.over, b.first) (readable-rowed _ _ _ _ (c.requires.0.readable, c.requires.1)), tt, b.over, rw b.first (branching-start _ _ _ _ _ _ _ _ _ _ _ _ c.requires.0 c.requires.1))

pub offer_branch-row-requires : goal.offer_branch-row-requires
offer_branch-row-requires c =
    let u = turned c.loop-s.invariant.2 c.in-Some.ensures.steps in
    branching-adds _ _ _ _ _ _ _ _ _ _ _ _ _ _ _ c.loop-s.invariant.3 _ u.here

pub loop-s-preserved : goal.loop-s-preserved
loop-s-preserved c =
    let u = turned c.loop-s.invariant.2 c.in-Some.ensures.steps in
    (u.left c.loop-s.invariant.0, tt, u.over, branching-next _ _ _ _ _ _ _ _ _ _ _ _ _ _ _ c.loop-s.invariant.3 _ u.here _ _ c.offer_branch-row.ensures _ u.behind)

pub returns : goal.returns
returns c = branching-end _ _ _ _ _ _ _ _ _ _ _ _ _ _ _ c.loop-s.invariant.3 (turned-none c.in-None.ensures.steps)
