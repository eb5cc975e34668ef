-- `fork_offers::Junction::best_branch` meets its contract. The loop's invariant: the best of the best so far with the rest of the row is that of the row.
use Rattle.threading_node.specs.Turns.{begun, turned, turned-none}
use Rattle.threading_tree.specs.Read.{readable-rowed}
use Rattle.fork_offers.specs.Best.{choosing-start, choosing-end, choosing-old, choosing-slot, choosing-next}
use Rattle.fork_offers.proofs.Junction.best_branch.Goals as goal

pub loop-s-init : goal.loop-s-init
loop-s-init c =
    let b = begun c.into_iter-s-iterator.ensures.into_iter_gives c.siblings_from-s-items.ensures in
    (rw (b.over, b.first) (readable-rowed _ _ _ _ (c.requires.1, c.requires.2)), tt, b.over, rw b.first (choosing-start _ _ _ _ _ _ (c.requires.1, c.requires.2)))

pub better-best-requires : goal.better-best-requires
better-best-requires c =
    let u = turned c.loop-s.invariant.2 c.in-Some.ensures.steps in
    (c.requires.0, choosing-old _ _ _ _ _ _ _ _ c.loop-s.invariant.3, choosing-slot _ _ _ _ _ _ _ _ c.loop-s.invariant.3 _ u.here)

pub loop-s-preserved : goal.loop-s-preserved
loop-s-preserved c =
    let u = turned c.loop-s.invariant.2 c.in-Some.ensures.steps in
    (u.left c.loop-s.invariant.0, tt, u.over, choosing-next _ _ _ _ _ _ _ _ c.loop-s.invariant.3 _ u.here _ c.better-best.ensures _ u.behind)

pub returns : goal.returns
returns c = choosing-end _ _ _ _ _ _ _ _ c.loop-s.invariant.3 (turned-none c.in-None.ensures.steps)
