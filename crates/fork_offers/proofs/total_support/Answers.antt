-- `fork_offers::total_support` meets its contract. The loop's invariant: the supports added, with those of the out-edges that are left, are all.
use Rattle.out_edges.specs.Walked.{begun, over-named, turned}
use Rattle.fork_offers.specs.Real.{fork-names}
use Rattle.fork_offers.specs.Support.{totalling-start, totalling-end, totalling-fits, totalling-next}
use Rattle.fork_offers.proofs.total_support.Goals as goal

pub loop-i-init : goal.loop-i-init
loop-i-init c =
    let b = begun c.into_iter-i-iterator.ensures.into_iter_gives c.out_edges-i-items.ensures in
    (over-named b.over (c.requires.0.room-v, fork-names c.requires.0), tt, b.over, totalling-start c.requires.0 c.requires.1 b.first)

pub overflow_add-total : goal.overflow_add-total
overflow_add-total c = record { fits = totalling-fits c.loop-i.invariant.3 (turned c.requires.0.slots c.loop-i.invariant.2 c.in-Some.ensures.steps).next _ c.edge_support-total.ensures }

pub loop-i-preserved : goal.loop-i-preserved
loop-i-preserved c =
    let u = turned c.requires.0.slots c.loop-i.invariant.2 c.in-Some.ensures.steps in
    (over-named u.over (c.requires.0.room-v, fork-names c.requires.0), tt, u.over, totalling-next c.loop-i.invariant.3 u.next _ c.edge_support-total.ensures _ u.behind)

pub returns : goal.returns
returns c = totalling-end c.loop-i.invariant.3 (turned c.requires.0.slots c.loop-i.invariant.2 c.in-None.ensures.steps).next
