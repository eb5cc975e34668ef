-- `fork_offers::offer_edges` meets its contract. The loop's invariant: the rows written, with what the out-edges that are left offer, are what all offer.
use Rattle.out_edges.specs.Walked.{begun, over-named, turned}
use Rattle.fork_offers.specs.Real.{fork-names}
use Rattle.fork_offers.specs.Support.{edging-start, edging-end, edging-adds, edging-next}
use Rattle.fork_offers.proofs.offer_edges.Goals as goal

pub loop-i-init : goal.loop-i-init
loop-i-init c =
    let b = begun c.into_iter-i-iterator.ensures.into_iter_gives c.out_edges-i-items.ensures in
    (over-named b.over (c.requires.fork.room-v, fork-names c.requires.fork), tt, b.over, edging-start _ _ _ _ _ _ _ c.requires _ b.first)

pub offer_edge-row-requires : goal.offer_edge-row-requires
offer_edge-row-requires c = edging-adds _ _ _ _ _ _ _ _ _ _ c.loop-i.invariant.3 _ (turned c.requires.fork.slots c.loop-i.invariant.2 c.in-Some.ensures.steps).next

pub loop-i-preserved : goal.loop-i-preserved
loop-i-preserved c =
    let u = turned c.requires.fork.slots c.loop-i.invariant.2 c.in-Some.ensures.steps in
    (over-named u.over (c.requires.fork.room-v, fork-names c.requires.fork), tt, u.over, edging-next _ _ _ _ _ _ _ _ _ _ c.loop-i.invariant.3 _ u.next _ _ c.offer_edge-row.ensures _ u.behind)

pub returns : goal.returns
returns c = edging-end _ _ _ _ _ _ _ _ _ _ c.loop-i.invariant.3 (turned c.requires.fork.slots c.loop-i.invariant.2 c.in-None.ensures.steps).next
