-- `fork_offers::Junction::offer_branch` meets its contract.
use Rattle.fork_offers.specs.Trees.{adds-unreal, adds-seen, adds-room, adds-new}
use Rattle.fork_offers.proofs.Junction.offer_branch.Goals as goal

pub returns-in_default : goal.returns-in_default
returns-in_default c = adds-unreal _ _ _ _ _ _ _ _ _ _ _ c.requires c.in_default.ensures

pub returns-then-offered : goal.returns-then-offered
returns-then-offered c = adds-seen _ _ _ _ _ _ _ _ _ _ _ c.requires _ c.in-Some.ensures _ c.offered.ensures c.if-offered.true

pub put_offer-requires : goal.put_offer-requires
put_offer-requires c = adds-room _ _ _ _ _ _ _ _ _ _ _ c.requires _ c.in-Some.ensures _ c.offered.ensures c.if-offered.false

pub returns : goal.returns
returns c = adds-new _ _ _ _ _ _ _ _ _ _ _ c.requires _ c.in-Some.ensures _ c.offered.ensures c.if-offered.false _ c.evidence_count.ensures _ _ c.put_offer.ensures
