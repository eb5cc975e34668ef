-- `fork_offers::offer_edge` meets its contract.
use Rattle.std.proofs.Common.{refl}
use Rattle.fork_offers.specs.Support.{edge-left, edge-seen, edge_row, edge-new}
use Rattle.fork_offers.proofs.offer_edge.Goals as goal

pub returns-then-not-is_worth : goal.returns-then-not-is_worth
returns-then-not-is_worth c = edge-left _ _ _ _ _ _ _ _ _ c.requires _ refl _ c.edge_is_ref.ensures _ c.is_worth.ensures c.if-not-is_worth.true

pub returns-then-offered : goal.returns-then-offered
returns-then-offered c = edge-seen _ _ _ _ _ _ _ _ _ c.requires _ refl _ c.edge_is_ref.ensures _ c.is_worth.ensures c.if-not-is_worth.false _ c.offered.ensures c.if-offered.true

pub put_offer-requires : goal.put_offer-requires
put_offer-requires c = edge_row _ _ _ _ _ _ _ _ _ c.requires _ refl _ c.edge_is_ref.ensures _ c.is_worth.ensures c.if-not-is_worth.false _ c.offered.ensures c.if-offered.false

pub returns : goal.returns
returns c = edge-new _ _ _ _ _ _ _ _ _ c.requires _ refl _ c.edge_is_ref.ensures _ c.is_worth.ensures c.if-not-is_worth.false _ c.offered.ensures c.if-offered.false _ _ c.put_offer.ensures
