-- `path_extensions::extend_by_offers` meets its contract. The loop's invariant: the paths kept so far, with what the definition makes of the rows left, are what it makes of all.
use Rattle.path_extensions.specs.Each.{trying_start, trying-asks, trying-stop, trying-next, trying-end}
use Rattle.path_extensions.proofs.extend_by_offers.Goals as goal

pub loop-row-init : goal.loop-row-init
loop-row-init c = trying_start c.requires

pub try_offer-step-requires : goal.try_offer-step-requires
try_offer-step-requires c = trying-asks c.requires c.loop-row.invariant c.loop-row-test.true c.offer_at-offer.ensures

pub returns-in_default : goal.returns-in_default
returns-in_default c = trying-stop c.requires c.loop-row.invariant c.loop-row-test.true c.offer_at-offer.ensures c.try_offer-step.ensures c.in_default.is

pub loop-row-preserved : goal.loop-row-preserved
loop-row-preserved c = trying-next c.requires c.loop-row.invariant c.loop-row-test.true c.offer_at-offer.ensures c.try_offer-step.ensures c.in-Ok.is c.try_offer-step.auto.paths c.try_offer-step.auto.scores c.try_offer-step.auto.active

pub returns : goal.returns
returns c = trying-end c.requires c.loop-row.invariant c.loop-row-test.false
