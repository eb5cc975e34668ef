-- `fork_offers::Junction::offer_best` meets its contract.
use Rattle.fork_offers.specs.Trees.{best-offers-none, best-adds, best-offers-one}
use Rattle.fork_offers.proofs.Junction.offer_best.Goals as goal

pub returns-in_default : goal.returns-in_default
returns-in_default c = best-offers-none _ _ _ _ _ _ _ _ _ _ _ _ c.requires.0 c.in_default.ensures

pub offer_branch-requires : goal.offer_branch-requires
offer_branch-requires c = best-adds _ _ _ _ _ _ _ _ _ _ _ _ c.requires.0 _ c.in-Some.ensures

pub returns : goal.returns
returns c = best-offers-one _ _ _ _ _ _ _ _ _ _ _ _ c.requires.0 _ c.in-Some.ensures _ _ c.offer_branch.ensures
