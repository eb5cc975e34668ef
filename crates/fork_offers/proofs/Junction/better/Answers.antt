-- `fork_offers::Junction::better` meets its contract.
use Rattle.std.proofs.Common.{◌∙◌}
use Rattle.fork_offers.specs.Best.{better-less, better-more, less-named, more-named}
use Rattle.fork_offers.proofs.Junction.better.Goals as goal

pub returns-then-evidence_count : goal.returns-then-evidence_count
returns-then-evidence_count c = rw c.in-Some.is (better-less _ _ _ _ (c.real_edge.ensures.is ∙ c.if-is_none.ensures) _ (less-named c.evidence_count.ensures c.evidence_count-2.ensures c.if-evidence_count.true))

pub returns : goal.returns
returns c = rw c.in-Some.is (better-more _ _ _ _ (c.real_edge.ensures.is ∙ c.if-is_none.ensures) _ (more-named c.evidence_count-2.ensures c.evidence_count.ensures c.if-evidence_count.false))
