use Rattle.std.proofs.Common.{refl, ◌∙◌}
use Rattle.out_edges.specs.Walked.{over-named}
use Rattle.pivotal_edges.specs.Walk.{next-asks, fork-nth}
use Rattle.pivotal_edges.proofs.forks.Goals as goal

pub out_edges-requires : goal.out_edges-requires
out_edges-requires c = next-asks c.requires

pub nth-requires : goal.nth-requires
nth-requires c = over-named c.out_edges.ensures.over (next-asks c.requires)

pub returns : goal.returns
returns c = c.is_some.ensures ∙ fork-nth c.requires refl refl c.out_edges.ensures c.nth.ensures.ran
