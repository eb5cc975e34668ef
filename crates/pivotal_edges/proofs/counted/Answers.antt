use Rattle.std.proofs.Common.{ne_eqb}
use Rattle.pivotal_edges.specs.Lists.{counts-one, counts-more}
use Rattle.pivotal_edges.proofs.counted.Goals as goal

pub returns-then-edge_support-ne1 : goal.returns-then-edge_support-ne1
returns-then-edge_support-ne1 c = rw (ne_eqb c.edge_support.result 1 c.if-edge_support-ne1.true) (counts-more c.args.edges.now c.args.i c.edge_support.ensures c.if-edge_support-ne1.true)

pub returns-else-edge_support-ne1 : goal.returns-else-edge_support-ne1
returns-else-edge_support-ne1 c = counts-one c.args.edges.now c.args.i c.edge_support.ensures c.if-edge_support-ne1.false c.edge_is_ref.ensures
