use Rattle.junction_trees.specs.Degrees.{warrants-many, warrants-few}
use Rattle.junction_trees.proofs.vertex_warrants_junction_tree.Goals as goal

pub returns-then-outs-gt1 : goal.returns-then-outs-gt1
returns-then-outs-gt1 c = warrants-many _ _ _ c.if-outs-gt1.true

pub returns-else-outs-gt1 : goal.returns-else-outs-gt1
returns-else-outs-gt1 c = warrants-few _ _ _ _ c.if-outs-gt1.false c.incoming_count.ensures
