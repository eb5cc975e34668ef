use Rattle.junction_trees.specs.Reads.{run-skip}
use Rattle.junction_trees.proofs.walk_run.Goals as goal

pub returns-then-len-d : goal.returns-then-len-d
returns-then-len-d c = run-skip c.requires.0 c.if-len-d.true
