use Rattle.graph_kmers.specs.Paths.{path-next}
use Rattle.graph_kmers.proofs.path_bases.Goals as goal

pub loop-i-preserved : goal.loop-i-preserved
loop-i-preserved c = path-next c.requires.0 _ c.args.at c.requires.1 _ _ _ c.loop-i.invariant c.loop-i-test.true c.path_base.ensures
