use Rattle.std.proofs.Common.{refl}
use Rattle.junction_trees.specs.Roots.{finding-kept}
use Rattle.junction_trees.specs.Reads.{reads-start, reads_end, reads-read, reads-next, reads-stop}
use Rattle.junction_trees.proofs.generate_junction_trees.Goals as goal

pub loop-e-init : goal.loop-e-init
loop-e-init c = reads-start c.requires.0 c.args.sample.quality

pub walk_read-r-requires : goal.walk_read-r-requires
walk_read-r-requires c = (reads-read c.requires.0 c.args.sample.quality c.loop-e.invariant c.loop-e-test.true _ refl, finding-kept c.loop-e.invariant.frame.kept _ _ c.requires.1)

pub returns-in_default : goal.returns-in_default
returns-in_default c = reads-stop c.requires.0 c.args.sample.quality c.loop-e.invariant c.loop-e-test.true _ refl _ _ _ _ c.walk_read-r.ensures _ c.in_default.is

pub loop-e-preserved : goal.loop-e-preserved
loop-e-preserved c = reads-next c.requires.0 c.args.sample.quality c.loop-e.invariant c.loop-e-test.true _ refl _ _ _ _ c.walk_read-r.ensures _ c.in-Ok.is c.walk_read-r.auto.nodes c.walk_read-r.auto.active

pub returns : goal.returns
returns c = reads_end c.requires.0 c.args.sample.quality c.loop-e.invariant c.loop-e-test.false
