use Rattle.junction_trees.specs.Roots.{cleared-next, cleared-end}
use Rattle.junction_trees.proofs.clear_roots.Goals as goal

pub loop-v-preserved : goal.loop-v-preserved
loop-v-preserved c = cleared-next _ _ _ _ c.requires c.loop-v.invariant c.loop-v-test.true _ c.keep_root.ensures

pub returns : goal.returns
returns c = cleared-end _ _ _ _ c.loop-v.invariant c.loop-v-test.false
