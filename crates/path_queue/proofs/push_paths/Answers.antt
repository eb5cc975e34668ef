use Rattle.path_queue.specs.Push.{pushing-start, pushing-one, pushing-refused, pushing-on, pushing-end}
use Rattle.path_queue.proofs.push_paths.Goals as goal

pub loop-path-init : goal.loop-path-init
loop-path-init c = pushing-start c.requires

pub push_path-r-requires : goal.push_path-r-requires
push_path-r-requires c = pushing-one c.requires c.loop-path.invariant c.loop-path-test.true

pub returns-in_default : goal.returns-in_default
returns-in_default c = pushing-refused c.requires c.loop-path.invariant _ _ _ c.in_default.is c.loop-path-test.true c.push_path-r.ensures

pub loop-path-preserved : goal.loop-path-preserved
loop-path-preserved c = pushing-on c.requires c.loop-path.invariant _ _ _ c.in-Ok.is c.loop-path-test.true c.push_path-r.auto.queue c.push_path-r.ensures

pub returns : goal.returns
returns c = pushing-end c.requires c.loop-path.invariant c.loop-path-test.false
