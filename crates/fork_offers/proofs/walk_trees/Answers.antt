-- `fork_offers::walk_trees` meets its contract. The loop's invariant: the trees stored, with those that are left walked, are all walked.
use Rattle.fork_offers.specs.Walks.{walking_start, walking-end, walking-treed, walking-small, walking-keep, walking-drop}
use Rattle.fork_offers.proofs.walk_trees.Goals as goal
use Rattle.fork_offers.proofs.walk_trees.Goals.{in-Some, in_default}

pub loop-i-init : goal.loop-i-init
loop-i-init c = walking_start _ _ _ _ _ _ _ _ c.requires

pub walk_tree-requires : goal.walk_tree-requires
walk_tree-requires c = walking-treed _ _ _ _ _ _ _ _ _ _ _ c.loop-i.invariant c.loop-i-test.true _ c.from.ensures

pub overflow_cast-active : goal.overflow_cast-active
overflow_cast-active c = record { fits = walking-small _ _ _ _ _ _ _ _ _ _ _ c.loop-i.invariant c.loop-i-test.true _ c.from.ensures _ c.in-Some.ensures }

pub loop-i-preserved : goal.loop-i-preserved
loop-i-preserved c =
    elim c.match-walk_tree.branch [
      | in-Some w ↦ rw (w.active-is, w.j-is) (walking-keep _ _ _ _ _ _ _ _ _ _ _ c.loop-i.invariant c.loop-i-test.true _ c.from.ensures _ w.in-Some.ensures)
      | in_default w ↦ rw (w.active-is, w.j-is) (walking-drop _ _ _ _ _ _ _ _ _ _ _ c.loop-i.invariant c.loop-i-test.true _ c.from.ensures w.in_default.ensures)
    ]

pub returns : goal.returns
returns c = walking-end _ _ _ _ _ _ _ _ _ _ _ c.loop-i.invariant c.loop-i-test.false
