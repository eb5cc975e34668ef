use Rattle.threading_node.specs.Ends.{ends_of}
use Rattle.threading_node.specs.Cells.{Searching}
use Rattle.threading_node.specs.Turns.{Over}
use Rattle.threading_node.proofs.find_child.Given as goal

abbrev pub invariant-loop-s : goal.invariant-loop-s
invariant-loop-s l =
    (goal.iterator-loop-s).can_next l.s-iterator × (goal.iterator-loop-s).is_finite l.s-iterator × Over l.nodes l.s-iterator
    × Searching l.nodes l.fn.start (ends_of l.edge) l.after l.s-iterator.at
