use Rattle.samples.specs.Handed.{text_of}
use Rattle.junction_trees.specs.Stretches.{Left}
use Rattle.junction_trees.proofs.walk_stretch.Given as goal

abbrev pub invariant-loop-j : goal.invariant-loop-j
invariant-loop-j l = Left l.d (text_of l.text) l.edges l.a l.len l.first l.count l.initial.vertices l.initial.nodes l.initial.active l.vertices l.nodes l.active l.s l.j
