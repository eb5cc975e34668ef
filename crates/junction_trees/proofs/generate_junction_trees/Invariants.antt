use Rattle.junction_trees.specs.Reads.{ReadsLeft}
use Rattle.junction_trees.proofs.generate_junction_trees.Given as goal

abbrev pub invariant-loop-e : goal.invariant-loop-e
invariant-loop-e l = ReadsLeft l.d l.sample.quality l.sample.text.reference.now l.sample.ends.now l.sample.text.bases.now l.sample.qualities.now l.edges l.count l.initial.vertices l.initial.nodes l.initial.active l.vertices l.nodes l.active l.c l.start l.e-index
