use Rattle.std.proofs.Common.{ℕ}
use Rattle.usable_stretches.specs.Turns.{Over}
use Rattle.junction_trees.specs.Reads.{ReadLeft}
use Rattle.junction_trees.proofs.walk_read.Given as goal

abbrev pub invariant-loop-run : goal.invariant-loop-run
invariant-loop-run l =
    (goal.iterator-loop-run).can_next l.run-iterator × (goal.iterator-loop-run).is_finite l.run-iterator × Over l.sample l.end l.run-iterator
    × ((sq : ℕ) → ReadLeft l.d l.sample.quality l.sample.text.reference.now l.sample.text.bases.now l.sample.qualities.now l.edges l.start l.end l.count l.initial.vertices l.initial.nodes l.initial.active l.vertices l.nodes l.active l.c l.run-iterator.at sq)
