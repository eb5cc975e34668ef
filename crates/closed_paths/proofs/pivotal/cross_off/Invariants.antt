use Rattle.std.proofs.Common.{◌≡◌, ◌+◌}
use Rattle.closed_paths.specs.Cross.{Crossing}
use Rattle.closed_paths.proofs.pivotal.cross_off.Given as goal

abbrev pub invariant-loop-link : goal.invariant-loop-link
invariant-loop-link l =
    (goal.iterator-loop-link).can_next l.link-iterator × (goal.iterator-loop-link).is_finite l.link-iterator × (l.link-iterator.paths ≡ l.paths)
    × Crossing l.chains.index.now l.chains.targets.now l.paths.records.now (l.path + 1) l.path l.initial.marks l.marks l.link-iterator.path
