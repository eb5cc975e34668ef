use Rattle.std.proofs.Common.{◌≡◌, ◌+◌}
use Rattle.path_edges.specs.Path.{Told, Upward}
use Rattle.path_edges.proofs.count_in_path.Given as goal

abbrev pub invariant-loop-link : goal.invariant-loop-link
invariant-loop-link l =
    (goal.iterator-loop-link).can_next l.link-iterator × (goal.iterator-loop-link).is_finite l.link-iterator × (l.link-iterator.paths ≡ l.paths)
    × Told l.paths.records.now l.path l.link-iterator.path × Upward l.chains.index.now l.chains.targets.now l.source l.paths.records.now (l.path + 1) l.path l.v l.link-iterator.path l.k
