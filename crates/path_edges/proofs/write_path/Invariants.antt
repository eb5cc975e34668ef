use Rattle.std.proofs.Common.{◌≡◌, ◌+◌}
use Rattle.path_edges.specs.Path.{Filling}
use Rattle.path_edges.proofs.write_path.Given as goal

abbrev pub invariant-loop-link : goal.invariant-loop-link
invariant-loop-link l =
    (goal.iterator-loop-link).can_next l.link-iterator × (goal.iterator-loop-link).is_finite l.link-iterator × (l.link-iterator.paths ≡ l.paths)
    × Filling l.chains.index.now l.chains.targets.now l.paths.records.now (l.path + 1) l.path l.initial.out l.at l.out l.link-iterator.path
