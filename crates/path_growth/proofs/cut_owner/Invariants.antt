use Rattle.std.proofs.Common.{◌≡◌}
use Rattle.path_growth.specs.Cut.{Cutting}
use Rattle.path_growth.proofs.cut_owner.Given as goal

abbrev pub invariant-loop-link : goal.invariant-loop-link
invariant-loop-link l =
    (goal.iterator-loop-link).can_next l.link-iterator × (goal.iterator-loop-link).is_finite l.link-iterator × (l.link-iterator.paths ≡ l.paths)
    × Cutting l.paths.records.now l.paths.scores.now l.path l.k l.link-iterator.path
