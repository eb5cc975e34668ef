use Rattle.std.proofs.Common.{◌≡◌, ℕ, ◌<◌}
use Rattle.laws.specs.Records.{field}
use Rattle.threading_tree.proofs.find_active.Given as goal

abbrev pub invariant-loop-i : goal.invariant-loop-i
invariant-loop-i l = (k : ℕ) → k < l.i → field l.active 2 k 0 ≡ l.at → ⊥
