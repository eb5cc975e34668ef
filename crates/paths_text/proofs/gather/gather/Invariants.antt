use Rattle.std.proofs.Common.{◌≡◌}
use Rattle.paths_text.specs.Gather.{Loop}
use Rattle.paths_text.proofs.gather.gather.Given as goal

abbrev pub invariant-loop-i : goal.invariant-loop-i
invariant-loop-i l = Loop l.initial.text l.initial.ends l.from l.count l.text l.ends l.g × (l.g.reads ≡ l._i)
