use Rattle.path_list.specs.Walked.{Walked}
use Rattle.path_list.proofs.walks.write_walks.Given as goal

abbrev pub invariant-loop-i : goal.invariant-loop-i
invariant-loop-i l = Walked l.chains.index.now l.chains.targets.now l.paths.records.now l.closed l.most l.i l.initial.walks l.walks
