use Rattle.agreement.specs.Agree.{First}
use Rattle.agreement.proofs.agree.all_are.Given as goal

abbrev pub invariant-loop-i : goal.invariant-loop-i
invariant-loop-i g l = First g.T.Element.shown l.elements l.i l.number
