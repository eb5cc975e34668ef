-- `agree::all_are` meets its contract. Assumes nothing.
use Rattle.agreement.specs.Agree.{first-none, first-more, first-all}
use Rattle.agreement.proofs.agree.all_are.Goals as goal

pub loop-i-init : goal.loop-i-init
loop-i-init g c = first-none g.T.Element.shown _ _

pub loop-i-preserved : goal.loop-i-preserved
loop-i-preserved g c = first-more g.T.Element.shown _ _ _ _ c.loop-i-test.true c.index-elements-i.is (c.is.ensures c.if-not-is.false) c.loop-i.invariant

pub returns : goal.returns
returns g c = λ e. first-all g.T.Element.shown _ _ _ c.loop-i-test.false c.loop-i.invariant
