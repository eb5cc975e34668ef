-- `agree::untouched` meets its contract, by what is seen of the part. Assumes nothing.
use Rattle.agreement.specs.Agree.{untouched-is}
use Rattle.agreement.proofs.agree.untouched.Goals as goal

pub returns-then-place-slice : goal.returns-then-place-slice
returns-then-place-slice g c = λ e. rw c.LENT.ensures at (untouched-is g.T.Element.shown c.args.slice.now _ _ (c.all_are.ensures e))
