use Rattle.std.proofs.Common.{ap, arith, Some}
use Rattle.threading_node.specs.Links.{link_to, Linked}
use Rattle.threading_node.specs.Slots.{linked-first, linked-later}
use Rattle.threading_node.proofs.link_node.Goals as goal

pub returns-in-Some : goal.returns-in-Some
returns-in-Some c =
    let h : Linked (Some c.in-Some.u) = rw c.in-Some.is at c.requires.2 in
    rw c.in-Some.is (linked-later _ _ _ _ (λ z. omega arith))

pub returns-in-None : goal.returns-in-None
returns-in-None c = linked-first _ _ _ _ (ap link_to c.in-None.is)
