use Rattle.threading_node.specs.Turns.{row-slot, row-next, row-falls}
use Rattle.threading_node.proofs.SiblingsIterator.next.Goals as goal

pub next_sibling-self-requires : goal.next_sibling-self-requires
next_sibling-self-requires c = row-slot _ _ c.requires _ c.in_ok-s.was

pub returns-clause-goes : goal.returns-clause-goes
returns-clause-goes c =
    let k = row-next _ _ c.requires _ c.in_ok-s.was _ c.next_sibling-self.ensures in
    record { on = λ f. (k, tt, row-falls _ _ c.requires _ c.in_ok-s.was _ c.next_sibling-self.ensures); keeps = k; rests = λ f. tt }
