-- `fork_offers::offered` meets its contract. The loop's invariant: no row before i names the edge.
use Rattle.fork_offers.specs.Rows.{offered-no, offered-yes}
use Rattle.fork_offers.proofs.offered.Goals as goal

pub returns-then-out-i : goal.returns-then-out-i
returns-then-out-i c = offered-yes _ _ _ _ c.loop-i-test.true c.if-out-i.true

pub returns : goal.returns
returns c = offered-no _ _ _ _ c.loop-i.invariant c.loop-i-test.false
