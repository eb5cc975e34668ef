-- `fork_offers::Junction::out_edge_to` meets its contract: the out-edge of least target from `to` on is that to `to`, or there is none.
use Rattle.fork_offers.specs.Real.{out_none, out-there, out-other}
use Rattle.fork_offers.proofs.Junction.out_edge_to.Goals as goal

pub returns-in_err-i : goal.returns-in_err-i
returns-in_err-i c = rw c.from_residual.ensures (out_none _ _ _ _ _ c.requires c.in_err-i.ensures.least)

pub returns-then-edge_to-to : goal.returns-then-edge_to-to
returns-then-edge_to-to c = out-other _ _ _ _ _ c.requires _ c.in_ok-i.ensures.least _ c.edge_to.ensures c.if-edge_to-to.true

pub returns : goal.returns
returns c = out-there _ _ _ _ _ c.requires _ c.in_ok-i.ensures.least _ c.edge_to.ensures c.if-edge_to-to.false
