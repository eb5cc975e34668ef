use Rattle.path_store.specs.Steps.{plain-chained}
use Rattle.path_store.proofs.chains.Chains.chain_from.Goals as goal

pub returns-then-c-self : goal.returns-then-c-self
returns-then-c-self c = (plain-chained _ _ _ _ c.chain_plain-c.ensures.0 c.if-c-self.true, c.chain_plain-c.ensures.1)
