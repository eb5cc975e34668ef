-- `fit` meets its contract: both returns are what the definition's test decides. Assumes nothing.
use Rattle.origins.specs.Laws.{fits, falls-short}
use Rattle.origins.proofs.fit.Goals as goal

pub returns-then-from-k : goal.returns-then-from-k
returns-then-from-k c = λ in_reads. fits _ _ _ _ _ c.if-from-k.true

pub returns : goal.returns
returns c = λ in_reads. falls-short _ _ _ _ _ c.if-from-k.false
