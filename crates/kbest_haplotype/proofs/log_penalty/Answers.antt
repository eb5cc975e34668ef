-- `log_penalty` meets its contract, by a law for each return. Assumes nothing.
use Rattle.kbest_haplotype.specs.Penalties.{no-total, no-count-place, no-total-place, both-placed}
use Rattle.kbest_haplotype.proofs.log_penalty.Goals.{then-support-column-via-then-support-column, then-support-column-via-else-support-column+then-outgoing-column}
use Rattle.kbest_haplotype.proofs.log_penalty.Goals as goal

pub returns-then-total-lt1 : goal.returns-then-total-lt1
returns-then-total-lt1 c = no-total _ _ _ c.if-total-lt1.true

pub returns-then-support-column : goal.returns-then-support-column
returns-then-support-column c =
    elim c.then-support-column.branch [
      | then-support-column-via-then-support-column w ↦ no-count-place _ _ _ _ c.max-support.ensures c.if-total-lt1.false w.if-support-column.true
      | then-support-column-via-else-support-column+then-outgoing-column w ↦ no-total-place _ _ _ _ c.max-support.ensures c.if-total-lt1.false w.if-support-column.false w.if-outgoing-column.true
    ]

pub returns : goal.returns
returns c = both-placed _ _ _ _ c.max-support.ensures c.if-total-lt1.false c.if-support-column.false c.if-outgoing-column.false
