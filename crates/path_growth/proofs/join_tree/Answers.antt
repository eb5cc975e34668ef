use Rattle.std.proofs.Common.{ap, arith}
use Rattle.path_store.specs.declared.records.PathRecord.{PathRecord}
use Rattle.path_growth.specs.Grow.{join-full, join-stored}
use Rattle.path_growth.proofs.join_tree.Goals as goal

pub returns-then-row-most : goal.returns-then-row-most
returns-then-row-most c = join-full _ _ _ _ _ (omega (arith, ap (λ (x : PathRecord). x.trees) c.at-row.ensures, c.if-row-most.true))

pub returns : goal.returns
returns c = join-stored _ _ _ _ _ _ _ _ c.at-row.ensures c.if-row-most.false c.path_put.ensures
