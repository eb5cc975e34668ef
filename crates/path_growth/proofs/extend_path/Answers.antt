use Rattle.std.proofs.Common.{refl, ap, arith}
use Rattle.path_store.specs.declared.records.PathRecord.{PathRecord}
use Rattle.path_growth.specs.Grow.{extended_row, grow-full, grow-stored, extend-row}
use Rattle.path_growth.proofs.extend_path.Goals as goal

pub returns-then-k-most : goal.returns-then-k-most
returns-then-k-most c =
    grow-full _ _ _ (extended_row c.args.paths.now c.args.targets.now c.args.taken c.args.x) _ (omega (arith, ap (λ (x : PathRecord). x.edges) c.at.ensures, c.if-k-most.true))

pub returns : goal.returns
returns c =
    grow-stored _ _ _ (extended_row c.args.paths.now c.args.targets.now c.args.taken c.args.x) _ _ _ _
    (extend-row c.args.paths.now c.args.targets.now c.args.taken c.args.x _ _ (omega (arith, ap (λ (x : PathRecord). x.edges) c.at.ensures)) refl)
    (omega (arith, ap (λ (x : PathRecord). x.edges) c.at.ensures, c.if-k-most.false))
    c.path_put.ensures
