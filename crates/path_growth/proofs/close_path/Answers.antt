use Rattle.std.proofs.Common.{ap, arith}
use Rattle.path_store.specs.declared.records.PathRecord.{PathRecord}
use Rattle.path_growth.specs.Grow.{closed_row, grow-full, grow-stored, close_row}
use Rattle.path_growth.proofs.close_path.Goals as goal

pub returns-then-k-most : goal.returns-then-k-most
returns-then-k-most c =
    grow-full _ _ _ (closed_row c.args.paths.now c.args.scores.now c.args.taken) _ (omega (arith, ap (λ (x : PathRecord). x.edges) c.at-parent.ensures, c.if-k-most.true))

pub returns : goal.returns
returns c =
    grow-stored _ _ _ (closed_row c.args.paths.now c.args.scores.now c.args.taken) _ _ _ _
    (close_row c.args.paths.now c.args.scores.now c.args.taken _ _ (ap (λ (x : PathRecord). x.score) c.at-parent.ensures) (omega (arith, ap (λ (x : PathRecord). x.edges) c.at-parent.ensures)))
    (omega (arith, ap (λ (x : PathRecord). x.edges) c.at-parent.ensures, c.if-k-most.false))
    c.path_put.ensures
