use Rattle.std.proofs.Common.{refl, ap, arith}
use Rattle.path_store.specs.declared.records.PathRecord.{PathRecord}
use Rattle.path_growth.specs.Cut.{table-links}
use Rattle.path_growth.specs.Extend.{cut-known, cut-ends}
use Rattle.path_growth.specs.Grow.{recovered_row, grow-full, grow-stored, recover-row}
use Rattle.path_growth.proofs.recover_path.Goals as goal

pub returns-then-k-most : goal.returns-then-k-most
returns-then-k-most c = grow-full _ _ _ (recovered_row c.args.chains.index.now c.args.paths.now c.args.scores.now c.args.chains.targets.now c.args.path c.args.k c.args.e) _ (omega (arith, c.if-k-most.true))

pub cut_path-cut-requires : goal.cut_path-cut-requires
cut_path-cut-requires c = (table-links _ _ _ _ _ c.requires.1, c.requires.2, c.requires.3)

pub overflow_add-row : goal.overflow_add-row
overflow_add-row c =
    omega (arith, cut-known _ _ _ _ _ _ _ c.requires.1 c.requires.2 c.requires.3 c.cut_path-cut.ensures, c.requires.0.known)

pub cut_end-requires : goal.cut_end-requires
cut_end-requires c = cut-ends _ _ _ _ _ _ _ c.requires.1 c.requires.2 c.requires.3 c.cut_path-cut.ensures

pub returns : goal.returns
returns c =
    grow-stored _ _ _ (recovered_row c.args.chains.index.now c.args.paths.now c.args.scores.now c.args.chains.targets.now c.args.path c.args.k c.args.e) _ _ _ _
    (recover-row c.args.chains.index.now c.args.paths.now c.args.scores.now c.args.chains.targets.now c.args.path c.args.k c.args.e _ _ _ _ _ (ap (λ (x : PathRecord). x.score) c.at-best.ensures) c.cut_path-cut.ensures refl refl c.cut_end.ensures)
    (omega (arith, c.if-k-most.false))
    c.path_put.ensures
