use Rattle.std.proofs.Common.{refl, ap, ◌∙◌, arith}
use Rattle.path_store.specs.declared.records.PathRecord.{PathRecord}
use Rattle.path_store.specs.Cells.{numbered}
use Rattle.path_edges.specs.Path.{read_low, read-runs, read-room, read-write}
use Rattle.path_edges.proofs.write_piece.Goals as goal

pub write_chain-requires : goal.write_chain-requires
write_chain-requires c =
    let u = ap (λ (x : PathRecord). x.end) c.at-parent.ensures in
    let d = ap (λ (x : PathRecord). x.chain) c.at-row.ensures in
    let e = ap (λ (x : PathRecord). numbered x.edge) c.at-row.ensures in
    (c.requires.0.graph, read_low _ _ _ _ _ c.requires.0 _ _ _ u d e, read-runs _ _ _ _ _ c.requires.0 _ _ _ u d e, omega (arith, c.requires.1, read-room _ _ _ _ _ c.requires.0 _ _ _ u d e, ap (λ (x : PathRecord). x.edges) c.at-parent.ensures))

pub write_last-requires : goal.write_last-requires
write_last-requires c =
    let u = ap (λ (x : PathRecord). x.end) c.at-parent.ensures in
    let d = ap (λ (x : PathRecord). x.chain) c.at-row.ensures in
    let e = c.last.ensures ∙ ap (λ (x : PathRecord). numbered x.edge) c.at-row.ensures in
    omega (arith, c.requires.1, read-room _ _ _ _ _ c.requires.0 _ _ _ u d e, ap (λ (x : PathRecord). x.edges) c.at-parent.ensures, c.write_chain.auto.out)

pub returns : goal.returns
returns c =
    let u = ap (λ (x : PathRecord). x.end) c.at-parent.ensures in
    let d = ap (λ (x : PathRecord). x.chain) c.at-row.ensures in
    let e = c.last.ensures ∙ ap (λ (x : PathRecord). numbered x.edge) c.at-row.ensures in
    read-write _ _ _ _ _ c.requires.0 _ _ _ u d e _ _ _ _ _ _ (ap (λ (x : PathRecord). x.edges) c.at-parent.ensures) refl c.write_chain.ensures c.write_last.ensures
