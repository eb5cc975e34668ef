use Rattle.std.proofs.Common.{ap, arith}
use Rattle.path_store.specs.declared.records.PathRecord.{PathRecord}
use Rattle.path_list.specs.Rows.{kept-room}
use Rattle.path_list.proofs.lists.Lists.walk.Goals as goal

pub slice_bounds-result-end : goal.slice_bounds-result-end
slice_bounds-result-end c =
    let k = kept-room _ _ c.requires.0 _ c.requires.1 in
    let e = ap (λ (x : PathRecord). x.edges) c.row.ensures in
    omega arith
