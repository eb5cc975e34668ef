use Rattle.path_store.specs.Climbs.{stepped, climbs-on}
use Rattle.path_edges.specs.Path.{table-climbs, filling-piece, filling-room, filling-next, filling-end}
use Rattle.path_edges.proofs.write_path.Goals as goal

pub write_piece-requires : goal.write_piece-requires
write_piece-requires c =
    let x = (stepped c.loop-link.invariant.2 c.in-Some.ensures.steps).next in
    rw x.0 (filling-piece _ _ _ _ _ c.requires.0 _ _ _ _ _ c.loop-link.invariant.3 _ x.1, filling-room _ _ _ _ _ c.requires.0 _ _ _ _ _ c.loop-link.invariant.3 _ x.1)

pub loop-link-preserved : goal.loop-link-preserved
loop-link-preserved c =
    let x = stepped c.loop-link.invariant.2 c.in-Some.ensures.steps in
    (climbs-on (table-climbs _ _ _ _ _ c.requires.0) c.loop-link.invariant.3.low x, tt, x.paths, rw x.next.2 (filling-next _ _ _ _ _ c.requires.0 _ _ _ _ _ c.loop-link.invariant.3 _ x.next.1 _ (rw x.next.0 at c.write_piece.ensures)))

pub returns : goal.returns
returns c = filling-end _ _ _ _ _ c.requires.0 _ _ _ _ _ c.loop-link.invariant.3 (stepped c.loop-link.invariant.2 c.in-None.ensures.steps).next
