use Rattle.threading_tree.specs.All.{track-start, track-ready, track-fits, track-next, track-stop, track-end}
use Rattle.threading_tree.proofs.add_edge_to_junction_tree_nodes.Goals as goal

pub loop-i-init : goal.loop-i-init
loop-i-init c = track-start _ _ _ _ _ _ c.requires

pub add_edge-r-requires : goal.add_edge-r-requires
add_edge-r-requires c = track-ready _ _ _ _ _ _ c.requires _ _ _ _ c.loop-i.invariant _ _ c.active_slot-s.ensures c.active_count-m.ensures c.loop-i-test.true

pub returns-in_default : goal.returns-in_default
returns-in_default c = track-stop _ _ _ _ _ _ c.requires _ _ _ _ c.loop-i.invariant _ _ c.active_slot-s.ensures c.active_count-m.ensures _ _ c.loop-i-test.true c.add_edge-r.ensures _ c.unwrap_err.ensures

pub overflow_cast-active : goal.overflow_cast-active
overflow_cast-active c = record { fits = track-fits _ _ _ _ _ _ c.requires _ _ _ _ c.loop-i.invariant _ _ c.active_slot-s.ensures c.active_count-m.ensures _ _ c.loop-i-test.true c.add_edge-r.ensures _ c.in-Ok.is }

pub loop-i-preserved : goal.loop-i-preserved
loop-i-preserved c = track-next _ _ _ _ _ _ c.requires _ _ _ _ c.loop-i.invariant _ _ c.active_slot-s.ensures c.active_count-m.ensures _ _ c.loop-i-test.true c.add_edge-r.ensures _ c.in-Ok.is c.add_edge-r.auto.nodes

pub returns : goal.returns
returns c = track-end _ _ _ _ _ _ c.requires _ _ _ _ c.loop-i.invariant c.loop-i-test.false
