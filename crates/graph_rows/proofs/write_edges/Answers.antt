-- `write_edges` meets its contract. The invariant: what is written and what is left are all edges; the measure falls with each vertex. Assumes nothing.
use Rattle.std.proofs.Common.{arith}
use Rattle.graph_rows.specs.Listing.{list-start, list-v, list-rows, list-end}
use Rattle.graph_rows.proofs.write_edges.Goals as goal

pub loop-p-init : goal.loop-p-init
loop-p-init c = list-start _ _ _

pub write_out_edges-p-requires : goal.write_out_edges-p-requires
write_out_edges-p-requires c = list-rows c.requires c.loop-p.invariant c.loop-p-test.true

pub overflow_add-v : goal.overflow_add-v
overflow_add-v c = let w = list-v c.requires c.loop-p.invariant c.loop-p-test.true in let g = c.well_formed.0 in omega arith

pub loop-p-smaller : goal.loop-p-smaller
loop-p-smaller c = let w = list-v c.requires c.loop-p.invariant c.loop-p-test.true in omega arith

pub returns : goal.returns
returns c = list-end c.requires c.loop-p.invariant c.loop-p-test.false
