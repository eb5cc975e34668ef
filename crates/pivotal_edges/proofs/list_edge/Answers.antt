use Rattle.std.proofs.Common.{arith}
use Rattle.pivotal_edges.specs.Lists.{takes-seen, takes-is, listed-no, listed-yes}
use Rattle.pivotal_edges.proofs.list_edge.Goals as goal
use Rattle.pivotal_edges.proofs.list_edge.Goals.{then-visited-i-ne0-via-then-visited-i-ne0, then-visited-i-ne0-via-else-visited-i-ne0+then-not-counted}

pub returns-then-visited-i-ne0 : goal.returns-then-visited-i-ne0
returns-then-visited-i-ne0 c =
    elim c.then-visited-i-ne0.branch [
      | then-visited-i-ne0-via-then-visited-i-ne0 w ↦ listed-no c.args.edges.now c.args.visited.now _ c.args.i c.args.n (takes-seen c.args.edges.now c.args.visited.now c.args.i w.if-visited-i-ne0.true)
      | then-visited-i-ne0-via-else-visited-i-ne0+then-not-counted w ↦ listed-no c.args.edges.now c.args.visited.now _ c.args.i c.args.n (takes-is c.args.edges.now c.args.visited.now c.args.i w.if-visited-i-ne0.false w.counted.ensures w.if-not-counted.true)
    ]

pub offset_bounds-out-n : goal.offset_bounds-out-n
offset_bounds-out-n c = let h = c.requires.3 (takes-is c.args.edges.now c.args.visited.now c.args.i c.if-visited-i-ne0.false c.counted.ensures c.if-not-counted.false) in let g = c.well_formed in omega arith

pub bounds-out-n : goal.bounds-out-n
bounds-out-n c = c.requires.3 (takes-is c.args.edges.now c.args.visited.now c.args.i c.if-visited-i-ne0.false c.counted.ensures c.if-not-counted.false)

pub overflow_add-result : goal.overflow_add-result
overflow_add-result c = let h = c.requires.3 (takes-is c.args.edges.now c.args.visited.now c.args.i c.if-visited-i-ne0.false c.counted.ensures c.if-not-counted.false) in let g = c.well_formed in omega arith

pub returns : goal.returns
returns c = listed-yes c.args.edges.now c.args.visited.now _ c.args.i c.args.n (takes-is c.args.edges.now c.args.visited.now c.args.i c.if-visited-i-ne0.false c.counted.ensures c.if-not-counted.false)
