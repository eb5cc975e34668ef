use Rattle.std.proofs.Common.{arith}
use Rattle.pivotal_edges.specs.Queue.{by-level, by-from, by-to}
use Rattle.pivotal_edges.proofs.earlier.Goals as goal

pub returns-then-level_a-level_b : goal.returns-then-level_a-level_b
returns-then-level_a-level_b c = by-level _ _ _ _ _ c.level_of-level_a.ensures c.level_of-level_b.ensures c.if-level_a-level_b.true

pub returns-then-from_a-from_b : goal.returns-then-from_a-from_b
returns-then-from_a-from_b c = by-from _ _ _ _ _ c.level_of-level_a.ensures c.level_of-level_b.ensures (omega arith) (omega arith) _ _ _ _ c.edge_of-i.ensures c.edge_of-j.ensures c.edge_from-from_a.ensures c.edge_from-from_b.ensures c.if-from_a-from_b.true

pub returns : goal.returns
returns c = by-to _ _ _ _ _ c.level_of-level_a.ensures c.level_of-level_b.ensures (omega arith) (omega arith) _ _ _ _ c.edge_of-i.ensures c.edge_of-j.ensures c.edge_from-from_a.ensures c.edge_from-from_b.ensures (omega arith) (omega arith) _ _ c.edge_to.ensures c.edge_to-2.ensures
