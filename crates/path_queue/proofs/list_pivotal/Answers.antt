use Rattle.std.proofs.Common.{rules, arith}
use Rattle.path_queue.specs.Begin.{no-pivotal, some-pivotal, marks-filled}
use Rattle.path_queue.proofs.list_pivotal.Goals as goal

pub returns-then-not-recovery : goal.returns-then-not-recovery
returns-then-not-recovery c = no-pivotal c.requires _ c.if-not-recovery.true

pub returns : goal.returns
returns c =
    some-pivotal c.requires _ _ _ _ _ _ _ c.if-not-recovery.false c.create_pivotal_edges_in_topological_order-n.auto.out c.create_pivotal_edges_in_topological_order-n.ensures
    (marks-filled _ _ _ _ (omega (arith, c.requires.marks-room, c.create_pivotal_edges_in_topological_order-n.auto.visited, c.fill.ensures.len)) (c.fill-2.ensures.after (λ y e. search rules)))
