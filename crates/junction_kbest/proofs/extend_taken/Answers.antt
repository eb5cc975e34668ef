-- `extend_taken` meets its contract: the steps of Steps, by what the callees answer. Assumes nothing.
use Rattle.junction_kbest.specs.Steps.{step-join-refused, step-closes, step-close-refused, step-extends, step-extend-refused, step-made}
use Rattle.junction_kbest.proofs.extend_taken.Goals as goal

pub returns-in_default : goal.returns-in_default
returns-in_default c = step-join-refused _ _ _ _ _ _ _ _ _ _ _ _ c.args.walks.now _ _ _ _ _ _ (rw c.unwrap_err.ensures at c.add_junction_tree-a.ensures)

pub close_at_sink-c-requires : goal.close_at_sink-c-requires
close_at_sink-c-requires c = step-closes _ _ _ _ _ _ _ _ _ _ _ _ c.args.walks.now _ _ _ _ _ _ c.in-Ok.ensures c.add_junction_tree-a.auto.paths c.add_junction_tree-a.auto.scores c.add_junction_tree-a.auto.active c.requires

pub returns-in_default-c : goal.returns-in_default-c
returns-in_default-c c = rw c.in_default-c.is (step-close-refused _ _ _ _ _ _ _ _ _ _ _ _ c.args.walks.now _ _ _ _ _ _ c.in-Ok.ensures c.add_junction_tree-a.auto.paths c.add_junction_tree-a.auto.scores c.add_junction_tree-a.auto.active _ _ _ _ _ c.in_default-c.ensures)

pub process_vertex-e-requires : goal.process_vertex-e-requires
process_vertex-e-requires c = step-extends _ _ _ _ _ _ _ _ _ _ _ _ c.args.walks.now _ _ _ _ _ _ c.in-Ok.ensures c.add_junction_tree-a.auto.paths c.add_junction_tree-a.auto.scores c.add_junction_tree-a.auto.active _ _ _ _ _ c.in-Ok-c.ensures c.close_at_sink-c.auto.paths c.close_at_sink-c.auto.scores c.requires

pub returns-in_default-e : goal.returns-in_default-e
returns-in_default-e c = step-extend-refused _ _ _ _ _ _ _ _ _ _ _ _ c.args.walks.now _ _ _ _ _ _ c.in-Ok.ensures c.add_junction_tree-a.auto.paths c.add_junction_tree-a.auto.scores c.add_junction_tree-a.auto.active _ _ _ _ _ c.in-Ok-c.ensures c.close_at_sink-c.auto.paths c.close_at_sink-c.auto.scores _ _ _ _ (rw c.unwrap_err-in_default-e.ensures at c.process_vertex-e.ensures)

pub returns : goal.returns
returns c = step-made _ _ _ _ _ _ _ _ _ _ _ _ c.args.walks.now _ _ _ _ _ _ c.in-Ok.ensures c.add_junction_tree-a.auto.paths c.add_junction_tree-a.auto.scores c.add_junction_tree-a.auto.active _ _ _ _ _ c.in-Ok-c.ensures c.close_at_sink-c.auto.paths c.close_at_sink-c.auto.scores _ _ _ _ c.in-Ok-e.ensures
