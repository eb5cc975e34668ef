-- `try_pivotal` meets its contract. Assumes nothing.
use Rattle.search_state.specs.Settings.{setting_of}
use Rattle.junction_kbest.specs.Pivot.{pivot-asks, pivot-ended, pivot-refused, pivot-pushes, pivot-turn}
use Rattle.junction_kbest.proofs.try_pivotal.Goals as goal

pub enqueue_next_pivotal_edge-r-requires : goal.enqueue_next_pivotal_edge-r-requires
enqueue_next_pivotal_edge-r-requires c = pivot-asks _ _ _ _ _ _ _ _ _ _ _ c.requires.none _ c.requires

pub returns-in_default : goal.returns-in_default
returns-in_default c =
    rw c.in_default.is
    (pivot-refused (setting_of c.args.g.now) c.args.g.now.graph.edges.now c.args.g.now.chains.index.now c.args.g.now.chains.targets.now c.args.paths.now c.args.scores.now c.args.queue.now c.args.closed.now c.args.order.now c.args.marks.now c.args.p
    c.requires.none _ _ _ c.in_default.ensures)

pub returns-in_default-recovered : goal.returns-in_default-recovered
returns-in_default-recovered c =
    pivot-ended (setting_of c.args.g.now) c.args.g.now.graph.edges.now c.args.g.now.chains.index.now c.args.g.now.chains.targets.now c.args.paths.now c.args.scores.now c.args.queue.now c.args.closed.now c.args.order.now c.args.marks.now c.args.p
    c.requires.none _ _ (rw c.in_default-recovered.is at c.in-Ok.ensures)

pub push_turn-requires : goal.push_turn-requires
push_turn-requires c =
    pivot-pushes (setting_of c.args.g.now) c.args.g.now.graph.edges.now c.args.g.now.chains.index.now c.args.g.now.chains.targets.now c.args.paths.now c.args.scores.now c.args.queue.now c.args.closed.now c.args.order.now c.args.marks.now c.args.p
    c.requires.none _ _ _ (rw c.in-Some.is at c.in-Ok.ensures) _ c.requires

pub returns : goal.returns
returns c =
    pivot-turn (setting_of c.args.g.now) c.args.g.now.graph.edges.now c.args.g.now.chains.index.now c.args.g.now.chains.targets.now c.args.paths.now c.args.scores.now c.args.queue.now c.args.closed.now c.args.order.now c.args.marks.now c.args.p
    c.requires.none _ _ c.enqueue_next_pivotal_edge-r.auto.paths c.enqueue_next_pivotal_edge-r.auto.scores _ c.push_turn.auto.queue _ (rw c.in-Some.is at c.in-Ok.ensures) _ c.push_turn.ensures
