use Rattle.std.proofs.Common.{sym, ◌∙◌}
use Rattle.pivotal_edges.specs.Queue.{placing-start, placing-end, placing-fits, placing-here, placing-next}
use Rattle.pivotal_edges.proofs.place.Goals as goal

pub loop-p-init : goal.loop-p-init
loop-p-init c = placing-start c.requires

pub earlier-requires : goal.earlier-requires
earlier-requires c = (placing-fits c.requires c.loop-p.invariant c.loop-p-test.true, c.requires.named)

pub returns-then-not-earlier : goal.returns-then-not-earlier
returns-then-not-earlier c = placing-here c.requires c.loop-p.invariant c.loop-p-test.true (sym c.earlier.ensures ∙ c.if-not-earlier.true)

pub loop-p-preserved : goal.loop-p-preserved
loop-p-preserved c = placing-next c.requires c.loop-p.invariant c.loop-p-test.true (sym c.earlier.ensures ∙ c.if-not-earlier.false)

pub returns : goal.returns
returns c = placing-end c.requires c.loop-p.invariant c.loop-p-test.false
