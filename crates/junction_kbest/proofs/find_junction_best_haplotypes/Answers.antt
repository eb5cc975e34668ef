-- `find_junction_best_haplotypes` meets its contract: the laws of Loop. Assumes nothing.
use Rattle.std.proofs.Common.{refl, sym, ◌∙◌, leb-true, leb-false}
use Rattle.junction_kbest.specs.Loop.{find-started, find-met, find-on, find-less, find-refused, find-ended}
use Rattle.junction_kbest.proofs.find_junction_best_haplotypes.Goals as goal

pub loop-paths-init : goal.loop-paths-init
loop-paths-init c = record { running = find-started _ _ _ _ _ _ _ _ _ _ _ _ _ _ _ _ c.requires _ _ _ _ _ _ _ c.begin-p.ensures c.begin-p.auto.paths c.begin-p.auto.scores c.begin-p.auto.queue c.begin-p.auto.walks; paths = refl; scores = refl; actives = refl; waiting = refl; closed-length = refl; marked = refl; walked = refl }

pub returns-in_default : goal.returns-in_default
returns-in_default c = find-refused _ _ _ _ _ _ _ _ _ _ _ _ _ _ _ _ _ c.loop-paths.invariant.running (leb-false _ _ (sym c.loop-paths-test.ensures)) _ _ _ _ _ _ _ (rw c.unwrap_err.ensures at c.turn-r.ensures)

pub returns-in_default-more : goal.returns-in_default-more
returns-in_default-more c = find-ended _ _ _ _ _ _ _ _ _ _ _ _ _ _ _ _ _ c.loop-paths.invariant.running (leb-false _ _ (sym c.loop-paths-test.ensures)) _ _ _ _ _ _ (rw c.in_default-more.is at c.in-Ok.ensures)

pub loop-paths-smaller : goal.loop-paths-smaller
loop-paths-smaller c = find-less _ _ _ _ _ _ _ _ _ _ _ _ _ _ _ _ _ c.loop-paths.invariant.running (leb-false _ _ (sym c.loop-paths-test.ensures)) _ _ _ _ _ _ _ (rw c.in-Some.is at c.in-Ok.ensures)

pub loop-paths-preserved : goal.loop-paths-preserved
loop-paths-preserved c = record { running = find-on _ _ _ _ _ _ _ _ _ _ _ _ _ _ _ _ _ c.loop-paths.invariant.running (leb-false _ _ (sym c.loop-paths-test.ensures)) _ _ _ _ _ _ _ (rw c.in-Some.is at c.in-Ok.ensures) _ c.turn-r.auto.walks; paths = c.turn-r.auto.paths ∙ c.loop-paths.invariant.paths; scores = c.turn-r.auto.scores ∙ c.loop-paths.invariant.scores; actives = c.turn-r.auto.active ∙ c.loop-paths.invariant.actives; waiting = c.turn-r.auto.queue ∙ c.loop-paths.invariant.waiting; closed-length = c.turn-r.auto.closed ∙ c.loop-paths.invariant.closed-length; marked = c.turn-r.auto.marks ∙ c.loop-paths.invariant.marked; walked = c.turn-r.auto.walks ∙ c.loop-paths.invariant.walked }

pub returns : goal.returns
returns c = find-met _ _ _ _ _ _ _ _ _ _ _ _ _ _ _ _ _ c.loop-paths.invariant.running (leb-true _ _ (sym c.loop-paths-test.ensures))
