-- `column_climbs` meets its contract. The invariant: what is left to read decides as the whole does, and the last entry read is finite. Assumes nothing.
use Rattle.std.proofs.lemmas.Bool.{not-true, not-false}
use Rattle.kbest_haplotype.specs.Columns.{climbing-start, climbing-stop, climbing-next, climbing-end}
use Rattle.kbest_haplotype.proofs.column_climbs.Goals as goal

pub loop-place-init : goal.loop-place-init
loop-place-init c = climbing-start _

pub returns-then-not-climbs : goal.returns-then-not-climbs
returns-then-not-climbs c = climbing-stop _ _ _ c.loop-place.invariant c.loop-place-test.true _ c.climbs.ensures (not-true _ c.if-not-climbs.true-raw)

pub loop-place-preserved : goal.loop-place-preserved
loop-place-preserved c = climbing-next _ _ _ c.loop-place.invariant c.loop-place-test.true _ c.climbs.ensures (not-false _ c.if-not-climbs.false-raw)

pub returns : goal.returns
returns c = climbing-end _ _ _ c.loop-place.invariant c.loop-place-test.false
