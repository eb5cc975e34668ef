use Rattle.std.proofs.Common.{ap, ◌∙◌, arith}
use Rattle.path_store.specs.declared.records.PathRecord.{PathRecord}
use Rattle.path_store.specs.Cells.{parent_of}
use Rattle.path_store.specs.Climbs.{stepped, climbs-on}
use Rattle.path_growth.specs.Cut.{links-climbs, links-inside, cutting-next, cutting-found, cutting-none}
use Rattle.path_growth.proofs.cut_owner.Goals as goal

pub at-requires : goal.at-requires
at-requires c =
    let x = (stepped c.loop-link.invariant.2 c.in-Some.ensures.steps).next in
    links-inside _ _ _ c.requires.0 _ (let r = c.requires.0.rises c.loop-link.link-iterator.path c.loop-link.invariant.3.low in let l = c.loop-link.invariant.3.low in let p = x.1 in omega arith)

pub returns-then-at-k : goal.returns-then-at-k
returns-then-at-k c =
    let x = (stepped c.loop-link.invariant.2 c.in-Some.ensures.steps).next in
    (x.0 ∙ cutting-found _ _ _ _ c.requires.0 c.requires.1 _ c.loop-link.invariant.3 _ x.1 (omega (arith, ap (λ (y : PathRecord). y.edges) c.at.ensures, c.if-at-k.true)), ap (λ y. parent_of c.args.paths.records.now y) x.0 ∙ x.1)

pub loop-link-preserved : goal.loop-link-preserved
loop-link-preserved c =
    let x = stepped c.loop-link.invariant.2 c.in-Some.ensures.steps in
    (climbs-on (links-climbs c.requires.0) c.loop-link.invariant.3.low x, tt, x.paths, rw x.next.2 (cutting-next _ _ _ _ c.requires.0 c.requires.1 _ c.loop-link.invariant.3 _ x.next.1 (omega (arith, ap (λ (y : PathRecord). y.edges) c.at.ensures, c.if-at-k.false))))

pub returns : goal.returns
returns c = cutting-none _ _ _ _ c.requires.0 c.requires.1 _ c.loop-link.invariant.3 c.requires.2 (stepped c.loop-link.invariant.2 c.in-None.ensures.steps).next
