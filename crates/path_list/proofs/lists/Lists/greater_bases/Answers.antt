use Rattle.std.proofs.Common.{length-append}
use Rattle.std.proofs.lemmas.Slice.Zip.{zip_turn, zip_end}
use Rattle.path_list.specs.Tails.{spelt-at, comparing-start, comparing-end, comparing-differ, comparing-next}
use Rattle.path_list.proofs.lists.Lists.greater_bases.Goals as goal

pub loop-d-init : goal.loop-d-init
loop-d-init c = comparing-start _ _ _

pub end_base-x-requires : goal.end_base-x-requires
end_base-x-requires c =
    let t = zip_turn c.args.a.now c.args.b.now c.loop-d.yielded _ _ c.next.new.self _ (cc) (cc) c.loop-d.yielded_by _ c.in-Some.is c.next.ensures.steps in
    rw (t.2 0) (spelt-at _ _ _ _ _ _ c.requires.0 _ t.0)

pub end_base-y-requires : goal.end_base-y-requires
end_base-y-requires c =
    let t = zip_turn c.args.a.now c.args.b.now c.loop-d.yielded _ _ c.next.new.self _ (cc) (cc) c.loop-d.yielded_by _ c.in-Some.is c.next.ensures.steps in
    rw (t.3 0) (spelt-at _ _ _ _ _ _ c.requires.1 _ t.1)

pub returns-then-x-y : goal.returns-then-x-y
returns-then-x-y c =
    let t = zip_turn c.args.a.now c.args.b.now c.loop-d.yielded _ _ c.next.new.self _ (cc) (cc) c.loop-d.yielded_by _ c.in-Some.is c.next.ensures.steps in
    comparing-differ _ _ _ _ c.loop-d.invariant t.0 t.1 _ _ (rw (t.2 0) at c.end_base-x.ensures) (rw (t.3 0) at c.end_base-y.ensures) c.if-x-y.true

pub loop-d-preserved : goal.loop-d-preserved
loop-d-preserved c =
    let t = zip_turn c.args.a.now c.args.b.now c.loop-d.yielded _ _ c.next.new.self _ (cc) (cc) c.loop-d.yielded_by _ c.in-Some.is c.next.ensures.steps in
    rw length-append
    (comparing-next _ _ _ _ c.loop-d.invariant t.0 t.1 _ _ (rw (t.2 0) at c.end_base-x.ensures) (rw (t.3 0) at c.end_base-y.ensures) c.if-x-y.false)

pub returns : goal.returns
returns c =
    comparing-end _ _ _ _ c.loop-d.invariant
    (zip_end c.args.a.now c.args.b.now c.loop-d.yielded _ _ c.next.new.self _ (cc) (cc) c.loop-d.yielded_by c.in-None.is c.next.ensures.steps)
