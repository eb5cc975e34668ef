use Rattle.std.proofs.Common.{refl}
use Rattle.graph_kmers.specs.Index.{finding-finds}
use Rattle.junction_trees.specs.Stretches.{left-start, left-missing, walk-find, left-asks, left-none, left-passing, left-next, left-stop, left-ending, left_end, left-end-stop}
use Rattle.junction_trees.proofs.walk_stretch.Goals as goal

pub find_kmer-requires : goal.find_kmer-requires
find_kmer-requires c = finding-finds _ c.requires.2 (walk-find c.requires.0 c.requires.1)

pub returns-in_default : goal.returns-in_default
returns-in_default c = left-missing c.requires.0 c.requires.1 c.in_default.ensures

pub loop-j-init : goal.loop-j-init
loop-j-init c = left-start c.requires.0 c.requires.1 _ c.in-Some.ensures.0

pub next_edge-requires : goal.next_edge-requires
next_edge-requires c = left-asks c.requires.0 c.requires.1 _ c.in-Some.ensures.0 c.loop-j.invariant c.loop-j-test.true

pub returns-in_default-next_edge : goal.returns-in_default-next_edge
returns-in_default-next_edge c = left-none c.requires.0 c.requires.1 _ c.in-Some.ensures.0 c.loop-j.invariant c.loop-j-test.true _ c.in_default-next_edge.ensures refl

pub extend_junction_threading_by_one-r-requires : goal.extend_junction_threading_by_one-r-requires
extend_junction_threading_by_one-r-requires c = left-passing c.requires.0 c.requires.1 _ c.in-Some.ensures.0 c.loop-j.invariant c.loop-j-test.true _ c.in-Some-next_edge.ensures _ refl

pub returns-in_default-r : goal.returns-in_default-r
returns-in_default-r c = left-stop c.requires.0 c.requires.1 _ c.in-Some.ensures.0 c.loop-j.invariant c.loop-j-test.true _ c.in-Some-next_edge.ensures _ refl _ _ _ _ c.extend_junction_threading_by_one-r.ensures _ c.unwrap_err.ensures

pub loop-j-preserved : goal.loop-j-preserved
loop-j-preserved c = left-next c.requires.0 c.requires.1 _ c.in-Some.ensures.0 c.loop-j.invariant c.loop-j-test.true _ c.in-Some-next_edge.ensures _ refl _ _ _ _ c.extend_junction_threading_by_one-r.ensures _ c.in-Ok.is c.extend_junction_threading_by_one-r.auto.nodes c.extend_junction_threading_by_one-r.auto.active

pub take_symbolic_edge-r-requires : goal.take_symbolic_edge-r-requires
take_symbolic_edge-r-requires c = left-ending c.requires.0 c.requires.1 _ c.in-Some.ensures.0 c.loop-j.invariant

pub returns-in_default-r-2 : goal.returns-in_default-r-2
returns-in_default-r-2 c = left-end-stop c.requires.0 c.requires.1 _ c.in-Some.ensures.0 c.loop-j.invariant c.loop-j-test.false _ _ _ c.take_symbolic_edge-r.ensures _ c.unwrap_err-in_default-r-2.ensures

pub returns : goal.returns
returns c = left_end c.requires.0 c.requires.1 _ c.in-Some.ensures.0 c.loop-j.invariant c.loop-j-test.false _ _ _ c.take_symbolic_edge-r.ensures _ c.in-Ok-r.is
