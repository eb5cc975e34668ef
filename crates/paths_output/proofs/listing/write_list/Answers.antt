-- `write_list` meets its contract. The invariant: i lines are written, the others are still to come. Assumes nothing.
use Rattle.std.proofs.Common.{arith, ◌∙◌, length-append}
use Rattle.definition.specs.Text.{first_line}
use Rattle.paths_output.specs.Listing.{lines_from, row_fits, list-most, list-start, list-room, list-next, list-end}
use Rattle.paths_output.proofs.listing.write_list.Goals as goal

pub overflow_cast-paths : goal.overflow_cast-paths
overflow_cast-paths c = let p = c.requires.0.paths-most in omega arith

pub write_first-at-requires : goal.write_first-at-requires
write_first-at-requires c =
    let m = list-most c.requires.0 (λ i. (omega (arith, (c.type_inv.closings i).fits))) c.args.pushes
    c.ranges.pushes.fits in
    let a = length-append (first_line c.args.paths c.args.pushes)
    (lines_from c.args.scores.now c.args.closings.now c.args.edges.now c.args.bases.now c.args.k 0 c.args.paths)
    in
    omega (arith, c.requires.1)

pub loop-i-init : goal.loop-i-init
loop-i-init c =
    list-start c.args.scores.now c.args.closings.now c.args.edges.now c.args.bases.now c.args.k
    c.args.paths c.args.pushes
    (let m = list-most c.requires.0 (λ i. (omega (arith, (c.type_inv.closings i).fits))) c.args.pushes c.ranges.pushes.fits in omega (arith, c.requires.1))
    c.write_first-at.ensures c.write_first-at.auto.out

pub write_row-at-requires : goal.write_row-at-requires
write_row-at-requires c =
    (row_fits c.requires.0 _ c.loop-i-test.true, list-room c.args.scores.now c.args.closings.now c.args.edges.now c.args.bases.now c.args.k c.args.paths c.loop-i.invariant c.loop-i-test.true)

pub loop-i-preserved : goal.loop-i-preserved
loop-i-preserved c =
    list-next c.args.scores.now c.args.closings.now c.args.edges.now c.args.bases.now c.args.k
    c.args.paths c.loop-i.invariant c.loop-i-test.true
    c.write_row-at.ensures c.write_row-at.auto.out

pub shape_of-out : goal.shape_of-out
shape_of-out c = c.loop-i.invariant.begun.same ∙ c.write_first-at.auto.out

pub returns : goal.returns
returns c =
    list-end c.args.scores.now c.args.closings.now c.args.edges.now c.args.bases.now c.args.k
    c.args.paths c.loop-i.invariant c.args.pushes c.loop-i-test.false
    (let m = list-most c.requires.0 (λ i. (omega (arith, (c.type_inv.closings i).fits))) c.args.pushes c.ranges.pushes.fits in omega (arith, c.requires.1))
    c.write_first-at.ensures
