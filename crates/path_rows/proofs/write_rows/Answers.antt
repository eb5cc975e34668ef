use Rattle.std.proofs.Common.{◌≡◌, arith}
use Rattle.path_rows.specs.Rows.{written, filled}
use Rattle.path_rows.proofs.write_rows.Goals as goal

pub returns : goal.returns
returns c =
    let n : c.loop-i.i ≡ c.args.n = omega arith in
    let e : c.loop-i.rows ≡ written c.args.scores.now c.args.closings.now c.args.edges.now c.args.n c.args.rows.now = rw n at c.loop-i.invariant in
    rw e (filled c.args.scores.now c.args.closings.now c.args.edges.now c.args.n c.args.rows.now c.requires.0)
