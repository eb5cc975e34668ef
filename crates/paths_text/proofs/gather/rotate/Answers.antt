-- `rotate` meets its contract: three reversals. Assumes nothing.
use Rattle.paths_text.specs.Moves.{rotated, part_turned}
use Rattle.std.proofs.Common.{arith}
use Rattle.paths_text.proofs.gather.rotate.Goals as goal

pub returns : goal.returns
returns c =
    let a = c.args.a in
    let m = c.args.m in
    let e = c.args.e in
    rotated c.args.text.now a m e c.requires.0 c.requires.1 c.requires.2 _ _ _
    (part_turned a m c.args.text.now c.reverse.new.self c.requires.0 c.reverse.ensures.after)
    (part_turned m e _ c.reverse-2.new.self c.requires.1 c.reverse-2.ensures.after)
    (part_turned a e _ c.reverse-3.new.self (omega (arith, c.requires.0, c.requires.1)) c.reverse-3.ensures.after)
