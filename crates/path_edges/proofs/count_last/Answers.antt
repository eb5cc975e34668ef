use Rattle.std.proofs.Common.{[], sym, ◌∙◌, arith}
use Rattle.path_store.specs.Walk.{bit-is, hits-nil, hits-step}
use Rattle.path_edges.proofs.count_last.Goals as goal

pub returns-in-Some : goal.returns-in-Some
returns-in-Some c =
    let ts = c.args.targets.now in
    let v = c.args.v in
    rw c.in-Some.is (omega (arith, c.from.ensures ∙ bit-is _, hits-step ts v c.in-Some.e [], hits-nil ts v))

pub returns-in-None : goal.returns-in-None
returns-in-None c = rw c.in-None.is (sym (hits-nil c.args.targets.now c.args.v))
