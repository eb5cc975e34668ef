use Rattle.std.proofs.Common.{Some, sym, ap, ◌∙◌, ◌+◌, get_or, eqb, arith}
use Rattle.closed_paths.specs.Split.{split-none, split-some, place-some, place-none}
use Rattle.closed_paths.specs.Recover.{found_below}
use Rattle.closed_paths.proofs.pivotal.split_place.Goals as goal

pub returns-in_err-e : goal.returns-in_err-e
returns-in_err-e c = c.from_residual.ensures ∙ split-none _ _ _ (sym c.last_into.ensures ∙ c.in_err-e.was)

pub returns-in_err-i : goal.returns-in_err-i
returns-in_err-i c =
    let ts = c.args.targets.now in
    let d = split-some ts c.args.v c.args.walk.now c.in_ok-e.e (sym c.last_into.ensures ∙ c.in_ok-e.was) in
    absurd (omega (arith, place-none c.in_ok-e.e c.args.walk.now (sym c.first_place.ensures ∙ c.in_err-i.was), found_below (λ e. eqb (get_or ts e 0) c.args.v) c.args.walk.now c.in_ok-e.e d.0))

pub returns : goal.returns
returns c =
    let d = split-some c.args.targets.now c.args.v c.args.walk.now c.in_ok-e.e (sym c.last_into.ensures ∙ c.in_ok-e.was) in
    ap (λ i. Some (i + 1)) (place-some c.in_ok-e.e c.args.walk.now c.in_ok-i.i (sym c.first_place.ensures ∙ c.in_ok-i.was)) ∙ d.1
