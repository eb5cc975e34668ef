-- `reference_bases` meets its contract. Assumes nothing.
use Rattle.std.proofs.Common.{rules, tests, ◌∙◌}
use Rattle.std.proofs.lemmas.Iterator.{YieldsList-from_slice}
use Rattle.std.proofs.lemmas.Iterator.Search.{all_from_yields_List}
use Rattle.definition.specs.Limits.{is_base}
use Rattle.limits.specs.Loops.{every}
use Rattle.limits.proofs.reference_bases.Goals as goal

pub returns : goal.returns
returns c =
    all_from_yields_List is_base _ _ c.all.result c.all.ensures.ran (YieldsList-from_slice c.args.reference.now cc) (λ x b q k. search (rules, tests)) ∙ every c.args.reference.now
