-- `path_extensions::try_offer` meets its contract.
use Rattle.path_extensions.specs.Offer.{tried-refused, rule-table, tried-kept, tried-lost}
use Rattle.path_extensions.proofs.try_offer.Goals as goal

pub returns-in_default : goal.returns-in_default
returns-in_default c = tried-refused c.requires c.extend_by_offer-step.ensures c.in_default.is

pub repeat_rule-requires : goal.repeat_rule-requires
repeat_rule-requires c = rule-table c.requires c.extend_by_offer-step.ensures c.in-Ok.is _ _ c.requires.stands.here

pub returns-then-repeat_rule : goal.returns-then-repeat_rule
returns-then-repeat_rule c = tried-kept c.requires c.extend_by_offer-step.ensures c.in-Ok.is c.repeat_rule.ensures c.if-repeat_rule.true

pub returns : goal.returns
returns c = tried-lost c.requires c.extend_by_offer-step.ensures c.in-Ok.is c.repeat_rule.ensures c.if-repeat_rule.false
