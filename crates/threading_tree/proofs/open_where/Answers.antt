use Rattle.std.proofs.Common.{refl}
use Rattle.threading_node.specs.Ends.{ends}
use Rattle.threading_tree.specs.Pass.{open-joinable, open-not, open-does}
use Rattle.threading_tree.proofs.open_where.Goals as goal

pub add_tree_if_necessary-requires : goal.add_tree_if_necessary-requires
add_tree_if_necessary-requires c = open-joinable _ (ends c.args.v c.args.v) _ _ _ c.args.warrants c.requires

pub returns-then-warrants : goal.returns-then-warrants
returns-then-warrants c = open-does _ (ends c.args.v c.args.v) _ _ _ c.args.warrants c.requires c.if-warrants.true _ _ _ c.add_tree_if_necessary.ensures c.add_tree_if_necessary.auto.nodes c.add_tree_if_necessary.auto.active

pub returns : goal.returns
returns c = open-not _ (ends c.args.v c.args.v) _ _ _ c.args.warrants c.requires refl c.if-warrants.false
