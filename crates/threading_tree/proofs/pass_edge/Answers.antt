use Rattle.std.proofs.Common.{arith}
use Rattle.threading_node.specs.Ends.{ends_of}
use Rattle.threading_tree.specs.Pass.{stepping-root, pass-refused, pass_on, pass-both}
use Rattle.threading_tree.proofs.pass_edge.Goals as goal

pub open_where-r-requires : goal.open_where-r-requires
open_where-r-requires c = stepping-root _ _ c.args.edge.to 2 1 _ _ _ (omega arith) c.requires

pub returns-in_default : goal.returns-in_default
returns-in_default c = pass-refused _ (ends_of c.args.edge) _ _ _ c.args.warrants c.args.only _ _ _ c.open_where-r.ensures _ c.in_default.is

pub take_unless-requires : goal.take_unless-requires
take_unless-requires c = pass_on _ (ends_of c.args.edge) _ _ _ c.args.warrants c.args.only _ _ _ c.open_where-r.ensures _ c.in-Ok.is c.requires

pub returns : goal.returns
returns c = pass-both _ (ends_of c.args.edge) _ _ _ c.args.warrants c.args.only _ _ _ c.open_where-r.ensures _ c.in-Ok.is _ _ _ c.requires c.take_unless.ensures
