use Rattle.std.proofs.Common.{◌∙◌}
use Rattle.path_list.specs.Tails.{base-is}
use Rattle.path_list.proofs.lists.Lists.end_base.Goals as goal

pub returns : goal.returns
returns c = c.byte_at.ensures ∙ base-is _ _ _ _ _ c.requires _ c.edge_to-v.ensures _ c.kmer_place.ensures
