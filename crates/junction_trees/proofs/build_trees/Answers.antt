use Rattle.junction_trees.specs.Roots.{finding-kept}
use Rattle.junction_trees.specs.Trees.{gather-walks, gather-done}
use Rattle.junction_trees.proofs.build_trees.Goals as goal

pub generate_junction_trees-requires : goal.generate_junction_trees-requires
generate_junction_trees-requires c = (gather-walks c.requires.0 _ c.clear_roots.ensures, finding-kept c.clear_roots.ensures.kept _ _ c.requires.1)

pub returns : goal.returns
returns c = gather-done c.requires.0 _ c.clear_roots.ensures _ _ _ _ c.generate_junction_trees.ensures
