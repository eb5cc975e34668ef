use Rattle.std.proofs.Common.{arith}
use Rattle.threading_tree.specs.Join.{join-search, join-turned, root-fits, raised-in, raised-fits, join-raised, new_in, join-room, join-new}
use Rattle.threading_tree.proofs.add_tree_if_necessary.Goals as goal

pub get_and_increment_root-r-requires : goal.get_and_increment_root-r-requires
get_and_increment_root-r-requires c = c.requires.openable

pub returns-in_default : goal.returns-in_default
returns-in_default c = join-turned _ _ _ _ _ _ _ c.requires _ _ c.get_and_increment_root-r.ensures _ c.unwrap_err.ensures

pub find_active-requires : goal.find_active-requires
find_active-requires c = join-search _ _ _ _ _ _ _ c.requires

pub raise_pair-requires : goal.raise_pair-requires
raise_pair-requires c = (
  raised-in _ _ _ _ _ _ _ c.requires _ _ c.get_and_increment_root-r.ensures _ c.in-Ok.is _ c.in-Some.ensures.0 c.in-Some.ensures.1,
  raised-fits _ _ _ _ _ _ _ c.requires _ _ c.get_and_increment_root-r.ensures _ c.in-Ok.is _ c.in-Some.ensures.0 c.in-Some.ensures.1,
)

pub returns-in-Some : goal.returns-in-Some
returns-in-Some c = join-raised _ _ _ _ _ _ _ c.requires _ _ c.get_and_increment_root-r.ensures _ c.in-Ok.is _ c.in-Some.ensures.0 c.in-Some.ensures.1 _ c.raise_pair.ensures

pub put_pair-requires : goal.put_pair-requires
put_pair-requires c = (
  join-room _ _ _ _ _ _ _ c.requires _ _ c.get_and_increment_root-r.ensures _ c.in-Ok.is c.in_default-find_active.ensures,
  root-fits _ _ _ _ _ _ _ c.requires _ _ c.get_and_increment_root-r.ensures _ c.in-Ok.is,
)

pub overflow_add-result : goal.overflow_add-result
overflow_add-result c =
    let h = new_in _ _ _ _ _ _ _ c.requires _ _ c.get_and_increment_root-r.ensures _ c.in-Ok.is c.in_default-find_active.ensures in
    let g = c.requires.openable.wide.few in
    record { fits = omega arith }

pub returns : goal.returns
returns c = join-new _ _ _ _ _ _ _ c.requires _ _ c.get_and_increment_root-r.ensures _ c.in-Ok.is c.in_default-find_active.ensures _ c.put_pair.ensures
