use Rattle.std.proofs.Common.{refl, arith}
use Rattle.path_list.specs.List.{ready_of, filed-of, known_of, placed_of, list_of}
use Rattle.path_list.proofs.write_list.Goals as goal

pub rank_paths-requires : goal.rank_paths-requires
rank_paths-requires c = ((ready_of _ _ _ _ _ _ _ _ _ _ _ _ _ _ _ _ _ _ _ c.requires _ _ refl c.write_walks.ensures), c.requires.rank_room)

pub write_columns-requires : goal.write_columns-requires
write_columns-requires c = ((placed_of _ _ _ _ _ _ _ _ _ _ _ _ _ _ _ _ _ _ _ c.requires _ _ c.rank_paths.auto.rank c.rank_paths.ensures), known_of _ _ _ _ _ _ _ _ _ _ _ _ _ _ _ _ _ _ _ c.requires, c.requires.scored-room, c.requires.closings-room, c.requires.lengths-room)

pub write_spellings-requires : goal.write_spellings-requires
write_spellings-requires c = ((placed_of _ _ _ _ _ _ _ _ _ _ _ _ _ _ _ _ _ _ _ c.requires _ _ c.rank_paths.auto.rank c.rank_paths.ensures), (ready_of _ _ _ _ _ _ _ _ _ _ _ _ _ _ _ _ _ _ _ c.requires _ _ refl c.write_walks.ensures), c.requires.spellings-room)

pub write_origins-requires : goal.write_origins-requires
write_origins-requires c = ((placed_of _ _ _ _ _ _ _ _ _ _ _ _ _ _ _ _ _ _ _ c.requires _ _ c.rank_paths.auto.rank c.rank_paths.ensures), (filed-of _ _ _ _ _ _ _ _ _ _ _ _ _ _ _ _ _ _ _ c.requires _ _ refl c.write_walks.ensures), omega arith, c.requires.sequences-room)

pub write_origins-requires-2 : goal.write_origins-requires-2
write_origins-requires-2 c = ((placed_of _ _ _ _ _ _ _ _ _ _ _ _ _ _ _ _ _ _ _ c.requires _ _ c.rank_paths.auto.rank c.rank_paths.ensures), (filed-of _ _ _ _ _ _ _ _ _ _ _ _ _ _ _ _ _ _ _ c.requires _ _ refl c.write_walks.ensures), omega arith, c.requires.places-room)

pub returns : goal.returns
returns c = list_of _ _ _ _ _ _ _ _ _ _ _ _ _ _ _ _ _ _ _ c.requires _ _ refl c.write_walks.ensures _ c.rank_paths.auto.rank c.rank_paths.ensures _ _ _ _ _ _ c.write_columns.ensures _ _ c.write_spellings.ensures _ _ c.write_origins.ensures _ _ c.write_origins-2.ensures
