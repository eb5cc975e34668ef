-- `punelavoh_list` meets its contract: what the columns, the rows and the clearing were told to be, joined. Assumes nothing.
use Rattle.punelavoh.specs.Recorded.{rows-asked, columns-asked, list-called}
use Rattle.punelavoh.proofs.punelavoh_list.Goals as goal

pub write_rows-requires : goal.write_rows-requires
write_rows-requires c = rows-asked _ _ _ _ _ _ _ _ c.list_columns-r.ensures c.rows_told-n.ensures

pub clear_columns-requires : goal.clear_columns-requires
clear_columns-requires c = columns-asked _ _ _ _ _ _ _ c.list_columns-r.ensures

pub returns : goal.returns
returns c = list-called _ _ _ _ _ _ _ _ _ _ _ _ c.list_columns-r.ensures c.rows_told-n.ensures c.write_rows.ensures c.clear_columns.ensures
