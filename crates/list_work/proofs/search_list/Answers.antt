-- `search_list` meets its contract: a refusal is the search's, and the list is that of the state in which it ends. Assumes nothing.
use Rattle.std.proofs.Common.{refl, ◌∙◌}
use Rattle.list_work.specs.Search.{finds-read, found-read, small, chain-asks, find-asks, search-stop, list-asks, told-asks, search-done}
use Rattle.list_work.proofs.search_list.Goals as goal

pub search_setting-g-requires : goal.search_setting-g-requires
search_setting-g-requires c = small c.requires

pub lay_chains-requires : goal.lay_chains-requires
lay_chains-requires c = chain-asks c.requires

pub find_junction_best_haplotypes-r-requires : goal.find_junction_best_haplotypes-r-requires
find_junction_best_haplotypes-r-requires c = finds-read c.search_setting-g.ensures.slices (find-asks c.requires c.lay_chains.ensures c.lay_chains.auto.index c.search_setting-g.ensures.numbers.is c.search_setting-g.ensures.numbers.least)

pub shape_of-vertices-in_default : goal.shape_of-vertices-in_default
shape_of-vertices-in_default c = c.lay_chains.auto.vertices

pub shape_of-index-in_default : goal.shape_of-index-in_default
shape_of-index-in_default c = c.lay_chains.auto.index

pub shape_of-targets-in_default : goal.shape_of-targets-in_default
shape_of-targets-in_default c = c.lay_chains.auto.targets

pub shape_of-paths-in_default : goal.shape_of-paths-in_default
shape_of-paths-in_default c = c.find_junction_best_haplotypes-r.auto.paths

pub shape_of-scores-in_default : goal.shape_of-scores-in_default
shape_of-scores-in_default c = c.find_junction_best_haplotypes-r.auto.scores

pub shape_of-active-in_default : goal.shape_of-active-in_default
shape_of-active-in_default c = c.find_junction_best_haplotypes-r.auto.active

pub shape_of-queue-in_default : goal.shape_of-queue-in_default
shape_of-queue-in_default c = c.find_junction_best_haplotypes-r.auto.queue

pub shape_of-closed-in_default : goal.shape_of-closed-in_default
shape_of-closed-in_default c = c.find_junction_best_haplotypes-r.auto.closed

pub shape_of-order-in_default : goal.shape_of-order-in_default
shape_of-order-in_default c = c.find_junction_best_haplotypes-r.auto.order

pub shape_of-marks-in_default : goal.shape_of-marks-in_default
shape_of-marks-in_default c = c.find_junction_best_haplotypes-r.auto.marks

pub shape_of-walks-in_default : goal.shape_of-walks-in_default
shape_of-walks-in_default c = c.find_junction_best_haplotypes-r.auto.walks

pub returns-in_default : goal.returns-in_default
returns-in_default c = search-stop c.requires c.lay_chains.ensures c.lay_chains.auto.index c.search_setting-g.ensures.numbers.is c.search_setting-g.ensures.numbers.least (found-read c.search_setting-g.ensures.slices c.find_junction_best_haplotypes-r.ensures) c.unwrap_err.ensures refl

pub write_list-requires : goal.write_list-requires
write_list-requires c = list-asks c.requires c.lay_chains.ensures c.lay_chains.auto.index c.search_setting-g.ensures.numbers.is c.search_setting-g.ensures.numbers.least (found-read c.search_setting-g.ensures.slices c.find_junction_best_haplotypes-r.ensures) c.in-Ok.is _ _ c.find_junction_best_haplotypes-r.auto.walks c.find_junction_best_haplotypes-r.auto.active

pub found_answer-requires : goal.found_answer-requires
found_answer-requires c = told-asks c.requires c.lay_chains.ensures c.lay_chains.auto.index c.search_setting-g.ensures.numbers.is c.search_setting-g.ensures.numbers.least (found-read c.search_setting-g.ensures.slices c.find_junction_best_haplotypes-r.ensures) c.in-Ok.is

pub shape_of-row_scores : goal.shape_of-row_scores
shape_of-row_scores c = c.write_list.auto.row_scores

pub shape_of-row_closings : goal.shape_of-row_closings
shape_of-row_closings c = c.write_list.auto.row_closings

pub shape_of-row_edges : goal.shape_of-row_edges
shape_of-row_edges c = c.write_list.auto.row_edges

pub shape_of-out_bases : goal.shape_of-out_bases
shape_of-out_bases c = c.write_list.auto.out_bases

pub shape_of-sequences : goal.shape_of-sequences
shape_of-sequences c = c.write_list.auto.sequences

pub shape_of-places : goal.shape_of-places
shape_of-places c = c.write_list.auto.places

pub shape_of-vertices : goal.shape_of-vertices
shape_of-vertices c = c.lay_chains.auto.vertices

pub shape_of-index : goal.shape_of-index
shape_of-index c = c.lay_chains.auto.index

pub shape_of-targets : goal.shape_of-targets
shape_of-targets c = c.lay_chains.auto.targets

pub shape_of-paths : goal.shape_of-paths
shape_of-paths c = c.find_junction_best_haplotypes-r.auto.paths

pub shape_of-scores : goal.shape_of-scores
shape_of-scores c = c.find_junction_best_haplotypes-r.auto.scores

pub shape_of-active : goal.shape_of-active
shape_of-active c = c.write_list.auto.rank ∙ c.find_junction_best_haplotypes-r.auto.active

pub shape_of-queue : goal.shape_of-queue
shape_of-queue c = c.find_junction_best_haplotypes-r.auto.queue

pub shape_of-closed : goal.shape_of-closed
shape_of-closed c = c.find_junction_best_haplotypes-r.auto.closed

pub shape_of-order : goal.shape_of-order
shape_of-order c = c.find_junction_best_haplotypes-r.auto.order

pub shape_of-marks : goal.shape_of-marks
shape_of-marks c = c.find_junction_best_haplotypes-r.auto.marks

pub shape_of-walks : goal.shape_of-walks
shape_of-walks c = c.write_list.auto.walks ∙ c.find_junction_best_haplotypes-r.auto.walks

pub returns : goal.returns
returns c = search-done c.requires c.lay_chains.ensures c.lay_chains.auto.index c.search_setting-g.ensures.numbers.is c.search_setting-g.ensures.numbers.least (found-read c.search_setting-g.ensures.slices c.find_junction_best_haplotypes-r.ensures) c.in-Ok.is c.write_list.ensures c.found_answer.ensures
