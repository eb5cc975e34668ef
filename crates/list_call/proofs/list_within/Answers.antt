-- `list_within` meets its contract: the work over the parts told, each of which is cleared afterwards. Assumes nothing.
use Rattle.std.proofs.Common.{sym, length-take-le}
use Rattle.list_interface.specs.Handed.{handed}
use Rattle.std.specs.Float.Ieee.{of_bits, of_fields}
use Rattle.list_call.specs.Outcome.{float_zero}
use Rattle.list_call.specs.Parts.{maxima-within, maxima-told, in-limits, room-told, part-cleared, parts-lent, all-cleared}
use Rattle.list_call.proofs.list_within.Goals as goal

pub workspace_told-told-requires : goal.workspace_told-told-requires
workspace_told-told-requires c =
    maxima-within c.args.input.settings _ c.maxima.ensures (in-limits _ c.requires.checks)

pub slice_bounds-work-end : goal.slice_bounds-work-end
slice_bounds-work-end c =
    let k = c.workspace_told-told in
    let m = room-told _ _ _ c.requires _ (maxima-told c.args.input.settings _ c.maxima.ensures _ k.ensures) in
    m.vertices

pub slice_bounds-work-end-2 : goal.slice_bounds-work-end-2
slice_bounds-work-end-2 c =
    let k = c.workspace_told-told in
    let m = room-told _ _ _ c.requires _ (maxima-told c.args.input.settings _ c.maxima.ensures _ k.ensures) in
    sym (length-take-le k.result.vertices c.args.w_vertices.now m.vertices)

pub slice_bounds-work-end-3 : goal.slice_bounds-work-end-3
slice_bounds-work-end-3 c =
    let k = c.workspace_told-told in
    let m = room-told _ _ _ c.requires _ (maxima-told c.args.input.settings _ c.maxima.ensures _ k.ensures) in
    m.edges

pub slice_bounds-work-end-4 : goal.slice_bounds-work-end-4
slice_bounds-work-end-4 c =
    let k = c.workspace_told-told in
    let m = room-told _ _ _ c.requires _ (maxima-told c.args.input.settings _ c.maxima.ensures _ k.ensures) in
    sym (length-take-le k.result.edges c.args.w_edges.now m.edges)

pub slice_bounds-work-end-5 : goal.slice_bounds-work-end-5
slice_bounds-work-end-5 c =
    let k = c.workspace_told-told in
    let m = room-told _ _ _ c.requires _ (maxima-told c.args.input.settings _ c.maxima.ensures _ k.ensures) in
    m.index

pub slice_bounds-work-end-6 : goal.slice_bounds-work-end-6
slice_bounds-work-end-6 c =
    let k = c.workspace_told-told in
    let m = room-told _ _ _ c.requires _ (maxima-told c.args.input.settings _ c.maxima.ensures _ k.ensures) in
    sym (length-take-le k.result.index c.args.w_index.now m.index)

pub slice_bounds-work-end-7 : goal.slice_bounds-work-end-7
slice_bounds-work-end-7 c =
    let k = c.workspace_told-told in
    let m = room-told _ _ _ c.requires _ (maxima-told c.args.input.settings _ c.maxima.ensures _ k.ensures) in
    m.nodes

pub slice_bounds-work-end-8 : goal.slice_bounds-work-end-8
slice_bounds-work-end-8 c =
    let k = c.workspace_told-told in
    let m = room-told _ _ _ c.requires _ (maxima-told c.args.input.settings _ c.maxima.ensures _ k.ensures) in
    sym (length-take-le k.result.nodes c.args.w_nodes.now m.nodes)

pub slice_bounds-work-end-9 : goal.slice_bounds-work-end-9
slice_bounds-work-end-9 c =
    let k = c.workspace_told-told in
    let m = room-told _ _ _ c.requires _ (maxima-told c.args.input.settings _ c.maxima.ensures _ k.ensures) in
    m.targets

pub slice_bounds-work-end-10 : goal.slice_bounds-work-end-10
slice_bounds-work-end-10 c =
    let k = c.workspace_told-told in
    let m = room-told _ _ _ c.requires _ (maxima-told c.args.input.settings _ c.maxima.ensures _ k.ensures) in
    sym (length-take-le k.result.targets c.args.w_targets.now m.targets)

pub slice_bounds-work-end-11 : goal.slice_bounds-work-end-11
slice_bounds-work-end-11 c =
    let k = c.workspace_told-told in
    let m = room-told _ _ _ c.requires _ (maxima-told c.args.input.settings _ c.maxima.ensures _ k.ensures) in
    m.paths

pub slice_bounds-work-end-12 : goal.slice_bounds-work-end-12
slice_bounds-work-end-12 c =
    let k = c.workspace_told-told in
    let m = room-told _ _ _ c.requires _ (maxima-told c.args.input.settings _ c.maxima.ensures _ k.ensures) in
    sym (length-take-le k.result.paths c.args.w_paths.now m.paths)

pub slice_bounds-work-end-13 : goal.slice_bounds-work-end-13
slice_bounds-work-end-13 c =
    let k = c.workspace_told-told in
    let m = room-told _ _ _ c.requires _ (maxima-told c.args.input.settings _ c.maxima.ensures _ k.ensures) in
    m.scores

pub slice_bounds-work-end-14 : goal.slice_bounds-work-end-14
slice_bounds-work-end-14 c =
    let k = c.workspace_told-told in
    let m = room-told _ _ _ c.requires _ (maxima-told c.args.input.settings _ c.maxima.ensures _ k.ensures) in
    sym (length-take-le k.result.scores c.args.w_scores.now m.scores)

pub slice_bounds-work-end-15 : goal.slice_bounds-work-end-15
slice_bounds-work-end-15 c =
    let k = c.workspace_told-told in
    let m = room-told _ _ _ c.requires _ (maxima-told c.args.input.settings _ c.maxima.ensures _ k.ensures) in
    m.active

pub slice_bounds-work-end-16 : goal.slice_bounds-work-end-16
slice_bounds-work-end-16 c =
    let k = c.workspace_told-told in
    let m = room-told _ _ _ c.requires _ (maxima-told c.args.input.settings _ c.maxima.ensures _ k.ensures) in
    sym (length-take-le k.result.active c.args.w_active.now m.active)

pub slice_bounds-work-end-17 : goal.slice_bounds-work-end-17
slice_bounds-work-end-17 c =
    let k = c.workspace_told-told in
    let m = room-told _ _ _ c.requires _ (maxima-told c.args.input.settings _ c.maxima.ensures _ k.ensures) in
    m.queue

pub slice_bounds-work-end-18 : goal.slice_bounds-work-end-18
slice_bounds-work-end-18 c =
    let k = c.workspace_told-told in
    let m = room-told _ _ _ c.requires _ (maxima-told c.args.input.settings _ c.maxima.ensures _ k.ensures) in
    sym (length-take-le k.result.queue c.args.w_queue.now m.queue)

pub slice_bounds-work-end-19 : goal.slice_bounds-work-end-19
slice_bounds-work-end-19 c =
    let k = c.workspace_told-told in
    let m = room-told _ _ _ c.requires _ (maxima-told c.args.input.settings _ c.maxima.ensures _ k.ensures) in
    m.closed

pub slice_bounds-work-end-20 : goal.slice_bounds-work-end-20
slice_bounds-work-end-20 c =
    let k = c.workspace_told-told in
    let m = room-told _ _ _ c.requires _ (maxima-told c.args.input.settings _ c.maxima.ensures _ k.ensures) in
    sym (length-take-le k.result.closed c.args.w_closed.now m.closed)

pub slice_bounds-work-end-21 : goal.slice_bounds-work-end-21
slice_bounds-work-end-21 c =
    let k = c.workspace_told-told in
    let m = room-told _ _ _ c.requires _ (maxima-told c.args.input.settings _ c.maxima.ensures _ k.ensures) in
    m.order

pub slice_bounds-work-end-22 : goal.slice_bounds-work-end-22
slice_bounds-work-end-22 c =
    let k = c.workspace_told-told in
    let m = room-told _ _ _ c.requires _ (maxima-told c.args.input.settings _ c.maxima.ensures _ k.ensures) in
    sym (length-take-le k.result.order c.args.w_order.now m.order)

pub slice_bounds-work-end-23 : goal.slice_bounds-work-end-23
slice_bounds-work-end-23 c =
    let k = c.workspace_told-told in
    let m = room-told _ _ _ c.requires _ (maxima-told c.args.input.settings _ c.maxima.ensures _ k.ensures) in
    m.marks

pub slice_bounds-work-end-24 : goal.slice_bounds-work-end-24
slice_bounds-work-end-24 c =
    let k = c.workspace_told-told in
    let m = room-told _ _ _ c.requires _ (maxima-told c.args.input.settings _ c.maxima.ensures _ k.ensures) in
    sym (length-take-le k.result.marks c.args.w_marks.now m.marks)

pub slice_bounds-work-end-25 : goal.slice_bounds-work-end-25
slice_bounds-work-end-25 c =
    let k = c.workspace_told-told in
    let m = room-told _ _ _ c.requires _ (maxima-told c.args.input.settings _ c.maxima.ensures _ k.ensures) in
    m.walks

pub slice_bounds-work-end-26 : goal.slice_bounds-work-end-26
slice_bounds-work-end-26 c =
    let k = c.workspace_told-told in
    let m = room-told _ _ _ c.requires _ (maxima-told c.args.input.settings _ c.maxima.ensures _ k.ensures) in
    sym (length-take-le k.result.walks c.args.w_walks.now m.walks)

pub work-r-requires : goal.work-r-requires
work-r-requires c =
    parts-lent _ _ _ c.requires _ (maxima-told c.args.input.settings _ c.maxima.ensures _ c.workspace_told-told.ensures)

pub returns : goal.returns
unfolding of_bits of_fields
returns c =
    let k = c.workspace_told-told in
    let m = room-told _ _ _ c.requires _ (maxima-told c.args.input.settings _ c.maxima.ensures _ k.ensures) in
    let w = c.work-r in
    record {
      listed = w.ensures;
      tables =
          all-cleared
          (handed c.args.input)
          k.result
          (record { vertices = c.args.w_vertices.now; edges = c.args.w_edges.now; index = c.args.w_index.now; nodes = c.args.w_nodes.now; targets = c.args.w_targets.now; paths = c.args.w_paths.now; scores = c.args.w_scores.now; active = c.args.w_active.now; queue = c.args.w_queue.now; closed = c.args.w_closed.now; order = c.args.w_order.now; marks = c.args.w_marks.now; walks = c.args.w_walks.now })
          _
          (maxima-told c.args.input.settings _ c.maxima.ensures _ k.ensures)
          (part-cleared c.args.w_vertices.now w.new.w_vertices k.result.vertices 0 _ w.auto.w_vertices m.vertices c.clear.ensures)
          (part-cleared c.args.w_edges.now w.new.w_edges k.result.edges 0 _ w.auto.w_edges m.edges c.clear-2.ensures)
          (part-cleared c.args.w_index.now w.new.w_index k.result.index 0 _ w.auto.w_index m.index c.clear-3.ensures)
          (part-cleared c.args.w_nodes.now w.new.w_nodes k.result.nodes 0 _ w.auto.w_nodes m.nodes c.clear-4.ensures)
          (part-cleared c.args.w_targets.now w.new.w_targets k.result.targets 0 _ w.auto.w_targets m.targets c.clear-5.ensures)
          (part-cleared c.args.w_paths.now w.new.w_paths k.result.paths 0 _ w.auto.w_paths m.paths c.clear-6.ensures)
          (part-cleared c.args.w_scores.now w.new.w_scores k.result.scores float_zero _ w.auto.w_scores m.scores c.clear-7.ensures)
          (part-cleared c.args.w_active.now w.new.w_active k.result.active 0 _ w.auto.w_active m.active c.clear-8.ensures)
          (part-cleared c.args.w_queue.now w.new.w_queue k.result.queue 0 _ w.auto.w_queue m.queue c.clear-9.ensures)
          (part-cleared c.args.w_closed.now w.new.w_closed k.result.closed 0 _ w.auto.w_closed m.closed c.clear-10.ensures)
          (part-cleared c.args.w_order.now w.new.w_order k.result.order 0 _ w.auto.w_order m.order c.clear-11.ensures)
          (part-cleared c.args.w_marks.now w.new.w_marks k.result.marks 0 _ w.auto.w_marks m.marks c.clear-12.ensures)
          (part-cleared c.args.w_walks.now w.new.w_walks k.result.walks 0 _ w.auto.w_walks m.walks c.clear-13.ensures);
    }
