-- `clear_tables` meets its contract: each slice is filled over its whole length. Assumes nothing.
use Rattle.std.proofs.Common.{rules}
use Rattle.graph_work.specs.Clear.{zero_of}
use Rattle.graph_work.proofs.clear_tables.Goals as goal

pub returns : goal.returns
returns c =
    record {
      vertices = zero_of {w = c.args.w_vertices.now} (c.fill.ensures.after (λ y e. search rules));
      index = zero_of {w = c.args.w_index.now} (c.fill-2.ensures.after (λ y e. search rules));
      nodes = zero_of {w = c.args.w_nodes.now} (c.fill-3.ensures.after (λ y e. search rules));
    }
