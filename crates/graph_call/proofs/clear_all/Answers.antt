-- `clear_all` meets its contract: each slice is filled over its whole length. Assumes nothing.
use Rattle.std.proofs.Common.{rules}
use Rattle.graph_call.proofs.clear_all.Goals as goal

pub returns : goal.returns
returns c =
    record {
      w-vertices = c.fill.ensures.after (λ y e. search rules);
      w-edges = c.fill-2.ensures.after (λ y e. search rules);
      w-index = c.fill-3.ensures.after (λ y e. search rules);
      w-nodes = c.fill-4.ensures.after (λ y e. search rules);
      w-open = c.fill-5.ensures.after (λ y e. search rules);
    }
