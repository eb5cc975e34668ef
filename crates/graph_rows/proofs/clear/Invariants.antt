use Rattle.std.proofs.Common.{◌≡◌, take, replicate}
use Rattle.graph_rows.proofs.clear.Given as goal

-- the elements that the loop has passed are zero
abbrev pub invariant-loop-word : goal.invariant-loop-word
invariant-loop-word g l = take l.word-index l.word-items ≡ replicate l.word-index l.fn.zero
