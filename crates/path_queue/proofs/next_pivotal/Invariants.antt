use Rattle.std.proofs.Common.{length}
use Rattle.path_queue.specs.Next.{Scanning}
use Rattle.path_queue.proofs.next_pivotal.Given as goal

abbrev pub invariant-loop-i : goal.invariant-loop-i
invariant-loop-i l = Scanning l.order l.marks (length l.order) l.next l.i
