use Rattle.std.specs.Prelude.{◌≡◌, IfSome}
use Rattle.assembly.specs.Fields.{HasEdge}
use Rattle.out_edges.specs.Outs.{Best, reach}
use Rattle.out_edges.proofs.next_out.Given as goal

abbrev pub invariant-loop-c : goal.invariant-loop-c
invariant-loop-c l = Best l.vertices l.edges l.v l.t l.c l.best × IfSome l.best (λ i. HasEdge l.edges i) × (l.least ≡ reach l.edges l.best)
