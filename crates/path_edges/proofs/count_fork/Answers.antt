use Rattle.std.proofs.Common.{not, ap, ◌∙◌, eq-eqb}
use Rattle.std.specs.Int.{from_bool}
use Rattle.path_store.specs.Walk.{bit-is}
use Rattle.path_edges.specs.Stop.{fork-none, fork-some}
use Rattle.path_edges.proofs.count_fork.Goals.{then-has_edges, else-has_edges}
use Rattle.path_edges.proofs.count_fork.Goals as goal

pub returns : goal.returns
returns c =
    elim c.if-has_edges.branch [
      | then-has_edges w ↦ c.from.ensures ∙ ap (λ b. from_bool b) w.from-is ∙ bit-is _ ∙ fork-some _ _ _ w.if-has_edges.true
      | else-has_edges w ↦ c.from.ensures ∙ ap (λ b. from_bool b) (w.from-is ∙ ap not (eq-eqb _ 0 w.if-has_edges.false)) ∙ fork-none _ _ _ w.if-has_edges.false
    ]
