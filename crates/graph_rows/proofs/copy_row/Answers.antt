-- `copy_row` meets its contract: the six stores are the definition's row. Assumes nothing.
use Rattle.std.proofs.Common.{◌≡◌, ap, ◌∙◌, ℕ, Bool, true, false, cond}
use mir.Val.{bool_byte}
use Rattle.definition.specs.Threading.{support_of}
use Rattle.definition.specs.Calls.{edge_row}
use Rattle.graph_rows.proofs.copy_row.Goals as goal

mark_is : (b : Bool) {m : ℕ} {c : Bool} → m ≡ bool_byte b → b ≡ c → m ≡ cond c 1 0
mark_is true e f = e ∙ ap (λ d. cond d 1 0) f
mark_is false e f = e ∙ ap (λ d. cond d 1 0) f

pub returns : goal.returns
unfolding edge_row support_of
returns c = rw (mark_is c.edge_is_ref.result c.from-mark.ensures c.edge_is_ref.ensures)
