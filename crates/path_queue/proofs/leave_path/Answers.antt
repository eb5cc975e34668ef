use Rattle.std.proofs.Common.{sym, ◌∙◌, refl, arith}
use Rattle.path_queue.specs.Recover.{leave-lost, leave_fits, leave-asks, leave-over, leave-made}
use Rattle.path_queue.proofs.leave_path.Goals as goal

pub returns-in_default : goal.returns-in_default
returns-in_default c = leave-lost c.requires _ (sym c.in_default.is ∙ c.split_at.ensures)

pub overflow_cast-k : goal.overflow_cast-k
overflow_cast-k c = let h = leave_fits c.requires _ _ (sym c.in-Some.is ∙ c.split_at.ensures) in omega arith

pub recover_path-r-requires : goal.recover_path-r-requires
recover_path-r-requires c = leave-asks c.requires _ _ (sym c.in-Some.is ∙ c.split_at.ensures) _ refl

pub returns-in_default-r : goal.returns-in_default-r
returns-in_default-r c = leave-over c.requires _ _ (sym c.in-Some.is ∙ c.split_at.ensures) _ refl _ _ _ c.recover_path-r.ensures _ c.unwrap_err.ensures

pub returns : goal.returns
returns c = leave-made c.requires _ _ (sym c.in-Some.is ∙ c.split_at.ensures) _ refl _ _ _ c.recover_path-r.ensures _ c.in-Ok.is
