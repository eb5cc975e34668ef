use Rattle.std.proofs.Common.{◌≡◌, ℕ, ◌<◌}
use Rattle.fork_offers.specs.Fields.{offer_edge}
use Rattle.fork_offers.proofs.offered.Given as goal

abbrev pub invariant-loop-i : goal.invariant-loop-i
invariant-loop-i l = (j : ℕ) → j < l.i → offer_edge l.out j ≡ l.edge → ⊥
