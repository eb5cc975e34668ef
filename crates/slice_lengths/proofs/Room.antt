-- "together never above 256 MiB": all lengths that `lengths` tells, in bytes, whatever settings it accepts. Assumes nothing.
use mathlib.Core.Path.{◌≡◌, sym, ap, subst, ◌∙◌}
use Prim.Native.Nat.{ℕ, ◌≤◌}
use native.Mathlib.Omega.{arith}
use Rattle.definition.specs.Refusal.{first_broken}
use Rattle.definition.specs.Limits.{GraphMaxima, SearchMaxima, told_edges, told_nodes, bases_stride, told_bases, told_origins, lengths_rules}
use Rattle.definition.specs.Calls.{LengthsAnswer, lengths_of, lengths_call}
use Rattle.slice_lengths.specs.declared.LengthsTold.{LengthsTold}
use Rattle.slice_lengths.specs.Bounds.{InLimits, accepted, active-places, path-places, base-places, walk-places}
use Rattle.slice_lengths.specs.Lengths.{answer_of, workspace_of, workspace_call, workspace_bytes, told_bytes, Told, told-number}

-- 256 MiB
abbrev pub most : ℕ
most = 268435456

module _ (k asked : ℕ) (g : GraphMaxima) (s : SearchMaxima) where
  -- settings within the limits
  within-limits : k ≤ 128 → InLimits asked g s → told_bytes (lengths_of k asked g s 0) (workspace_of asked g s 0) ≤ most
  unfolding told_bytes workspace_bytes workspace_of lengths_of told_edges told_nodes told_bases told_origins bases_stride
  within-limits h b =
      let active = active-places asked g s b in
      let origins = path-places asked g s b in
      let walks = walk-places asked g s b in
      let bases = base-places asked g s b k h in
      omega arith

  -- the theorem, of the definition
  pub room : (lengths_call k asked g s).refusal ≡ 0 → told_bytes (lengths_call k asked g s) (workspace_call k asked g s) ≤ most
  unfolding lengths_call workspace_call
  room e =
      let z : first_broken (lengths_rules k asked g s) ≡ 0 = sym (told-number k asked g s (first_broken (lengths_rules k asked g s))) ∙ e in
      let b = accepted k asked g s z in
      subst (λ (n : ℕ). told_bytes (lengths_of k asked g s n) (workspace_of asked g s n) ≤ most) (sym z) (within-limits b.0 b.1)

  -- the same, of what the code answers
  pub room-told : (r : LengthsTold) → Told k asked g s r → r.refusal ≡ 0 → told_bytes (answer_of r) r.workspace ≤ most
  room-told r t e = rw (t.answer, t.workspace) (room (ap (λ (a : LengthsAnswer). a.refusal) (sym t.answer) ∙ e))
