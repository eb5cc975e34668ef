-- `calls::value_left` meets its contract, by which numbers keep the workspace. Assumes nothing.
use Rattle.std.proofs.Common.{◌<◌, ◌≤◌, inl, inr, arith}
use Rattle.std.proofs.lemmas.Bool.Decides.{nat_tests}
use Rattle.limits.specs.Tests.{is-kept, not-kept}
use Rattle.known_answers.proofs.calls.value_left.Goals as goal

pub returns-then-workspace_kept : goal.returns-then-workspace_kept
returns-then-workspace_kept g c =
    let n = c.args.refusal in
    let low : n < 1 → ⊥ = λ h. let e = not-kept n (inl h) in cc in
    let high : 8 ≤ n → ⊥ = λ h. let e = not-kept n (inr h) in cc in
    let a : 0 < n = omega (arith, low) in
    let b : n < 8 = omega (arith, high) in
    grind (arith, nat_tests)

pub returns-else-workspace_kept : goal.returns-else-workspace_kept
returns-else-workspace_kept g c =
    let n = c.args.refusal in
    let other : 0 < n → n < 8 → ⊥ = λ a b. let e = is-kept n a b in cc in
    grind (arith, nat_tests, other)
