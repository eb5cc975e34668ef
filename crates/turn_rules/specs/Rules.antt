-- The rules of a turn that are told from numbers alone, and what their tests tell. Assumes nothing.
use Rattle.std.specs.Prelude.{◌≡◌, Bool, true, false, not, ℕ, ◌+◌, ◌-◌, ◌<◌, ◌≤◌, leb, ltb}
use Rattle.std.proofs.Common.{sym, ◌∙◌, ltb-true, ltb-false, leb-true, leb-false}
use Rattle.std.proofs.lemmas.Bool.{not-true, not-false}
use Rattle.search_state.specs.declared.Progress.{Progress}

-- the first record that is still to be pushed: a path that has closed is not
abbrev pub first_new : Progress → Progress → ℕ
first_new p p' = p.records + (p'.closed - p.closed)

-- as many have closed as are asked for, or fewer
pub are-met : {b : Bool} {asked closed : ℕ} → b ≡ leb asked closed → not b ≡ false → asked ≤ closed
are-met {b} {asked} {closed} e h = leb-true asked closed (sym e ∙ not-false b h)

pub are-unmet : {b : Bool} {asked closed : ℕ} → b ≡ leb asked closed → not b ≡ true → closed < asked
are-unmet {b} {asked} {closed} e h = leb-false asked closed (sym e ∙ not-true b h)

-- a path is dropped, or goes on
pub is-dropped : {b : Bool} {since : ℕ} → b ≡ ltb 5 since → b ≡ true → 5 < since
is-dropped {b} {since} e h = ltb-true 5 since (sym e ∙ h)

pub goes_on : {b : Bool} {since : ℕ} → b ≡ ltb 5 since → b ≡ false → since ≤ 5
goes_on {b} {since} e h = ltb-false 5 since (sym e ∙ h)
