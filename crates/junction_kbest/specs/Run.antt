-- The definition's search as what is left of it from a state: a turn that goes on leaves the same answer, with a lower measure.
use Rattle.std.specs.Prelude.{◌≡◌, Bool, true, false, List, [], length, refl, ℕ, suc, ◌+◌, ◌-◌, ◌<◌}
use Rattle.std.proofs.Common.{ap, ◌∙◌, arith}
use Rattle.definition.specs.Score.{Scoring}
use Rattle.definition.specs.Threading.{Ends}
use Rattle.definition.specs.Search.{SearchInput, Path, State, Turn, more, ended, failed, full, turn, run, pivotal_edges, first_state, search}
use Rattle.theorems.proofs.Order.{Keeps}
use Rattle.theorems.proofs.Walks.{GoodState}
use Rattle.theorems.proofs.Runs.{run-ended, run-failed, run-full}
use Rattle.theorems.proofs.Turns.{measure, turn_more, run_more}

-- the pivotal edges that the search starts with
abbrev pub pivotal_for : SearchInput → Bool → List Ends
pivotal_for f recovery = elim recovery [ true ↦ pivotal_edges f | false ↦ [] ]

module _ {S : Type 0} (𝓢 : Scoring S) (f : SearchInput) (asked limit : ℕ) where
  -- the answer of the search, from this state on
  unfoldable pub rest : State S → Turn S
  rest s = run 𝓢 f asked limit (suc (measure limit s)) (more s)

  rest-is : (s : State S) → rest s ≡ run 𝓢 f asked limit (measure limit s) (turn 𝓢 f asked limit s)
  unfolding rest run
  rest-is s = refl

  pub rest_ended : (s : State S) → turn 𝓢 f asked limit s ≡ ended s → rest s ≡ ended s
  rest_ended s h = rest-is s ∙ ap (run 𝓢 f asked limit (measure limit s)) h ∙ run-ended 𝓢 f asked limit (measure limit s) s

  pub rest-failed : (s : State S) (k : ℕ) → turn 𝓢 f asked limit s ≡ failed k → rest s ≡ failed k
  rest-failed s k h = rest-is s ∙ ap (run 𝓢 f asked limit (measure limit s)) h ∙ run-failed 𝓢 f asked limit (measure limit s) k

  pub rest-full : (s s' : State S) (ps : List (Path S)) → turn 𝓢 f asked limit s ≡ full s' ps → rest s ≡ full s' ps
  rest-full s s' ps h = rest-is s ∙ ap (run 𝓢 f asked limit (measure limit s)) h ∙ run-full 𝓢 f asked limit (measure limit s) s' ps

  pub rest-start : (recovery : Bool) → 0 < limit → search 𝓢 f asked limit recovery ≡ rest (first_state 𝓢 (pivotal_for f recovery))
  unfolding rest search first_state
  rest-start recovery h =
      ap (λ (n : ℕ). run 𝓢 f asked limit n (more (first_state 𝓢 (pivotal_for f recovery)))) (fuel (length (pivotal_for f recovery)))
    where
      fuel : (n : ℕ) → suc (limit + n) ≡ suc ((limit - 1) + 1 + n)
      fuel n = omega arith

module _ {S : Type 0} {𝓢 : Scoring S} {Fine : S → Type 0} (K : Keeps 𝓢 Fine) (f : SearchInput) (asked limit : ℕ) where
  pub rest_more : (s s' : State S) → GoodState Fine f s → turn 𝓢 f asked limit s ≡ more s' → rest 𝓢 f asked limit s ≡ rest 𝓢 f asked limit s'
  unfolding rest
  rest_more s s' g h =
      let t = turn_more K f limit asked s s' g h in
      let l = t.lower in
      let e : measure limit s ≡ suc (measure limit s') + (measure limit s - suc (measure limit s')) = omega arith in
      rest-is 𝓢 f asked limit s
      ∙ ap (run 𝓢 f asked limit (measure limit s)) h
      ∙ ap (λ (n : ℕ). run 𝓢 f asked limit n (more s')) e
      ∙ run_more K f limit asked (suc (measure limit s')) (measure limit s - suc (measure limit s')) s' t.good (omega arith)
