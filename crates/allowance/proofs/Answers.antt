-- What the formula says of the call's answer: with a maximum of pushes that is not below it 12 is never answered, and an accepted list was made within it. And with a
-- column of 65,536 places 10 is never answered.
use Rattle.std.specs.Prelude.{◌≡◌, refl, ℕ, zero, suc, ◌≤◌, true, List, length, Float}
use Rattle.std.proofs.Common.{sym, ap, subst, ◌∙◌, arith, le_trans, inl, inr}
use Rattle.laws.specs.ListLaws.{clash}
use Rattle.definition.specs.Refusal.{returned, keeps_workspace, ok, first_broken}
use Rattle.definition.specs.Score.{Scoring, column_scoring}
use Rattle.definition.specs.Limits.{Input, sample_rules, list_rules}
use Rattle.definition.specs.Evidence.{nodes}
use Rattle.definition.specs.Search.{Turn, more, ended, failed, full, search}
use Rattle.definition.specs.Building.{Built, built}
use Rattle.definition.specs.Listing.{Row, Answer, refusal, listed, search_input, after_build, after_checks, answer}
use Rattle.definition.specs.Enough.{enough}
use Rattle.theorems.proofs.Allowance.{NotFull}
use Rattle.theorems.proofs.Checks.{checked, accepted, sample-checked}
use Rattle.theorems.proofs.Found.{Listing}
use Rattle.theorems.proofs.Late.{list-keeps}
use Rattle.theorems.proofs.Refuses.{OnlyTurn, OnlyAnswer, search-late, found-only}
use Rattle.allowance.proofs.Suffices.{enough-up, built-fits, never-full, search-few, search-eleven, maxima-suffice}
use Rattle.allowance.proofs.Covered.{column-covers}

-- the formula, of the maxima
abbrev pub enough_for : Input → ℕ
enough_for i = enough i.graph_maxima.edges i.graph_maxima.nodes i.search_maxima.path_edges

-- refused with a rule's number, or as what comes after the rules
answered-only : (P : ℕ → Type 0) (i : Input) (told lent : List ℕ) → ((n : ℕ) → keeps_workspace n ≡ true → P n)
    → (first_broken (list_rules i told lent) ≡ 0 → OnlyAnswer P (after_build (column_scoring i.column) i (built i.sample i.graph_maxima)))
    → OnlyAnswer P (answer i told lent)
unfolding answer after_checks
answered-only P i told lent rules found = go (first_broken (list_rules i told lent)) refl
  where
    go : (n : ℕ) → first_broken (list_rules i told lent) ≡ n → OnlyAnswer P (after_checks (column_scoring i.column) i n)
    go zero e = found e
    go (suc n) e = rules (suc n) (subst (λ (m : ℕ). keeps_workspace m ≡ true) e (list-keeps i told lent (rw e (omega arith))))

-- a number other than n
abbrev Not : ℕ → ℕ → Type 0
Not n m = m ≡ n → ⊥

only-not : (n : ℕ) (a : Answer Float) → OnlyAnswer (Not n) a → a ≡ refusal n → ⊥
only-not n (refusal m) h e = h (let k : m ≡ n = cc in k)
only-not n (listed rs p q) h e = let z : ◌≡◌ {A = ℕ} 0 1 = cc in omega arith

-- ---- 12

-- With a maximum of pushes that is not below the formula of what was built, the call is never refused with 12.
pub never-twelve-built : (i : Input) (told lent : List ℕ)
    → ((b : Built) → built i.sample i.graph_maxima ≡ ok b → enough (length b.edges) (length (nodes b.trees)) i.search_maxima.path_edges ≤ i.search_maxima.pushes)
    → answer i told lent ≡ refusal 12 → ⊥
unfolding keeps_workspace returned
never-twelve-built i told lent h =
    only-not 12 (answer i told lent) (answered-only (Not 12) i told lent (λ n k e. clash (sym k ∙ ap keeps_workspace e)) (λ e. found e))
  where
    𝓢 : Scoring Float
    𝓢 = column_scoring i.column

    found : first_broken (list_rules i told lent) ≡ 0 → OnlyAnswer (Not 12) (after_build 𝓢 i (built i.sample i.graph_maxima))
    found e =
        found-only 𝓢 (Not 12) (λ z. omega arith) (λ z. omega arith) i
        (λ b is. (
          search-late (Not 12) (λ z. omega arith) (λ z. omega arith) 𝓢 (search_input i b) i.asked i.search_maxima.pushes i.recovery,
          λ s ps f z. subst NotFull f (never-full 𝓢 i b (sample-checked i (checked i told lent e)) is i.asked i.search_maxima.pushes i.recovery (h b is)),
        ))

-- The same of the maxima, before anything is built.
pub never-twelve : (i : Input) (told lent : List ℕ) → enough_for i ≤ i.search_maxima.pushes → answer i told lent ≡ refusal 12 → ⊥
never-twelve i told lent h =
    never-twelve-built i told lent (λ b is. (let m = built-fits i.sample i.graph_maxima b is in le_trans (enough-up _ _ _ _ _ _ m.0 m.1 (omega arith)) h))

-- ---- an accepted list

-- It was made within the formula, whatever the maximum of pushes.
pub listed-few : (i : Input) (told lent : List ℕ) (rows : List (Row Float)) (pushes longest : ℕ) → answer i told lent ≡ listed rows pushes longest → pushes ≤ enough_for i
listed-few i told lent rows pushes longest t = go (accepted i told lent rows pushes longest t).1
  where
    𝓢 : Scoring Float
    𝓢 = column_scoring i.column

    fine : first_broken (sample_rules i.sample) ≡ 0
    fine = sample-checked i (accepted i told lent rows pushes longest t).0

    go : Listing 𝓢 i rows pushes longest → pushes ≤ enough_for i
    go (inl none) = rw none.2 (omega arith)
    go (inr f) =
        let few = search-few 𝓢 i f.graph fine f.is-built i.asked i.search_maxima.pushes i.recovery f.state f.reached in
        let m = maxima-suffice 𝓢 i f.graph fine f.is-built in
        rw f.pushes-are (le_trans few m)

-- ---- 10

-- "A column covering all counts": one of 65,536 places does, and then the call is never refused with 10.
pub never-ten : (i : Input) (told lent : List ℕ) → 65536 ≤ length i.column → answer i told lent ≡ refusal 10 → ⊥
unfolding keeps_workspace returned
never-ten i told lent h =
    only-not 10 (answer i told lent) (answered-only (Not 10) i told lent (λ n k e. clash (sym k ∙ ap keeps_workspace e)) (λ e. found e))
  where
    𝓢 : Scoring Float
    𝓢 = column_scoring i.column

    eleven-not : (t : Turn Float) → OnlyTurn (λ k. k ≡ 11) t → OnlyTurn (Not 10) t
    eleven-not (more s) o = tt
    eleven-not (ended s) o = tt
    eleven-not (failed n) o = λ e. omega arith
    eleven-not (full s ps) o = tt

    found : first_broken (list_rules i told lent) ≡ 0 → OnlyAnswer (Not 10) (after_build 𝓢 i (built i.sample i.graph_maxima))
    found e =
        found-only 𝓢 (Not 10) (λ z. omega arith) (λ z. omega arith) i
        (λ b is. (
          eleven-not (search 𝓢 (search_input i b) i.asked i.search_maxima.pushes i.recovery)
              (search-eleven 𝓢 i b (sample-checked i (checked i told lent e)) is (column-covers i.column 65535 (omega arith)) i.asked i.search_maxima.pushes i.recovery),
          λ s ps f z. omega arith,
        ))
