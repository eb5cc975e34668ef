-- "Workspace after": unchanged where a rule is broken, zero where the build or the search refuses and after acceptance. No refusal has the number 0, and 7 is
-- not answered where what is lent is as long as told.
use mathlib.Core.Path.{◌≡◌, refl, sym, ap, subst, ◌∙◌}
use mathlib.Core.Logic.{◌⊎◌, inl, inr}
use mathlib.Core.Bool.{Bool, true, false}
use mathlib.Core.List.{List, [], ◌∷◌}
use Prim.Native.Nat.{ℕ, zero, suc, ◌≤◌, ◌<◌}
use native.Mathlib.Omega.{arith}
use lib.ListN.{length}
use lib.Ieee.{Float}
use Rattle.laws.specs.ListLaws.{clash}
use Rattle.definition.specs.Refusal.{returned, keeps_workspace, Result, ok, refused, Rule, first_broken}
use Rattle.definition.specs.Score.{column_scoring}
use Rattle.definition.specs.Limits.{Sample, GraphMaxima, Input, is_long_enough, graph_told, sample_rules, graph_rules, list_rules}
use Rattle.definition.specs.Building.{Built, built}
use Rattle.definition.specs.Listing.{Answer, refusal, listed, search_input, after_build, after_checks, answer}
use Rattle.definition.specs.Calls.{graph_of, after_graph_checks, graph_call}
use Rattle.theorems.proofs.Refuses.{Only, OnlyAnswer, search-late, built-only, found-only}

-- a refusal's number, after which the workspace is zero
abbrev LateNumber : ℕ → Type 0
LateNumber n = (1 ≤ n) × (keeps_workspace n ≡ false)

abbrev pub LateAnswer : {S : Type 0} → Answer S → Type 0
LateAnswer = OnlyAnswer LateNumber

-- the numbers of the build and of the search, and 0, which tells of no refusal
late-8 : LateNumber 8
unfolding keeps_workspace returned
late-8 = (omega arith, refl)

late-9 : LateNumber 9
unfolding keeps_workspace returned
late-9 = (omega arith, refl)

late-10 : LateNumber 10
unfolding keeps_workspace returned
late-10 = (omega arith, refl)

late-11 : LateNumber 11
unfolding keeps_workspace returned
late-11 = (omega arith, refl)

late-12 : LateNumber 12
unfolding keeps_workspace returned
late-12 = (omega arith, refl)

pub accepted-zero : keeps_workspace 0 ≡ false
unfolding keeps_workspace returned
accepted-zero = refl

-- ---- the build and the answer

built-late : (s : Sample) (m : GraphMaxima) → Only LateNumber (built s m)
built-late = built-only LateNumber late-8 late-9

-- after the call for edges and trees, once no rule is broken, the workspace is zero
pub graph-late : (s : Sample) (m : GraphMaxima) (es ns : List ℕ) → keeps_workspace (graph_of (built s m) es ns).refusal ≡ false
unfolding graph_of
graph-late s m es ns = go (built s m) (built-late s m)
  where
    go : (r : Result Built) → Only LateNumber r → keeps_workspace (graph_of r es ns).refusal ≡ false
    go (ok b) l = accepted-zero
    go (refused n) l = l.1

-- what is answered once no rule is broken
pub found-late : (i : Input) → LateAnswer (after_build (column_scoring i.column) i (built i.sample i.graph_maxima))
found-late i =
    found-only (column_scoring i.column) LateNumber late-8 late-9 i
    (λ b e. (search-late LateNumber late-10 late-11 (column_scoring i.column) (search_input i b) i.asked i.search_maxima.pushes i.recovery, λ s ps f. late-12))

late-number : (a : Answer Float) (n : ℕ) → LateAnswer a → a ≡ refusal n → LateNumber n
late-number (refusal m) n l e = let z : m ≡ n = cc in subst LateNumber z l
late-number (listed rs p q) n l e = let z : ◌≡◌ {A = ℕ} 0 1 = cc in absurd (omega arith)

-- a refusal is that of the first rule broken, or comes after the rules
refused-by : (i : Input) (told lent : List ℕ) (n : ℕ) → answer i told lent ≡ refusal n
    → ((1 ≤ n) × (first_broken (list_rules i told lent) ≡ n)) ⊎ LateNumber n
unfolding answer after_checks
refused-by i told lent n t = go (first_broken (list_rules i told lent)) refl
  where
    go : (b : ℕ) → first_broken (list_rules i told lent) ≡ b → ((1 ≤ n) × (first_broken (list_rules i told lent) ≡ n)) ⊎ LateNumber n
    go zero e = inr (late-number (after_build (column_scoring i.column) i (built i.sample i.graph_maxima)) n (found-late i) (rw (e, after_checks) at t))
    go (suc b) e = let h : ◌≡◌ {A = Answer Float} (refusal (suc b)) (refusal n) = rw (e, after_checks) at t in let z : suc b ≡ n = cc in inl (omega arith, e ∙ z)

-- no refusal has the number 0, which tells of none
pub no_zero : (i : Input) (told lent : List ℕ) (n : ℕ) → answer i told lent ≡ refusal n → 1 ≤ n
no_zero i told lent n t = go (refused-by i told lent n t)
  where
    go : ((1 ≤ n) × (first_broken (list_rules i told lent) ≡ n)) ⊎ LateNumber n → 1 ≤ n
    go (inl h) = h.0
    go (inr h) = h.0

-- ---- the rules

-- every rule has a number after which the workspace is unchanged
abbrev Keeping : List Rule → Type 0
Keeping [] = Unit {0}
Keeping (r ∷ rs) = (keeps_workspace r.number ≡ true) × Keeping rs

broken-keeps : (rs : List Rule) → Keeping rs → 1 ≤ first_broken rs → keeps_workspace (first_broken rs) ≡ true
unfolding first_broken
broken-keeps [] k l = absurd (omega arith)
broken-keeps (r ∷ rs) k l = go r.holds refl (broken-keeps rs k.1)
  where
    go : (b : Bool) → r.holds ≡ b → (1 ≤ first_broken rs → keeps_workspace (first_broken rs) ≡ true) → keeps_workspace (first_broken (r ∷ rs)) ≡ true
    go true e ih = rw (e, first_broken) (ih (rw (e, first_broken) at l))
    go false e ih = rw (e, first_broken) k.0

-- a broken rule of the call for the list leaves the workspace unchanged,
pub list-keeps : (i : Input) (told lent : List ℕ) → 1 ≤ first_broken (list_rules i told lent) → keeps_workspace (first_broken (list_rules i told lent)) ≡ true
unfolding list_rules sample_rules keeps_workspace returned
list-keeps i told lent = broken-keeps (list_rules i told lent) (refl, (refl, (refl, (refl, (refl, (refl, (refl, tt)))))))

-- and so does one of the call for edges and trees
pub graph-keeps : (s : Sample) (m : GraphMaxima) (told lent : List ℕ) → 1 ≤ first_broken (graph_rules s m told lent)
    → keeps_workspace (first_broken (graph_rules s m told lent)) ≡ true
unfolding graph_rules sample_rules keeps_workspace returned
graph-keeps s m told lent = broken-keeps (graph_rules s m told lent) (refl, (refl, (refl, (refl, (refl, (refl, tt))))))

-- ---- 7

-- each rule of that number holds
abbrev Kept : ℕ → List Rule → Type 0
Kept n [] = Unit {0}
Kept n (r ∷ rs) = (r.number ≡ n → r.holds ≡ true) × Kept n rs

kept-first : (n : ℕ) (rs : List Rule) → 1 ≤ n → Kept n rs → first_broken rs ≡ n → ⊥
unfolding first_broken
kept-first n [] l k e = omega arith
kept-first n (r ∷ rs) l k e = go r.holds refl (kept-first n rs l k.1)
  where
    go : (b : Bool) → r.holds ≡ b → (first_broken rs ≡ n → ⊥) → ⊥
    go true h ih = ih (rw (h, first_broken) at e)
    go false h ih = clash (sym (k.0 (rw (h, first_broken) at e)) ∙ h)

other : {A : Type 0} (n m : ℕ) → n < m → n ≡ m → A
other n m l e = absurd (omega arith)

-- 7 is not answered where each lent slice is at least as long as told: by the call for the list,
pub list-not-7 : (i : Input) (told lent : List ℕ) → is_long_enough told lent ≡ true → answer i told lent ≡ refusal 7 → ⊥
unfolding list_rules sample_rules keeps_workspace returned
list-not-7 i told lent l t = go (refused-by i told lent 7 t)
  where
    go : ((1 ≤ 7) × (first_broken (list_rules i told lent) ≡ 7)) ⊎ LateNumber 7 → ⊥
    go (inl h) =
        kept-first 7 (list_rules i told lent) h.0
        (other 1 7 (omega arith), (other 2 7 (omega arith), (other 3 7 (omega arith), (other 4 7 (omega arith), (other 5 7 (omega arith), (other 6 7 (omega arith), ((λ e. l), tt)))))))
        h.1
    go (inr h) = clash h.1

-- and by the call for edges and trees
pub graph-not-7 : (s : Sample) (m : GraphMaxima) (workspace lent es ns : List ℕ) → is_long_enough (graph_told m workspace) (length es ∷ length ns ∷ lent) ≡ true
    → (graph_call s m workspace lent es ns).refusal ≡ 7 → ⊥
unfolding graph_call after_graph_checks graph_of graph_rules sample_rules keeps_workspace returned
graph-not-7 s m workspace lent es ns l t = go (first_broken rules) refl t
  where
    rules : List Rule
    rules = graph_rules s m (graph_told m workspace) (length es ∷ length ns ∷ lent)

    late : (r : Result Built) → Only LateNumber r → (graph_of r es ns).refusal ≡ 7 → ⊥
    late (ok b) h e = omega arith
    late (refused n) h e = clash (sym (ap keeps_workspace e) ∙ h.1)

    go : (b : ℕ) → first_broken rules ≡ b → (graph_of (after_graph_checks s m b) es ns).refusal ≡ 7 → ⊥
    go zero e h = late (built s m) (built-late s m) h
    go (suc b) e h =
        kept-first 7 rules (omega arith) (other 1 7 (omega arith), (other 2 7 (omega arith), (other 3 7 (omega arith), (other 4 7 (omega arith), (other 5 7 (omega arith), ((λ d. l), tt)))))) (e ∙ h)
