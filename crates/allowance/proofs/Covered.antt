-- "A column covering all counts is supplied": where no count of the trees and no total of out-edges passes n, and every part of a total up to n has its penalty,
-- the search is refused with 11 alone. A column covers what is below its length.
use Rattle.std.specs.Prelude.{◌≡◌, refl, ◌⊎◌, ℕ, ◌≤◌, ◌<◌, Bool, true, false, List, [], eqb, length, Float}
use Rattle.std.proofs.Common.{sym, inl, inr, arith}
use Rattle.std.proofs.Math.Option.{Option, none, some}
use Rattle.laws.specs.Lists.{is_some, total}
use Rattle.laws.specs.ListLaws.{clash, All, nil, cons, all_append, all-mono, all-zip}
use Rattle.definition.specs.Refusal.{ok}
use Rattle.definition.specs.Score.{Scoring, column_penalty, column_scoring}
use Rattle.definition.specs.Threading.{support_of, leaving}
use Rattle.definition.specs.Evidence.{Branches, Tree, tree_at}
use Rattle.definition.specs.Search.{SearchInput, Path, Offer, offers, join_tree, search}
use Rattle.definition.specs.Enough.{Covers}
use Rattle.theorems.proofs.Counts.{Small, SmallTree, small-walk, offers-small}
use Rattle.theorems.proofs.Penalty.{offers-part, penalty-there}
use Rattle.theorems.proofs.Turns.{no-some, same_some}
use Rattle.theorems.proofs.TurnParts.{Joins, join-parts, Kept}
use Rattle.theorems.proofs.Refuses.{OnlyTurn, search-only}

-- a column covers every total below its length
pub column-covers : (column : List Float) (n : ℕ) → n < length column → Covers (column_scoring column) n
unfolding column_scoring
column-covers column n h count out_of part small e = there (column_penalty column count out_of) e (penalty-there column count out_of part (omega arith))
  where
    there : (d : Option Float) → d ≡ none → is_some d ≡ true → ⊥
    there none e t = clash (sym t)
    there (some x) e t = no-some (sym e)

tree-small : (n v : ℕ) {ts : List Tree} (b : Branches) → All (SmallTree n) ts → tree_at ts v ≡ some b → Small n b
unfolding tree_at
tree-small n v b nil e = no-some e
tree-small n v b (cons {x = t} {xs = us} h a) e = go (eqb t.vertex v) refl (tree-small n v b a)
  where
    go : (z : Bool) → eqb t.vertex v ≡ z → (tree_at us v ≡ some b → Small n b) → Small n b
    go true u ih = rw (← same_some (rw (u, tree_at) at e)) h.below
    go false u ih = ih (rw (u, tree_at) at e)

module _ {S : Type 0} (𝓢 : Scoring S) (f : SearchInput) (n : ℕ) (covers : Covers 𝓢 n) (trees : All (SmallTree n) f.trees)
    (outs : (v : ℕ) → total support_of (leaving f.edges v) ≤ n) where
  -- no count that the active trees hold passes n
  abbrev Counted : Path S → Type 0
  Counted p = All (Small n) p.active

  join-counted : (v : ℕ) (p q : Path S) → Counted p → join_tree f v p ≡ ok q → Counted q
  join-counted v p q h t = go (join-parts f v p q t)
    where
      go : (q ≡ p) ⊎ Joins f v p q → Counted q
      go (inl e) = rw e h
      go (inr j) = rw j.path (all_append h (cons (tree-small n v j.tree trees j.there) nil))

  counted-kept : Kept 𝓢 f Counted
  counted-kept = record { bare = λ p e. rw e nil; joins = join-counted; steps = λ p q h e. rw e.walked (small-walk n e.last p.active h) }

  -- every way on that is offered has its penalty
  offers-covered : (p : Path S) → Counted p → (v : ℕ) → All (λ (o : Offer). 𝓢.penalty o.count o.out_of ≡ none → ⊥) (offers f (leaving f.edges v) [] p.active)
  offers-covered p h v =
      all-mono (λ (o : Offer) q. covers o.count o.out_of q.0 q.1)
      (all-zip (offers-part f (leaving f.edges v) [] p.active) (offers-small n f (leaving f.edges v) [] p.active h (outs v)))

  -- The search ends, or its pushes run out, or it meets 11.
  pub only-eleven : (asked limit : ℕ) (recovery : Bool) → OnlyTurn (λ k. k ≡ 11) (search 𝓢 f asked limit recovery)
  only-eleven =
      search-only 𝓢 f (λ k. k ≡ 11) Counted refl counted-kept
      (λ p h v. all-mono (λ (o : Offer) none-there e. absurd (none-there e)) (offers-covered p h v))
