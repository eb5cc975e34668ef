-- As many active trees as there are trees are always enough: each tree joins a path at most once.
use Rattle.std.specs.Prelude.{◌≡◌, ℕ, suc, ◌+◌, ◌≤◌, ◌<◌, Bool, true, false, not, ◌&&◌, cond, List, [], ◌∷◌, ltb, eqb, length}
use Rattle.std.proofs.Math.Path.{refl}
use Rattle.std.proofs.Common.{sym, subst, arith, length-append, eqb-true, ltb-false}
use Rattle.std.proofs.Math.Option.{Option, none, some}
use Rattle.std.proofs.lemmas.Bool.{not-true}
use Rattle.laws.specs.Lists.{any, tally}
use Rattle.laws.specs.ListLaws.{and_right, All, all-mono}
use Rattle.definition.specs.Refusal.{Result, ok, refused}
use Rattle.definition.specs.Score.{Scoring}
use Rattle.definition.specs.Threading.{Ends}
use Rattle.definition.specs.Evidence.{Branches, has_branch, Tree, tree_at}
use Rattle.definition.specs.Search.{SearchInput, Path, State, more, walk_trees, join_tree, run, first_state}
use Rattle.theorems.proofs.Walks.{refused-ok, ok_same, length-walk}
use Rattle.theorems.proofs.Turns.{last_of, no-some}
use Rattle.theorems.proofs.TurnParts.{Step, Kept, run-kept}

-- the trees not visited
unfoldable unvisited : List ℕ → List Tree → ℕ
unvisited vs ts = tally (λ (t : Tree). not (any (eqb t.vertex) vs)) ts

unvisited-most : (vs : List ℕ) (ts : List Tree) → unvisited vs ts ≤ length ts
unfolding unvisited
unvisited-most vs [] = omega arith
unvisited-most vs (t ∷ ts) = go (any (eqb t.vertex) vs) (unvisited-most vs ts)
  where
    go : (b : Bool) → unvisited vs ts ≤ length ts → cond (not b) 1 0 + unvisited vs ts ≤ suc (length ts)
    go true ih = omega arith
    go false ih = omega arith

unvisited-joined : (v : ℕ) (vs : List ℕ) (ts : List Tree) (b : Branches) → tree_at ts v ≡ some b → any (eqb v) vs ≡ false → unvisited (v ∷ vs) ts < unvisited vs ts
unfolding tree_at unvisited
unvisited-joined v vs [] b e n = no-some e
unvisited-joined v vs (t ∷ ts) b e n = go (eqb t.vertex v) refl (unvisited-joined v vs ts b)
  where
    fewer : (ts : List Tree) → unvisited (v ∷ vs) ts ≤ unvisited vs ts
    fewer [] = omega arith
    fewer (t ∷ ts) = one (eqb t.vertex v) (any (eqb t.vertex) vs) refl (fewer ts)
      where
        one : (a c : Bool) → eqb t.vertex v ≡ a → unvisited (v ∷ vs) ts ≤ unvisited vs ts
            → unvisited (v ∷ vs) (t ∷ ts) ≤ unvisited vs (t ∷ ts)
        one true c u ih = rw u (omega arith)
        one false c u ih = rw u (omega arith)

    go : (z : Bool) → eqb t.vertex v ≡ z → (tree_at ts v ≡ some b → any (eqb v) vs ≡ false → unvisited (v ∷ vs) ts < unvisited vs ts)
        → unvisited (v ∷ vs) (t ∷ ts) < unvisited vs (t ∷ ts)
    go true u ih = let m : any (eqb t.vertex) vs ≡ false = rw (eqb-true t.vertex v u) n in rw (u, m) (omega (arith, fewer ts))
    go false u ih = rw u (omega (arith, ih (rw (u, tree_at) at e) n))

module _ {S : Type 0} (𝓢 : Scoring S) (f : SearchInput) (ample : length f.trees ≤ f.active) where
  -- no more trees are active than were visited
  abbrev Sparing : Path S → Type 0
  Sparing p = length p.active + unvisited p.visited f.trees ≤ length f.trees

  bare-sparing : (p : Path S) → p.active ≡ [] → Sparing p
  bare-sparing p e = rw e (omega (arith, unvisited-most p.visited f.trees))

  join-sparing : (v : ℕ) (p : Path S) → Sparing p → (r : Result (Path S)) → join_tree f v p ≡ r → (q : Path S) × (r ≡ ok q) × Sparing q
  unfolding join_tree
  join-sparing v p h r t = go (tree_at f.trees v) refl
    where
      Goal : Type 0
      Goal = (q : Path S) × (r ≡ ok q) × Sparing q

      go : (o : Option Branches) → tree_at f.trees v ≡ o → Goal
      go none u = (p, sym (rw (u, join_tree) at t), h)
      go (some b) u = fresh (has_branch b && not (any (eqb v) p.visited)) refl (ltb (length p.active) f.active) refl
        where
          fresh : (y : Bool) → (has_branch b && not (any (eqb v) p.visited)) ≡ y → (z : Bool) → ltb (length p.active) f.active ≡ z → Goal
          fresh false w z x = (p, sym (rw (u, join_tree, w) at t), h)
          fresh true w z x = room z x (unvisited-joined v p.visited f.trees b u (not-true (any (eqb v) p.visited) (and_right (has_branch b) _ w)))
            where
              room : (z : Bool) → ltb (length p.active) f.active ≡ z → unvisited (v ∷ p.visited) f.trees < unvisited p.visited f.trees → Goal
              room true x k = (_, sym (rw (u, join_tree, w, x) at t), rw length-append (omega arith))
              room false x k = absurd (omega (arith, ltb-false (length p.active) f.active x))

  step-sparing : (p q : Path S) → Sparing p → Step 𝓢 f p q → Sparing q
  step-sparing p q h e = let l : length (walk_trees e.last p.active) ≤ length p.active = length-walk e.last p.active in rw (e.walked, e.visited) (omega arith)

  sparing-kept : Kept 𝓢 f Sparing
  sparing-kept =
      record {
        bare = bare-sparing;
        joins = λ v p q h e. (let r = join-sparing v p h (ok q) e in subst Sparing (sym (ok_same r.1)) r.2);
        steps = step-sparing;
      }

  -- Where as many active trees are allowed as there are trees, no path that ever waits is refused for them, wherever a tree joins it.
  pub joins-always : (asked limit n : ℕ) (pivotal : List Ends) (s : State S) → last_of (run 𝓢 f asked limit n (more (first_state 𝓢 pivotal))) ≡ some s
      → All (λ p. (v k : ℕ) → join_tree f v p ≡ refused k → ⊥) s.waiting
  joins-always asked limit n pivotal s t =
      all-mono (λ p h v k e. (let r = join-sparing v p h (refused k) e in refused-ok r.1)) (run-kept 𝓢 f sparing-kept asked limit n pivotal s t)
