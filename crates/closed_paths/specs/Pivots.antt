-- The pivotal edges as numbers: they differ, and no chain goes on by one of them, which is what striking them out by marks asks (Cross).
use Rattle.std.specs.Prelude.{◌≡◌, ◌≢◌, false, List, [], ◌∷◌, map, ℕ, length}
use Rattle.std.proofs.Common.{sym, ap, ◌∙◌, arith}
use Rattle.laws.specs.ListLaws.{All, nil, cons, clash, Pairwise, empty, first, pairwise-head, pairwise-tail}
use Rattle.definition.specs.Threading.{Ends, eq_ends, Edge, leaving}
use Rattle.definition.specs.Search.{SearchInput, ends_of, pivotal_edges}
use Rattle.theorems.proofs.Tables.{Once}
use Rattle.theorems.proofs.Walks.{eq_ends-self}
use Rattle.theorems.proofs.Forks.{pivotal-differ, onward-sole}
use Rattle.theorems.proofs.Forks as forks
use Rattle.closed_paths.specs.Cross.{Distinct, Fork}
use Rattle.path_growth.specs.Link.{Agrees, On}

-- edges of which none stands twice differ
differ : (es : List Edge) → Once (ends_of es) → Pairwise (λ a b. a.ends ≡ b.ends → ⊥) es
unfolding ends_of
differ [] o = empty
differ (e ∷ es) o = first (others es o.0) (differ es o.1)
  where
    others : (ds : List Edge) → All (λ (y : Ends). eq_ends y e.ends ≡ false) (ends_of ds) → All (λ d. e.ends ≡ d.ends → ⊥) ds
    others [] a = nil
    others (d ∷ ds) (cons h a) = cons {x = d} (λ q. clash (sym (eq_ends-self e.ends) ∙ ap (λ (y : Ends). eq_ends y e.ends) q ∙ h)) (others ds a)

-- and so do their numbers
distinct : (ends : ℕ → Ends) (order : List ℕ) → Pairwise (λ a b. a ≡ b → ⊥) (map ends order) → Distinct order
distinct ends [] p = tt
distinct ends (x ∷ xs) p = (others xs (pairwise-head p), distinct ends xs (pairwise-tail p))
  where
    others : (ys : List ℕ) → All (λ (y : Ends). ends x ≡ y → ⊥) (map ends ys) → All (λ y. x ≢ y) ys
    others [] a = nil
    others (y ∷ ys) (cons h a) = cons {x = y} (λ e. h (ap ends e)) (others ys a)

module _ (f : SearchInput) (o : Once (ends_of f.edges)) (ends : ℕ → Ends) (order : List ℕ) (names : map ends order ≡ pivotal_edges f) where
  pub pivotal-distinct : Distinct order
  pivotal-distinct = distinct ends order (rw names (pivotal-differ f (differ f.edges o)).0)

  pub pivotal-forks : (index targets : List ℕ) → Agrees f index targets ends → All (Fork index) order
  pivotal-forks index targets A = numbers order (rw names (pivotal-differ f (differ f.edges o)).1)
    where
      fork : (e : ℕ) → forks.Fork f.edges (ends e) → Fork index e
      fork e h u k =
          let s : On f ends u e = A.on u e k in
          let one : length (leaving f.edges s.edge.ends.from) ≡ 1 = onward-sole f u s.edge s.is in
          let same : length (leaving f.edges (ends e).from) ≡ 1 = rw s.name at one in
          absurd (omega arith)

      numbers : (ds : List ℕ) → All (forks.Fork f.edges) (map ends ds) → All (Fork index) ds
      numbers [] a = nil
      numbers (d ∷ ds) (cons h a) = cons (fork d h) (numbers ds a)
