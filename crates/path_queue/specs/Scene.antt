-- What a step of the queue neither reads nor writes, but is told by: the input of the search and the other slices.
use Rattle.std.specs.Prelude.{◌≡◌, refl, ◌≢◌, List, [], ◌∷◌, ℕ, Float, Bool, true, false}
use Rattle.std.proofs.Common.{sym}
use Rattle.laws.specs.ListLaws.{All, nil, all-mono, all_head, all_tail}
use Rattle.laws.specs.Insertion.{insert, insert-past, insert-here, all_insert}
use Rattle.definition.specs.Evidence.{Branches}
use Rattle.definition.specs.Search.{SearchInput, Path, State}
use Rattle.closed_paths.specs.Cross.{Distinct}
use Rattle.search_state.specs.Settings.{Setting}
use Rattle.search_state.specs.declared.Progress.{Progress}
use Rattle.search_state.specs.State.{path_of, Holds}

pub record Scene : Type 0 where
  pub f : SearchInput
  pub es : List ℕ
  pub x : List ℕ
  pub index : List ℕ
  pub targets : List ℕ
  pub bs : ℕ → List Branches
  pub closing : ℕ → ℕ
  pub t : List ℕ
  pub ac : List ℕ
  pub closed : List ℕ
  pub order : List ℕ
  pub marks : List ℕ

abbrev pub Stands : Scene → Setting → List Float → List ℕ → Progress → State Float → Type 0
Stands G g sc queue p s = Holds G.f g G.es G.x G.index G.targets G.bs G.closing G.t sc G.ac queue G.closed G.order G.marks p s

abbrev pub path_in : Scene → List Float → ℕ → Path Float
path_in G sc r = path_of G.f G.es G.index G.targets G.bs G.t sc r

-- ---- numbers that stand once

pub distinct-insert : (before : ℕ → ℕ → Bool) (r : ℕ) (xs : List ℕ) → All (λ q. q ≢ r) xs → Distinct xs → Distinct (insert before r xs)
unfolding insert
distinct-insert before r [] a d = (nil, tt)
distinct-insert before r (x ∷ xs) a d = go (before x r) refl (distinct-insert before r xs (all_tail a) d.1)
  where
    go : (b : Bool) → before x r ≡ b → Distinct (insert before r xs) → Distinct (insert before r (x ∷ xs))
    go true e ih = rw (insert-past before r x xs e) (all_insert before r (all_head a) d.0, ih)
    go false e ih = rw (insert-here before r x xs e) (all-mono (λ y n q. n (sym q)) a, d)
