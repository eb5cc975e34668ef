-- The heap's list, read as paths, is the definition's list of waiting paths: a push is the definition's `wait`, a pop takes the head.
-- `view` is how a record number gives a path.
use Rattle.std.specs.Prelude.{◌≡◌, ℕ, ◌+◌, ◌<◌, get_or, Float}
use Rattle.std.proofs.Common.{◌∙◌, ap, List, map}
use Rattle.std.specs.Float.{nan}
use Rattle.laws.specs.ListLaws.{all-mono}
use Rattle.laws.specs.Sorting.{insert-map}
use Rattle.laws.specs.Heaps.{nth}
use Rattle.definition.specs.Score.{column_scoring}
use Rattle.definition.specs.Search.{Path, wait, ahead}
use Rattle.path_heap.specs.Heap.{waiting, ahead_of, Pushed, waiting-all}

-- the paths that wait, as the definition keeps them
abbrev pub waiting_paths : (ℕ → Path Float) → List Float → List ℕ → ℕ → List (Path Float)
waiting_paths view sc h n = map view (waiting sc h n)

module _ (column sc : List Float) (view : ℕ → Path Float) where
  -- a record's score is its path's
  abbrev pub Seen : ℕ → Type 0
  Seen a = get_or sc a nan ≡ (view a).score

  ahead-view : (r q : ℕ) → Seen r → Seen q → ahead_of sc q r ≡ ahead (column_scoring column) (view q) (view r)
  unfolding ahead column_scoring
  ahead-view r q k p = rw (k, p)

  pub pushed-view : (h : List ℕ) (n r : ℕ) (h' : List ℕ) → Pushed sc h n r h' → Seen r → ((i : ℕ) → i < n → Seen (nth h i))
      → waiting_paths view sc h' (n + 1) ≡ wait (column_scoring column) (view r) (waiting_paths view sc h n)
  unfolding wait
  pushed-view h n r h' p k s =
      ap (λ (l : List ℕ). map view l) p.is
      ∙ insert-map (ahead_of sc) (ahead (column_scoring column)) view r (all-mono (λ q. ahead-view r q k) (waiting-all Seen sc h n s))
