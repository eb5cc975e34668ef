-- What the slices of the search hold, as the definition's `State`: the path records with their active trees, the heap of those that wait, the closed ones
-- in their order, and the marks of the pivotal edges.
use Rattle.std.specs.Prelude.{◌≡◌, ◌≢◌, List, [], ◌∷◌, map, ℕ, zero, suc, ◌+◌, ◌*◌, ◌<◌, ◌≤◌, length, take, drop, Float, false}
use Rattle.std.specs.Float.Ieee.{is_nan}
use Rattle.laws.specs.ListLaws.{All}
use Rattle.laws.specs.Heaps.{nth}
use Rattle.definition.specs.Evidence.{Branches}
use Rattle.definition.specs.Search.{SearchInput, Path, Closed, State}
use Rattle.theorems.proofs.Counts.{Small}
use Rattle.path_store.specs.Cells.{HasPaths, parent_of, count_of, joined_of, trees_of, score_of}
use Rattle.path_growth.specs.Join.{Childless}
use Rattle.path_growth.specs.View.{view_of, closed_of}
use Rattle.path_growth.specs.Held.{Held}
use Rattle.closed_paths.specs.Cross.{unvisited, Distinct, Fork}
use Rattle.path_heap.specs.Heap.{ScoreHeap, waiting}
use Rattle.fork_offers.specs.Actives.{Actives}
use Rattle.search_state.specs.Settings.{Setting}
use Rattle.search_state.specs.declared.Progress.{Progress}
use Rattle.search_state.specs.Ground.{name_of}

-- the record r as the definition's path; `bs r` are its active trees
abbrev pub path_of : SearchInput → List ℕ → List ℕ → List ℕ → (ℕ → List Branches) → List ℕ → List Float → ℕ → Path Float
path_of f es index targets bs t sc r = view_of f (name_of es) index targets (bs r) t sc r

-- the record r as the definition's closed path; `closing r` is its closing number
abbrev pub closed_record : List ℕ → List ℕ → List ℕ → (ℕ → ℕ) → List ℕ → List Float → ℕ → Closed Float
closed_record es index targets closing t sc r = closed_of (name_of es) index targets t sc (closing r) r

-- the first n path records are right, and so are their active trees: those of the record r stand from place r * active on
pub record Records (f : SearchInput) (g : Setting) (es x index targets : List ℕ) (bs : ℕ → List Branches) (t : List ℕ) (sc : List Float) (ac : List ℕ) (n : ℕ) : Type 0 where
  pub held : Held index targets f.source t sc n
  pub actives : (r : ℕ) → r < n → Actives g.cap g.nodes x ac (r * g.active) (r * g.active + trees_of t r) (bs r)
  pub trees : (r : ℕ) → r < n → trees_of t r ≤ g.active
  pub small : (r : ℕ) → r < n → All (Small 65535) (bs r)
  pub short : (r : ℕ) → r < n → count_of t r ≤ g.most
  pub number : (r : ℕ) → r < n → is_nan (score_of sc r) ≡ false

-- a record that waits, or may: no tree has joined since it was made, and no path has been made from it
pub record Idle (t : List ℕ) (n r : ℕ) : Type 0 where
  pub known : r < n
  pub unjoined : joined_of t r ≡ 0
  pub childless : Childless t n r

pub record Holds (f : SearchInput) (g : Setting) (es x index targets : List ℕ) (bs : ℕ → List Branches) (closing : ℕ → ℕ) (t : List ℕ) (sc : List Float) (ac queue closed order marks : List ℕ)
    (p : Progress) (s : State Float) : Type 0 where
  pub records : Records f g es x index targets bs t sc ac p.records
  -- the waiting paths
  pub heap : ScoreHeap sc queue p.waiting
  pub idle : (i : ℕ) → i < p.waiting → Idle t p.records (nth queue i)
  pub once : Distinct (waiting sc queue p.waiting)
  pub waiting : s.waiting ≡ map (path_of f es index targets bs t sc) (waiting sc queue p.waiting)
  -- the closed paths
  pub closed-known : All (λ r. r < p.records) (take p.closed closed)
  pub closed-room : p.closed ≤ length closed
  pub closed_is : s.closed ≡ map (closed_record es index targets closing t sc) (take p.closed closed)
  -- the pivotal edges: those from place `next` on that are still marked
  pub pivotal : s.pivotal ≡ map (name_of es) (unvisited (drop p.next (take p.pivotal order)) marks)
  pub pivotal-once : Distinct (take p.pivotal order)
  pub pivotal-known : All (λ e. e < length targets) (take p.pivotal order)
  pub pivotal-forks : All (Fork index) (take p.pivotal order)
  pub order-room : p.pivotal ≤ length order
  pub marks-room : length targets ≤ length marks
  pub next_low : p.next ≤ p.pivotal
  -- the counts
  pub pushes : s.pushes ≡ p.pushes
  pub longest : s.longest ≡ p.mark
  pub mark-fits : p.mark ≤ p.pushes
  pub waiting-fits : p.waiting ≤ p.mark
  pub pushes-fit : p.pushes ≤ g.pushes

-- between turns every record has been pushed or has closed; within a turn `extra` more have been made
abbrev pub Made : Progress → ℕ → Type 0
Made p extra = p.records ≤ p.pushes + p.closed + extra

-- the path r does not wait
abbrev pub Apart : List Float → List ℕ → ℕ → ℕ → Type 0
Apart sc queue n r = All (λ q. q ≢ r) (waiting sc queue n)

-- the lengths that the search asks of the slices: a record for each push, each closing, and each extension of a fork, all of which are made before any is
-- pushed
pub record Room (g : Setting) (t : List ℕ) (sc : List Float) (ac queue closed : List ℕ) : Type 0 where
  pub paths : HasPaths t (g.pushes + g.asked + 8)
  pub scores : g.pushes + g.asked + 8 ≤ length sc
  pub actives : (g.pushes + g.asked + 8) * g.active ≤ length ac
  pub waiting : g.pushes ≤ length queue
  pub closed-room : g.asked ≤ length closed

-- The first n records but r are read from the new tables as from the old; where r is n, all of them.
pub record Kept (f : SearchInput) (es index targets : List ℕ) (bs : ℕ → List Branches) (t : List ℕ) (sc : List Float) (bs' : ℕ → List Branches) (t' : List ℕ) (sc' : List Float) (n r : ℕ) : Type 0 where
  pub path : (q : ℕ) → q < n → q ≢ r → path_of f es index targets bs' t' sc' q ≡ path_of f es index targets bs t sc q
  pub closed : (c q : ℕ) → q < n → closed_of (name_of es) index targets t' sc' c q ≡ closed_of (name_of es) index targets t sc c q
  pub joined : (q : ℕ) → q < n → q ≢ r → joined_of t' q ≡ joined_of t q
  pub parent : (q : ℕ) → q < n → parent_of t' q ≡ parent_of t q
  pub score : (q : ℕ) → q < n → score_of sc' q ≡ score_of sc q

-- the numbers from a on, n of them
unfoldable pub up_from : ℕ → ℕ → List ℕ
up_from a zero = []
up_from a (suc n) = a ∷ up_from (suc a) n

-- the records a to b - 1 are new: made from the path r, and nothing has joined them
pub record New (t : List ℕ) (a b r : ℕ) : Type 0 where
  pub unjoined : (q : ℕ) → a ≤ q → q < b → joined_of t q ≡ 0
  pub parent : (q : ℕ) → a ≤ q → q < b → parent_of t q ≡ suc r
