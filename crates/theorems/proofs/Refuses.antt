-- With which numbers a call is refused once no rule is broken, said once for every set P of numbers: the search with 11, with 10 where a penalty has no place, and
-- with no other; the build with 8 and 9; and 12 where pushes run out.
use mathlib.Core.Path.{◌≡◌, refl, ap}
use Prim.Native.Nat.{ℕ, zero, suc, ◌+◌}
use mathlib.Core.Bool.{Bool, true, false, not, cond, ◌&&◌, ◌||◌}
use mathlib.Core.List.{List, [], ◌∷◌, ◌++◌}
use mathlib.Core.Option.{Option, none, some}
use lib.Dec.{leb, ltb, eqb}
use lib.ListN.{length, take}
use Rattle.laws.specs.Lists.{keep, any, find_last, position, is_empty}
use Rattle.laws.specs.ListLaws.{All, nil, cons, all_head, all-mono, all_from}
use Rattle.definition.specs.Refusal.{Result, ok, refused, and_then, each}
use Rattle.definition.specs.Score.{Scoring}
use Rattle.definition.specs.Limits.{Sample, GraphMaxima, Input}
use Rattle.definition.specs.Threading.{Ends, eq_ends, Edge, threaded, with_symbolic, leaving}
use Rattle.definition.specs.Evidence.{Branches, has_branch, tree_at, nodes, evidence}
use Rattle.definition.specs.Search.{SearchInput, Path, Closed, State, Made, at_end, broken, made, Turn, more, ended, failed, full, Offer, vertices_from, end_from, times, chain, offers, has_stopping_evidence, push, push_all, lengthen, extend, repeat_rule, extensions, join_tree, close_at, made_of, extend_at, take_path, greatest, recover, advance, push_made, turn, run, pivotal_edges, first_state, search}
use Rattle.definition.specs.Building.{Built, built, built_of}
use Rattle.definition.specs.Listing.{Answer, refusal, listed, search_input, list_of, answer_of, after_build}
use Rattle.theorems.proofs.Turns.{last_of}
use Rattle.theorems.proofs.Runs.{run-ended, run-failed, run-full}
use Rattle.theorems.proofs.TurnParts.{Kept, turn-kept, first-kept}

-- refused, if at all, with a number of P
abbrev pub Only : (ℕ → Type 0) → {A : Type 0} → Result A → Type 0
Only P (ok a) = Unit {0}
Only P (refused n) = P n

abbrev OnlyMade : (ℕ → Type 0) → {S : Type 0} → Made S → Type 0
OnlyMade P at_end = Unit {0}
OnlyMade P (broken n) = P n
OnlyMade P (made s ps) = Unit {0}

-- pushes that ran out are no refusal of a turn
abbrev pub OnlyTurn : (ℕ → Type 0) → {S : Type 0} → Turn S → Type 0
OnlyTurn P (more s) = Unit {0}
OnlyTurn P (ended s) = Unit {0}
OnlyTurn P (failed n) = P n
OnlyTurn P (full s ps) = Unit {0}

abbrev pub OnlyAnswer : (ℕ → Type 0) → {S : Type 0} → Answer S → Type 0
OnlyAnswer P (refusal n) = P n
OnlyAnswer P (listed rs pushes longest) = Unit {0}

module _ (P : ℕ → Type 0) where
  then-only : {A B : Type 0} (r : Result A) (g : A → Result B) → Only P r → ((a : A) → Only P (g a)) → Only P (and_then r g)
  then-only (ok a) g l h = h a
  then-only (refused n) g l h = l

  each-only : {A B : Type 0} (g : A → Result B) {xs : List A} → All (λ x. Only P (g x)) xs → Only P (each g xs)
  each-only g nil = tt
  each-only {A} {B} g (cons {x = x} {xs = xs} h a) = go (g x) (each g xs) h (each-only g a)
    where
      go : (r : Result B) (rs : Result (List B)) → Only P r → Only P rs
          → Only P {A = List B} (elim r [ refused n ↦ refused n | ok y ↦ elim rs [ refused n ↦ refused n | ok ys ↦ ok (y ∷ ys) ] ])
      go (refused n) rs l ls = l
      go (ok y) (refused n) l ls = ls
      go (ok y) (ok ys) l ls = tt

-- Of every path that waits Fit holds; where it does, each way on that is offered has a penalty, or 10 is one of the numbers.
module _ {S : Type 0} (𝓢 : Scoring S) (f : SearchInput) (P : ℕ → Type 0) (Fit : Path S → Type 0) (eleven : P 11) (kept : Kept 𝓢 f Fit)
    (ten : (p : Path S) → Fit p → (v : ℕ) → All (λ (o : Offer). 𝓢.penalty o.count o.out_of ≡ none → P 10) (offers f (leaving f.edges v) [] p.active)) where
  -- ---- extensions

  lengthen-only : (p : Path S) (c : List Ends) (e : Ends) (x : S) (g r : Bool) → Only P (lengthen f p c e x g r)
  unfolding lengthen
  lengthen-only p c e x g r = go (leb (length (p.edges ++ c ++ e ∷ [])) f.path_edges) refl
    where
      go : (b : Bool) → leb (length (p.edges ++ c ++ e ∷ [])) f.path_edges ≡ b → Only P (lengthen f p c e x g r)
      go true u = rw (u, lengthen) tt
      go false u = rw (u, lengthen) eleven

  extend-only : (p : Path S) (c : List Ends) (o : Offer) → (𝓢.penalty o.count o.out_of ≡ none → P 10) → Only P (extend 𝓢 f p c o)
  unfolding extend
  extend-only p c o h = go (𝓢.penalty o.count o.out_of) refl
    where
      go : (d : Option S) → 𝓢.penalty o.count o.out_of ≡ d → Only P (extend 𝓢 f p c o)
      go none u = rw (u, extend) (h u)
      go (some d) u = rw (u, extend) (lengthen-only p c o.ends (𝓢.plus p.score d) o.guided false)

  extensions-only : (p : Path S) (c : List Ends) (v : ℕ) (es : List Edge)
      → All (λ (o : Offer). 𝓢.penalty o.count o.out_of ≡ none → P 10) (offers f es [] p.active) → Only P (extensions 𝓢 f p c v es)
  unfolding extensions
  extensions-only p c v [] a = tt
  extensions-only p c v (e ∷ []) a = go (not (is_empty p.active) || leb (times v (vertices_from f.source p.edges)) 1) refl
    where
      go : (b : Bool) → (not (is_empty p.active) || leb (times v (vertices_from f.source p.edges)) 1) ≡ b → Only P (extensions 𝓢 f p c v (e ∷ []))
      go true u = rw (u, extensions) (then-only P (lengthen f p c e.ends p.score false true) (λ q. ok (q ∷ [])) (lengthen-only p c e.ends p.score false true) (λ q. tt))
      go false u = rw (u, extensions) tt
  extensions-only p c v (e ∷ d ∷ es) a =
      then-only P (each (extend 𝓢 f p c) (offers f (e ∷ d ∷ es) [] p.active)) (λ qs. ok (keep (repeat_rule f) qs))
      (each-only P (extend 𝓢 f p c) (all-mono (extend-only p c) a)) (λ qs. tt)

  -- ---- a taken path

  join-only : (v : ℕ) (p : Path S) → Only P (join_tree f v p)
  unfolding join_tree
  join-only v p = go (tree_at f.trees v) refl
    where
      go : (o : Option Branches) → tree_at f.trees v ≡ o → Only P (join_tree f v p)
      go none u = rw (u, join_tree) tt
      go (some b) u = join (has_branch b && not (any (eqb v) p.visited)) refl (ltb (length p.active) f.active) refl
        where
          join : (x : Bool) → (has_branch b && not (any (eqb v) p.visited)) ≡ x → (y : Bool) → ltb (length p.active) f.active ≡ y → Only P (join_tree f v p)
          join false w y z = rw (u, join_tree, w) tt
          join true w true z = rw (u, join_tree, w, z) tt
          join true w false z = rw (u, join_tree, w, z) eleven

  close-only : (v : ℕ) (p : Path S) (c : List Ends) (s : State S) → Only P (close_at f v p c s)
  unfolding close_at
  close-only v p c s = go (eqb v f.sink) refl (has_stopping_evidence f p.active) refl (leb (length (p.edges ++ c)) f.path_edges) refl
    where
      go : (x : Bool) → eqb v f.sink ≡ x → (y : Bool) → has_stopping_evidence f p.active ≡ y → (z : Bool) → leb (length (p.edges ++ c)) f.path_edges ≡ z
          → Only P (close_at f v p c s)
      go false a y b z d = rw (a, close_at) tt
      go true a false b z d = rw (a, close_at, b) tt
      go true a true b true d = rw (a, close_at, b, d) tt
      go true a true b false d = rw (a, close_at, b, d) eleven

  made-only : (s : State S) (r : Result (List (Path S))) → Only P r → OnlyMade P (made_of s r)
  unfolding made_of
  made-only s (refused n) l = l
  made-only s (ok ps) l = tt

  extend-at-only : (p : Path S) (c : List Ends) (v : ℕ) (s : State S) → Fit p → OnlyMade P (extend_at 𝓢 f p c v s)
  unfolding extend_at
  extend-at-only p c v s h = go (join_tree f v p) refl (join-only v p)
    where
      go : (r : Result (Path S)) → join_tree f v p ≡ r → Only P r → OnlyMade P (extend_at 𝓢 f p c v s)
      go (refused n) u l = rw (u, extend_at) l
      go (ok q) u l = close (close_at f v q c s) refl (close-only v q c s)
        where
          close : (r : Result (State S)) → close_at f v q c s ≡ r → Only P r → OnlyMade P (extend_at 𝓢 f p c v s)
          close (refused n) w k = rw (u, extend_at, w) k
          close (ok s') w k = rw (u, extend_at, w) (made-only s' (extensions 𝓢 f q c v (leaving f.edges v)) (extensions-only q c v (leaving f.edges v) (ten q (kept.joins v p q h u) v)))

  take-only : (p : Path S) (s : State S) → Fit p → OnlyMade P (take_path 𝓢 f p s)
  unfolding take_path
  take-only p s h = go (ltb 5 p.since) refl
    where
      go : (b : Bool) → ltb 5 p.since ≡ b → OnlyMade P (take_path 𝓢 f p s)
      go true u = rw (u, take_path) tt
      go false u =
          let v = end_from f.source p.edges in
          rw (u, take_path) (extend-at-only p (chain f v) (end_from v (chain f v)) s h)

  -- ---- recovery

  recover-only : (e : Ends) (s : State S) → OnlyMade P (recover 𝓢 f e s)
  unfolding recover
  recover-only e s = go (greatest 𝓢 (keep (λ c. any (eqb e.from) (vertices_from f.source c.edges)) s.closed)) refl
    where
      go : (o : Option (Closed S)) → greatest 𝓢 (keep (λ c. any (eqb e.from) (vertices_from f.source c.edges)) s.closed) ≡ o → OnlyMade P (recover 𝓢 f e s)
      go none u = rw (u, recover) tt
      go (some b) u = last (find_last (λ d. eqb d.to e.from) b.edges) refl
        where
          last : (o : Option Ends) → find_last (λ d. eqb d.to e.from) b.edges ≡ o → OnlyMade P (recover 𝓢 f e s)
          last none w = rw (u, recover, w) tt
          last (some d) w = fits (leb (length (take (suc (position (eq_ends d) b.edges)) b.edges ++ e ∷ [])) f.path_edges) refl
            where
              fits : (x : Bool) → leb (length (take (suc (position (eq_ends d) b.edges)) b.edges ++ e ∷ [])) f.path_edges ≡ x → OnlyMade P (recover 𝓢 f e s)
              fits true z = rw (u, recover, w, z) tt
              fits false z = rw (u, recover, w, z) eleven

  -- ---- turns

  advance-only : (s : State S) (ps : List (Path S)) (es : List Ends) → All Fit ps → OnlyMade P (advance 𝓢 f s ps es)
  unfolding advance
  advance-only s [] [] a = tt
  advance-only s [] (e ∷ es) a = recover-only e (record { waiting = []; closed = s.closed; pivotal = es; pushes = s.pushes; longest = s.longest })
  advance-only s (p ∷ ps) es a = go (ltb (cond (is_empty s.closed) 1000 10000) (length s.waiting)) refl
    where
      go : (b : Bool) → ltb (cond (is_empty s.closed) 1000 10000) (length s.waiting) ≡ b → OnlyMade P (advance 𝓢 f s (p ∷ ps) es)
      go true u = rw (u, advance) tt
      go false u = rw (u, advance) (take-only p (record { waiting = ps; closed = s.closed; pivotal = s.pivotal; pushes = s.pushes; longest = s.longest }) (all_head a))

  push-only : (limit : ℕ) (ps : List (Path S)) (s : State S) → OnlyTurn P (push_all 𝓢 limit ps s)
  unfolding push_all
  push-only limit [] s = tt
  push-only limit (p ∷ ps) s = go (ltb s.pushes limit) refl (push-only limit ps (push 𝓢 p s))
    where
      go : (b : Bool) → ltb s.pushes limit ≡ b → OnlyTurn P (push_all 𝓢 limit ps (push 𝓢 p s)) → OnlyTurn P (push_all 𝓢 limit (p ∷ ps) s)
      go true u ih = rw (u, push_all) ih
      go false u ih = rw (u, push_all) tt

  pub turn-only : (asked limit : ℕ) (s : State S) → All Fit s.waiting → OnlyTurn P (turn 𝓢 f asked limit s)
  unfolding turn push_made
  turn-only asked limit s a = go (leb asked (length s.closed)) refl
    where
      after : (m : Made S) → OnlyMade P m → OnlyTurn P (push_made 𝓢 limit s m)
      after at_end l = tt
      after (broken n) l = l
      after (made s' ps) l = push-only limit ps s'

      go : (b : Bool) → leb asked (length s.closed) ≡ b → OnlyTurn P (turn 𝓢 f asked limit s)
      go true u = rw (u, turn) tt
      go false u = rw (u, turn) (after (advance 𝓢 f s s.waiting s.pivotal) (advance-only s s.waiting s.pivotal a))

  run_only : (asked limit n : ℕ) (s : State S) → All Fit s.waiting → OnlyTurn P (run 𝓢 f asked limit n (more s))
  unfolding run
  run_only asked limit zero s a = tt
  run_only asked limit (suc n) s a = go (turn 𝓢 f asked limit s) refl (turn-only asked limit s a) (λ x. run_only asked limit n x)
    where
      go : (t : Turn S) → turn 𝓢 f asked limit s ≡ t → OnlyTurn P t → ((x : State S) → All Fit x.waiting → OnlyTurn P (run 𝓢 f asked limit n (more x))) → OnlyTurn P (run 𝓢 f asked limit n t)
      go (more x) e o ih = ih x (turn-kept 𝓢 f kept asked limit s x a (ap last_of e))
      go (ended x) e o ih = rw (run-ended 𝓢 f asked limit n x) tt
      go (failed m) e o ih = rw (run-failed 𝓢 f asked limit n m) o
      go (full x ps) e o ih = rw (run-full 𝓢 f asked limit n x ps) tt

  pub search-only : (asked limit : ℕ) (recovery : Bool) → OnlyTurn P (search 𝓢 f asked limit recovery)
  unfolding search
  search-only asked limit recovery =
      let pivotal : List Ends = elim recovery [ true ↦ pivotal_edges f | false ↦ [] ] in
      run_only asked limit (suc (limit + length pivotal)) (first_state 𝓢 pivotal) (first-kept 𝓢 f kept pivotal)

-- Nothing asked of the paths, the search is refused with 10 or 11.
pub search-late : (P : ℕ → Type 0) → P 10 → P 11 → {S : Type 0} (𝓢 : Scoring S) (f : SearchInput) (asked limit : ℕ) (recovery : Bool) → OnlyTurn P (search 𝓢 f asked limit recovery)
search-late P ten eleven 𝓢 f =
    search-only 𝓢 f P (λ p. Unit {0}) eleven (record { bare = λ p e. tt; joins = λ v p q h e. tt; steps = λ p q h e. tt })
    (λ p h v. all_from (offers f (leaving f.edges v) [] p.active) (λ o m e. ten))

-- ---- the answer

-- the build is refused with 8 or 9
pub built-only : (P : ℕ → Type 0) → P 8 → P 9 → (s : Sample) (m : GraphMaxima) → Only P (built s m)
unfolding built built_of
built-only P eight nine s m = go (leb (suc (length (threaded s).kmers)) m.vertices && leb (length (with_symbolic s (threaded s))) m.edges) refl
    (leb (length (nodes (evidence s (threaded s)))) m.nodes) refl
  where
    go : (a : Bool) → (leb (suc (length (threaded s).kmers)) m.vertices && leb (length (with_symbolic s (threaded s))) m.edges) ≡ a
        → (b : Bool) → leb (length (nodes (evidence s (threaded s)))) m.nodes ≡ b → Only P (built s m)
    go false p b q = rw (p, built_of) eight
    go true p false q = rw (p, q, built_of) nine
    go true p true q = rw (p, q, built_of) tt

module _ {S : Type 0} (𝓢 : Scoring S) (P : ℕ → Type 0) where
  answer-only : (b : Built) (t : Turn S) → OnlyTurn P t → ((s : State S) (ps : List (Path S)) → t ≡ full s ps → P 12) → OnlyAnswer P (answer_of 𝓢 b t)
  unfolding answer_of list_of
  answer-only b (more s) l twelve = tt
  answer-only b (ended s) l twelve = tt
  answer-only b (failed n) l twelve = l
  answer-only b (full s ps) l twelve = twelve s ps refl

  -- the search of what is built
  abbrev searched : Input → Built → Turn S
  searched i b = search 𝓢 (search_input i b) i.asked i.search_maxima.pushes i.recovery

  after-only : (i : Input) (r : Result Built) → Only P r
      → ((b : Built) → r ≡ ok b → OnlyTurn P (searched i b) × ((s : State S) (ps : List (Path S)) → searched i b ≡ full s ps → P 12))
      → OnlyAnswer P (after_build 𝓢 i r)
  unfolding after_build
  after-only i (refused n) l h = l
  after-only i (ok b) l h = go (eqb i.asked 0) refl
    where
      go : (x : Bool) → eqb i.asked 0 ≡ x → OnlyAnswer P (after_build 𝓢 i (ok b))
      go true u = rw (u, after_build) tt
      go false u = rw (u, after_build) (answer-only b (searched i b) (h b refl).0 (h b refl).1)

  -- What is answered once no rule is broken: refused with 8 or 9, as the search is, or with 12 where its pushes run out.
  pub found-only : P 8 → P 9 → (i : Input)
      → ((b : Built) → built i.sample i.graph_maxima ≡ ok b → OnlyTurn P (searched i b) × ((s : State S) (ps : List (Path S)) → searched i b ≡ full s ps → P 12))
      → OnlyAnswer P (after_build 𝓢 i (built i.sample i.graph_maxima))
  found-only eight nine i h = after-only i (built i.sample i.graph_maxima) (built-only P eight nine i.sample i.graph_maxima) h
