-- What a search has spent, in pushes made and in those that its waiting paths and its pivotal edges may still come to: a turn never makes it more.
use Rattle.std.specs.Prelude.{◌≡◌, ◌⊎◌, Bool, cond, leb}
use Rattle.std.proofs.Math.Path.{refl, subst}
use Rattle.std.proofs.Common.{inl, inr, ltb-false}
use Prim.Native.Nat.{ℕ, zero, suc, ◌+◌, ◌-◌, ◌*◌, ◌≤◌, ◌<◌}
use native.Mathlib.Omega.{arith}
use Rattle.std.proofs.Math.Nat.{mul-le-mul_right}
use Rattle.std.proofs.Math.Bool.{true, false}
use mathlib.Core.List.{List, [], ◌∷◌, map}
use Rattle.std.proofs.Math.Dec.{ltb}
use Rattle.std.proofs.Math.ListN.{length, length-map}
use Rattle.laws.specs.Lists.{is_empty, total}
use Rattle.laws.specs.ListLaws.{All, nil, cons, Mem, all_head, all_tail, all-mono, mem-map, Pairwise, pigeonhole}
use Rattle.laws.specs.Insertion.{insert}
use Rattle.definition.specs.Score.{Scoring}
use Rattle.definition.specs.Threading.{Ends, Edge, leaving}
use Rattle.definition.specs.Evidence.{Branches, nodes}
use Rattle.definition.specs.Search.{SearchInput, Path, State, Made, at_end, broken, made, Turn, more, ended, failed, full, offers, ahead, wait, push, push_all, take_path, recover, advance, push_made, turn, run, pivotal_edges, first_state}
use Rattle.definition.specs.Enough.{enough}
use Rattle.theorems.proofs.Runs.{all-wait}
use Rattle.theorems.proofs.Walks.{Has, Good, GoodState, end-made, take-grown, advance-made}
use Rattle.theorems.proofs.Turns.{first_good}
use Rattle.theorems.proofs.Trees.{Rising, AllRising}
use Rattle.theorems.proofs.Forks.{pivotal-differ}
use Rattle.theorems.proofs.Twice.{any-keeps, walk-rising}
use Rattle.theorems.proofs.TurnParts.{Taken, take-parts, extensions-steps, recover-parts}
use Rattle.allowance.proofs.Weights.{below, below_up, guide, unmet-all, unmet-nodes, room, decisions, weight, extensions-weight, join-weight}

-- what the search looks at, as every built graph has it
pub record Lean (f : SearchInput) : Type 0 where
  pub rising : AllRising f.trees
  pub few : (v : ℕ) (bs : List Branches) → All Rising bs → length (offers f (leaving f.edges v) [] bs) ≤ 5
  pub differ : Pairwise (λ a b. a.ends ≡ b.ends → ⊥) f.edges

abbrev Any : {S : Type 0} → S → Type 0
Any x = Unit {0}

module _ {S : Type 0} (𝓢 : Scoring S) (f : SearchInput) (lean : Lean f) where
  abbrev Rises : Path S → Type 0
  Rises p = All Rising p.active

  -- what is pushed, with what it may come to
  abbrev cost : List (Path S) → ℕ
  cost qs = total (λ q. suc (weight f q)) qs

  take-cost : (p : Path S) (s s' : State S) (qs : List (Path S)) → Good Any f p → Rises p → take_path 𝓢 f p s ≡ made s' qs → (cost qs ≤ weight f p) × All Rises qs
  take-cost p s s' qs g r t = go (take-parts 𝓢 f p s s' qs t)
    where
      go : ((s ≡ s') × (qs ≡ [])) ⊎ Taken 𝓢 f p s s' qs → (cost qs ≤ weight f p) × All Rises qs
      go (inl h) = rw h.1 (omega arith, nil)
      go (inr h) =
          let j = join-weight f h.vertex p h.path lean.rising g.alive r h.calm h.joins in
          let w = extensions-weight 𝓢 f h.path h.chained j.alive j.calm h.vertex (leaving f.edges h.vertex) qs (lean.few h.vertex h.path.active j.rising) h.extends in
          let l = j.light in (
            omega arith,
            all-mono (λ q e. rw e.walked (walk-rising e.last j.rising)) (extensions-steps 𝓢 f h.path h.chained h.vertex (leaving f.edges h.vertex) qs h.extends),
          )

  -- no path is worth more than the start path
  unfoldable pub top : ℕ
  top = below f.path_edges (3 * length (nodes f.trees) + 6)

  -- the pushes made, and those that may still come
  unfoldable pub spent : State S → ℕ
  spent s = s.pushes + total (weight f) s.waiting + length s.pivotal * suc top

  pub record Light (F : ℕ) (s : State S) : Type 0 where
    pub good : GoodState Any f s
    pub rises : All Rises s.waiting
    pub fits : spent s ≤ F

  -- ---- recovery

  bare-weight : (p : Path S) → p.active ≡ [] → weight f p ≤ top
  unfolding weight room decisions guide top
  bare-weight p e =
      let n = unmet-all p.visited f.trees in
      let m = unmet-nodes f.trees in
      rw e (below_up (f.path_edges - length p.edges) f.path_edges _ _ (omega arith) (omega arith))

  recover-cost : (e : Ends) (s s' : State S) (qs : List (Path S)) → recover 𝓢 f e s ≡ made s' qs → (cost qs ≤ suc top) × All Rises qs
  recover-cost e s s' qs t = let r = (recover-parts 𝓢 f e s s' qs t).1 in (one qs r.0 r.1, all-mono (λ (q : Path S) h. rw h nil) r.1)
    where
      one : (qs : List (Path S)) → length qs ≤ 1 → All (λ q. q.active ≡ []) qs → cost qs ≤ suc top
      one [] h a = omega arith
      one (q ∷ []) h a = omega (arith, bare-weight q (all_head a))
      one (q ∷ r ∷ qs) h a = absurd (omega arith)

  -- ---- a turn, before its paths are pushed

  record Ready (F : ℕ) (s : State S) (ps : List (Path S)) : Type 0 where
    good : GoodState Any f s
    rises : All Rises s.waiting
    paths : All (Good Any f) ps
    risen : All Rises ps
    fits : spent s + cost ps ≤ F

  advance-light : (F : ℕ) (s s' : State S) (ws : List (Path S)) (vs : List Ends) (qs : List (Path S)) → s.waiting ≡ ws → s.pivotal ≡ vs → Light F s
      → advance 𝓢 f s ws vs ≡ made s' qs → Ready F s' qs
  unfolding advance spent
  advance-light F s s' [] [] qs ew ev l t = end-made t
  advance-light F s s' [] (e ∷ es) qs ew ev l t =
      let a = advance-made (any-keeps 𝓢) f s s' [] (e ∷ es) qs ew ev l.good (unfold advance in t) in
      let s₁ : State S = record { waiting = []; closed = s.closed; pivotal = es; pushes = s.pushes; longest = s.longest } in
      let r = recover-parts 𝓢 f e s₁ s' qs t in
      let k = recover-cost e s₁ s' qs t in
      let m : s.pushes + total (weight f) s.waiting + length s.pivotal * suc top ≤ F = l.fits in
      let m' : s.pushes + 0 + suc (length es) * suc top ≤ F = rw (ew, ev) at m in
      record { good = a.good; rises = rw (← r.0) nil; paths = a.paths; risen = k.1; fits = rw (← r.0) (omega (arith, k.0)) }
  advance-light F s s' (p ∷ ps) es qs ew ev l t = go (ltb (cond (is_empty s.closed) 1000 10000) (length s.waiting)) refl
    where
      go : (b : Bool) → ltb (cond (is_empty s.closed) 1000 10000) (length s.waiting) ≡ b → Ready F s' qs
      go true u = end-made (rw (u, advance) at t)
      go false u =
          let a = advance-made (any-keeps 𝓢) f s s' (p ∷ ps) es qs ew ev l.good t in
          let s₁ : State S = record { waiting = ps; closed = s.closed; pivotal = s.pivotal; pushes = s.pushes; longest = s.longest } in
          let gw : All (Good Any f) (p ∷ ps) = rw ew at l.good.waiting in
          let rw' : All Rises (p ∷ ps) = rw ew at l.rises in
          let h = rw (u, advance) at t in
          let r = take-grown (any-keeps 𝓢) f p s₁ s' qs (all_head gw) h in
          let k = take-cost p s₁ s' qs (all_head gw) (all_head rw') h in
          let w : s'.waiting ≡ ps = r.0.waiting in
          let c : s'.pushes ≡ s.pushes = r.0.pushes in
          let d : length s'.pivotal ≤ length s.pivotal = r.0.left in
          let m : s.pushes + total (weight f) s.waiting + length s.pivotal * suc top ≤ F = l.fits in
          let m' : s.pushes + (weight f p + total (weight f) ps) + length s.pivotal * suc top ≤ F = rw ew at m in
          record { good = a.good; rises = rw w (all_tail rw'); paths = a.paths; risen = k.1; fits = rw (w, c) (omega (arith, mul-le-mul_right (suc top) d, k.0)) }

  -- ---- pushing

  total-wait : (p : Path S) (qs : List (Path S)) → total (weight f) (wait 𝓢 p qs) ≡ weight f p + total (weight f) qs
  unfolding wait insert
  total-wait p [] = refl
  total-wait p (q ∷ qs) = go (ahead 𝓢 q p) refl (total-wait p qs)
    where
      go : (b : Bool) → ahead 𝓢 q p ≡ b → total (weight f) (wait 𝓢 p qs) ≡ weight f p + total (weight f) qs
          → total (weight f) (wait 𝓢 p (q ∷ qs)) ≡ weight f p + (weight f q + total (weight f) qs)
      go true e ih = rw (e, insert) (omega arith)
      go false e ih = rw (e, insert)

  -- a run within F: its pushes are no more, and one that fills up was allowed less
  abbrev pub Within : ℕ → ℕ → Turn S → Type 0
  Within F limit (more s) = Light F s
  Within F limit (ended s) = s.pushes ≤ F
  Within F limit (failed n) = Unit {0}
  Within F limit (full s ps) = (limit < F) × (s.pushes ≤ F)

  pushed-within : (F limit : ℕ) (ps : List (Path S)) (s : State S) → Ready F s ps → Within F limit (push_all 𝓢 limit ps s)
  unfolding push_all push spent
  pushed-within F limit [] s r = let h : spent s + 0 ≤ F = r.fits in record { good = r.good; rises = r.rises; fits = omega arith }
  pushed-within F limit (p ∷ ps) s r = go (ltb s.pushes limit) refl (pushed-within F limit ps (push 𝓢 p s))
    where
      m : s.pushes + total (weight f) s.waiting + length s.pivotal * suc top + (suc (weight f p) + cost ps) ≤ F
      m = r.fits

      go : (b : Bool) → ltb s.pushes limit ≡ b → (Ready F (push 𝓢 p s) ps → Within F limit (push_all 𝓢 limit ps (push 𝓢 p s))) → Within F limit (push_all 𝓢 limit (p ∷ ps) s)
      go true e ih =
          rw (e, push_all)
          (ih
          (record {
            good = record { waiting = all-wait 𝓢 p (all_head r.paths) r.good.waiting; closed = r.good.closed; pivotal = r.good.pivotal };
            rises = all-wait 𝓢 p (all_head r.risen) r.rises;
            paths = all_tail r.paths;
            risen = all_tail r.risen;
            fits = rw (total-wait p s.waiting) (omega (arith, m));
          }))
      go false e ih = rw (e, push_all) (omega (arith, m, ltb-false s.pushes limit e), omega (arith, m))

  -- ---- turns

  pub spent-pushes : (F : ℕ) (s : State S) → Light F s → s.pushes ≤ F
  unfolding spent
  spent-pushes F s l = let m : s.pushes + total (weight f) s.waiting + length s.pivotal * suc top ≤ F = l.fits in omega arith

  turn-within : (F asked limit : ℕ) (s : State S) → Light F s → Within F limit (turn 𝓢 f asked limit s)
  unfolding turn push_made
  turn-within F asked limit s l = go (leb asked (length s.closed)) refl
    where
      pushes : s.pushes ≤ F
      pushes = spent-pushes F s l

      after : (m : Made S) → advance 𝓢 f s s.waiting s.pivotal ≡ m → Within F limit (push_made 𝓢 limit s m)
      after at_end e = pushes
      after (broken n) e = tt
      after (made s₁ ps) e = pushed-within F limit ps s₁ (advance-light F s s₁ s.waiting s.pivotal ps refl refl l e)

      go : (b : Bool) → leb asked (length s.closed) ≡ b → Within F limit (turn 𝓢 f asked limit s)
      go true e = rw (e, turn) pushes
      go false e = rw (e, turn) (after (advance 𝓢 f s s.waiting s.pivotal) refl)

  run-within : (F asked limit n : ℕ) (t : Turn S) → Within F limit t → Within F limit (run 𝓢 f asked limit n t)
  unfolding run
  run-within F asked limit zero t w = w
  run-within F asked limit (suc n) (more s) w = run-within F asked limit n (turn 𝓢 f asked limit s) (turn-within F asked limit s w)
  run-within F asked limit (suc n) (ended s) w = w
  run-within F asked limit (suc n) (failed k) w = w
  run-within F asked limit (suc n) (full s ps) w = w

  -- ---- the search

  -- the pivotal edges are different edges of the table
  pivotal-few : length (pivotal_edges f) ≤ length f.edges
  unfolding Has first_state
  pivotal-few =
      let d = (pivotal-differ f lean.differ).0 in
      let h : All (Has f.edges) (pivotal_edges f) = (first_good (any-keeps 𝓢) f true).pivotal in
      let l = length-map f.edges (λ (e : Edge). e.ends) in
      let m : length (pivotal_edges f) ≤ length (map (λ (e : Edge). e.ends) f.edges) = pigeonhole d (all-mono (λ x w. subst (λ (z : Ends). Mem z (map (λ (e : Edge). e.ends) f.edges)) w.2 (mem-map (λ (e : Edge). e.ends) w.1)) h) in
      omega arith

  first-light : (recovery : Bool)
      → Light (enough (length f.edges) (length (nodes f.trees)) f.path_edges) (first_state 𝓢 (elim recovery as (λ _. List Ends) [ true ↦ pivotal_edges f | false ↦ [] ]))
  unfolding first_state enough spent top below
  first-light recovery = record { good = first_good (any-keeps 𝓢) f recovery; rises = cons nil nil; fits = start recovery }
    where
      w : weight f (record { edges = []; score = 𝓢.start; active = []; visited = []; since = 0 }) ≤ top
      w = bare-weight _ refl

      start : (r : Bool) → spent (first_state 𝓢 (elim r as (λ _. List Ends) [ true ↦ pivotal_edges f | false ↦ [] ])) ≤ enough (length f.edges) (length (nodes f.trees)) f.path_edges
      start true = omega (arith, w, mul-le-mul_right (suc top) pivotal-few)
      start false = omega (arith, w)

  -- after any number of turns, and so at the end
  pub turns-within : (asked limit n : ℕ) (recovery : Bool) → Within (enough (length f.edges) (length (nodes f.trees)) f.path_edges) limit
      (run 𝓢 f asked limit n (more (first_state 𝓢 (elim recovery as (λ _. List Ends) [ true ↦ pivotal_edges f | false ↦ [] ]))))
  turns-within asked limit n recovery = run-within _ asked limit n _ (first-light recovery)
