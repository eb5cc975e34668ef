-- Whole turns and runs: what pushing keeps, the measure that falls, what a run reaches, that it has turns enough, and that a run for fewer paths
-- is the front of the run for more.
use mathlib.Core.Path.{◌≡◌, refl, sym, ap, ap₂, subst, ◌∙◌}
use Prim.Native.Nat.{ℕ, zero, suc, ◌+◌, ◌-◌, ◌≤◌, ◌<◌}
use native.Mathlib.Omega.{arith}
use mathlib.Core.Bool.{Bool, true, false, not, ◌&&◌, cond}
use mathlib.Core.List.{List, [], ◌∷◌, ◌++◌, append-nil, append_assoc}
use mathlib.Core.Option.{Option, none, some}
use lib.Dec.{leb, ltb, eqb}
use lib.ListN.{length, length-append}
use borrow.Author.Tests.{ltb-true, leb-true, leb-false, le-leb, lt-leb}
use Rattle.laws.specs.Lists.{keep}
use Rattle.laws.specs.ListLaws.{All, nil, cons, all_head, all_tail, all_append, all-mono, all_keep, all_map, keep_all, keep-none, keep_append}
use Rattle.definition.specs.Score.{Scoring}
use Rattle.definition.specs.Threading.{Ends, Edge, support_of, leaving}
use Rattle.definition.specs.Search.{SearchInput, Path, Closed, State, Made, at_end, broken, made, Turn, more, ended, failed, full, wait, push, push_all, advance, push_made, turn, run, Queued, among, ends_of, pivotal_of, pivotal_from, pivotal_edges, first_state, search}
use Rattle.theorems.proofs.Runs.{length-wait, all-wait, turn-fewer, turn-stop, run-ended, run-failed, run-full, run-add}
use Rattle.theorems.proofs.Order.{Keeps}
use Rattle.theorems.proofs.Walks.{Has, leaving-on, Good, GoodState, Numbered, advance-made}

-- the state that a run has come to, where it is no refusal; one that filled up stands at the push that was not allowed
abbrev pub last_of : {S : Type 0} → Turn S → Option (State S)
last_of (more s) = some s
last_of (ended s) = some s
last_of (failed n) = none
last_of (full s ps) = some s

abbrev pub measure : {S : Type 0} → ℕ → State S → ℕ
measure limit s = (limit - s.pushes) + length s.waiting + length s.pivotal

pub same_some : {A : Type 0} {a b : A} → some a ≡ some b → a ≡ b
same_some e = cc

pub no-some : {A B : Type 0} {a : A} → none ≡ some a → B
no-some e = let z : ◌≡◌ {A = ℕ} 0 1 = cc in absurd (omega arith)

-- ---- numbers of closings

module _ {S : Type 0} where
  numbered-append : (n : ℕ) (xs ys : List (Closed S)) → Numbered n xs → Numbered (n + length xs) ys → Numbered n (xs ++ ys)
  numbered-append n [] ys a b = let e : n + 0 ≡ n = omega arith in rw e at b
  numbered-append n (x ∷ xs) ys a b =
      let e : n + suc (length xs) ≡ suc n + length xs = omega arith in
      (a.0, numbered-append (suc n) xs ys a.1 (rw e at b))

  pub numbered-above : (n : ℕ) (xs : List (Closed S)) → Numbered n xs → All (λ c. n < c.closing) xs
  numbered-above n [] a = nil
  numbered-above n (x ∷ xs) a = let e : x.closing ≡ suc n = a.0 in cons {x = x} (omega arith) (all-mono (λ c h. omega arith) (numbered-above (suc n) xs a.1))

  numbered_within : (n : ℕ) (xs : List (Closed S)) → Numbered n xs → All (λ c. c.closing ≤ n + length xs) xs
  numbered_within n [] a = nil
  numbered_within n (x ∷ xs) a = let e : x.closing ≡ suc n = a.0 in cons {x = x} (omega arith) (all-mono (λ c h. omega arith) (numbered_within (suc n) xs a.1))

-- ---- pushing

-- what pushing keeps
record Pushed {S : Type 0} (Fine : S → Type 0) (f : SearchInput) (limit : ℕ) (s s' : State S) : Type 0 where
  closed : s'.closed ≡ s.closed
  level : measure limit s' ≡ measure limit s
  good : GoodState Fine f s'

-- what a turn that goes on does
pub record Turned {S : Type 0} (Fine : S → Type 0) (f : SearchInput) (limit : ℕ) (s s' : State S) : Type 0 where
  pub extra : List (Closed S)
  pub closed : s'.closed ≡ s.closed ++ extra
  pub few : length extra ≤ 1
  pub numbered : Numbered (length s.closed) extra
  pub lower : measure limit s' < measure limit s
  pub good : GoodState Fine f s'

-- what a run does: closings are appended and numbered on
pub record Reached {S : Type 0} (Fine : S → Type 0) (f : SearchInput) (s s' : State S) : Type 0 where
  pub extra : List (Closed S)
  pub closed : s'.closed ≡ s.closed ++ extra
  pub numbered : Numbered (length s.closed) extra
  pub good : GoodState Fine f s'

module _ {S : Type 0} {𝓢 : Scoring S} {Fine : S → Type 0} (K : Keeps 𝓢 Fine) (f : SearchInput) (limit : ℕ) where
  pushed : (ps : List (Path S)) (s s' : State S) → GoodState Fine f s → All (Good Fine f) ps → last_of (push_all 𝓢 limit ps s) ≡ some s' → Pushed Fine f limit s s'
  unfolding push_all push
  pushed [] s s' g a t = subst (Pushed Fine f limit s) (same_some t) (record { closed = refl; level = refl; good = g })
  pushed (p ∷ ps) s s' g a t = go (ltb s.pushes limit) refl (λ x gx h. pushed ps x s' gx (all_tail a) h)
    where
      go : (b : Bool) → ltb s.pushes limit ≡ b
          → ((x : State S) → GoodState Fine f x → last_of (push_all 𝓢 limit ps x) ≡ some s' → Pushed Fine f limit x s') → Pushed Fine f limit s s'
      go false e ih = subst (Pushed Fine f limit s) (same_some (rw (e, push_all) at t)) (record { closed = refl; level = refl; good = g })
      go true e ih =
          let r = ih (push 𝓢 p s) (record { waiting = all-wait 𝓢 p (all_head a) g.waiting; closed = g.closed; pivotal = g.pivotal }) (rw (e, push_all) at t) in
          let h : s.pushes < limit = ltb-true s.pushes limit e in
          let l : length (wait 𝓢 p s.waiting) ≡ suc (length s.waiting) = length-wait 𝓢 p s.waiting in
          let m : measure limit s' ≡ (limit - suc s.pushes) + length (wait 𝓢 p s.waiting) + length s.pivotal = r.level in
          record { closed = r.closed; level = m ∙ (rw l (omega arith)); good = r.good }

  push-no-end : (ps : List (Path S)) (s s' : State S) → push_all 𝓢 limit ps s ≡ ended s' → ⊥
  unfolding push_all
  push-no-end [] s s' t = let z : ◌≡◌ {A = ℕ} 0 1 = cc in omega arith
  push-no-end (p ∷ ps) s s' t = go (ltb s.pushes limit) refl (push-no-end ps (push 𝓢 p s) s')
    where
      go : (b : Bool) → ltb s.pushes limit ≡ b → (push_all 𝓢 limit ps (push 𝓢 p s) ≡ ended s' → ⊥) → ⊥
      go false e ih = let h : full s (p ∷ ps) ≡ ended s' = rw (e, push_all) at t in let z : ◌≡◌ {A = ℕ} 0 1 = cc in omega arith
      go true e ih = ih (rw (e, push_all) at t)

  -- ---- a turn

  turn-made : (asked : ℕ) (s s' : State S) (u : Turn S) → (u ≡ ended s → ⊥) → GoodState Fine f s → turn 𝓢 f asked limit s ≡ u → last_of u ≡ some s'
      → Turned Fine f limit s s'
  unfolding turn push_made
  turn-made asked s s' u n g t w = go (leb asked (length s.closed)) refl
    where
      after : (m : Made S) → advance 𝓢 f s s.waiting s.pivotal ≡ m → push_made 𝓢 limit s m ≡ u → Turned Fine f limit s s'
      after at_end e h = absurd (n (sym h))
      after (broken m) e h = no-some (ap last_of h ∙ w)
      after (made s₁ ps) e h =
          let r = advance-made K f s s₁ s.waiting s.pivotal ps refl refl g e in
          let q = pushed ps s₁ s' r.good r.paths (ap last_of h ∙ w) in
          let u : s₁.pushes ≡ s.pushes = r.pushes in
          let l : length s₁.waiting + length s₁.pivotal < length s.waiting + length s.pivotal = r.lower in
          let m : measure limit s' ≡ (limit - s₁.pushes) + length s₁.waiting + length s₁.pivotal = q.level in
          let m' : measure limit s' ≡ (limit - s.pushes) + length s₁.waiting + length s₁.pivotal = m ∙ ap (λ (x : ℕ). (limit - x) + length s₁.waiting + length s₁.pivotal) u in
          record { extra = r.extra; closed = q.closed ∙ r.closed; few = r.few; numbered = r.numbered; lower = rw m' (omega arith); good = q.good }

      go : (b : Bool) → leb asked (length s.closed) ≡ b → Turned Fine f limit s s'
      go true e = absurd (n (sym (rw (e, turn) at t)))
      go false e = after (advance 𝓢 f s s.waiting s.pivotal) refl (rw (e, turn) at t)

  pub turn_more : (asked : ℕ) (s s' : State S) → GoodState Fine f s → turn 𝓢 f asked limit s ≡ more s' → Turned Fine f limit s s'
  turn_more asked s s' g t = turn-made asked s s' (more s') (λ e. (let z : ◌≡◌ {A = ℕ} 0 1 = cc in omega arith)) g t refl

  pub turn-full : (asked : ℕ) (s s' : State S) (ps : List (Path S)) → GoodState Fine f s → turn 𝓢 f asked limit s ≡ full s' ps → Turned Fine f limit s s'
  turn-full asked s s' ps g t = turn-made asked s s' (full s' ps) (λ e. (let z : ◌≡◌ {A = ℕ} 0 1 = cc in omega arith)) g t refl

  pub turn-ended : (asked : ℕ) (s s' : State S) → turn 𝓢 f asked limit s ≡ ended s' → s ≡ s'
  unfolding turn push_made
  turn-ended asked s s' t = go (leb asked (length s.closed)) refl
    where
      after : (m : Made S) → push_made 𝓢 limit s m ≡ ended s' → s ≡ s'
      after at_end h = cc
      after (broken n) h = let z : ◌≡◌ {A = ℕ} 0 1 = cc in absurd (omega arith)
      after (made s₁ ps) h = absurd (push-no-end ps s₁ s' h)

      go : (b : Bool) → leb asked (length s.closed) ≡ b → s ≡ s'
      go true e = let h : ended s ≡ ended s' = rw (e, turn) at t in cc
      go false e = after (advance 𝓢 f s s.waiting s.pivotal) (rw (e, turn) at t)

  -- ---- a run

  reached-self : (s s' : State S) → GoodState Fine f s → s ≡ s' → Reached Fine f s s'
  reached-self s s' g e = subst (Reached Fine f s) e (record { extra = []; closed = sym (append-nil s.closed); numbered = tt; good = g })

  reached-on : (s s₁ s' : State S) → Turned Fine f limit s s₁ → Reached Fine f s₁ s' → Reached Fine f s s'
  reached-on s s₁ s' t r =
      let e : length s₁.closed ≡ length s.closed + length t.extra = ap length t.closed ∙ length-append s.closed t.extra in
      record {
        extra = t.extra ++ r.extra;
        closed = r.closed ∙ (rw t.closed (append_assoc s.closed t.extra r.extra));
        numbered = numbered-append (length s.closed) t.extra r.extra t.numbered (rw e at r.numbered);
        good = r.good;
      }

  pub run-reached : (asked n : ℕ) (s s' : State S) → GoodState Fine f s → last_of (run 𝓢 f asked limit n (more s)) ≡ some s' → Reached Fine f s s'
  unfolding run
  run-reached asked zero s s' g t = reached-self s s' g (same_some t)
  run-reached asked (suc n) s s' g t = go (turn 𝓢 f asked limit s) refl t (λ x gx h. run-reached asked n x s' gx h)
    where
      go : (u : Turn S) → turn 𝓢 f asked limit s ≡ u → last_of (run 𝓢 f asked limit n u) ≡ some s'
          → ((x : State S) → GoodState Fine f x → last_of (run 𝓢 f asked limit n (more x)) ≡ some s' → Reached Fine f x s') → Reached Fine f s s'
      go (more x) e h ih = let r = turn_more asked s x g e in reached-on s x s' r (ih x r.good h)
      go (ended x) e h ih =
          reached-self s s' g (turn-ended asked s x e ∙ same_some (ap last_of (sym (run-ended 𝓢 f asked limit n x)) ∙ h))
      go (failed m) e h ih = no-some (ap last_of (sym (run-failed 𝓢 f asked limit n m)) ∙ h)
      go (full x ps) e h ih =
          let r = turn-full asked s x ps g e in
          reached-on s x s' r (reached-self x s' r.good (same_some (ap last_of (sym (run-full 𝓢 f asked limit n x ps)) ∙ h)))

  -- (D) a run whose fuel is above the measure never answers `more`
  pub run-enough : (asked n : ℕ) (s s' : State S) → GoodState Fine f s → measure limit s < n → run 𝓢 f asked limit n (more s) ≡ more s' → ⊥
  unfolding run
  run-enough asked zero s s' g h t = omega arith
  run-enough asked (suc n) s s' g h t = go (turn 𝓢 f asked limit s) refl t (λ x gx k. run-enough asked n x s' gx k)
    where
      go : (u : Turn S) → turn 𝓢 f asked limit s ≡ u → run 𝓢 f asked limit n u ≡ more s'
          → ((x : State S) → GoodState Fine f x → measure limit x < n → run 𝓢 f asked limit n (more x) ≡ more s' → ⊥) → ⊥
      go (more x) e k ih =
          let r = turn_more asked s x g e in
          let l : measure limit x < measure limit s = r.lower in
          ih x r.good (omega arith) k
      go (ended x) e k ih = let q : ended x ≡ more s' = sym (run-ended 𝓢 f asked limit n x) ∙ k in let z : ◌≡◌ {A = ℕ} 0 1 = cc in omega arith
      go (failed m) e k ih = let q : failed m ≡ more s' = sym (run-failed 𝓢 f asked limit n m) ∙ k in let z : ◌≡◌ {A = ℕ} 0 1 = cc in omega arith
      go (full x ps) e k ih = let q : full x ps ≡ more s' = sym (run-full 𝓢 f asked limit n x ps) ∙ k in let z : ◌≡◌ {A = ℕ} 0 1 = cc in omega arith

  -- (D) more fuel gives the same
  pub run_more : (asked n m : ℕ) (s : State S) → GoodState Fine f s → measure limit s < n
      → run 𝓢 f asked limit (n + m) (more s) ≡ run 𝓢 f asked limit n (more s)
  run_more asked n m s g h = run-add 𝓢 f asked limit n m (more s) ∙ go (run 𝓢 f asked limit n (more s)) refl
    where
      go : (u : Turn S) → run 𝓢 f asked limit n (more s) ≡ u → run 𝓢 f asked limit m (run 𝓢 f asked limit n (more s)) ≡ run 𝓢 f asked limit n (more s)
      go (more x) e = absurd (run-enough asked n s x g h e)
      go (ended x) e = rw e (run-ended 𝓢 f asked limit m x)
      go (failed k) e = rw e (run-failed 𝓢 f asked limit m k)
      go (full x ps) e = rw e (run-full 𝓢 f asked limit m x ps)

  -- ---- (B) fewer paths asked

  -- of closings numbered from 1 on, those up to n are the first n
  keep-front : (n : ℕ) (cs extra : List (Closed S)) → Numbered 0 cs → length cs ≤ n → Numbered (length cs) extra → n ≤ length cs
      → keep (λ c. leb c.closing n) (cs ++ extra) ≡ cs
  keep-front n cs extra a h b k =
      keep_append (λ c. leb c.closing n) cs extra
      ∙ ap₂ (λ (x y : List (Closed S)). x ++ y) (keep_all _ (all-mono (λ c j. le-leb c.closing n (omega arith)) (numbered_within 0 cs a)))
      (keep-none _ (all-mono (λ c j. lt-leb c.closing n (omega arith)) (numbered-above (length cs) extra b)))
      ∙ append-nil cs

  keep-whole : (n : ℕ) (cs : List (Closed S)) → Numbered 0 cs → length cs ≤ n → keep (λ c. leb c.closing n) cs ≡ cs
  keep-whole n cs a h = keep_all _ (all-mono (λ c j. le-leb c.closing n (omega arith)) (numbered_within 0 cs a))

  -- The closings of the run for n are those of the run for m numbered up to n.
  pub run-fewer : (n m fuel : ℕ) (s sn sm : State S) → n ≤ m → GoodState Fine f s → Numbered 0 s.closed → length s.closed ≤ n
      → last_of (run 𝓢 f n limit fuel (more s)) ≡ some sn → last_of (run 𝓢 f m limit fuel (more s)) ≡ some sm
      → keep (λ c. leb c.closing n) sm.closed ≡ sn.closed
  unfolding run
  run-fewer n m zero s sn sm le g a h tn tm =
      let en : s ≡ sn = same_some tn in
      let em : s ≡ sm = same_some tm in
      rw (← em, ← en) (keep-whole n s.closed a h)
  run-fewer n m (suc fuel) s sn sm le g a h tn tm = go (leb n (length s.closed)) refl (λ x. run-fewer n m fuel x sn sm le)
    where
      Goal : Type 0
      Goal = keep (λ c. leb c.closing n) sm.closed ≡ sn.closed

      go : (b : Bool) → leb n (length s.closed) ≡ b
          → ((x : State S) → GoodState Fine f x → Numbered 0 x.closed → length x.closed ≤ n → last_of (run 𝓢 f n limit fuel (more x)) ≡ some sn
          → last_of (run 𝓢 f m limit fuel (more x)) ≡ some sm → Goal)
          → Goal
      go true e ih =
          let k : n ≤ length s.closed = leb-true n (length s.closed) e in
          let en : s ≡ sn = same_some (ap last_of (sym (run-ended 𝓢 f n limit fuel s)) ∙ (rw (turn-stop 𝓢 f n limit s e) at tn)) in
          let r = run-reached m (suc fuel) s sm g tm in
          rw (r.closed, ← en) (keep-front n s.closed r.extra a h r.numbered k)
      go false e ih = after (turn 𝓢 f n limit s) refl
        where
          lt : length s.closed < n
          lt = leb-false n (length s.closed) e

          same : turn 𝓢 f m limit s ≡ turn 𝓢 f n limit s
          same = turn-fewer 𝓢 f n m limit s le e

          after : (u : Turn S) → turn 𝓢 f n limit s ≡ u → Goal
          after (more x) t =
              let r = turn_more n s x g t in
              let l : length x.closed ≡ length s.closed + length r.extra = ap length r.closed ∙ length-append s.closed r.extra in
              let w : length r.extra ≤ 1 = r.few in
              let z : 0 + length s.closed ≡ length s.closed = omega arith in
              ih x r.good (rw r.closed (numbered-append 0 s.closed r.extra a (rw z r.numbered))) (omega (arith, lt)) (rw t at tn) (rw (same ∙ t) at tm)
          after (ended x) t =
              let es : s ≡ x = turn-ended n s x t in
              let en : x ≡ sn = same_some (ap last_of (sym (run-ended 𝓢 f n limit fuel x)) ∙ (rw t at tn)) in
              let em : x ≡ sm = same_some (ap last_of (sym (run-ended 𝓢 f m limit fuel x)) ∙ (rw (same ∙ t) at tm)) in
              rw (← em, ← en, ← es) (keep-whole n s.closed a h)
          after (failed k) t = no-some (ap last_of (sym (run-failed 𝓢 f n limit fuel k)) ∙ (rw t at tn))
          after (full x ps) t =
              let r = turn-full n s x ps g t in
              let l : length x.closed ≡ length s.closed + length r.extra = ap length r.closed ∙ length-append s.closed r.extra in
              let w : length r.extra ≤ 1 = r.few in
              let z : 0 + length s.closed ≡ length s.closed = omega arith in
              let en : x ≡ sn = same_some (ap last_of (sym (run-full 𝓢 f n limit fuel x ps)) ∙ (rw t at tn)) in
              let em : x ≡ sm = same_some (ap last_of (sym (run-full 𝓢 f m limit fuel x ps)) ∙ (rw (same ∙ t) at tm)) in
              rw (← em, ← en) (keep-whole n x.closed (rw r.closed (numbered-append 0 s.closed r.extra a (rw z r.numbered))) (omega (arith, lt)))

-- ---- the first state

pivotal-has : (es : List Edge) (n : ℕ) (qs : List Queued) (visited : List Ends) → All (Has es) (pivotal_from es n qs visited)
unfolding pivotal_from pivotal_of ends_of
pivotal-has es zero qs visited = nil
pivotal-has es (suc n) [] visited = nil
pivotal-has es (suc n) (q ∷ qs) visited = all_append (some_of (ltb 1 (length out))) (pivotal-has es n _ _)
  where
    out : List Edge
    out = leaving es q.ends.to

    some_of : (b : Bool) → All (Has es) (cond b (ends_of (keep (λ (e : Edge). not (e.is_ref && eqb (support_of e) 1)) (keep (λ (e : Edge). not (among e.ends visited)) out))) [])
    some_of true = all_map _ (λ x h. h.0) (all_keep _ (all_keep _ (leaving-on es q.ends.to)))
    some_of false = nil

start-good : {S : Type 0} {𝓢 : Scoring S} {Fine : S → Type 0} → Keeps 𝓢 Fine → (f : SearchInput) → Good Fine f (record { edges = []; score = 𝓢.start; active = []; visited = []; since = 0 })
start-good K f = record { linked = tt; fine = K.start_fine; short = omega arith; few = omega arith; alive = nil }

pub first_good : {S : Type 0} {𝓢 : Scoring S} {Fine : S → Type 0} → Keeps 𝓢 Fine → (f : SearchInput) (recovery : Bool)
    → GoodState Fine f (first_state 𝓢 (elim recovery as (λ _. List Ends) [ true ↦ pivotal_edges f | false ↦ [] ]))
unfolding first_state pivotal_edges
first_good K f true = record { waiting = cons (start-good K f) nil; closed = nil; pivotal = pivotal-has f.edges _ _ _ }
first_good K f false = record { waiting = cons (start-good K f) nil; closed = nil; pivotal = nil }

-- ---- the whole search

module _ {S : Type 0} {𝓢 : Scoring S} {Fine : S → Type 0} (K : Keeps 𝓢 Fine) (f : SearchInput) (limit : ℕ) where
  pub search-reached : (asked : ℕ) (recovery : Bool) (s : State S) → last_of (search 𝓢 f asked limit recovery) ≡ some s → GoodState Fine f s × Numbered 0 s.closed
  unfolding search first_state
  search-reached asked recovery s t =
      let r = run-reached K f limit asked _ _ s (first_good K f recovery) t in
      (r.good, rw r.closed r.numbered)

  -- (D) the search never answers `more`
  pub search-enough : (asked : ℕ) (recovery : Bool) (s : State S) → 0 < limit → search 𝓢 f asked limit recovery ≡ more s → ⊥
  unfolding search first_state
  search-enough asked recovery s h t = run-enough K f limit asked _ _ s (first_good K f recovery) (omega arith) t

  -- (D) more turns give the same
  pub search-more : (asked m : ℕ) (recovery : Bool) → 0 < limit
      → (let pivotal : List Ends = elim recovery [ true ↦ pivotal_edges f | false ↦ [] ] in run 𝓢 f asked limit (suc (limit + length pivotal) + m) (more (first_state 𝓢 pivotal))) ≡ search 𝓢 f asked limit recovery
  unfolding search first_state
  search-more asked m recovery h = run_more K f limit asked _ m _ (first_good K f recovery) (omega arith)

  -- (B) the closings of the search for n are those of the search for m numbered up to n
  pub search-fewer : (n m : ℕ) (recovery : Bool) (sn sm : State S) → n ≤ m → last_of (search 𝓢 f n limit recovery) ≡ some sn
      → last_of (search 𝓢 f m limit recovery) ≡ some sm → keep (λ c. leb c.closing n) sm.closed ≡ sn.closed
  unfolding search first_state
  search-fewer n m recovery sn sm h tn tm = run-fewer K f limit n m _ _ sn sm h (first_good K f recovery) tt (omega arith) tn tm
