-- The waiting mark of a search is the greatest length that the waiting list has at any moment, those between two pushes included; so it is of a search whose
-- pushes ran out.
use mathlib.Core.Path.{◌≡◌, refl, sym, ap, subst, ◌∙◌}
use mathlib.Core.Logic.{◌⊎◌, inl, inr}
use Prim.Native.Nat.{ℕ, zero, suc, ◌≤◌, max}
use native.Mathlib.Omega.{arith}
use mathlib.Core.Bool.{Bool, true, false}
use mathlib.Core.List.{List, [], ◌∷◌, ◌++◌}
use mathlib.Core.Option.{some}
use lib.Dec.{leb, ltb}
use lib.ListN.{length}
use lib.Ieee.{Float}
use borrow.Author.Tests.{leb-true, leb-false, eqb-false}
use Rattle.laws.specs.Lists.{last_or}
use Rattle.laws.specs.ListLaws.{All, nil, cons, all_head, all_append, all-mono, Mem, here, mem-left, mem-right, last-append}
use Rattle.definition.specs.Score.{Scoring, column_scoring}
use Rattle.definition.specs.Limits.{Input}
use Rattle.definition.specs.Search.{SearchInput, Path, State, Made, at_end, broken, made, Turn, more, ended, failed, full, push, push_all, advance, push_made, turn, run, first_state, search}
use Rattle.definition.specs.Listing.{search_input, Row, listed, answer}
use Rattle.definition.specs.Moments.{push_moments, made_moments, turn_moments, run_moments, moments, IsMark, SearchMark, MarkTold}
use Rattle.theorems.proofs.Runs.{run-ended, run-failed, run-full}
use Rattle.theorems.proofs.Order.{Keeps}
use Rattle.theorems.proofs.Column.{column-keeps}
use Rattle.theorems.proofs.Walks.{Good, GoodState, advance-made}
use Rattle.theorems.proofs.Turns.{last_of, same_some, no-some, first_good}
use Rattle.theorems.proofs.Along.{turn_along}
use Rattle.theorems.proofs.Bounds.{Counted, push-counted, made_counted}
use Rattle.theorems.proofs.Found.{Listing}
use Rattle.theorems.proofs.Checks.{accepted, some-pushes}

-- ---- the greatest length goes from m to n over the moments ms

record Raised {S : Type 0} (m n : ℕ) (ms : List (List (Path S))) : Type 0 where
  rises : m ≤ n
  never-more : All (λ w. length w ≤ n) ms
  as_many : (n ≡ m) ⊎ ((w : List (Path S)) × Mem w ms × (length w ≡ n))

module _ {S : Type 0} where
  raised-none : (m : ℕ) → Raised {S = S} m m []
  raised-none m = record { rises = omega arith; never-more = nil; as_many = inl refl }

  -- a moment that is no longer than those before
  raised-within : (m : ℕ) (w : List (Path S)) → length w ≤ m → Raised m m (w ∷ [])
  raised-within m w h = record { rises = omega arith; never-more = cons h nil; as_many = inl refl }

  -- any moment
  raised-one : (m : ℕ) (w : List (Path S)) → Raised m (max m (length w)) (w ∷ [])
  raised-one m w = go (leb (length w) m) refl
    where
      go : (b : Bool) → leb (length w) m ≡ b → Raised m (max m (length w)) (w ∷ [])
      go true e = let h = leb-true (length w) m e in record { rises = omega arith; never-more = cons {x = w} (omega arith) nil; as_many = inl (omega arith) }
      go false e = let h = leb-false (length w) m e in record { rises = omega arith; never-more = cons {x = w} (omega arith) nil; as_many = inr (w, here refl, omega arith) }

  -- moments behind moments
  raised-on : {l m n : ℕ} {xs ys : List (List (Path S))} → Raised l m xs → Raised m n ys → Raised l n (xs ++ ys)
  raised-on {l} {m} {n} {xs} {ys} a b =
      let h : l ≤ m = a.rises in
      let k : m ≤ n = b.rises in
      record { rises = omega arith; never-more = all_append (all-mono (λ w u. omega arith) a.never-more) b.never-more; as_many = go a.as_many b.as_many }
    where
      go : ((m ≡ l) ⊎ ((w : List (Path S)) × Mem w xs × (length w ≡ m))) → ((n ≡ m) ⊎ ((w : List (Path S)) × Mem w ys × (length w ≡ n)))
          → (n ≡ l) ⊎ ((w : List (Path S)) × Mem w (xs ++ ys) × (length w ≡ n))
      go c (inr (w, i, e)) = inr (w, mem-right xs i, e)
      go (inl c) (inl d) = inl (d ∙ c)
      go (inr (w, i, e)) (inl d) = inr (w, mem-left ys i, e ∙ sym d)

  -- where some path waits at all, the greatest length from 0 on is the mark
  mark_of : {m : ℕ} {ms : List (List (Path S))} → 1 ≤ m → Raised 0 m ms → IsMark m ms
  mark_of {m} {ms} h a = record { never-more = a.never-more; as_many = go a.as_many }
    where
      go : ((m ≡ 0) ⊎ ((w : List (Path S)) × Mem w ms × (length w ≡ m))) → (w : List (Path S)) × Mem w ms × (length w ≡ m)
      go (inl e) = absurd (omega arith)
      go (inr w) = w

  -- nothing follows a search that has ended or filled up
  after-end : (𝓢 : Scoring S) (f : SearchInput) (asked limit n : ℕ) (s : State S) → run_moments 𝓢 f asked limit n (ended s) ≡ []
  unfolding run_moments
  after-end 𝓢 f asked limit zero s = refl
  after-end 𝓢 f asked limit (suc n) s = refl

  after-full : (𝓢 : Scoring S) (f : SearchInput) (asked limit n : ℕ) (s : State S) (ps : List (Path S)) → run_moments 𝓢 f asked limit n (full s ps) ≡ []
  unfolding run_moments
  after-full 𝓢 f asked limit zero s ps = refl
  after-full 𝓢 f asked limit (suc n) s ps = refl

-- ---- along the moments of a run, said once: what holds of each push and of each taking holds from the state that a run starts in to the one that it comes to

module _ {S : Type 0} (𝓢 : Scoring S) (f : SearchInput) (asked limit : ℕ) {P : State S → Type 0} {R : State S → State S → List (List (Path S)) → Type 0}
    (stays : (s : State S) → R s s []) (joins : (a b c : State S) (xs ys : List (List (Path S))) → R a b xs → R b c ys → R a c (xs ++ ys))
    (pushes : (p : Path S) (s : State S) → R s (push 𝓢 p s) ((push 𝓢 p s).waiting ∷ []))
    (takes : (s s' : State S) (ps : List (Path S)) → P s → advance 𝓢 f s s.waiting s.pivotal ≡ made s' ps → R s s' (s'.waiting ∷ []))
    (keeps : (s s' : State S) → P s → last_of (turn 𝓢 f asked limit s) ≡ some s' → P s') where
  pushed-along : (ps : List (Path S)) (s s' : State S) → last_of (push_all 𝓢 limit ps s) ≡ some s' → R s s' (push_moments 𝓢 limit ps s)
  unfolding push_all push_moments
  pushed-along [] s s' t = subst (λ x. R s x []) (same_some t) (stays s)
  pushed-along (p ∷ ps) s s' t = go (ltb s.pushes limit) refl (pushed-along ps (push 𝓢 p s) s')
    where
      go : (b : Bool) → ltb s.pushes limit ≡ b → (last_of (push_all 𝓢 limit ps (push 𝓢 p s)) ≡ some s' → R (push 𝓢 p s) s' (push_moments 𝓢 limit ps (push 𝓢 p s)))
          → R s s' (push_moments 𝓢 limit (p ∷ ps) s)
      go true e ih = rw (e, push_moments) (joins s (push 𝓢 p s) s' ((push 𝓢 p s).waiting ∷ []) (push_moments 𝓢 limit ps (push 𝓢 p s)) (pushes p s) (ih (rw (e, push_all) at t)))
      go false e ih = rw (e, push_moments) (subst (λ x. R s x []) (same_some (rw (e, push_all) at t)) (stays s))

  turned-along : (s s' : State S) → P s → last_of (turn 𝓢 f asked limit s) ≡ some s' → R s s' (turn_moments 𝓢 f asked limit s)
  unfolding turn push_made turn_moments made_moments
  turned-along s s' h t = go (leb asked (length s.closed)) refl
    where
      after : (m : Made S) → advance 𝓢 f s s.waiting s.pivotal ≡ m → last_of (push_made 𝓢 limit s m) ≡ some s' → R s s' (made_moments 𝓢 limit m)
      after at_end e w = subst (λ x. R s x []) (same_some w) (stays s)
      after (broken n) e w = no-some w
      after (made s₁ ps) e w = joins s s₁ s' (s₁.waiting ∷ []) (push_moments 𝓢 limit ps s₁) (takes s s₁ ps h e) (pushed-along ps s₁ s' w)

      go : (b : Bool) → leb asked (length s.closed) ≡ b → R s s' (turn_moments 𝓢 f asked limit s)
      go true e = rw (e, turn_moments) (subst (λ x. R s x []) (same_some (rw (e, turn) at t)) (stays s))
      go false e = rw (e, turn_moments) (after (advance 𝓢 f s s.waiting s.pivotal) refl (rw (e, turn) at t))

  ran-along : (n : ℕ) (s s' : State S) → P s → last_of (run 𝓢 f asked limit n (more s)) ≡ some s' → R s s' (run_moments 𝓢 f asked limit n (more s))
  unfolding run run_moments
  ran-along zero s s' h t = subst (λ x. R s x []) (same_some t) (stays s)
  ran-along (suc n) s s' h t = go (turn 𝓢 f asked limit s) refl (λ x. ran-along n x s')
    where
      goes_on : (x : State S) → last_of (turn 𝓢 f asked limit s) ≡ some x → R x s' (run_moments 𝓢 f asked limit n (turn 𝓢 f asked limit s))
          → R s s' (turn_moments 𝓢 f asked limit s ++ run_moments 𝓢 f asked limit n (turn 𝓢 f asked limit s))
      goes_on x e r = joins s x s' (turn_moments 𝓢 f asked limit s) (run_moments 𝓢 f asked limit n (turn 𝓢 f asked limit s)) (turned-along s x h e) r

      -- where the run stops no moment follows
      stops : (x : State S) → some x ≡ some s' → R x s' []
      stops x e = subst (λ z. R x z []) (same_some e) (stays x)

      go : (u : Turn S) → turn 𝓢 f asked limit s ≡ u
          → ((x : State S) → P x → last_of (run 𝓢 f asked limit n (more x)) ≡ some s' → R x s' (run_moments 𝓢 f asked limit n (more x)))
          → R s s' (turn_moments 𝓢 f asked limit s ++ run_moments 𝓢 f asked limit n (turn 𝓢 f asked limit s))
      go (more x) e ih = goes_on x (ap last_of e) (rw e (ih x (keeps s x h (ap last_of e)) (rw e at t)))
      go (ended x) e ih = goes_on x (ap last_of e) (rw (e, after-end 𝓢 f asked limit n x) (stops x (ap last_of (sym (run-ended 𝓢 f asked limit n x)) ∙ (rw e at t))))
      go (failed m) e ih = no-some (ap last_of (sym (run-failed 𝓢 f asked limit n m)) ∙ (rw e at t))
      go (full x ps) e ih = goes_on x (ap last_of e) (rw (e, after-full 𝓢 f asked limit n x ps) (stops x (ap last_of (sym (run-full 𝓢 f asked limit n x ps)) ∙ (rw e at t))))

-- ---- of a search

module _ {S : Type 0} {𝓢 : Scoring S} {Fine : S → Type 0} (K : Keeps 𝓢 Fine) (f : SearchInput) (asked limit : ℕ) where
  abbrev Sound : State S → Type 0
  Sound s = GoodState Fine f s × Counted asked limit s

  push-raises : (p : Path S) (s : State S) → Raised s.longest (push 𝓢 p s).longest ((push 𝓢 p s).waiting ∷ [])
  unfolding push
  push-raises p s = raised-one s.longest (push 𝓢 p s).waiting

  -- the list is one shorter after a taking
  taking-raises : (s s₁ : State S) (ps : List (Path S)) → Sound s → advance 𝓢 f s s.waiting s.pivotal ≡ made s₁ ps → Raised s.longest s₁.longest (s₁.waiting ∷ [])
  taking-raises s s₁ ps (g, c) e =
      let r = advance-made K f s s₁ s.waiting s.pivotal ps refl refl g e in
      let v : s₁.longest ≡ s.longest = r.longest in
      let y : length s₁.waiting ≤ length s.waiting = r.fewer in
      let a : length s.waiting ≤ s.longest = c.waiting in
      rw (← v) (raised-within s₁.longest s₁.waiting (omega arith))

  -- `longest` of the state that a search has come to, where it is no refusal, is its mark.
  pub search-mark : (recovery : Bool) (s : State S) → 1 ≤ limit → last_of (search 𝓢 f asked limit recovery) ≡ some s
      → IsMark s.longest (moments 𝓢 f asked limit recovery)
  unfolding search moments first_state
  search-mark recovery s h t =
      let r =
      ran-along 𝓢 f asked limit {P = Sound} {R = λ x y ms. Raised x.longest y.longest ms} (λ x. raised-none x.longest) (λ a b c xs ys. raised-on) push-raises
      taking-raises (turn_along 𝓢 f asked limit {P = Sound} {Q = Good Fine f} (push-counted K f asked limit) (made_counted K f asked limit)) _ _ s
      (first_good K f recovery, record { waiting = omega arith; longest = omega arith; pushes = h; closed = omega arith }) t
      in
      mark_of r.rises (raised-on (raised-one 0 _) r)

  -- So it is where the search stopped at a push that the maximum did not allow.
  pub full-mark : (recovery : Bool) (s : State S) (ps : List (Path S)) → 1 ≤ limit → search 𝓢 f asked limit recovery ≡ full s ps
      → IsMark s.longest (moments 𝓢 f asked limit recovery)
  full-mark recovery s ps h e = search-mark recovery s h (ap last_of e)

-- The moments go on to the end: the last waiting list is that of the state which the search has come to.
pub last-moment : {S : Type 0} (𝓢 : Scoring S) (f : SearchInput) (asked limit : ℕ) (recovery : Bool) (s : State S) → last_of (search 𝓢 f asked limit recovery) ≡ some s
    → last_or [] (moments 𝓢 f asked limit recovery) ≡ s.waiting
unfolding search moments
last-moment {S} 𝓢 f asked limit recovery s t =
    ran-along 𝓢 f asked limit {P = λ x. Unit {0}} {R = λ x y ms. last_or x.waiting ms ≡ y.waiting} (λ x. refl)
    (λ a b c xs ys h k. last-append a.waiting xs ys ∙ ap (λ (d : List (Path S)). last_or d ys) h ∙ k) (λ p x. refl) (λ x y ps h e. refl) (λ x y h e. tt) _ _ s tt t

-- ---- an accepted list

-- Its mark is that of its search; 0 where no path was asked.
pub mark-listing : {S : Type 0} {𝓢 : Scoring S} {Fine : S → Type 0} → Keeps 𝓢 Fine → (i : Input) (rows : List (Row S)) (pushes mark : ℕ) → 1 ≤ i.search_maxima.pushes
    → Listing 𝓢 i rows pushes mark → MarkTold 𝓢 i mark
mark-listing K i rows pushes mark one (inl h) = inl (h.0, h.3)
mark-listing K i rows pushes mark one (inr h) =
    let z = eqb-false i.asked 0 h.some-asked in
    inr (
      omega arith,
      record {
        graph = h.graph;
        is-built = h.is-built;
        is-mark = rw h.longest-is (search-mark K (search_input i h.graph) i.asked i.search_maxima.pushes i.recovery h.state one h.reached);
      },
    )

pub mark-told : (i : Input) (told lent : List ℕ) (rows : List (Row Float)) (pushes mark : ℕ) → answer i told lent ≡ listed rows pushes mark
    → MarkTold (column_scoring i.column) i mark
mark-told i told lent rows pushes mark t =
    let a = accepted i told lent rows pushes mark t in
    mark-listing (column-keeps i.column a.0.column-fits) i rows pushes mark (some-pushes i a.0) a.1

-- A search has a path that waits, so its mark is not 0.
pub mark-some : {S : Type 0} {𝓢 : Scoring S} {i : Input} {mark : ℕ} → SearchMark 𝓢 i mark → 1 ≤ mark
unfolding moments first_state
mark-some h = all_head h.is-mark.never-more
