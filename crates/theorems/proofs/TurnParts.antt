-- A turn taken apart, once for every theorem that follows a path: what a taken path is made into, what an extension is, what closing adds, what is
-- recovered, and so what holds of every path that waits.
use mathlib.Core.Path.{◌≡◌, refl, sym, ap, subst, ◌∙◌}
use mathlib.Core.Logic.{◌⊎◌, inl, inr}
use Prim.Native.Nat.{ℕ, suc, ◌≤◌}
use native.Mathlib.Omega.{arith}
use mathlib.Core.Bool.{Bool, true, false, not, ◌&&◌, ◌||◌, cond}
use mathlib.Core.List.{List, [], ◌∷◌, ◌++◌, append-nil}
use mathlib.Core.Option.{Option, none, some}
use lib.Dec.{leb, ltb, eqb}
use lib.ListN.{length, take}
use borrow.Author.Tests.{ltb-false, not-true}
use Rattle.laws.specs.Lists.{keep, any, find_last, position, is_empty}
use Rattle.laws.specs.ListLaws.{and_left, and_right, All, nil, cons, all_head, all_tail, all-mono, all_keep}
use Rattle.definition.specs.Refusal.{Result, ok, refused, each}
use Rattle.definition.specs.Score.{Scoring}
use Rattle.definition.specs.Threading.{Ends, eq_ends, Edge, leaving}
use Rattle.definition.specs.Evidence.{Branches, has_branch, tree_at}
use Rattle.definition.specs.Search.{SearchInput, Path, Closed, State, made, more, Offer, end_from, vertices_from, times, chain, walk_trees, offers, has_stopping_evidence, cross_off, lengthen, extend, repeat_rule, extensions, join_tree, close_at, made_of, extend_at, push, take_path, greatest, recover, advance, turn, run, first_state}
use Rattle.theorems.proofs.Walks.{refused-ok, broken-made, end-made, ok_same, made-state, made-paths, and-then-ok, all-each}
use Rattle.theorems.proofs.Penalty.{Part, offers-part}
use Rattle.theorems.proofs.Runs.{all-wait}
use Rattle.theorems.proofs.Turns.{last_of}
use Rattle.theorems.proofs.Along.{turn_along, run_along}

none_left : (es : List Ends) → cross_off es [] ≡ []
unfolding cross_off
none_left [] = refl
none_left (e ∷ es) = none_left es

module _ {S : Type 0} (f : SearchInput) where
  -- ---- a tree joins

  -- the tree b at v joins the path p, which had not visited it
  pub record Joins (v : ℕ) (p q : Path S) : Type 0 where
    pub tree : Branches
    pub there : tree_at f.trees v ≡ some tree
    pub branches : has_branch tree ≡ true
    pub unvisited : any (eqb v) p.visited ≡ false
    pub path : q ≡ record { edges = p.edges; score = p.score; active = p.active ++ tree ∷ []; visited = v ∷ p.visited; since = 0 }

  -- as it was, or with a tree more
  pub join-parts : (v : ℕ) (p q : Path S) → join_tree f v p ≡ ok q → (q ≡ p) ⊎ Joins v p q
  unfolding join_tree
  join-parts v p q t = go (tree_at f.trees v) refl
    where
      go : (o : Option Branches) → tree_at f.trees v ≡ o → (q ≡ p) ⊎ Joins v p q
      go none u = inl (sym (ok_same (rw (u, join_tree) at t)))
      go (some b) u = fresh (has_branch b && not (any (eqb v) p.visited)) refl (ltb (length p.active) f.active) refl
        where
          fresh : (z : Bool) → (has_branch b && not (any (eqb v) p.visited)) ≡ z → (y : Bool) → ltb (length p.active) f.active ≡ y → (q ≡ p) ⊎ Joins v p q
          fresh false w y x = inl (sym (ok_same (rw (u, join_tree, w) at t)))
          fresh true w true x =
              inr
              (record {
                tree = b;
                there = u;
                branches = and_left (has_branch b) _ w;
                unvisited = not-true (any (eqb v) p.visited) (and_right (has_branch b) _ w);
                path = sym (ok_same (rw (u, join_tree, w, x) at t));
              })
          fresh true w false x = refused-ok (rw (u, join_tree, w, x) at t)

module _ {S : Type 0} (𝓢 : Scoring S) (f : SearchInput) where
  -- ---- a taken path

  -- the path with the tree that joined, the state after it may have closed, and its extensions
  pub record Taken (p : Path S) (s s' : State S) (qs : List (Path S)) : Type 0 where
    pub vertex : ℕ
    pub chained : List Ends
    pub path : Path S
    pub calm : p.since ≤ 5
    pub joins : join_tree f vertex p ≡ ok path
    pub closes : close_at f vertex path chained s ≡ ok s'
    pub extends : extensions 𝓢 f path chained vertex (leaving f.edges vertex) ≡ ok qs

  -- dropped, or taken
  pub take-parts : (p : Path S) (s s' : State S) (qs : List (Path S)) → take_path 𝓢 f p s ≡ made s' qs → ((s ≡ s') × (qs ≡ [])) ⊎ Taken p s s' qs
  unfolding take_path extend_at made_of
  take-parts p s s' qs t = go (ltb 5 p.since) refl
    where
      u : ℕ
      u = end_from f.source p.edges

      v : ℕ
      v = end_from u (chain f u)

      parts : ltb 5 p.since ≡ false → extend_at 𝓢 f p (chain f u) v s ≡ made s' qs → Taken p s s' qs
      parts e h = join (join_tree f v p) refl
        where
          join : (r : Result (Path S)) → join_tree f v p ≡ r → Taken p s s' qs
          join (refused n) a = broken-made (rw (a, extend_at) at h)
          join (ok q) a = close (close_at f v q (chain f u) s) refl
            where
              close : (r : Result (State S)) → close_at f v q (chain f u) s ≡ r → Taken p s s' qs
              close (refused n) b = broken-made (rw (a, extend_at, b) at h)
              close (ok s'') b = ext (extensions 𝓢 f q (chain f u) v (leaving f.edges v)) refl
                where
                  ext : (r : Result (List (Path S))) → extensions 𝓢 f q (chain f u) v (leaving f.edges v) ≡ r → Taken p s s' qs
                  ext (refused n) d = broken-made (rw (a, extend_at, b, d) at h)
                  ext (ok rs) d =
                      let w : made s'' rs ≡ made s' qs = rw (a, extend_at, b, d) at h in
                      record {
                        vertex = v;
                        chained = chain f u;
                        path = q;
                        calm = ltb-false 5 p.since e;
                        joins = a;
                        closes = b ∙ ap ok (made-state w);
                        extends = d ∙ ap ok (made-paths w);
                      }

      go : (b : Bool) → ltb 5 p.since ≡ b → ((s ≡ s') × (qs ≡ [])) ⊎ Taken p s s' qs
      go true e = let h : made s [] ≡ made s' qs = rw (e, take_path) at t in inl (made-state h, sym (made-paths h))
      go false e = inr (parts e (rw (e, take_path) at t))

  -- ---- an extension

  -- it walks the active trees by its last edge, and its score is the path's, or that with the penalty of a count that is a part of its total
  pub record Step (p q : Path S) : Type 0 where
    pub last : Ends
    pub walked : q.active ≡ walk_trees last p.active
    pub visited : q.visited ≡ p.visited
    pub score : (q.score ≡ p.score) ⊎ ((n : ℕ) × (t : ℕ) × (d : S) × (n ≤ t) × (𝓢.penalty n t ≡ some d) × (q.score ≡ 𝓢.plus p.score d))

  lengthen-is : (p q : Path S) (c : List Ends) (e : Ends) (x : S) (g r : Bool) → lengthen f p c e x g r ≡ ok q
      → (q.active ≡ walk_trees e p.active) × (q.score ≡ x) × (q.visited ≡ p.visited)
  unfolding lengthen
  lengthen-is p q c e x g r t = go (leb (length (p.edges ++ c ++ e ∷ [])) f.path_edges) refl
    where
      go : (b : Bool) → leb (length (p.edges ++ c ++ e ∷ [])) f.path_edges ≡ b → (q.active ≡ walk_trees e p.active) × (q.score ≡ x) × (q.visited ≡ p.visited)
      go true u = subst (λ (z : Path S). (z.active ≡ walk_trees e p.active) × (z.score ≡ x) × (z.visited ≡ p.visited)) (ok_same (rw (u, lengthen) at t)) (refl, refl, refl)
      go false u = refused-ok (rw (u, lengthen) at t)

  extend-step : (p : Path S) (c : List Ends) (o : Offer) (q : Path S) → Part o → extend 𝓢 f p c o ≡ ok q → Step p q
  unfolding extend
  extend-step p c o q h t = go (𝓢.penalty o.count o.out_of) refl
    where
      go : (d : Option S) → 𝓢.penalty o.count o.out_of ≡ d → Step p q
      go none u = refused-ok (rw (u, extend) at t)
      go (some d) u =
          let r = lengthen-is p q c o.ends (𝓢.plus p.score d) o.guided false (rw (u, extend) at t) in
          record { last = o.ends; walked = r.0; visited = r.2; score = inr (o.count, o.out_of, d, h, u, r.1) }

  pub extensions-steps : (p : Path S) (c : List Ends) (v : ℕ) (es : List Edge) (qs : List (Path S)) → extensions 𝓢 f p c v es ≡ ok qs → All (Step p) qs
  unfolding extensions
  extensions-steps p c v [] qs t = subst (All (Step p)) (ok_same t) nil
  extensions-steps p c v (x ∷ []) qs t = go (not (is_empty p.active) || leb (times v (vertices_from f.source p.edges)) 1) refl
    where
      go : (b : Bool) → (not (is_empty p.active) || leb (times v (vertices_from f.source p.edges)) 1) ≡ b → All (Step p) qs
      go true u =
          let r = and-then-ok (lengthen f p c x.ends p.score false true) (λ q. ok (q ∷ [])) qs (rw (u, extensions) at t) in
          let w = lengthen-is p r.0 c x.ends p.score false true r.1 in
          subst (All (Step p)) (ok_same r.2) (cons (record { last = x.ends; walked = w.0; visited = w.2; score = inl w.1 }) nil)
      go false u = subst (All (Step p)) (ok_same (rw (u, extensions) at t)) nil
  extensions-steps p c v (x ∷ y ∷ es) qs t =
      let r = and-then-ok (each (extend 𝓢 f p c) (offers f (x ∷ y ∷ es) [] p.active)) (λ qs. ok (keep (repeat_rule f) qs)) qs t in
      subst (All (Step p)) (ok_same r.2)
      (all_keep (repeat_rule f)
      (all-each (extend 𝓢 f p c) (offers f (x ∷ y ∷ es) [] p.active) r.0 (λ o q h w. extend-step p c o q h w) (offers-part f (x ∷ y ∷ es) [] p.active) r.1))

  -- ---- the path may close

  -- what closes has the path's score
  pub record Closing (p : Path S) (s s' : State S) : Type 0 where
    pub extra : List (Closed S)
    pub closed : s'.closed ≡ s.closed ++ extra
    pub scores : All (λ c. c.score ≡ p.score) extra
    pub waiting : s'.waiting ≡ s.waiting
    pub pivotal : s.pivotal ≡ [] → s'.pivotal ≡ []

  pub close-parts : (v : ℕ) (p : Path S) (c : List Ends) (s s' : State S) → close_at f v p c s ≡ ok s' → Closing p s s'
  unfolding close_at
  close-parts v p c s s' t = go (eqb v f.sink) refl (has_stopping_evidence f p.active) refl (leb (length (p.edges ++ c)) f.path_edges) refl
    where
      left : s.pivotal ≡ [] → cross_off p.edges s.pivotal ≡ []
      left e = ap (cross_off p.edges) e ∙ none_left p.edges

      go : (x : Bool) → eqb v f.sink ≡ x → (y : Bool) → has_stopping_evidence f p.active ≡ y → (z : Bool) → leb (length (p.edges ++ c)) f.path_edges ≡ z → Closing p s s'
      go false a y b z d =
          subst (Closing p s) (ok_same (rw (a, close_at) at t)) (record { extra = []; closed = sym (append-nil s.closed); scores = nil; waiting = refl; pivotal = λ e. e })
      go true a false b z d =
          subst (Closing p s) (ok_same (rw (a, close_at, b) at t)) (record { extra = []; closed = sym (append-nil s.closed); scores = nil; waiting = refl; pivotal = left })
      go true a true b true d =
          subst (Closing p s) (ok_same (rw (a, close_at, b, d) at t))
          (record {
            extra = record { closing = suc (length s.closed); edges = p.edges ++ c; score = p.score } ∷ [];
            closed = refl;
            scores = cons refl nil;
            waiting = refl;
            pivotal = left;
          })
      go true a true b false d = refused-ok (rw (a, close_at, b, d) at t)

  -- ---- recovery

  -- the state stays; at most one path is made, and no tree is active in it
  pub recover-parts : (e : Ends) (s s' : State S) (qs : List (Path S)) → recover 𝓢 f e s ≡ made s' qs → (s ≡ s') × ((length qs ≤ 1) × All (λ q. q.active ≡ []) qs)
  unfolding recover
  recover-parts e s s' qs t = go (greatest 𝓢 (keep (λ c. any (eqb e.from) (vertices_from f.source c.edges)) s.closed)) refl
    where
      Goal : List (Path S) → Type 0
      Goal rs = (length rs ≤ 1) × All (λ q. q.active ≡ []) rs

      ends : {rs : List (Path S)} → Goal rs → made s rs ≡ made s' qs → (s ≡ s') × Goal qs
      ends g h = (made-state h, subst Goal (made-paths h) g)

      go : (o : Option (Closed S)) → greatest 𝓢 (keep (λ c. any (eqb e.from) (vertices_from f.source c.edges)) s.closed) ≡ o → (s ≡ s') × Goal qs
      go none u = ends (omega arith, nil) (rw (u, recover) at t)
      go (some b) u = last (find_last (λ d. eqb d.to e.from) b.edges) refl
        where
          last : (o : Option Ends) → find_last (λ d. eqb d.to e.from) b.edges ≡ o → (s ≡ s') × Goal qs
          last none w = ends (omega arith, nil) (rw (u, recover, w) at t)
          last (some d) w = fits (leb (length (take (suc (position (eq_ends d) b.edges)) b.edges ++ e ∷ [])) f.path_edges) refl
            where
              fits : (z : Bool) → leb (length (take (suc (position (eq_ends d) b.edges)) b.edges ++ e ∷ [])) f.path_edges ≡ z → (s ≡ s') × Goal qs
              fits false x = broken-made (rw (u, recover, w, x) at t)
              fits true x = ends (omega arith, cons refl nil) (rw (u, recover, w, x) at t)

  -- ---- what holds of every path that waits

  -- it holds where no tree is active, as in the start path and in a recovered one, and a tree that joins and a step more keep it
  pub record Kept (Fit : Path S → Type 0) : Type 0 where
    pub bare : (p : Path S) → p.active ≡ [] → Fit p
    pub joins : (v : ℕ) (p q : Path S) → Fit p → join_tree f v p ≡ ok q → Fit q
    pub steps : (p q : Path S) → Fit p → Step p q → Fit q

  module _ {Fit : Path S → Type 0} (kept : Kept Fit) where
    take-kept : (p : Path S) (s s' : State S) (qs : List (Path S)) → Fit p → take_path 𝓢 f p s ≡ made s' qs → (s'.waiting ≡ s.waiting) × All Fit qs
    take-kept p s s' qs h t = go (take-parts p s s' qs t)
      where
        go : ((s ≡ s') × (qs ≡ [])) ⊎ Taken p s s' qs → (s'.waiting ≡ s.waiting) × All Fit qs
        go (inl w) = (ap (λ (x : State S). x.waiting) (sym w.0), rw w.1 nil)
        go (inr w) = (
          (close-parts w.vertex w.path w.chained s s' w.closes).waiting,
          all-mono (λ q e. kept.steps w.path q (kept.joins w.vertex p w.path h w.joins) e)
              (extensions-steps w.path w.chained w.vertex (leaving f.edges w.vertex) qs w.extends),
        )

    pub advance-kept : (s s' : State S) (ws : List (Path S)) (vs : List Ends) (qs : List (Path S)) → s.waiting ≡ ws → All Fit ws → advance 𝓢 f s ws vs ≡ made s' qs
        → All Fit s'.waiting × All Fit qs
    unfolding advance
    advance-kept s s' [] [] qs ew a t = end-made t
    advance-kept s s' [] (e ∷ es) qs ew a t =
        let r = recover-parts e (record { waiting = []; closed = s.closed; pivotal = es; pushes = s.pushes; longest = s.longest }) s' qs t in
        (rw (← r.0) nil, all-mono kept.bare r.1.1)
    advance-kept s s' (p ∷ ps) es qs ew a t = go (ltb (cond (is_empty s.closed) 1000 10000) (length s.waiting)) refl
      where
        go : (b : Bool) → ltb (cond (is_empty s.closed) 1000 10000) (length s.waiting) ≡ b → All Fit s'.waiting × All Fit qs
        go true u = end-made (rw (u, advance) at t)
        go false u =
            let r = take-kept p (record { waiting = ps; closed = s.closed; pivotal = s.pivotal; pushes = s.pushes; longest = s.longest }) s' qs (all_head a) (rw (u, advance) at t) in
            (rw r.0 (all_tail a), r.1)

    push_kept : (p : Path S) (s : State S) → All Fit s.waiting → Fit p → All Fit (push 𝓢 p s).waiting
    unfolding push
    push_kept p s a h = all-wait 𝓢 p h a

    pub turn-kept : (asked limit : ℕ) (s s' : State S) → All Fit s.waiting → last_of (turn 𝓢 f asked limit s) ≡ some s' → All Fit s'.waiting
    turn-kept asked limit s s' =
        turn_along 𝓢 f asked limit {P = λ x. All Fit x.waiting} {Q = Fit} (λ p x k a h. push_kept p x a h) (λ x y qs k a e. advance-kept x y x.waiting x.pivotal qs refl a e) s s'

    pub first-kept : (pivotal : List Ends) → All Fit (first_state 𝓢 pivotal).waiting
    unfolding first_state
    first-kept pivotal = cons (kept.bare _ refl) nil

    -- It holds of every path that waits after any number of turns.
    pub run-kept : (asked limit n : ℕ) (pivotal : List Ends) (s : State S) → last_of (run 𝓢 f asked limit n (more (first_state 𝓢 pivotal))) ≡ some s → All Fit s.waiting
    run-kept asked limit n pivotal s t =
        run_along 𝓢 f asked limit {P = λ x. All Fit x.waiting} {Q = Fit} (λ p x k a h. push_kept p x a h)
        (λ x y qs k a e. advance-kept x y x.waiting x.pivotal qs refl a e) n (first_state 𝓢 pivotal) s (first-kept pivotal) t
