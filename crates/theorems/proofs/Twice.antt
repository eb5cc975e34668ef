-- No path is listed twice: the closed paths of a search differ in their edges, and so the rows of a list differ in their bases.
use mathlib.Core.Path.{◌≡◌, refl, sym, ap, subst, ◌∙◌}
use mathlib.Core.Logic.{◌⊎◌, inl, inr}
use Prim.Native.Nat.{Ordering}
use Prim.Native.Nat.{ℕ, zero, suc, ◌≤◌}
use native.Mathlib.Omega.{arith}
use mathlib.Core.Bool.{Bool, true, false, not, ◌&&◌, ◌||◌, cond}
use mathlib.Core.List.{List, [], ◌∷◌, ◌++◌, map}
use mathlib.Core.Option.{Option, none, some}
use lib.Dec.{leb, ltb, eqb}
use lib.ListN.{length, take, get_or}
use lib.Ieee.{Float}
use Rattle.laws.specs.Lists.{keep, any, find_last, position, is_empty}
use Rattle.laws.specs.Numbers.{compare_list}
use Rattle.laws.specs.ListLaws.{All, nil, cons, Mem, here, all_head, all_tail, all_append, all-mono, all-zip, all_keep, all_map, all-mem, mem-right, Pairwise, empty, first, pairwise-head, pairwise-tail, pairwise_append, pairwise-keep, pairwise-mono, pairwise_map, pairwise-all, pairwise-zip, append-rest, Begins, begins-append, begins-front, begins-both, begins-longer, begins-last, begins-mem, mem-append}
use Rattle.laws.specs.Insertion.{insert, sorted, all_insert, all-sorted}
use Rattle.definition.specs.Refusal.{Result, ok, refused, each}
use Rattle.definition.specs.Score.{Scoring, column_scoring}
use Rattle.definition.specs.Limits.{Sample, Input}
use Rattle.definition.specs.Threading.{Ends, eq_ends, Edge, leaving, last_base, threaded, sink_of, with_symbolic}
use Rattle.definition.specs.Evidence.{Branches, bare, branch, has_branch, Tree, tree_at, evidence}
use Rattle.definition.specs.Search.{SearchInput, Path, Closed, State, Made, at_end, broken, made, Turn, more, ended, failed, full, Offer, end_from, vertices_from, times, chain, child, walk_trees, offers, has_stopping_evidence, cross_off, ahead, wait, push, push_all, lengthen, extend, repeat_rule, extensions, join_tree, close_at, made_of, extend_at, take_path, greatest, recover, advance, push_made, turn, run, pivotal_edges, first_state, search}
use Rattle.definition.specs.Building.{Built}
use Rattle.definition.specs.Listing.{search_input, Row, path_bases, origin_at, row_of, above, list_order, listed, answer}
use Rattle.theorems.proofs.Order.{Ordered, Keeps}
use Rattle.theorems.proofs.Runs.{all-wait, run-ended, run-failed, run-full}
use Rattle.theorems.proofs.Walks.{refused-ok, broken-made, end-made, ok_same, made-state, made-paths, and-then-ok, all-cross_off, all-each, Linked, GoodClosed}
use Rattle.theorems.proofs.Turns.{last_of, same_some, no-some}
use Rattle.theorems.proofs.Tables.{Rises, symbolic-rises}
use Rattle.theorems.proofs.Degrees.{rises-differ}
use Rattle.theorems.proofs.Spelling.{threaded-sound}
use Rattle.theorems.proofs.Visits.{one-way-on}
use Rattle.theorems.proofs.Found.{Found, Listing, found-good}
use Rattle.theorems.proofs.Origins.{Spelt, spelt-path, enters-in, sink-in, built-is}
use Rattle.theorems.proofs.Column.{column-ordered, column-keeps}
use Rattle.theorems.proofs.Checks.{accepted, k-some, reference-long}
use Rattle.theorems.proofs.Rows.{Outranks, by-score, by-bases, by-closing, ranked-listing}
use Rattle.theorems.proofs.Trees.{Rising, AllRising, evidence-rising}
use Rattle.theorems.proofs.Forks.{Sole, Fork, chain-sole, offers-differ, pairwise-cross_off, cross-gone, leaving-differ, pivotal-differ}

-- ---- a relation that goes both ways, and insertion

insert-pairwise : {A : Type 0} {R : A → A → Type 0} (before : A → A → Bool) → ((x y : A) → R x y → R y x) → (a : A) {xs : List A} → All (R a) xs → Pairwise R xs
    → Pairwise R (insert before a xs)
unfolding insert
insert-pairwise before s a h empty = first nil empty
insert-pairwise {A} {R} before s a h (first {x = x} {xs = xs} r p) = go (before x a) refl (insert-pairwise before s a (all_tail h) p)
  where
    go : (b : Bool) → before x a ≡ b → Pairwise R (insert before a xs) → Pairwise R (insert before a (x ∷ xs))
    go true e ih = rw (e, insert) (first (all_insert before a (s a x (all_head h)) r) ih)
    go false e ih = rw (e, insert) (first h (first r p))

sorted-pairwise : {A : Type 0} {R : A → A → Type 0} (before : A → A → Bool) → ((x y : A) → R x y → R y x) → {xs : List A} → Pairwise R xs → Pairwise R (sorted before xs)
unfolding sorted
sorted-pairwise before s empty = empty
sorted-pairwise before s (first {x = x} r p) = insert-pairwise before s x (all-sorted before r) (sorted-pairwise before s p)

-- any scoring keeps a score that need not be anything
pub any-keeps : {S : Type 0} (𝓢 : Scoring S) → Keeps 𝓢 (λ x. Unit {0})
any-keeps 𝓢 = record { start_fine = tt; plus-fine = λ x d n t h e. tt }

-- ---- the invariant

module _ {S : Type 0} where
  -- neither path's edges begin the other's
  abbrev pub Apart : Path S → Path S → Type 0
  Apart p q = (Begins p.edges q.edges → ⊥) × (Begins q.edges p.edges → ⊥)

  -- these edges begin no closed path
  abbrev pub Off : List (Closed S) → List Ends → Type 0
  Off cs es = All (λ c. Begins es c.edges → ⊥) cs

  -- the edge stands in no closed path
  abbrev pub Unused : List (Closed S) → Ends → Type 0
  Unused cs e = All (λ c. Mem e c.edges → ⊥) cs

  -- no two closed paths have the same edges
  abbrev pub Differ : List (Closed S) → Type 0
  Differ cs = Pairwise (λ c d. c.edges ≡ d.edges → ⊥) cs

  flip-apart : (p q : Path S) → Apart p q → Apart q p
  flip-apart p q h = (h.1, h.0)

  -- No waiting path begins another or a closed one, closed paths differ, and the pivotal edges that are left differ, leave forks and stand in no
  -- closed path.
  pub record Separate (f : SearchInput) (s : State S) : Type 0 where
    pub waiting : Pairwise Apart s.waiting
    pub off : All (λ p. Off s.closed p.edges) s.waiting
    pub trees : All (λ p. All Rising p.active) s.waiting
    pub closed : Differ s.closed
    pub pivotal : Pairwise (λ d e. d ≡ e → ⊥) s.pivotal
    pub forks : All (Fork f.edges) s.pivotal
    pub unused : All (Unused s.closed) s.pivotal

  -- a path beside those that wait
  record Lone (s : State S) (p : Path S) : Type 0 where
    apart : All (Apart p) s.waiting
    off : Off s.closed p.edges
    trees : All Rising p.active

  -- the paths to push
  record Fresh (s : State S) (qs : List (Path S)) : Type 0 where
    apart : Pairwise Apart qs
    lone : All (Lone s) qs

-- ---- pushing

module _ {S : Type 0} (𝓢 : Scoring S) (f : SearchInput) (limit : ℕ) where
  push-separate : (p : Path S) (s : State S) → Separate f s → Lone s p → Separate f (push 𝓢 p s)
  unfolding push wait
  push-separate p s g l =
      record {
        waiting = insert-pairwise (ahead 𝓢) flip-apart p l.apart g.waiting;
        off = all-wait 𝓢 p l.off g.off;
        trees = all-wait 𝓢 p l.trees g.trees;
        closed = g.closed;
        pivotal = g.pivotal;
        forks = g.forks;
        unused = g.unused;
      }

  push-lone : (p q : Path S) (s : State S) → Apart p q → Lone s q → Lone (push 𝓢 p s) q
  unfolding push
  push-lone p q s h l = record { apart = all-wait 𝓢 p (flip-apart p q h) l.apart; off = l.off; trees = l.trees }

  pushed-separate : (ps : List (Path S)) (s s' : State S) → Separate f s → Fresh s ps → last_of (push_all 𝓢 limit ps s) ≡ some s' → Separate f s'
  unfolding push_all
  pushed-separate [] s s' g a t = subst (Separate f) (same_some t) g
  pushed-separate (p ∷ ps) s s' g a t = go (ltb s.pushes limit) refl (λ x gx ax h. pushed-separate ps x s' gx ax h)
    where
      go : (b : Bool) → ltb s.pushes limit ≡ b → ((x : State S) → Separate f x → Fresh x ps → last_of (push_all 𝓢 limit ps x) ≡ some s' → Separate f s') → Separate f s'
      go false e ih = subst (Separate f) (same_some (rw (e, push_all) at t)) g
      go true e ih =
          ih (push 𝓢 p s) (push-separate p s g (all_head a.lone))
          (record {
            apart = pairwise-tail a.apart;
            lone = all-mono (λ q h. push-lone p q s h.0 h.1) (all-zip (pairwise-head a.apart) (all_tail a.lone));
          })
          (rw (e, push_all) at t)

-- ---- trees along a path

pub tree-rising : (v : ℕ) {ts : List Tree} (b : Branches) → AllRising ts → tree_at ts v ≡ some b → Rising b
unfolding tree_at
tree-rising v b nil e = no-some e
tree-rising v b (cons {x = t} {xs = ts} r a) e = go (eqb t.vertex v) refl (λ h. tree-rising v b a h)
  where
    go : (z : Bool) → eqb t.vertex v ≡ z → (tree_at ts v ≡ some b → Rising b) → Rising b
    go true u ih = subst Rising (same_some (rw (u, tree_at) at e)) r
    go false u ih = ih (rw (u, tree_at) at e)

child-rising : (e : Ends) (b : Branches) → Rising b → Rising (child e b)
unfolding child
child-rising e bare r = tt
child-rising e (branch d c below next) r = go (eq_ends e d) refl (child-rising e next r.2)
  where
    go : (z : Bool) → eq_ends e d ≡ z → Rising (child e next) → Rising (child e (branch d c below next))
    go true u ih = rw (u, child) r.1
    go false u ih = rw (u, child) ih

pub walk-rising : (e : Ends) {bs : List Branches} → All Rising bs → All Rising (walk_trees e bs)
unfolding walk_trees
walk-rising e a = all_keep has_branch (all_map (child e) (λ b r. child-rising e b r) a)

-- ---- extensions

pairwise-each : {A B : Type 0} {R : A → A → Type 0} {Q : B → B → Type 0} (g : A → Result B) (xs : List A) (ys : List B)
    → ((x x' : A) (y y' : B) → g x ≡ ok y → g x' ≡ ok y' → R x x' → Q y y') → Pairwise R xs → each g xs ≡ ok ys → Pairwise Q ys
pairwise-each {Q = Q} g [] ys h p e = subst (Pairwise Q) (ok_same e) empty
pairwise-each {A} {B} {Q = Q} g (x ∷ xs) ys h p e = go (g x) (each g xs) refl refl (λ zs. pairwise-each g xs zs h (pairwise-tail p))
  where
    go : (r : Result B) (rs : Result (List B)) → g x ≡ r → each g xs ≡ rs → ((zs : List B) → each g xs ≡ ok zs → Pairwise Q zs) → Pairwise Q ys
    go (refused n) rs t ts ih = refused-ok (rw (t, each) at e)
    go (ok y) (refused n) t ts ih = refused-ok (rw (t, each, ts) at e)
    go (ok y) (ok zs) t ts ih =
        subst (Pairwise Q) (ok_same (rw (t, each, ts) at e)) (first (all-each g xs zs (λ x' y' r u. h x x' y y' t u r) (pairwise-head p) ts) (ih zs ts))

module _ {S : Type 0} (𝓢 : Scoring S) (f : SearchInput) where
  -- what a path is extended to: its edges, the chain's and one more, with trees in order
  abbrev Longer : Path S → List Ends → Ends → Path S → Type 0
  Longer p c e q = (q.edges ≡ p.edges ++ c ++ e ∷ []) × All Rising q.active

  -- what is left of a path p that was taken, with its chain c, after it may have closed
  record Closes (p : Path S) (c : List Ends) (s : State S) : Type 0 where
    separate : Separate f s
    apart : All (Apart p) s.waiting
    beyond : (e : Ends) → Off s.closed (p.edges ++ c ++ e ∷ [])

  longer-lone : (p q : Path S) (c : List Ends) (e : Ends) (s : State S) → Closes p c s → Longer p c e q → Lone s q
  longer-lone p q c e s k l =
      record {
        apart = all-mono beside k.apart;
        off = rw l.0 (k.beyond e);
        trees = l.1;
      }
    where
      beside : (r : Path S) → Apart p r → Apart q r
      beside r h = (λ b. h.0 (begins-front p.edges c r.edges (begins-front (p.edges ++ c) (e ∷ []) r.edges (rw l.0 at b))), λ b. under (rw l.0 at b))
        where
          long : Begins p.edges (p.edges ++ c ++ e ∷ [])
          long = begins-front p.edges c _ (begins-append (p.edges ++ c) (e ∷ []))

          under : Begins r.edges (p.edges ++ c ++ e ∷ []) → ⊥
          under b = go (begins-both r.edges p.edges (p.edges ++ c ++ e ∷ []) b long)
            where
              go : Begins r.edges p.edges ⊎ Begins p.edges r.edges → ⊥
              go (inl x) = h.1 x
              go (inr x) = h.0 x

  longer-apart : (p q q' : Path S) (c : List Ends) (e e' : Ends) → Longer p c e q → Longer p c e' q' → (e ≡ e' → ⊥) → Apart q q'
  longer-apart p q q' c e e' l l' n =
      rw (l.0, l'.0) ((λ b. n (begins-last (p.edges ++ c) e e' b)), (λ b. n (sym (begins-last (p.edges ++ c) e' e b))))

  lengthen-longer : (p q : Path S) (c : List Ends) (e : Ends) (x : S) (g r : Bool) → All Rising p.active → lengthen f p c e x g r ≡ ok q → Longer p c e q
  unfolding lengthen
  lengthen-longer p q c e x g r a t = go (leb (length (p.edges ++ c ++ e ∷ [])) f.path_edges) refl
    where
      go : (b : Bool) → leb (length (p.edges ++ c ++ e ∷ [])) f.path_edges ≡ b → Longer p c e q
      go true u = subst (Longer p c e) (ok_same (rw (u, lengthen) at t)) (refl, walk-rising e a)
      go false u = refused-ok (rw (u, lengthen) at t)

  extend-longer : (p : Path S) (c : List Ends) (o : Offer) (q : Path S) → All Rising p.active → extend 𝓢 f p c o ≡ ok q → Longer p c o.ends q
  unfolding extend
  extend-longer p c o q a t = go (𝓢.penalty o.count o.out_of) refl
    where
      go : (d : Option S) → 𝓢.penalty o.count o.out_of ≡ d → Longer p c o.ends q
      go none u = refused-ok (rw (u, extend) at t)
      go (some d) u = lengthen-longer p q c o.ends (𝓢.plus p.score d) o.guided false a (rw (u, extend) at t)

  extensions-fresh : (p : Path S) (c : List Ends) (v : ℕ) (es : List Edge) (qs : List (Path S)) (s : State S) → Closes p c s → All Rising p.active
      → Pairwise (λ d e. d.ends ≡ e.ends → ⊥) es → extensions 𝓢 f p c v es ≡ ok qs → Fresh s qs
  unfolding extensions
  extensions-fresh p c v [] qs s k a d t = subst (Fresh s) (ok_same t) (record { apart = empty; lone = nil })
  extensions-fresh p c v (x ∷ []) qs s k a d t = go (not (is_empty p.active) || leb (times v (vertices_from f.source p.edges)) 1) refl
    where
      go : (b : Bool) → (not (is_empty p.active) || leb (times v (vertices_from f.source p.edges)) 1) ≡ b → Fresh s qs
      go true u =
          let r = and-then-ok (lengthen f p c x.ends p.score false true) (λ q. ok (q ∷ [])) qs (rw (u, extensions) at t) in
          subst (Fresh s) (ok_same r.2)
          (record { apart = first nil empty; lone = cons (longer-lone p r.0 c x.ends s k (lengthen-longer p r.0 c x.ends p.score false true a r.1)) nil })
      go false u = subst (Fresh s) (ok_same (rw (u, extensions) at t)) (record { apart = empty; lone = nil })
  extensions-fresh p c v (x ∷ y ∷ es) qs s k a d t =
      let os = offers f (x ∷ y ∷ es) [] p.active in
      let r = and-then-ok (each (extend 𝓢 f p c) os) (λ qs. ok (keep (repeat_rule f) qs)) qs t in
      let differ = offers-differ f (x ∷ y ∷ es) p.active d a in
      subst (Fresh s) (ok_same r.2)
      (record {
        apart =
            pairwise-keep (repeat_rule f)
            (pairwise-each (extend 𝓢 f p c) os r.0 (λ o o' q q' w w' n. longer-apart p q q' c o.ends o'.ends (extend-longer p c o q a w) (extend-longer p c o' q' a w') n) differ r.1);
        lone =
            all_keep (repeat_rule f)
            (all-each {P = λ o. Unit {0}} (extend 𝓢 f p c) os r.0 (λ o q h w. longer-lone p q c o.ends s k (extend-longer p c o q a w)) (all-unit os) r.1);
      })
    where
      all-unit : (os : List Offer) → All (λ o. Unit {0}) os
      all-unit [] = nil
      all-unit (o ∷ os) = cons tt (all-unit os)

  -- ---- a tree joins

  join-lone : (v : ℕ) (p q : Path S) (s : State S) → AllRising f.trees → Lone s p → join_tree f v p ≡ ok q → Lone s q
  unfolding join_tree
  join-lone v p q s rt l t = go (tree_at f.trees v) refl
    where
      same : {r : Path S} → ok r ≡ ok q → Lone s r → Lone s q
      same e h = subst (Lone s) (ok_same e) h

      go : (o : Option Branches) → tree_at f.trees v ≡ o → Lone s q
      go none u = same (rw (u, join_tree) at t) l
      go (some b) u = fresh (has_branch b && not (any (eqb v) p.visited)) refl
        where
          room : (has_branch b && not (any (eqb v) p.visited)) ≡ true → (z : Bool) → ltb (length p.active) f.active ≡ z → Lone s q
          room w true x =
              same (rw (u, join_tree, w, x) at t) (record { apart = l.apart; off = l.off; trees = all_append l.trees (cons (tree-rising v b rt u) nil) })
          room w false x = refused-ok (rw (u, join_tree, w, x) at t)

          fresh : (z : Bool) → (has_branch b && not (any (eqb v) p.visited)) ≡ z → Lone s q
          fresh false w = same (rw (u, join_tree, w) at t) l
          fresh true w = room w (ltb (length p.active) f.active) refl

  -- ---- at the sink

  close-separate : (v : ℕ) (p : Path S) (c : List Ends) (s s' : State S) → Separate f s → Lone s p → All (Sole f.edges) c → close_at f v p c s ≡ ok s'
      → Closes p c s'
  unfolding close_at
  close-separate v p c s s' g l so t = go (eqb v f.sink) refl
    where
      beyond : (e : Ends) → Off s.closed (p.edges ++ c ++ e ∷ [])
      beyond e = all-mono (λ x h b. h (begins-front p.edges c x.edges (begins-front (p.edges ++ c) (e ∷ []) x.edges b))) l.off

      struck : Separate f (record { waiting = s.waiting; closed = s.closed; pivotal = cross_off p.edges s.pivotal; pushes = s.pushes; longest = s.longest })
      struck =
          record {
            waiting = g.waiting;
            off = g.off;
            trees = g.trees;
            closed = g.closed;
            pivotal = pairwise-cross_off p.edges g.pivotal;
            forks = all-cross_off p.edges g.forks;
            unused = all-cross_off p.edges g.unused;
          }

      -- a waiting path does not begin the one that closes
      not-under : (q : Path S) → Apart p q → Begins q.edges (p.edges ++ c) → ⊥
      not-under q h b = both (begins-both q.edges p.edges (p.edges ++ c) b (begins-append p.edges c))
        where
          both : Begins q.edges p.edges ⊎ Begins p.edges q.edges → ⊥
          both (inl x) = h.1 x
          both (inr x) = h.0 x

      -- no edge that is left pivotal stands in it
      not_in : (e : Ends) → Fork f.edges e → (Mem e p.edges → ⊥) → Mem e (p.edges ++ c) → ⊥
      not_in e k n m = which (mem-append p.edges c m)
        where
          which : Mem e p.edges ⊎ Mem e c → ⊥
          which (inl x) = n x
          which (inr x) = let z : length (leaving f.edges e.from) ≡ 1 = all-mem so x in omega arith

      go : (b : Bool) → eqb v f.sink ≡ b → Closes p c s'
      go false u = subst (Closes p c) (ok_same (rw (u, close_at) at t)) (record { separate = g; apart = l.apart; beyond = beyond })
      go true u = stop (has_stopping_evidence f p.active) refl
        where
          fits : has_stopping_evidence f p.active ≡ true → (z : Bool) → leb (length (p.edges ++ c)) f.path_edges ≡ z → Closes p c s'
          fits w false x = refused-ok (rw (u, close_at, w, x) at t)
          fits w true x =
              subst (Closes p c) (ok_same (rw (u, close_at, w, x) at t))
              (record {
                separate =
                    record {
                      waiting = g.waiting;
                      off = all-mono (λ q h. all_append h.0 (cons (not-under q h.1) nil)) (all-zip g.off l.apart);
                      trees = g.trees;
                      closed = pairwise_append g.closed (first nil empty) (all-mono (λ y h. cons (λ e. h (rw e (begins-append p.edges c))) nil) l.off);
                      pivotal = struck.pivotal;
                      forks = struck.forks;
                      unused =
                          all-mono (λ e h. all_append h.0 (cons (not_in e h.1.0 h.1.1) nil))
                          (all-zip struck.unused (all-zip struck.forks (cross-gone p.edges g.pivotal)));
                    };
                apart = l.apart;
                beyond = λ e. all_append (beyond e) (cons (begins-longer (p.edges ++ c) e) nil);
              })

          stop : (z : Bool) → has_stopping_evidence f p.active ≡ z → Closes p c s'
          stop false w = subst (Closes p c) (ok_same (rw (u, close_at, w) at t)) (record { separate = struck; apart = l.apart; beyond = beyond })
          stop true w = fits w (leb (length (p.edges ++ c)) f.path_edges) refl

  -- ---- a taken path

  module _ (rt : AllRising f.trees) (d : Pairwise (λ a b. a.ends ≡ b.ends → ⊥) f.edges) where
    extend-separate : (p : Path S) (c : List Ends) (v : ℕ) (s s' : State S) (qs : List (Path S)) → Separate f s → Lone s p → All (Sole f.edges) c
        → extend_at 𝓢 f p c v s ≡ made s' qs → Separate f s' × Fresh s' qs
    unfolding extend_at made_of
    extend-separate p c v s s' qs g l so t = join (join_tree f v p) refl
      where
        Goal : Type 0
        Goal = Separate f s' × Fresh s' qs

        join : (r : Result (Path S)) → join_tree f v p ≡ r → Goal
        join (refused n) u = broken-made (rw (u, extend_at) at t)
        join (ok q) u = close (close_at f v q c s) refl
          where
            lq : Lone s q
            lq = join-lone v p q s rt l u

            close : (r : Result (State S)) → close_at f v q c s ≡ r → Goal
            close (refused n) w = broken-made (rw (u, extend_at, w) at t)
            close (ok s'') w = ext (extensions 𝓢 f q c v (leaving f.edges v)) refl
              where
                k : Closes q c s''
                k = close-separate v q c s s'' g lq so w

                ext : (r : Result (List (Path S))) → extensions 𝓢 f q c v (leaving f.edges v) ≡ r → Goal
                ext (refused n) x = broken-made (rw (u, extend_at, w, x) at t)
                ext (ok rs) x =
                    let h : made s'' rs ≡ made s' qs = rw (u, extend_at, w, x) at t in
                    let fr : Fresh s'' rs = extensions-fresh q c v (leaving f.edges v) rs s'' k lq.trees (leaving-differ f.edges d v) x in
                    (subst (Separate f) (made-state h) k.separate, subst (Fresh s') (made-paths h) (subst (λ (z : State S). Fresh z rs) (made-state h) fr))

    take-separate : (p : Path S) (s s' : State S) (qs : List (Path S)) → Separate f s → Lone s p → take_path 𝓢 f p s ≡ made s' qs → Separate f s' × Fresh s' qs
    unfolding take_path
    take-separate p s s' qs g l t = go (ltb 5 p.since) refl
      where
        u : ℕ
        u = end_from f.source p.edges

        go : (b : Bool) → ltb 5 p.since ≡ b → Separate f s' × Fresh s' qs
        go true e =
            let h : made s [] ≡ made s' qs = rw (e, take_path) at t in
            (subst (Separate f) (made-state h) g, subst (Fresh s') (made-paths h) (record { apart = empty; lone = nil }))
        go false e = extend-separate p (chain f u) (end_from u (chain f u)) s s' qs g l (chain-sole f u) (rw (e, take_path) at t)

    -- ---- recovery

    -- a recovered path ends with an edge that stands in no closed path, so it begins none
    recover-separate : (e : Ends) (s s' : State S) (qs : List (Path S)) → Separate f s → s.waiting ≡ [] → Unused s.closed e → recover 𝓢 f e s ≡ made s' qs
        → Separate f s' × Fresh s' qs
    unfolding recover
    recover-separate e s s' qs g ew n t = go (greatest 𝓢 (keep (λ c. any (eqb e.from) (vertices_from f.source c.edges)) s.closed)) refl
      where
        Goal : Type 0
        Goal = Separate f s' × Fresh s' qs

        ends : {rs : List (Path S)} → Fresh s rs → made s rs ≡ made s' qs → Goal
        ends {rs} a h = (subst (Separate f) (made-state h) g, subst (Fresh s') (made-paths h) (subst (λ (z : State S). Fresh z rs) (made-state h) a))

        none_made : Fresh s []
        none_made = record { apart = empty; lone = nil }

        off : (front : List Ends) → Off s.closed (front ++ e ∷ [])
        off front = all-mono (λ x h b. h (begins-mem (front ++ e ∷ []) x.edges b (mem-right front (here refl)))) n

        go : (o : Option (Closed S)) → greatest 𝓢 (keep (λ c. any (eqb e.from) (vertices_from f.source c.edges)) s.closed) ≡ o → Goal
        go none u = ends none_made (rw (u, recover) at t)
        go (some b) u = last (find_last (λ d. eqb d.to e.from) b.edges) refl
          where
            last : (o : Option Ends) → find_last (λ d. eqb d.to e.from) b.edges ≡ o → Goal
            last none w = ends none_made (rw (u, recover, w) at t)
            last (some d) w = fits (leb (length (front ++ e ∷ [])) f.path_edges) refl
              where
                front : List Ends
                front = take (suc (position (eq_ends d) b.edges)) b.edges

                fits : (z : Bool) → leb (length (front ++ e ∷ [])) f.path_edges ≡ z → Goal
                fits false x = broken-made (rw (u, recover, w, x) at t)
                fits true x =
                    ends (record { apart = first nil empty; lone = cons (record { apart = rw ew nil; off = off front; trees = nil }) nil })
                    (rw (u, recover, w, x) at t)

    -- ---- a turn

    advance-separate : (s s' : State S) (ws : List (Path S)) (vs : List Ends) (qs : List (Path S)) → s.waiting ≡ ws → s.pivotal ≡ vs → Separate f s
        → advance 𝓢 f s ws vs ≡ made s' qs → Separate f s' × Fresh s' qs
    unfolding advance
    advance-separate s s' [] [] qs ew ev g t = end-made t
    advance-separate s s' [] (e ∷ es) qs ew ev g t =
        let s₁ : State S = record { waiting = []; closed = s.closed; pivotal = es; pushes = s.pushes; longest = s.longest } in
        recover-separate e s₁ s' qs
        (record {
          waiting = empty;
          off = nil;
          trees = nil;
          closed = g.closed;
          pivotal = pairwise-tail (rw ev at g.pivotal);
          forks = all_tail (rw ev at g.forks);
          unused = all_tail (rw ev at g.unused);
        })
        refl (all_head (rw ev at g.unused)) t
    advance-separate s s' (p ∷ ps) es qs ew ev g t = go (ltb (cond (is_empty s.closed) 1000 10000) (length s.waiting)) refl
      where
        s₁ : State S
        s₁ = record { waiting = ps; closed = s.closed; pivotal = s.pivotal; pushes = s.pushes; longest = s.longest }

        g₁ : Separate f s₁
        g₁ =
            record {
              waiting = pairwise-tail (rw ew at g.waiting);
              off = all_tail (rw ew at g.off);
              trees = all_tail (rw ew at g.trees);
              closed = g.closed;
              pivotal = g.pivotal;
              forks = g.forks;
              unused = g.unused;
            }

        l₁ : Lone s₁ p
        l₁ = record { apart = pairwise-head (rw ew at g.waiting); off = all_head (rw ew at g.off); trees = all_head (rw ew at g.trees) }

        go : (b : Bool) → ltb (cond (is_empty s.closed) 1000 10000) (length s.waiting) ≡ b → Separate f s' × Fresh s' qs
        go true u = end-made (rw (u, advance) at t)
        go false u = take-separate p s₁ s' qs g₁ l₁ (rw (u, advance) at t)

    pub turn-separate : (asked limit : ℕ) (s s' : State S) → Separate f s → last_of (turn 𝓢 f asked limit s) ≡ some s' → Separate f s'
    unfolding turn push_made
    turn-separate asked limit s s' g t = go (leb asked (length s.closed)) refl
      where
        after : (m : Made S) → advance 𝓢 f s s.waiting s.pivotal ≡ m → last_of (push_made 𝓢 limit s m) ≡ some s' → Separate f s'
        after at_end e h = subst (Separate f) (same_some h) g
        after (broken n) e h = no-some h
        after (made s₁ ps) e h =
            let r = advance-separate s s₁ s.waiting s.pivotal ps refl refl g e in
            pushed-separate 𝓢 f limit ps s₁ s' r.0 r.1 h

        go : (b : Bool) → leb asked (length s.closed) ≡ b → Separate f s'
        go true e = subst (Separate f) (same_some (rw (e, turn) at t)) g
        go false e = after (advance 𝓢 f s s.waiting s.pivotal) refl (rw (e, turn) at t)

    -- ---- the whole search

    pub run-separate : (asked limit n : ℕ) (s s' : State S) → Separate f s → last_of (run 𝓢 f asked limit n (more s)) ≡ some s' → Separate f s'
    unfolding run
    run-separate asked limit zero s s' g t = subst (Separate f) (same_some t) g
    run-separate asked limit (suc n) s s' g t = go (turn 𝓢 f asked limit s) refl t (λ x gx h. run-separate asked limit n x s' gx h)
      where
        go : (u : Turn S) → turn 𝓢 f asked limit s ≡ u → last_of (run 𝓢 f asked limit n u) ≡ some s'
            → ((x : State S) → Separate f x → last_of (run 𝓢 f asked limit n (more x)) ≡ some s' → Separate f s') → Separate f s'
        go (more x) e h ih = ih x (turn-separate asked limit s x g (ap last_of e)) h
        go (ended x) e h ih = turn-separate asked limit s s' g (ap last_of (e ∙ sym (run-ended 𝓢 f asked limit n x)) ∙ h)
        go (failed m) e h ih = no-some (ap last_of (sym (run-failed 𝓢 f asked limit n m)) ∙ h)
        go (full x ps) e h ih = turn-separate asked limit s s' g (ap last_of (e ∙ sym (run-full 𝓢 f asked limit n x ps)) ∙ h)

    first-separate : (recovery : Bool) → Separate f (first_state 𝓢 (elim recovery as (λ _. List Ends) [ true ↦ pivotal_edges f | false ↦ [] ]))
    unfolding first_state
    first-separate true =
        let p = pivotal-differ f d in
        record { waiting = first nil empty; off = cons nil nil; trees = cons nil nil; closed = empty; pivotal = p.0; forks = p.1; unused = all-mono (λ e h. nil) p.1 }
    first-separate false =
        record { waiting = first nil empty; off = cons nil nil; trees = cons nil nil; closed = empty; pivotal = empty; forks = nil; unused = nil }

    pub search-separate : (asked limit : ℕ) (recovery : Bool) (s : State S) → last_of (search 𝓢 f asked limit recovery) ≡ some s → Separate f s
    unfolding search
    search-separate asked limit recovery s t = run-separate asked limit _ _ s (first-separate recovery) t

-- The closed paths of a search differ in their edges, where the table's ends strictly rise and so do the branches at every node of its trees.
pub closed-differ : {S : Type 0} (𝓢 : Scoring S) (f : SearchInput) (asked limit : ℕ) (recovery : Bool) (s : State S) → Rises f.edges → AllRising f.trees
    → last_of (search 𝓢 f asked limit recovery) ≡ some s → Differ s.closed
closed-differ 𝓢 f asked limit recovery s r rt t = (search-separate 𝓢 f rt (rises-differ f.edges r) asked limit recovery s t).closed

-- ---- the list

-- The closed paths behind the rows of a list differ in their edges.
pub found-differ : {S : Type 0} {𝓢 : Scoring S} (i : Input) (rows : List (Row S)) (p q : ℕ) (h : Found 𝓢 i rows p q) → Differ h.state.closed
unfolding search_input
found-differ {𝓢 = 𝓢} i rows p q h =
    let is = built-is i.sample i.graph_maxima h.graph h.is-built in
    closed-differ 𝓢 (search_input i h.graph) i.asked i.search_maxima.pushes i.recovery h.state (rw is.1 (symbolic-rises i.sample))
    (rw is.2 (evidence-rising i.sample (threaded i.sample))) h.reached

-- ---- bases

module _ (i : Sample) (1≤k : 1 ≤ i.k) (es : List Edge) where
  -- the last bases of the vertices reached
  abbrev lasts : List Ends → List ℕ
  lasts ds = map (λ (e : Ends). last_base (threaded i).kmers e.to) ds

  -- from one vertex on, a base tells the way on, and so the bases tell the edges
  same_way : (v : ℕ) (ds cs : List Ends) → Spelt i (threaded i).kmers es 1≤k v ds → Spelt i (threaded i).kmers es 1≤k v cs → lasts ds ≡ lasts cs → ds ≡ cs
  same_way v [] [] a b e = refl
  same_way v [] (c ∷ cs) a b e = let z : ◌≡◌ {A = ℕ} 0 1 = cc in absurd (omega arith)
  same_way v (d ∷ ds) [] a b e = let z : ◌≡◌ {A = ℕ} 0 1 = cc in absurd (omega arith)
  same_way v (d ∷ ds) (c ∷ cs) a b e =
      let l : last_base (threaded i).kmers d.to ≡ last_base (threaded i).kmers c.to = cc in
      let r : lasts ds ≡ lasts cs = cc in
      let s : d ≡ c = one-way-on i d c (origin_at es d) (origin_at es c) 1≤k a.0 b.0 (a.1 ∙ sym b.1) l in
      let w : Spelt i (threaded i).kmers es 1≤k d.to cs = rw s b.2 in
      let t : ds ≡ cs = same_way d.to ds cs a.2 w r in
      cc

-- paths of the same bases reach vertices of the same last bases
bases-lasts : (i : Sample) (ds cs : List Ends) → path_bases (threaded i) ds ≡ path_bases (threaded i) cs
    → map (λ (e : Ends). last_base (threaded i).kmers e.to) ds ≡ map (λ (e : Ends). last_base (threaded i).kmers e.to) cs
unfolding path_bases
bases-lasts i ds cs e = append-rest (get_or (threaded i).kmers 0 []) _ _ e

-- the edges of a closed path spell
closed-spelt : {S : Type 0} {Fine : S → Type 0} (x : Input) (b : Built) (c : Closed S) (p : 1 ≤ x.sample.k) → x.sample.k ≤ length x.sample.reference
    → b.graph ≡ threaded x.sample → b.edges ≡ with_symbolic x.sample (threaded x.sample) → GoodClosed Fine (search_input x b) c
    → Spelt x.sample (threaded x.sample).kmers (with_symbolic x.sample (threaded x.sample)) p 0 c.edges
unfolding search_input
closed-spelt x b c p long eg ee gc =
    let i = x.sample in
    let g = threaded i in
    let s = threaded-sound i p long in
    let l : Linked (with_symbolic i g) 0 c.edges = rw ee at gc.linked in
    let z : end_from 0 c.edges ≡ sink_of i g = rw eg at gc.at_sink in
    spelt-path i g p 0 c.edges s l (enters-in i g 0 c.edges s l (rw z (sink-in i g s)))

module _ {S : Type 0} (𝓢 : Scoring S) (i : Input) (rows : List (Row S)) (p q : ℕ) (1≤k : 1 ≤ i.sample.k) (long : i.sample.k ≤ length i.sample.reference) where
  found-bases : Found 𝓢 i rows p q → Pairwise (λ a b. a.bases ≡ b.bases → ⊥) rows
  unfolding list_order
  found-bases h = rw h.are (sorted-pairwise (above 𝓢) (λ a b n e. n (sym e)) (unfold row_of in pairwise_map (row_of h.graph) other-bases (pairwise-all spelt (found-differ i rows p q h))))
    where
      is : (h.graph.graph ≡ threaded i.sample) × (h.graph.edges ≡ with_symbolic i.sample (threaded i.sample)) × (h.graph.trees ≡ evidence i.sample (threaded i.sample))
      is = built-is i.sample i.graph_maxima h.graph h.is-built

      Spelling : Closed S → Type 0
      Spelling c = Spelt i.sample (threaded i.sample).kmers (with_symbolic i.sample (threaded i.sample)) 1≤k 0 c.edges

      spelt : All Spelling h.state.closed
      spelt = all-mono (λ c g. closed-spelt i h.graph c 1≤k long is.0 is.1 g) (found-good (any-keeps 𝓢) h).0.closed

      other-bases : (c d : Closed S) → Spelling c × Spelling d × (c.edges ≡ d.edges → ⊥) → path_bases h.graph.graph c.edges ≡ path_bases h.graph.graph d.edges → ⊥
      other-bases c d w e =
          let f : path_bases (threaded i.sample) c.edges ≡ path_bases (threaded i.sample) d.edges = rw is.0 at e in
          w.2 (same_way i.sample 1≤k (with_symbolic i.sample (threaded i.sample)) 0 c.edges d.edges w.0 w.1 (bases-lasts i.sample c.edges d.edges f))

  -- No two rows of a list have the same bases.
  pub bases-listing : Listing 𝓢 i rows p q → Pairwise (λ a b. a.bases ≡ b.bases → ⊥) rows
  bases-listing (inl h) = rw h.1 empty
  bases-listing (inr h) = found-bases h

-- ---- the order, once more

-- a's score is greater, or neither score is less and its bases are greater
abbrev pub Tops : {S : Type 0} → Scoring S → Row S → Row S → Type 0
Tops 𝓢 a b =
    (𝓢.less b.score a.score ≡ true)
    ⊎ ((𝓢.less a.score b.score ≡ false) × (𝓢.less b.score a.score ≡ false) × (compare_list a.bases b.bases ≡ Ordering.gt))

outranks-tops : {S : Type 0} (𝓢 : Scoring S) (a b : Row S) → Outranks 𝓢 a b → (a.bases ≡ b.bases → ⊥) → Tops 𝓢 a b
outranks-tops 𝓢 a b (by-score e) n = inl e
outranks-tops 𝓢 a b (by-bases e f g) n = inr (e, f, g)
outranks-tops 𝓢 a b (by-closing e f g h) n = absurd (n g)

-- Score and bases alone decide the order of any two rows: the closing number never does.
pub tops-listing : {S : Type 0} {𝓢 : Scoring S} {Fine : S → Type 0} → Ordered 𝓢 Fine → Keeps 𝓢 Fine → (i : Input) (rows : List (Row S)) (p q : ℕ) → 1 ≤ i.sample.k
    → i.sample.k ≤ length i.sample.reference → Listing 𝓢 i rows p q → Pairwise (Tops 𝓢) rows
tops-listing {𝓢 = 𝓢} O K i rows p q one long h =
    pairwise-mono (λ a b w. outranks-tops 𝓢 a b w.0 w.1) (pairwise-zip (ranked-listing O K i rows p q h) (bases-listing 𝓢 i rows p q one long h))

-- ---- the call for the list, in column mode

module _ (i : Input) (told lent : List ℕ) (rows : List (Row Float)) (p q : ℕ) (t : answer i told lent ≡ listed rows p q) where
  -- No two rows of an accepted list have the same bases.
  pub bases-differ : Pairwise (λ a b. a.bases ≡ b.bases → ⊥) rows
  bases-differ =
      let a = accepted i told lent rows p q t in
      let k : 2 ≤ i.sample.k = k-some i a.0 in
      bases-listing (column_scoring i.column) i rows p q (omega arith) (reference-long i a.0) a.1

  -- Of any two rows of an accepted list the upper one has the greater score, or an equal one and greater bases.
  pub rows-top : Pairwise (Tops (column_scoring i.column)) rows
  rows-top =
      let a = accepted i told lent rows p q t in
      let k : 2 ≤ i.sample.k = k-some i a.0 in
      tops-listing (column-ordered i.column) (column-keeps i.column a.0.column-fits) i rows p q (omega arith) (reference-long i a.0) a.1
