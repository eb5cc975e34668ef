-- Forks: the edges that a fork offers differ, those of a chain leave no fork, and the pivotal edges differ and leave forks.
use mathlib.Core.Path.{◌≡◌, refl, sym, ap, ◌∙◌}
use Prim.Native.Nat.{Ordering}
use Prim.Native.Nat.{ℕ, zero, suc, ◌+◌, ◌<◌}
use native.Mathlib.Omega.{arith}
use mathlib.Core.Bool.{Bool, true, false, not, ◌&&◌, ◌||◌}
use mathlib.Core.List.{List, [], ◌∷◌, ◌++◌, map}
use mathlib.Core.Option.{Option, none, some}
use lib.Dec.{leb, ltb, eqb}
use lib.ListN.{length}
use borrow.Author.Tests.{ltb-true}
use Rattle.laws.specs.Lists.{keep, sole, drop_first, is_some}
use Rattle.laws.specs.Numbers.{reaches}
use Rattle.laws.specs.ListLaws.{clash, or-none, All, nil, cons, Mem, here, there, all_head, all_tail, all_append, all-mono, all-zip, all_keep, all-passed, all_map, all_from, mem-map, Pairwise, empty, first, pairwise_append, pairwise-keep, pairwise_map}
use Rattle.definition.specs.Threading.{Ends, eq_ends, compare_ends, Edge, leaving}
use Rattle.definition.specs.Evidence.{Branches, bare, branch, tree_at}
use Rattle.definition.specs.Search.{SearchInput, Offer, among, sum_of, onward, chain_from, chain, real_branches, best, unseen, by_support, offers, cross_off, Queued, enqueue_all, ends_of, pivotal_of, pivotal_from, pivotal_edges}
use Rattle.theorems.proofs.Walks.{eq_ends-true, eq_ends-self, leaving-on, onward-on, all-drop_first, all-cross_off}
use Rattle.theorems.proofs.Fuel.{among-mem, among-append}
use Rattle.theorems.proofs.Degrees.{ends-less}
use Rattle.theorems.proofs.Trees.{After, Rising}

not-true : (b : Bool) → not b ≡ true → b ≡ false
not-true true e = clash (sym e)
not-true false e = refl

-- not among two lists one after the other: among neither
among-neither : (d : Ends) (xs ys : List Ends) → among d (xs ++ ys) ≡ false → (among d xs ≡ false) × (among d ys ≡ false)
among-neither d xs ys e = or-none (among d xs) (among d ys) (sym (among-append d xs ys) ∙ e)

-- an edge of a list, and one that is not among it
other_edge : (d e : Ends) (xs : List Ends) → among d xs ≡ true → among e xs ≡ false → d ≡ e → ⊥
other_edge d e xs a b s = clash (sym a ∙ ap (λ (z : Ends). among z xs) s ∙ b)

-- ---- the chain

-- one edge leaves the vertex that d leaves
abbrev pub Sole : List Edge → Ends → Type 0
Sole es d = length (leaving es d.from) ≡ 1

-- two or more do
abbrev pub Fork : List Edge → Ends → Type 0
Fork es d = 1 < length (leaving es d.from)

sole-length : {A : Type 0} (xs : List A) (x : A) → sole xs ≡ some x → length xs ≡ 1
sole-length [] x e = let z : ◌≡◌ {A = ℕ} 0 1 = cc in absurd (omega arith)
sole-length (y ∷ []) x e = refl
sole-length (y ∷ z ∷ ys) x e = let w : ◌≡◌ {A = ℕ} 0 1 = cc in absurd (omega arith)

module _ (f : SearchInput) where
  -- so is the edge by which a chain goes on
  pub onward-sole : (v : ℕ) (x : Edge) → onward f v ≡ some x → Sole f.edges x.ends
  unfolding onward
  onward-sole v x e = go (is_some (tree_at f.trees v) || eqb v f.sink) refl
    where
      go : (b : Bool) → (is_some (tree_at f.trees v) || eqb v f.sink) ≡ b → Sole f.edges x.ends
      go true t = let n : none ≡ some x = rw (t, onward) at e in let z : ◌≡◌ {A = ℕ} 0 1 = cc in absurd (omega arith)
      go false t = rw (onward-on f v x e).1 (sole-length (leaving f.edges v) x (rw (t, onward) at e))

  chain-sole-from : (n v : ℕ) (c : List Ends) → All (Sole f.edges) c → All (Sole f.edges) (chain_from f n v c)
  unfolding chain_from
  chain-sole-from zero v c a = a
  chain-sole-from (suc n) v c a = go (onward f v) refl (λ w d. chain-sole-from n w d)
    where
      go : (o : Option Edge) → onward f v ≡ o → ((w : ℕ) (d : List Ends) → All (Sole f.edges) d → All (Sole f.edges) (chain_from f n w d))
          → All (Sole f.edges) (chain_from f (suc n) v c)
      go none h ih = rw (h, chain_from) a
      go (some x) h ih = more (among x.ends c) refl
        where
          more : (b : Bool) → among x.ends c ≡ b → All (Sole f.edges) (chain_from f (suc n) v c)
          more true t = rw (h, chain_from, t) a
          more false t = rw (h, chain_from, t) (ih x.ends.to (c ++ x.ends ∷ []) (all_append a (cons (onward-sole v x h) nil)))

  -- Every edge of a chain is the only one that leaves its vertex.
  pub chain-sole : (v : ℕ) → All (Sole f.edges) (chain f v)
  unfolding chain
  chain-sole v = chain-sole-from (length f.edges) v [] nil

-- ---- offers

abbrev Unlike : Offer → Offer → Type 0
Unlike o p = o.ends ≡ p.ends → ⊥

module _ (f : SearchInput) (outs : List Ends) (t : ℕ) where
  real-after : (d : Ends) (b : Branches) → After d b → All (λ o. compare_ends d o.ends ≡ Ordering.lt) (real_branches f outs t b)
  unfolding real_branches
  real-after d bare a = nil
  real-after d (branch e c below next) a = go (among e outs && not (eq_ends e f.symbolic)) refl (real-after d next a.1)
    where
      go : (b : Bool) → (among e outs && not (eq_ends e f.symbolic)) ≡ b → All (λ o. compare_ends d o.ends ≡ Ordering.lt) (real_branches f outs t next)
          → All (λ o. compare_ends d o.ends ≡ Ordering.lt) (real_branches f outs t (branch e c below next))
      go true h ih = rw (h, real_branches) (cons a.0 ih)
      go false h ih = rw (h, real_branches) ih

  real-differ : (b : Branches) → Rising b → Pairwise Unlike (real_branches f outs t b)
  unfolding real_branches
  real-differ bare r = empty
  real-differ (branch e c below next) r = go (among e outs && not (eq_ends e f.symbolic)) refl (real-differ next r.2)
    where
      go : (b : Bool) → (among e outs && not (eq_ends e f.symbolic)) ≡ b → Pairwise Unlike (real_branches f outs t next)
          → Pairwise Unlike (real_branches f outs t (branch e c below next))
      go true h ih = rw (h, real_branches) (first (all-mono (λ o l. ends-less e o.ends l) (real-after e next r.0)) ih)
      go false h ih = rw (h, real_branches) ih

-- the best branch is one at most
pairwise-best : {R : Offer → Offer → Type 0} (os : List Offer) → Pairwise R (best os)
unfolding best
pairwise-best [] = empty
pairwise-best {R} (o ∷ os) = go (best os) refl (pairwise-best os)
  where
    go : (r : List Offer) → best os ≡ r → Pairwise R (best os) → Pairwise R (best (o ∷ os))
    go [] e ih = rw (e, best) (first nil empty)
    go (q ∷ qs) e ih = pick (leb o.count q.count) refl
      where
        pick : (b : Bool) → leb o.count q.count ≡ b → Pairwise R (best (o ∷ os))
        pick true t = rw (e, best, t) (rw e at ih)
        pick false t = rw (e, best, t) (first nil empty)

support-differ : {es : List Edge} → Pairwise (λ d e. d.ends ≡ e.ends → ⊥) es → Pairwise Unlike (by_support es)
unfolding by_support
support-differ d = pairwise_map _ (λ x y h. h) (pairwise-keep _ d)

-- what is offered is not among the edges seen
unseen-new : (seen : List Ends) (os : List Offer) → All (λ o. among o.ends seen ≡ false) (unseen seen os)
unfolding unseen
unseen-new seen os = all-mono (λ o h. not-true (among o.ends seen) h) (all-passed (λ o. not (among o.ends seen)) os)

unseen-differ : (seen : List Ends) {os : List Offer} → Pairwise Unlike os → Pairwise Unlike (unseen seen os)
unfolding unseen
unseen-differ seen p = pairwise-keep _ p

offers-new : (f : SearchInput) (es : List Edge) (seen : List Ends) (bs : List Branches) → Pairwise (λ d e. d.ends ≡ e.ends → ⊥) es → All Rising bs
    → Pairwise Unlike (offers f es seen bs) × All (λ o. among o.ends seen ≡ false) (offers f es seen bs)
unfolding offers
offers-new f es seen [] d r = (unseen-differ seen (support-differ d), unseen-new seen (by_support es))
offers-new f es seen (b ∷ bs) d r = go (reaches (sum_of b) f.threshold) refl (λ l. offers-new f es l bs d (all_tail r))
  where
    real : List Offer
    real = real_branches f (map (λ (e : Edge). e.ends) es) (sum_of b) b

    mine : List Ends
    mine = map (λ (o : Offer). o.ends) (unseen seen real)

    go : (t : Bool) → reaches (sum_of b) f.threshold ≡ t
        → ((l : List Ends) → Pairwise Unlike (offers f es l bs) × All (λ o. among o.ends l ≡ false) (offers f es l bs))
        → Pairwise Unlike (offers f es seen (b ∷ bs)) × All (λ o. among o.ends seen ≡ false) (offers f es seen (b ∷ bs))
    go true e ih = rw (e, offers) (unseen-differ seen (pairwise-best real), unseen-new seen (best real))
    go false e ih =
        let rest = ih (seen ++ mine) in
        rw (e, offers) (
          pairwise_append (unseen-differ seen (real-differ f (map (λ (e : Edge). e.ends) es) (sum_of b) b (all_head r))) rest.0
              (all_from (unseen seen real)
              (λ x m. all-mono (λ y h. other_edge x.ends y.ends mine (among-mem x.ends mine (mem-map (λ (o : Offer). o.ends) m)) (among-neither y.ends seen mine h).1) rest.1)),
          all_append (unseen-new seen real) (all-mono (λ y h. (among-neither y.ends seen mine h).0) rest.1),
        )

-- No edge is offered twice.
pub offers-differ : (f : SearchInput) (es : List Edge) (bs : List Branches) → Pairwise (λ d e. d.ends ≡ e.ends → ⊥) es → All Rising bs
    → Pairwise (λ o p. o.ends ≡ p.ends → ⊥) (offers f es [] bs)
offers-differ f es bs d r = (offers-new f es [] bs d r).0

-- ---- crossing off

pairwise-drop_first : {A : Type 0} {R : A → A → Type 0} (t : A → Bool) {xs : List A} → Pairwise R xs → Pairwise R (drop_first t xs)
pairwise-drop_first t empty = empty
pairwise-drop_first {A} {R} t (first {x = x} {xs = xs} a p) = go (t x) refl (pairwise-drop_first t p)
  where
    go : (b : Bool) → t x ≡ b → Pairwise R (drop_first t xs) → Pairwise R (drop_first t (x ∷ xs))
    go true e ih = rw (e, drop_first) p
    go false e ih = rw (e, drop_first) (first (all-drop_first t a) ih)

pub pairwise-cross_off : {R : Ends → Ends → Type 0} (es : List Ends) {ps : List Ends} → Pairwise R ps → Pairwise R (cross_off es ps)
unfolding cross_off
pairwise-cross_off [] p = p
pairwise-cross_off (e ∷ es) p = pairwise-cross_off es (pairwise-drop_first (eq_ends e) p)

drop-gone : (e : Ends) {ps : List Ends} → Pairwise (λ c d. c ≡ d → ⊥) ps → All (λ x. x ≡ e → ⊥) (drop_first (eq_ends e) ps)
drop-gone e empty = nil
drop-gone e (first {x = x} {xs = xs} a p) = go (eq_ends e x) refl (drop-gone e p)
  where
    go : (b : Bool) → eq_ends e x ≡ b → All (λ y. y ≡ e → ⊥) (drop_first (eq_ends e) xs) → All (λ y. y ≡ e → ⊥) (drop_first (eq_ends e) (x ∷ xs))
    go true u ih = rw (u, drop_first) (all-mono (λ y h s. h (sym (eq_ends-true e x u) ∙ sym s)) a)
    go false u ih = rw (u, drop_first) (cons {x = x} (λ s. clash (sym (eq_ends-self e) ∙ ap (eq_ends e) (sym s) ∙ u)) ih)

-- Of different edges none is left that was crossed off.
pub cross-gone : (es : List Ends) {ps : List Ends} → Pairwise (λ c d. c ≡ d → ⊥) ps → All (λ x. Mem x es → ⊥) (cross_off es ps)
unfolding cross_off
cross-gone [] {ps} p = all_from ps (λ x h m. elim m [ ])
cross-gone (e ∷ es) p =
    all-mono (λ x h m. go x h.0 h.1 m) (all-zip (all-cross_off es (drop-gone e p)) (cross-gone es (pairwise-drop_first (eq_ends e) p)))
  where
    go : (x : Ends) → (x ≡ e → ⊥) → (Mem x es → ⊥) → Mem x (e ∷ es) → ⊥
    go x a b (here s) = a s
    go x a b (there m) = b m

-- ---- the pivotal edges

module _ (es : List Edge) (d : Pairwise (λ a b. a.ends ≡ b.ends → ⊥) es) where
  -- the edges that leave a vertex differ
  pub leaving-differ : (v : ℕ) → Pairwise (λ a b. a.ends ≡ b.ends → ⊥) (leaving es v)
  unfolding leaving
  leaving-differ v = pairwise-keep _ d

  pivotal-new : (n : ℕ) (qs : List Queued) (visited : List Ends)
      → Pairwise (λ a b. a ≡ b → ⊥) (pivotal_from es n qs visited)
      × All (λ e. among e visited ≡ false) (pivotal_from es n qs visited)
      × All (Fork es) (pivotal_from es n qs visited)
  unfolding pivotal_from pivotal_of ends_of
  pivotal-new zero qs visited = (empty, nil, nil)
  pivotal-new (suc n) [] visited = (empty, nil, nil)
  pivotal-new (suc n) (q ∷ qs) visited =
      let rest = pivotal-new n (enqueue_all (suc q.level) new qs) (visited ++ ends_of new) in
      let here-new = some-new (ltb 1 (length out)) refl in (
        pairwise_append here-new.0 rest.0
            (all-mono (λ x w. all-mono (λ y h. other_edge x y (ends_of new) w (among-neither y visited (ends_of new) h).1) rest.1) here-new.3),
        all_append here-new.1 (all-mono (λ y h. (among-neither y visited (ends_of new) h).0) rest.1),
        all_append here-new.2 rest.2,
      )
    where
      out : List Edge
      out = leaving es q.ends.to

      new : List Edge
      new = keep (λ (e : Edge). not (among e.ends visited)) out

      known : All (λ x. (among x.ends visited ≡ false) × (x.ends.from ≡ q.ends.to) × (among x.ends (ends_of new) ≡ true)) new
      known =
          all-mono (λ x h. (not-true (among x.ends visited) h.0, h.1.0, h.1.1))
          (all-zip (all-passed (λ (e : Edge). not (among e.ends visited)) out)
          (all-zip (all-mono (λ x h. h.1) (all_keep (λ (e : Edge). not (among e.ends visited)) (leaving-on es q.ends.to)))
          (all_from new (λ x m. among-mem x.ends (ends_of new) (mem-map (λ (e : Edge). e.ends) m)))))

      some-new : (b : Bool) → ltb 1 (length out) ≡ b
          → Pairwise (λ a b. a ≡ b → ⊥) (pivotal_of out new) × All (λ e. among e visited ≡ false) (pivotal_of out new) × All (Fork es) (pivotal_of out new)
          × All (λ e. among e (ends_of new) ≡ true) (pivotal_of out new)
      some-new false e = rw e (empty, nil, nil, nil)
      some-new true e =
          rw e (
            pairwise_map _ (λ x y h. h) (pairwise-keep _ (pairwise-keep _ (leaving-differ q.ends.to))),
            all_map _ (λ x h. h.0) (all_keep _ known),
            all_map _ (λ x h. rw h.1 (ltb-true 1 (length out) e)) (all_keep _ known),
            all_map _ (λ x h. h.2) (all_keep _ known),
          )

-- The pivotal edges differ, and each leaves a fork.
pub pivotal-differ : (f : SearchInput) → Pairwise (λ a b. a.ends ≡ b.ends → ⊥) f.edges → Pairwise (λ a b. a ≡ b → ⊥) (pivotal_edges f) × All (Fork f.edges) (pivotal_edges f)
unfolding pivotal_edges
pivotal-differ f d =
    let r = pivotal-new f.edges d (length (leaving f.edges f.source) + length f.edges) (enqueue_all 0 (leaving f.edges f.source) []) [] in
    (r.0, r.2)
