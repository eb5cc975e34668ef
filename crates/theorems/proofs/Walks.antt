-- What one turn of the search makes: every path is a walk of linked edges of the table from the source, its score is fine, a closed one ends at the
-- sink; closings only append, numbered on; and a turn takes one waiting path or one pivotal edge.
use mathlib.Core.Path.{◌≡◌, refl, sym, ap, subst, ◌∙◌}
use mathlib.Core.Logic.{◌⊎◌, inl, inr}
use Prim.Native.Nat.{ℕ, zero, suc, ◌+◌, ◌≤◌, ◌<◌}
use native.Mathlib.Omega.{arith}
use mathlib.Core.Bool.{Bool, true, false, not, ◌&&◌, ◌||◌, cond}
use mathlib.Core.List.{List, [], ◌∷◌, ◌++◌, map, append-nil}
use mathlib.Core.Option.{Option, none, some}
use lib.Dec.{leb, ltb, eqb}
use lib.ListN.{length, take, length-append, length-map}
use borrow.Author.Tests.{eqb-true, eq-eqb, ltb-true, leb-true}
use Rattle.laws.specs.Lists.{keep, any, find_last, drop_first, position, is_empty, is_some}
use Rattle.laws.specs.Numbers.{reaches}
use Rattle.laws.specs.ListLaws.{clash, and_left, and_right, All, nil, cons, Mem, here, there, all_head, all_tail, all_append, all-mono, all-zip, all_keep, all-passed, all-self, all-find_last, all-sole, all_map}
use Rattle.definition.specs.Refusal.{Result, ok, refused, and_then, each}
use Rattle.definition.specs.Score.{Scoring}
use Rattle.definition.specs.Threading.{Ends, eq_ends, Edge, leaving}
use Rattle.definition.specs.Evidence.{Branches, bare, branch, has_branch, tree_at}
use Rattle.definition.specs.Search.{SearchInput, Path, Closed, State, at_end, broken, made, Offer, among, end_from, vertices_from, times, onward, chain_from, chain, sum_of, child, walk_trees, real_branches, best, unseen, by_support, offers, has_stopping_evidence, cross_off, lengthen, extend, repeat_rule, extensions, join_tree, close_at, made_of, extend_at, take_path, greatest, recover, advance}
use Rattle.theorems.proofs.Order.{Keeps}

-- ---- refusals are no answers

pub refused-ok : {A B : Type 0} {n : ℕ} {a : A} → refused n ≡ ok a → B
refused-ok e = let z : ◌≡◌ {A = ℕ} 0 1 = cc in absurd (omega arith)

pub broken-made : {S B : Type 0} {n : ℕ} {s : State S} {ps : List (Path S)} → broken n ≡ made s ps → B
broken-made e = let z : ◌≡◌ {A = ℕ} 0 1 = cc in absurd (omega arith)

pub end-made : {S B : Type 0} {s : State S} {ps : List (Path S)} → at_end ≡ made s ps → B
end-made e = let z : ◌≡◌ {A = ℕ} 0 1 = cc in absurd (omega arith)

pub ok_same : {A : Type 0} {a b : A} → ok a ≡ ok b → a ≡ b
ok_same e = cc

pub made-state : {S : Type 0} {s t : State S} {ps qs : List (Path S)} → made s ps ≡ made t qs → s ≡ t
made-state e = cc

pub made-paths : {S : Type 0} {s t : State S} {ps qs : List (Path S)} → made s ps ≡ made t qs → ps ≡ qs
made-paths e = cc

pub and-then-ok : {A B : Type 0} (r : Result A) (g : A → Result B) (b : B) → and_then r g ≡ ok b → (a : A) × (r ≡ ok a) × (g a ≡ ok b)
and-then-ok (ok a) g b e = (a, refl, e)
and-then-ok (refused n) g b e = refused-ok e

-- ---- edges by their ends

pub eq_ends-true : (a b : Ends) → eq_ends a b ≡ true → a ≡ b
eq_ends-true a b e =
    let l : a.from ≡ b.from = eqb-true a.from b.from (and_left (eqb a.from b.from) _ e) in
    let r : a.to ≡ b.to = eqb-true a.to b.to (and_right (eqb a.from b.from) _ e) in
    λ i. record { from = l i; to = r i }

pub eq_ends-self : (a : Ends) → eq_ends a a ≡ true
eq_ends-self a = rw (eq-eqb a.from a.from refl, eq-eqb a.to a.to refl)

all_among : {P : Ends → Type 0} (e : Ends) {es : List Ends} → All P es → among e es ≡ true → P e
unfolding among
all_among e nil t = clash (sym t)
all_among {P} e (cons {x = x} {xs = xs} p ps) t = go (eq_ends e x) refl (λ h. all_among e ps h)
  where
    go : (b : Bool) → eq_ends e x ≡ b → (among e xs ≡ true → P e) → P e
    go true f ih = subst P (sym (eq_ends-true e x f)) p
    go false f ih = ih (rw f at t)

-- the table has an edge of these ends
unfoldable pub Has : List Edge → Ends → Type 0
Has es d = (x : Edge) × Mem x es × (x.ends ≡ d)

-- ... and it leaves v
abbrev pub On : List Edge → ℕ → Ends → Type 0
On es v d = Has es d × (d.from ≡ v)

-- linked edges of the table, from v on
abbrev pub Linked : List Edge → ℕ → List Ends → Type 0
Linked es v [] = Unit {0}
Linked es v (d ∷ ds) = Has es d × (d.from ≡ v) × Linked es d.to ds

has-self : (es : List Edge) → All (λ x. Has es x.ends) es
unfolding Has
has-self es = all-mono (λ x m. (x, m, refl)) (all-self es)

pub leaving-on : (es : List Edge) (v : ℕ) → All (λ x. On es v x.ends) (leaving es v)
unfolding leaving
leaving-on es v =
    all-mono (λ x h. (h.0, eqb-true x.ends.from v h.1))
    (all-zip (all_keep (λ x. eqb x.ends.from v) (has-self es)) (all-passed (λ x. eqb x.ends.from v) es))

-- ---- linked lists of edges

pub end-append : (v : ℕ) (xs ys : List Ends) → end_from v (xs ++ ys) ≡ end_from (end_from v xs) ys
unfolding end_from
end-append v [] ys = refl
end-append v (x ∷ xs) ys = end-append x.to xs ys

module _ (es : List Edge) where
  pub linked-append : (v : ℕ) (xs ys : List Ends) → Linked es v xs → Linked es (end_from v xs) ys → Linked es v (xs ++ ys)
  unfolding end_from
  linked-append v [] ys a b = b
  linked-append v (x ∷ xs) ys a b = (a.0, a.1, linked-append x.to xs ys a.2 b)

  linked-take : (n v : ℕ) (xs : List Ends) → Linked es v xs → Linked es v (take n xs)
  linked-take zero v xs a = tt
  linked-take (suc n) v [] a = tt
  linked-take (suc n) v (x ∷ xs) a = (a.0, a.1, linked-take n x.to xs a.2)

  -- one more edge
  linked-snoc : (v : ℕ) (xs : List Ends) (e : Ends) → Linked es v xs → On es (end_from v xs) e → Linked es v (xs ++ e ∷ [])
  linked-snoc v xs e a h = linked-append v xs (e ∷ []) a (h.0, h.1, tt)

  pub linked-all : (v : ℕ) (xs : List Ends) → Linked es v xs → All (Has es) xs
  linked-all v [] a = nil
  linked-all v (x ∷ xs) a = cons a.0 (linked-all x.to xs a.2)

-- cut after the first place of d, a list of edges ends where d does
end_take : (d : Ends) (v : ℕ) (xs : List Ends) → Mem d xs → end_from v (take (suc (position (eq_ends d) xs)) xs) ≡ d.to
unfolding end_from
end_take d v [] m = elim m [ ]
end_take d v (x ∷ xs) m = go (eq_ends d x) refl m (λ k. end_take d x.to xs k)
  where
    go : (b : Bool) → eq_ends d x ≡ b → Mem d (x ∷ xs) → (Mem d xs → end_from x.to (take (suc (position (eq_ends d) xs)) xs) ≡ d.to)
        → end_from v (take (suc (position (eq_ends d) (x ∷ xs))) (x ∷ xs)) ≡ d.to
    go true e k ih = rw (e, position) (ap (λ (y : Ends). y.to) (sym (eq_ends-true d x e)))
    go false e (here h) ih = clash (sym (eq_ends-self d) ∙ ap (eq_ends d) h ∙ e)
    go false e (there k) ih = rw (e, position) (ih k)

-- ---- the chain

module _ (f : SearchInput) where
  pub onward-on : (v : ℕ) (x : Edge) → onward f v ≡ some x → On f.edges v x.ends
  unfolding onward
  onward-on v x e = go (is_some (tree_at f.trees v) || eqb v f.sink) refl
    where
      go : (b : Bool) → (is_some (tree_at f.trees v) || eqb v f.sink) ≡ b → On f.edges v x.ends
      go true t = let n : none ≡ some x = rw (t, onward) at e in let z : ◌≡◌ {A = ℕ} 0 1 = cc in absurd (omega arith)
      go false t = all-sole (leaving-on f.edges v) (rw (t, onward) at e)

  chain-linked-from : (n v u : ℕ) (c : List Ends) → Linked f.edges u c → end_from u c ≡ v → Linked f.edges u (chain_from f n v c)
  unfolding chain_from end_from
  chain-linked-from zero v u c a e = a
  chain-linked-from (suc n) v u c a e = go (onward f v) refl (λ w d. chain-linked-from n w u d)
    where
      go : (o : Option Edge) → onward f v ≡ o
          → ((w : ℕ) (d : List Ends) → Linked f.edges u d → end_from u d ≡ w → Linked f.edges u (chain_from f n w d)) → Linked f.edges u (chain_from f (suc n) v c)
      go none h ih = rw (h, chain_from) a
      go (some x) h ih = more (among x.ends c) refl
        where
          here_on : On f.edges (end_from u c) x.ends
          here_on = rw e (onward-on v x h)

          more : (b : Bool) → among x.ends c ≡ b → Linked f.edges u (chain_from f (suc n) v c)
          more true t = rw (h, chain_from, t) a
          more false t = rw (h, chain_from, t) (ih x.ends.to (c ++ x.ends ∷ []) (linked-snoc f.edges u c x.ends a here_on) (end-append u c (x.ends ∷ [])))

  pub chain-linked : (u : ℕ) → Linked f.edges u (chain f u)
  unfolding chain end_from
  chain-linked u = chain-linked-from (length f.edges) u u [] tt refl

  -- ---- a fork's offers are edges that leave it

  real-on : {P : Ends → Type 0} (outs : List Ends) (t : ℕ) (b : Branches) → All P outs → All (λ o. P o.ends) (real_branches f outs t b)
  unfolding real_branches
  real-on outs t bare a = nil
  real-on {P} outs t (branch e c below next) a = go (among e outs && not (eq_ends e f.symbolic)) refl (real-on outs t next a)
    where
      go : (b : Bool) → (among e outs && not (eq_ends e f.symbolic)) ≡ b → All (λ o. P o.ends) (real_branches f outs t next)
          → All (λ o. P o.ends) (real_branches f outs t (branch e c below next))
      go true h ih = rw (h, real_branches) (cons (all_among e a (and_left (among e outs) _ h)) ih)
      go false h ih = rw (h, real_branches) ih

pub all-best : {Q : Offer → Type 0} {os : List Offer} → All Q os → All Q (best os)
unfolding best
all-best nil = nil
all-best {Q} (cons {x = o} {xs = os} p ps) = go (best os) refl (all-best ps)
  where
    go : (r : List Offer) → best os ≡ r → All Q (best os) → All Q (best (o ∷ os))
    go [] e ih = rw (e, best) (cons p nil)
    go (q ∷ qs) e ih = pick (leb o.count q.count) refl
      where
        pick : (b : Bool) → leb o.count q.count ≡ b → All Q (best (o ∷ os))
        pick true t = rw (e, best, t) (rw e at ih)
        pick false t = rw (e, best, t) (cons p nil)

support-on : (P : Ends → Type 0) (es : List Edge) → All (λ x. P x.ends) es → All (λ o. P o.ends) (by_support es)
unfolding by_support
support-on P es a = all_map _ (λ x p. p) (all_keep _ a)

ends_on : {P : Ends → Type 0} (es : List Edge) → All (λ x. P x.ends) es → All P (map (λ (e : Edge). e.ends) es)
ends_on es a = all_map _ (λ x p. p) a

pub offers-on : (P : Ends → Type 0) (f : SearchInput) (es : List Edge) (seen : List Ends) (bs : List Branches) → All (λ x. P x.ends) es → All (λ o. P o.ends) (offers f es seen bs)
unfolding offers unseen
offers-on P f es seen [] a = all_keep _ (support-on P es a)
offers-on P f es seen (b ∷ bs) a = go (reaches (sum_of b) f.threshold) refl (λ l. offers-on P f es l bs a)
  where
    real : All (λ o. P o.ends) (real_branches f (map (λ (e : Edge). e.ends) es) (sum_of b) b)
    real = real-on f (map (λ (e : Edge). e.ends) es) (sum_of b) b (ends_on es a)

    go : (t : Bool) → reaches (sum_of b) f.threshold ≡ t → ((l : List Ends) → All (λ o. P o.ends) (offers f es l bs)) → All (λ o. P o.ends) (offers f es seen (b ∷ bs))
    go true e ih = rw (e, offers) (all_keep _ (all-best real))
    go false e ih = rw (e, offers) (all_append (all_keep _ real) (ih _))

-- ---- good paths

-- A path of the search: linked edges from the source, a fine score, no more edges and active trees than allowed, and no active tree without a branch.
pub record Good {S : Type 0} (Fine : S → Type 0) (f : SearchInput) (p : Path S) : Type 0 where
  pub linked : Linked f.edges f.source p.edges
  pub fine : Fine p.score
  pub short : length p.edges ≤ f.path_edges
  pub few : length p.active ≤ f.active
  pub alive : All (λ b. has_branch b ≡ true) p.active

-- A closed path: the same, and it ends at the sink.
pub record GoodClosed {S : Type 0} (Fine : S → Type 0) (f : SearchInput) (c : Closed S) : Type 0 where
  pub linked : Linked f.edges f.source c.edges
  pub at_sink : end_from f.source c.edges ≡ f.sink
  pub fine : Fine c.score
  pub short : length c.edges ≤ f.path_edges

pub record GoodState {S : Type 0} (Fine : S → Type 0) (f : SearchInput) (s : State S) : Type 0 where
  pub waiting : All (Good Fine f) s.waiting
  pub closed : All (GoodClosed Fine f) s.closed
  pub pivotal : All (Has f.edges) s.pivotal

-- closings numbered on after n
abbrev pub Numbered : {S : Type 0} → ℕ → List (Closed S) → Type 0
Numbered n [] = Unit {0}
Numbered n (c ∷ cs) = (c.closing ≡ suc n) × Numbered (suc n) cs

-- what closing may change: at most one closing more, numbered on, and fewer pivotal edges
pub record Grown {S : Type 0} (Fine : S → Type 0) (f : SearchInput) (s s' : State S) : Type 0 where
  pub extra : List (Closed S)
  pub closed : s'.closed ≡ s.closed ++ extra
  pub few : length extra ≤ 1
  pub numbered : Numbered (length s.closed) extra
  pub good : All (GoodClosed Fine f) extra
  pub waiting : s'.waiting ≡ s.waiting
  pub pushes : s'.pushes ≡ s.pushes
  pub longest : s'.longest ≡ s.longest
  pub left : length s'.pivotal ≤ length s.pivotal
  pub pivotal : All (Has f.edges) s.pivotal → All (Has f.edges) s'.pivotal

-- what a turn makes before its paths are pushed: the same, with one waiting path or pivotal edge less
pub record Advanced {S : Type 0} (Fine : S → Type 0) (f : SearchInput) (s s' : State S) (ps : List (Path S)) : Type 0 where
  pub extra : List (Closed S)
  pub closed : s'.closed ≡ s.closed ++ extra
  pub few : length extra ≤ 1
  pub numbered : Numbered (length s.closed) extra
  pub pushes : s'.pushes ≡ s.pushes
  pub longest : s'.longest ≡ s.longest
  pub fewer : length s'.waiting ≤ length s.waiting
  pub taken : (s'.waiting ≡ []) ⊎ ((p : Path S) × (s.waiting ≡ p ∷ s'.waiting))
  pub lower : length s'.waiting + length s'.pivotal < length s.waiting + length s.pivotal
  pub good : GoodState Fine f s'
  pub paths : All (Good Fine f) ps

-- ---- crossing off

length-drop_first : {A : Type 0} (t : A → Bool) (xs : List A) → length (drop_first t xs) ≤ length xs
length-drop_first t [] = omega arith
length-drop_first {A} t (x ∷ xs) = go (t x) refl (length-drop_first t xs)
  where
    go : (b : Bool) → t x ≡ b → length (drop_first t xs) ≤ length xs → length (drop_first t (x ∷ xs)) ≤ suc (length xs)
    go true e ih = rw (e, drop_first) (omega arith)
    go false e ih = rw (e, drop_first) (omega arith)

length-cross_off : (es ps : List Ends) → length (cross_off es ps) ≤ length ps
unfolding cross_off
length-cross_off [] ps = omega arith
length-cross_off (e ∷ es) ps = omega (arith, length-cross_off es (drop_first (eq_ends e) ps), length-drop_first (eq_ends e) ps)

pub all-drop_first : {A : Type 0} {P : A → Type 0} (t : A → Bool) {xs : List A} → All P xs → All P (drop_first t xs)
all-drop_first t nil = nil
all-drop_first {A} {P} t (cons {x = x} {xs = xs} p a) = go (t x) refl (all-drop_first t a)
  where
    go : (b : Bool) → t x ≡ b → All P (drop_first t xs) → All P (drop_first t (x ∷ xs))
    go true e ih = rw (e, drop_first) a
    go false e ih = rw (e, drop_first) (cons p ih)

pub all-cross_off : {P : Ends → Type 0} (es : List Ends) {ps : List Ends} → All P ps → All P (cross_off es ps)
unfolding cross_off
all-cross_off [] a = a
all-cross_off (e ∷ es) a = all-cross_off es (all-drop_first (eq_ends e) a)

all-greatest : {S : Type 0} (𝓢 : Scoring S) {P : Closed S → Type 0} {cs : List (Closed S)} (b : Closed S) → All P cs → greatest 𝓢 cs ≡ some b → P b
unfolding greatest
all-greatest 𝓢 b nil t = let z : ◌≡◌ {A = ℕ} 0 1 = cc in absurd (omega arith)
all-greatest {S} 𝓢 {P} b (cons {x = c} {xs = cs} p ps) t = go (greatest 𝓢 cs) refl (λ d. all-greatest 𝓢 d ps)
  where
    go : (o : Option (Closed S)) → greatest 𝓢 cs ≡ o → ((d : Closed S) → greatest 𝓢 cs ≡ some d → P d) → P b
    go none e ih = let h : some c ≡ some b = rw (e, greatest) at t in let same : c ≡ b = cc in subst P same p
    go (some d) e ih = pick (𝓢.less d.score c.score) refl
      where
        pick : (z : Bool) → 𝓢.less d.score c.score ≡ z → P b
        pick true u = let h : some c ≡ some b = rw (e, greatest, u) at t in let same : c ≡ b = cc in subst P same p
        pick false u = let h : some d ≡ some b = rw (e, greatest, u) at t in let same : d ≡ b = cc in subst P same (ih d e)

-- walking the trees makes none
pub length-kept : {A : Type 0} (t : A → Bool) (xs : List A) → length (keep t xs) ≤ length xs
length-kept t [] = omega arith
length-kept t (x ∷ xs) = go (t x) refl (length-kept t xs)
  where
    go : (b : Bool) → t x ≡ b → length (keep t xs) ≤ length xs → length (keep t (x ∷ xs)) ≤ suc (length xs)
    go true e ih = rw e (omega arith)
    go false e ih = rw e (omega arith)

pub length-walk : (e : Ends) (bs : List Branches) → length (walk_trees e bs) ≤ length bs
unfolding walk_trees
length-walk e bs = omega (arith, length-kept has_branch (map (child e) bs), length-map bs (child e))

-- and leaves none without a branch
walk-alive : (e : Ends) (bs : List Branches) → All (λ b. has_branch b ≡ true) (walk_trees e bs)
unfolding walk_trees
walk-alive e bs = all-passed has_branch (map (child e) bs)

module _ {A B : Type 0} {P : A → Type 0} {Q : B → Type 0} (g : A → Result B) where
  pub all-each : (xs : List A) (ys : List B) → ((x : A) (y : B) → P x → g x ≡ ok y → Q y) → All P xs → each g xs ≡ ok ys → All Q ys
  all-each [] ys h a e = subst (All Q) (ok_same e) nil
  all-each (x ∷ xs) ys h a e = go (g x) (each g xs) refl refl (λ zs. all-each xs zs h (all_tail a))
    where
      go : (r : Result B) (rs : Result (List B)) → g x ≡ r → each g xs ≡ rs → ((zs : List B) → each g xs ≡ ok zs → All Q zs) → All Q ys
      go (refused n) rs t ts ih = refused-ok (rw (t, each) at e)
      go (ok y) (refused n) t ts ih = refused-ok (rw (t, each, ts) at e)
      go (ok y) (ok zs) t ts ih = subst (All Q) (ok_same (rw (t, each, ts) at e)) (cons (h x y (all_head a) t) (ih zs ts))

module _ {S : Type 0} {𝓢 : Scoring S} {Fine : S → Type 0} (K : Keeps 𝓢 Fine) (f : SearchInput) where
  -- ---- extensions

  lengthen-good : (p q : Path S) (c : List Ends) (e : Ends) (x : S) (g r : Bool) → Linked f.edges f.source (p.edges ++ c ++ e ∷ []) → Fine x
      → length p.active ≤ f.active → lengthen f p c e x g r ≡ ok q → Good Fine f q
  unfolding lengthen
  lengthen-good p q c e x g r l h k t = go (leb (length (p.edges ++ c ++ e ∷ [])) f.path_edges) refl
    where
      go : (b : Bool) → leb (length (p.edges ++ c ++ e ∷ [])) f.path_edges ≡ b → Good Fine f q
      go true u = subst (Good Fine f) (ok_same (rw (u, lengthen) at t))
          (record { linked = l; fine = h; short = leb-true (length (p.edges ++ c ++ e ∷ [])) f.path_edges u; few = omega (arith, length-walk e p.active); alive = walk-alive e p.active })
      go false u = refused-ok (rw (u, lengthen) at t)

  extend-good : (p : Path S) (c : List Ends) (o : Offer) (q : Path S) → Good Fine f p → Linked f.edges f.source (p.edges ++ c)
      → On f.edges (end_from f.source (p.edges ++ c)) o.ends → extend 𝓢 f p c o ≡ ok q → Good Fine f q
  unfolding extend
  extend-good p c o q gp l h t = go (𝓢.penalty o.count o.out_of) refl
    where
      go : (d : Option S) → 𝓢.penalty o.count o.out_of ≡ d → Good Fine f q
      go none u = refused-ok (rw (u, extend) at t)
      go (some d) u =
          lengthen-good p q c o.ends (𝓢.plus p.score d) o.guided false (linked-snoc f.edges f.source (p.edges ++ c) o.ends l h)
          (K.plus-fine p.score d o.count o.out_of gp.fine u) gp.few (rw (u, extend) at t)

  extensions-good : (p : Path S) (c : List Ends) (v : ℕ) (es : List Edge) (qs : List (Path S)) → Good Fine f p
      → Linked f.edges f.source (p.edges ++ c) → end_from f.source (p.edges ++ c) ≡ v → All (λ x. On f.edges v x.ends) es
      → extensions 𝓢 f p c v es ≡ ok qs → All (Good Fine f) qs
  unfolding extensions
  extensions-good p c v [] qs gp l e a t = subst (All (Good Fine f)) (ok_same t) nil
  extensions-good p c v (x ∷ []) qs gp l e a t = go (not (is_empty p.active) || leb (times v (vertices_from f.source p.edges)) 1) refl
    where
      go : (b : Bool) → (not (is_empty p.active) || leb (times v (vertices_from f.source p.edges)) 1) ≡ b → All (Good Fine f) qs
      go true u =
          let r = and-then-ok (lengthen f p c x.ends p.score false true) (λ q. ok (q ∷ [])) qs (rw (u, extensions) at t) in
          subst (All (Good Fine f)) (ok_same r.2)
          (cons (lengthen-good p r.0 c x.ends p.score false true (linked-snoc f.edges f.source (p.edges ++ c) x.ends l (rw e (all_head a))) gp.fine gp.few r.1) nil)
      go false u = subst (All (Good Fine f)) (ok_same (rw (u, extensions) at t)) nil
  extensions-good p c v (x ∷ y ∷ es) qs gp l e a t =
      let r = and-then-ok (each (extend 𝓢 f p c) (offers f (x ∷ y ∷ es) [] p.active)) (λ qs. ok (keep (repeat_rule f) qs)) qs t in
      subst (All (Good Fine f)) (ok_same r.2)
      (all_keep (repeat_rule f)
      (all-each (extend 𝓢 f p c) (offers f (x ∷ y ∷ es) [] p.active) r.0 (λ o q h. extend-good p c o q gp l (rw e h))
      (offers-on (On f.edges v) f (x ∷ y ∷ es) [] p.active a) r.1))

  -- ---- a tree joins: edges and score stay, and the active trees are as many as allowed

  join-good : (v : ℕ) (p q : Path S) → Good Fine f p → join_tree f v p ≡ ok q → (q.edges ≡ p.edges) × Good Fine f q
  unfolding join_tree
  join-good v p q g t = go (tree_at f.trees v) refl
    where
      Goal : Type 0
      Goal = (q.edges ≡ p.edges) × Good Fine f q

      same : {r : Path S} → ok r ≡ ok q → (r.edges ≡ p.edges) × Good Fine f r → Goal
      same e h = subst (λ (z : Path S). (z.edges ≡ p.edges) × Good Fine f z) (ok_same e) h

      go : (o : Option Branches) → tree_at f.trees v ≡ o → Goal
      go none u = same (rw (u, join_tree) at t) (refl, g)
      go (some b) u = fresh (has_branch b && not (any (eqb v) p.visited)) refl
        where
          room : (has_branch b && not (any (eqb v) p.visited)) ≡ true → (z : Bool) → ltb (length p.active) f.active ≡ z → Goal
          room w true x =
              let k : length p.active < f.active = ltb-true (length p.active) f.active x in
              same (rw (u, join_tree, w, x) at t) (refl, record { linked = g.linked; fine = g.fine; short = g.short; few = rw length-append (omega arith); alive = all_append g.alive (cons (and_left (has_branch b) _ w) nil) })
          room w false x = refused-ok (rw (u, join_tree, w, x) at t)

          fresh : (z : Bool) → (has_branch b && not (any (eqb v) p.visited)) ≡ z → Goal
          fresh false w = same (rw (u, join_tree, w) at t) (refl, g)
          fresh true w = room w (ltb (length p.active) f.active) refl

  -- ---- at the sink

  close-grown : (v : ℕ) (p : Path S) (c : List Ends) (s s' : State S) → Linked f.edges f.source (p.edges ++ c)
      → end_from f.source (p.edges ++ c) ≡ v → Fine p.score → close_at f v p c s ≡ ok s' → Grown Fine f s s'
  unfolding close_at
  close-grown v p c s s' l e h t = go (eqb v f.sink) refl
    where
      go : (b : Bool) → eqb v f.sink ≡ b → Grown Fine f s s'
      go false u =
          subst (Grown Fine f s) (ok_same (rw (u, close_at) at t))
          (record {
            extra = [];
            closed = sym (append-nil s.closed);
            few = omega arith;
            numbered = tt;
            good = nil;
            waiting = refl;
            pushes = refl;
            longest = refl;
            left = omega arith;
            pivotal = λ a. a;
          })
      go true u = stop (has_stopping_evidence f p.active) refl
        where
          fits : has_stopping_evidence f p.active ≡ true → (z : Bool) → leb (length (p.edges ++ c)) f.path_edges ≡ z → Grown Fine f s s'
          fits w false x = refused-ok (rw (u, close_at, w, x) at t)
          fits w true x =
              subst (Grown Fine f s) (ok_same (rw (u, close_at, w, x) at t))
              (record {
                extra = record { closing = suc (length s.closed); edges = p.edges ++ c; score = p.score } ∷ [];
                closed = refl;
                few = omega arith;
                numbered = (refl, tt);
                good = cons (record { linked = l; at_sink = e ∙ eqb-true v f.sink u; fine = h; short = leb-true (length (p.edges ++ c)) f.path_edges x }) nil;
                waiting = refl;
                pushes = refl;
                longest = refl;
                left = length-cross_off p.edges s.pivotal;
                pivotal = all-cross_off p.edges;
              })

          stop : (z : Bool) → has_stopping_evidence f p.active ≡ z → Grown Fine f s s'
          stop false w =
              subst (Grown Fine f s) (ok_same (rw (u, close_at, w) at t))
              (record {
                extra = [];
                closed = sym (append-nil s.closed);
                few = omega arith;
                numbered = tt;
                good = nil;
                waiting = refl;
                pushes = refl;
                longest = refl;
                left = length-cross_off p.edges s.pivotal;
                pivotal = all-cross_off p.edges;
              })
          stop true w = fits w (leb (length (p.edges ++ c)) f.path_edges) refl

  -- ---- a taken path

  extend-grown : (p : Path S) (c : List Ends) (v : ℕ) (s s' : State S) (qs : List (Path S)) → Good Fine f p
      → Linked f.edges f.source (p.edges ++ c) → end_from f.source (p.edges ++ c) ≡ v → extend_at 𝓢 f p c v s ≡ made s' qs
      → Grown Fine f s s' × All (Good Fine f) qs
  unfolding extend_at made_of
  extend-grown p c v s s' qs gp l e t = join (join_tree f v p) refl
    where
      Goal : Type 0
      Goal = Grown Fine f s s' × All (Good Fine f) qs

      join : (r : Result (Path S)) → join_tree f v p ≡ r → Goal
      join (refused n) u = broken-made (rw (u, extend_at) at t)
      join (ok q) u = close (close_at f v q c s) refl
        where
          same : (q.edges ≡ p.edges) × Good Fine f q
          same = join-good v p q gp u

          gq : Good Fine f q
          gq = same.1

          lq : Linked f.edges f.source (q.edges ++ c)
          lq = rw same.0 l

          eq : end_from f.source (q.edges ++ c) ≡ v
          eq = rw same.0 e

          close : (r : Result (State S)) → close_at f v q c s ≡ r → Goal
          close (refused n) w = broken-made (rw (u, extend_at, w) at t)
          close (ok s'') w = ext (extensions 𝓢 f q c v (leaving f.edges v)) refl
            where
              ext : (r : Result (List (Path S))) → extensions 𝓢 f q c v (leaving f.edges v) ≡ r → Goal
              ext (refused n) x = broken-made (rw (u, extend_at, w, x) at t)
              ext (ok rs) x =
                  let h : made s'' rs ≡ made s' qs = rw (u, extend_at, w, x) at t in (
                    subst (Grown Fine f s) (made-state h) (close-grown v q c s s'' lq eq gq.fine w),
                    subst (All (Good Fine f)) (made-paths h) (extensions-good q c v (leaving f.edges v) rs gq lq eq (leaving-on f.edges v) x),
                  )

  grown-same : (s : State S) → Grown Fine f s s
  grown-same s =
      record {
        extra = [];
        closed = sym (append-nil s.closed);
        few = omega arith;
        numbered = tt;
        good = nil;
        waiting = refl;
        pushes = refl;
        longest = refl;
        left = omega arith;
        pivotal = λ a. a;
      }

  pub take-grown : (p : Path S) (s s' : State S) (qs : List (Path S)) → Good Fine f p → take_path 𝓢 f p s ≡ made s' qs → Grown Fine f s s' × All (Good Fine f) qs
  unfolding take_path
  take-grown p s s' qs gp t = go (ltb 5 p.since) refl
    where
      u : ℕ
      u = end_from f.source p.edges

      go : (b : Bool) → ltb 5 p.since ≡ b → Grown Fine f s s' × All (Good Fine f) qs
      go true e =
          let h : made s [] ≡ made s' qs = rw (e, take_path) at t in
          (subst (Grown Fine f s) (made-state h) (grown-same s), subst (All (Good Fine f)) (made-paths h) nil)
      go false e =
          extend-grown p (chain f u) (end_from u (chain f u)) s s' qs gp
          (linked-append f.edges f.source p.edges (chain f u) gp.linked (chain-linked f u)) (end-append f.source p.edges (chain f u))
          (rw (e, take_path) at t)

  -- ---- recovery

  -- nothing closes, and the path that is made, if any, is good
  recover-good : (e : Ends) (s s' : State S) (qs : List (Path S)) → Has f.edges e → All (GoodClosed Fine f) s.closed → recover 𝓢 f e s ≡ made s' qs
      → (s ≡ s') × All (Good Fine f) qs
  unfolding recover
  recover-good e s s' qs he gc t = go (greatest 𝓢 (keep (λ c. any (eqb e.from) (vertices_from f.source c.edges)) s.closed)) refl
    where
      Goal : Type 0
      Goal = (s ≡ s') × All (Good Fine f) qs

      ends : {rs : List (Path S)} → All (Good Fine f) rs → made s rs ≡ made s' qs → Goal
      ends a h = (made-state h, subst (All (Good Fine f)) (made-paths h) a)

      go : (o : Option (Closed S)) → greatest 𝓢 (keep (λ c. any (eqb e.from) (vertices_from f.source c.edges)) s.closed) ≡ o → Goal
      go none u = ends nil (rw (u, recover) at t)
      go (some b) u = last (find_last (λ d. eqb d.to e.from) b.edges) refl
        where
          gb : GoodClosed Fine f b
          gb = all-greatest 𝓢 b (all_keep _ gc) u

          last : (o : Option Ends) → find_last (λ d. eqb d.to e.from) b.edges ≡ o → Goal
          last none w = ends nil (rw (u, recover, w) at t)
          last (some d) w = fits (leb (length es) f.path_edges) refl
            where
              front : List Ends
              front = take (suc (position (eq_ends d) b.edges)) b.edges

              es : List Ends
              es = front ++ e ∷ []

              found : Mem d b.edges × (eqb d.to e.from ≡ true)
              found = all-find_last (λ d. eqb d.to e.from) (all-self b.edges) w

              meets : e.from ≡ end_from f.source front
              meets = sym (end_take d f.source b.edges found.0 ∙ eqb-true d.to e.from found.1)

              l : Linked f.edges f.source es
              l = linked-snoc f.edges f.source front e (linked-take f.edges (suc (position (eq_ends d) b.edges)) f.source b.edges gb.linked) (he, meets)

              fits : (z : Bool) → leb (length es) f.path_edges ≡ z → Goal
              fits false x = broken-made (rw (u, recover, w, x) at t)
              fits true x = ends (cons (record { linked = l; fine = gb.fine; short = leb-true (length es) f.path_edges x; few = omega arith; alive = nil }) nil) (rw (u, recover, w, x) at t)

  -- ---- a turn, before its paths are pushed

  pub advance-made : (s s' : State S) (ws : List (Path S)) (vs : List Ends) (qs : List (Path S)) → s.waiting ≡ ws → s.pivotal ≡ vs → GoodState Fine f s
      → advance 𝓢 f s ws vs ≡ made s' qs → Advanced Fine f s s' qs
  unfolding advance
  advance-made s s' [] [] qs ew ev g t = end-made t
  advance-made s s' [] (e ∷ es) qs ew ev g t =
      let gp : All (Has f.edges) (e ∷ es) = rw ev at g.pivotal in
      let s₁ : State S = record { waiting = []; closed = s.closed; pivotal = es; pushes = s.pushes; longest = s.longest } in
      let r = recover-good e s₁ s' qs (all_head gp) g.closed t in
      record {
        extra = [];
        closed = ap (λ (x : State S). x.closed) (sym r.0) ∙ sym (append-nil s.closed);
        few = omega arith;
        numbered = tt;
        pushes = ap (λ (x : State S). x.pushes) (sym r.0);
        longest = ap (λ (x : State S). x.longest) (sym r.0);
        fewer = rw (← r.0, ew) (omega arith);
        taken = inl (ap (λ (x : State S). x.waiting) (sym r.0));
        lower = rw (← r.0, ew, ev) (omega arith);
        good = subst (GoodState Fine f) r.0 (record { waiting = nil; closed = g.closed; pivotal = all_tail gp });
        paths = r.1;
      }
  advance-made s s' (p ∷ ps) es qs ew ev g t = go (ltb (cond (is_empty s.closed) 1000 10000) (length s.waiting)) refl
    where
      gw : All (Good Fine f) (p ∷ ps)
      gw = rw ew at g.waiting

      go : (b : Bool) → ltb (cond (is_empty s.closed) 1000 10000) (length s.waiting) ≡ b → Advanced Fine f s s' qs
      go true u = end-made (rw (u, advance) at t)
      go false u =
          let s₁ : State S = record { waiting = ps; closed = s.closed; pivotal = s.pivotal; pushes = s.pushes; longest = s.longest } in
          let r = take-grown p s₁ s' qs (all_head gw) (rw (u, advance) at t) in
          let w : s'.waiting ≡ ps = r.0.waiting in
          let k : length s'.pivotal ≤ length s.pivotal = r.0.left in
          record {
            extra = r.0.extra;
            closed = r.0.closed;
            few = r.0.few;
            numbered = r.0.numbered;
            pushes = r.0.pushes;
            longest = r.0.longest;
            fewer = rw (w, ew) (omega arith);
            taken = inr (p, ew ∙ ap (λ (x : List (Path S)). p ∷ x) (sym w));
            lower = rw (w, ew) (omega arith);
            good =
                record {
                  waiting = rw w (all_tail gw);
                  closed = rw r.0.closed (all_append g.closed r.0.good);
                  pivotal = r.0.pivotal g.pivotal;
                };
            paths = r.1;
          }
