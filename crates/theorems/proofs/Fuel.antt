-- No answer of the definition rests on fuel: the chain of single edges and the pivotal edges have steps enough, and so has the search turns.
use mathlib.Core.Path.{◌≡◌, refl, sym, ap, ◌∙◌}
use Prim.Native.Nat.{ℕ, zero, suc, ◌+◌, ◌≤◌}
use native.Mathlib.Omega.{arith}
use native.Mathlib.Nat.{zero-add, suc-add}
use mathlib.Core.Bool.{Bool, true, false, not, ◌&&◌, ◌||◌, cond}
use mathlib.Core.List.{List, [], ◌∷◌, ◌++◌, map}
use mathlib.Core.Option.{Option, none, some}
use lib.Ieee.{Float}
use lib.Dec.{eqb}
use lib.ListN.{length, length-append}
use Rattle.laws.specs.Lists.{keep, drop_first, tally}
use Rattle.laws.specs.ListLaws.{clash, or-none, All, nil, cons, Mem, here, there, all_head, all_tail, all_append, all-mono, all-zip, all-self, mem-map, mem-keep}
use Rattle.laws.specs.Insertion.{length-insert}
use Rattle.definition.specs.Threading.{Ends, eq_ends, Edge, leaving}
use Rattle.definition.specs.Search.{SearchInput, among, onward, chain_from, chain, Queued, earlier, enqueue, enqueue_all, ends_of, pivotal_of, pivotal_from, pivotal_edges, State, more, search}
use Rattle.definition.specs.Score.{column_scoring}
use Rattle.definition.specs.Limits.{Input}
use Rattle.definition.specs.Building.{Built}
use Rattle.definition.specs.Listing.{search_input}
use Rattle.theorems.proofs.Walks.{eq_ends-true, eq_ends-self, Has, onward-on}
use Rattle.theorems.proofs.Turns.{search-enough}
use Rattle.theorems.proofs.Column.{column-keeps}
use Rattle.theorems.proofs.Checks.{Checked, some-pushes}

-- ---- different edges of a table are no more than the table has

flip-ends : (a b : Ends) → eq_ends a b ≡ false → eq_ends b a ≡ false
flip-ends a b e = go (eq_ends b a) refl
  where
    go : (z : Bool) → eq_ends b a ≡ z → eq_ends b a ≡ false
    go true u = clash (sym (eq_ends-self a) ∙ ap (eq_ends a) (sym (eq_ends-true b a u)) ∙ e)
    go false u = u

abbrev Distinct : List Ends → Type 0
Distinct [] = Unit {0}
Distinct (d ∷ ds) = All (λ e. eq_ends d e ≡ false) ds × Distinct ds

distinct_snoc : (ds : List Ends) (x : Ends) → Distinct ds → All (λ e. eq_ends x e ≡ false) ds → Distinct (ds ++ x ∷ [])
distinct_snoc [] x a h = (nil, tt)
distinct_snoc (d ∷ ds) x a h = (all_append a.0 (cons (flip-ends x d (all_head h)) nil), distinct_snoc ds x a.1 (all_tail h))

not-among : (x : Ends) (ds : List Ends) → among x ds ≡ false → All (λ e. eq_ends x e ≡ false) ds
unfolding among
not-among x [] e = nil
not-among x (d ∷ ds) e = let h = or-none (eq_ends x d) (among x ds) e in cons h.0 (not-among x ds h.1)

-- the table without the first edge of these ends: one less, and the others are in it still
less_one : (es : List Edge) (d : Ends) → Has es d → suc (length (drop_first (λ (x : Edge). eq_ends d x.ends) es)) ≡ length es
unfolding Has
less_one [] d (x, m, e) = elim m [ ]
less_one (y ∷ ys) d (x, m, e) = go (eq_ends d y.ends) refl m (λ k. less_one ys d (x, k, e))
  where
    t : Edge → Bool
    t z = eq_ends d z.ends

    go : (b : Bool) → t y ≡ b → Mem x (y ∷ ys) → (Mem x ys → suc (length (drop_first t ys)) ≡ length ys) → suc (length (drop_first t (y ∷ ys))) ≡ suc (length ys)
    go true u k ih = rw (u, drop_first)
    go false u (here w) ih = clash (sym (eq_ends-self d) ∙ ap (eq_ends d) (sym e ∙ ap (λ (z : Edge). z.ends) w) ∙ u)
    go false u (there k) ih = rw (u, drop_first) (ap suc (ih k))

still-has : (es : List Edge) (d c : Ends) → Has es c → eq_ends d c ≡ false → Has (drop_first (λ (x : Edge). eq_ends d x.ends) es) c
unfolding Has
still-has [] d c (x, m, e) n = elim m [ ]
still-has (y ∷ ys) d c (x, m, e) n = go (eq_ends d y.ends) refl m (λ k. still-has ys d c (x, k, e) n)
  where
    t : Edge → Bool
    t z = eq_ends d z.ends

    go : (b : Bool) → t y ≡ b → Mem x (y ∷ ys) → (Mem x ys → (z : Edge) × Mem z (drop_first t ys) × (z.ends ≡ c)) → (z : Edge) × Mem z (drop_first t (y ∷ ys)) × (z.ends ≡ c)
    go true u (here w) ih = clash (sym u ∙ ap (eq_ends d) (ap (λ (z : Edge). z.ends) (sym w) ∙ e) ∙ n)
    go true u (there k) ih = (x, rw (u, drop_first) k, e)
    go false u (here w) ih = (x, rw (u, drop_first) (here w), e)
    go false u (there k) ih = let r = ih k in (r.0, rw (u, drop_first) (there r.1), r.2)

pub no_more : (ds : List Ends) (es : List Edge) → Distinct ds → All (Has es) ds → length ds ≤ length es
no_more [] es a h = omega arith
no_more (d ∷ ds) es a h =
    let l : suc (length (drop_first (λ (x : Edge). eq_ends d x.ends) es)) ≡ length es = less_one es d (all_head h) in
    let r = no_more ds (drop_first (λ (x : Edge). eq_ends d x.ends) es) a.1 (all-mono (λ c p. still-has es d c p.0 p.1) (all-zip (all_tail h) a.0)) in
    omega arith

-- ---- the chain

module _ (f : SearchInput) where
  -- the edge that would come next is a new one of the table
  grown : (v : ℕ) (c : List Ends) (x : Edge) → Distinct c → All (Has f.edges) c → onward f v ≡ some x → among x.ends c ≡ false
      → Distinct (c ++ x.ends ∷ []) × All (Has f.edges) (c ++ x.ends ∷ []) × (length (c ++ x.ends ∷ []) ≡ suc (length c))
  grown v c x a h e t =
      (distinct_snoc c x.ends a (not-among x.ends c t), all_append h (cons (onward-on f v x e).0 nil), rw length-append (omega arith))

  chain-one-more : (n v : ℕ) (c : List Ends) → Distinct c → All (Has f.edges) c → length f.edges ≤ n + length c → chain_from f (suc n) v c ≡ chain_from f n v c
  unfolding chain_from
  chain-one-more zero v c a h l = go (onward f v) refl
    where
      go : (o : Option Edge) → onward f v ≡ o → chain_from f 1 v c ≡ c
      go none e = rw (e, chain_from)
      go (some x) e = seen (among x.ends c) refl
        where
          seen : (b : Bool) → among x.ends c ≡ b → chain_from f 1 v c ≡ c
          seen true t = rw (e, chain_from, t)
          seen false t =
              let g = grown v c x a h e t in
              let m : length (c ++ x.ends ∷ []) ≤ length f.edges = no_more (c ++ x.ends ∷ []) f.edges g.0 g.1 in
              let k : length (c ++ x.ends ∷ []) ≡ suc (length c) = g.2 in
              absurd (omega arith)
  chain-one-more (suc n) v c a h l = go (onward f v) refl (λ w d. chain-one-more n w d)
    where
      go : (o : Option Edge) → onward f v ≡ o
          → ((w : ℕ) (d : List Ends) → Distinct d → All (Has f.edges) d → length f.edges ≤ n + length d → chain_from f (suc n) w d ≡ chain_from f n w d)
          → chain_from f (suc (suc n)) v c ≡ chain_from f (suc n) v c
      go none e ih = rw (e, chain_from)
      go (some x) e ih = seen (among x.ends c) refl
        where
          seen : (b : Bool) → among x.ends c ≡ b → chain_from f (suc (suc n)) v c ≡ chain_from f (suc n) v c
          seen true t = rw (e, chain_from, t)
          seen false t =
              let g = grown v c x a h e t in
              let k : length (c ++ x.ends ∷ []) ≡ suc (length c) = g.2 in
              rw (e, chain_from, t) (ih x.ends.to (c ++ x.ends ∷ []) g.0 g.1 (omega arith))

  -- more steps than there are edges give the same chain
  pub chain-enough : (m v : ℕ) → chain_from f (m + length f.edges) v [] ≡ chain f v
  unfolding chain
  chain-enough zero v = rw zero-add
  chain-enough (suc m) v = rw suc-add (chain-one-more (m + length f.edges) v [] tt nil (omega arith) ∙ chain-enough m v)

-- ---- counting

-- a Boolean as a number
abbrev one : Bool → ℕ
one b = cond b 1 0

module _ {A : Type 0} where
  length-keep : (t : A → Bool) (xs : List A) → length (keep t xs) ≡ tally t xs
  length-keep t [] = refl
  length-keep t (x ∷ xs) = go (t x) refl (length-keep t xs)
    where
      go : (b : Bool) → t x ≡ b → length (keep t xs) ≡ tally t xs → length (keep t (x ∷ xs)) ≡ tally t (x ∷ xs)
      go true e ih = rw e (omega arith)
      go false e ih = rw e (omega arith)

  length-keep-twice : (t u : A → Bool) (xs : List A) → length (keep t (keep u xs)) ≡ tally (λ x. u x && t x) xs
  length-keep-twice t u [] = refl
  length-keep-twice t u (x ∷ xs) = go (u x) (t x) refl refl (length-keep-twice t u xs)
    where
      go : (b c : Bool) → u x ≡ b → t x ≡ c → length (keep t (keep u xs)) ≡ tally (λ x. u x && t x) xs → length (keep t (keep u (x ∷ xs))) ≡ tally (λ x. u x && t x) (x ∷ xs)
      go false c e f ih = rw e (omega arith)
      go true true e f ih = rw (e, f) (omega arith)
      go true false e f ih = rw (e, f) (omega arith)

  tally-two : (t u w : A → Bool) {xs : List A} → All (λ x. one (t x) + one (u x) ≤ one (w x)) xs → tally t xs + tally u xs ≤ tally w xs
  tally-two t u w nil = omega arith
  tally-two t u w (cons {x = x} {xs = xs} h a) = omega (arith, tally-two t u w a)

  tally-within : (t : A → Bool) (xs : List A) → tally t xs ≤ length xs
  tally-within t [] = omega arith
  tally-within t (x ∷ xs) = go (t x) refl (tally-within t xs)
    where
      go : (b : Bool) → t x ≡ b → tally t xs ≤ length xs → tally t (x ∷ xs) ≤ suc (length xs)
      go true e ih = rw e (omega arith)
      go false e ih = rw e (omega arith)

pub among-mem : (d : Ends) (ds : List Ends) → Mem d ds → among d ds ≡ true
unfolding among
among-mem d [] m = elim m [ ]
among-mem d (x ∷ xs) m = go (eq_ends d x) refl m (λ k. among-mem d xs k)
  where
    go : (b : Bool) → eq_ends d x ≡ b → Mem d (x ∷ xs) → (Mem d xs → among d xs ≡ true) → (eq_ends d x || among d xs) ≡ true
    go true e k ih = rw e
    go false e (here w) ih = clash (sym (eq_ends-self d) ∙ ap (eq_ends d) w ∙ e)
    go false e (there k) ih = rw e (ih k)

pub among-append : (d : Ends) (xs ys : List Ends) → among d (xs ++ ys) ≡ (among d xs || among d ys)
unfolding among
among-append d [] ys = refl
among-append d (x ∷ xs) ys = go (eq_ends d x) refl (among-append d xs ys)
  where
    go : (b : Bool) → eq_ends d x ≡ b → among d (xs ++ ys) ≡ (among d xs || among d ys) → (eq_ends d x || among d (xs ++ ys)) ≡ ((eq_ends d x || among d xs) || among d ys)
    go true e ih = rw e
    go false e ih = rw e ih

-- ---- the pivotal edges

length-enqueue : (q : Queued) (qs : List Queued) → length (enqueue q qs) ≡ suc (length qs)
unfolding enqueue
length-enqueue q qs = length-insert earlier q qs

length-enqueue_all : (l : ℕ) (es : List Edge) (qs : List Queued) → length (enqueue_all l es qs) ≡ length es + length qs
unfolding enqueue_all
length-enqueue_all l [] qs = omega arith
length-enqueue_all l (e ∷ es) qs =
    omega (arith, length-enqueue_all l es (enqueue (record { level = l; ends = e.ends }) qs), length-enqueue (record { level = l; ends = e.ends }) qs)

-- the edges of the table that are not visited
abbrev unvisited : List Edge → List Ends → ℕ
unvisited es visited = tally (λ (e : Edge). not (among e.ends visited)) es

-- the edges that leave v and are not visited are visited afterwards: as many fewer are left
visited-more : (es : List Edge) (v : ℕ) (visited : List Ends)
    → unvisited es (visited ++ ends_of (keep (λ (e : Edge). not (among e.ends visited)) (leaving es v))) + length (keep (λ (e : Edge). not (among e.ends visited)) (leaving es v))
    ≤ unvisited es visited
unfolding leaving ends_of
visited-more es v visited =
    let l = length-keep-twice (λ (e : Edge). not (among e.ends visited)) (λ (e : Edge). eqb e.ends.from v) es in
    rw l (tally-two _ _ _ (all-mono each (all-self es)))
  where
    new : List Edge
    new = keep (λ (e : Edge). not (among e.ends visited)) (keep (λ (e : Edge). eqb e.ends.from v) es)

    each : (e : Edge) → Mem e es
        → one (not (among e.ends (visited ++ map (λ (x : Edge). x.ends) new))) + one (eqb e.ends.from v && not (among e.ends visited)) ≤ one (not (among e.ends visited))
    each e m = go (among e.ends visited) (eqb e.ends.from v) refl refl
      where
        ends : List Ends
        ends = map (λ (x : Edge). x.ends) new

        go : (b c : Bool) → among e.ends visited ≡ b → eqb e.ends.from v ≡ c
            → one (not (among e.ends (visited ++ ends))) + one (eqb e.ends.from v && not (among e.ends visited)) ≤ one (not (among e.ends visited))
        go true true x y = rw (among-append e.ends visited ends, x, y) (omega arith)
        go true false x y = rw (among-append e.ends visited ends, x, y) (omega arith)
        go false true x y =
            let n : Mem e new = mem-keep _ e (mem-keep (λ (e : Edge). eqb e.ends.from v) e m y) (ap not x) in
            let w : among e.ends ends ≡ true = among-mem e.ends ends (mem-map (λ (x : Edge). x.ends) n) in
            rw (among-append e.ends visited ends, x, y, w) (omega arith)
        go false false x y = rw (among-append e.ends visited ends, x, y) (last (among e.ends ends))
          where
            last : (z : Bool) → one (not z) + 0 ≤ 1
            last true = omega arith
            last false = omega arith

pivotal-one-more : (es : List Edge) (n : ℕ) (qs : List Queued) (visited : List Ends) → length qs + unvisited es visited ≤ n
    → pivotal_from es (suc n) qs visited ≡ pivotal_from es n qs visited
unfolding pivotal_from
pivotal-one-more es zero [] visited h = refl
pivotal-one-more es zero (q ∷ qs) visited h = absurd (omega arith)
pivotal-one-more es (suc n) [] visited h = refl
pivotal-one-more es (suc n) (q ∷ qs) visited h =
    let out = leaving es q.ends.to in
    let new = keep (λ (e : Edge). not (among e.ends visited)) out in
    let a = visited-more es q.ends.to visited in
    let b = length-enqueue_all (suc q.level) new qs in
    ap (λ (l : List Ends). pivotal_of out new ++ l) (pivotal-one-more es n (enqueue_all (suc q.level) new qs) (visited ++ ends_of new) (omega (arith, a, b)))

-- more steps than the source's out-edges and all edges give the same pivotal edges
pub pivotal-enough : (f : SearchInput) (m : ℕ)
    → pivotal_from f.edges (m + (length (leaving f.edges f.source) + length f.edges)) (enqueue_all 0 (leaving f.edges f.source) []) [] ≡ pivotal_edges f
unfolding pivotal_edges
pivotal-enough f zero = rw zero-add
pivotal-enough f (suc m) =
    let first = leaving f.edges f.source in
    let a = length-enqueue_all 0 first [] in
    let b = tally-within (λ (e : Edge). not (among e.ends [])) f.edges in
    rw suc-add
    (pivotal-one-more f.edges (m + (length first + length f.edges)) (enqueue_all 0 first []) [] (omega (arith, a, b)) ∙ pivotal-enough f m)

-- ---- the search

-- The search of an input that passed its checks has turns enough: it never stops with more to do.
pub turns-enough : (i : Input) (b : Built) (s : State Float) → Checked i
    → search (column_scoring i.column) (search_input i b) i.asked i.search_maxima.pushes i.recovery ≡ more s → ⊥
turns-enough i b s c t =
    search-enough (column-keeps i.column c.column-fits) (search_input i b) i.search_maxima.pushes i.asked i.recovery s (some-pushes i c) t
