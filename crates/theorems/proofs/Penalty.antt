-- Over a column that passed its check no penalty is above zero: an offer's count is a part of its total, and the column's entries never fall.
use mathlib.Core.Path.{◌≡◌, refl, sym, subst, ◌∙◌}
use Prim.Native.Nat.{ℕ, zero, suc, ◌≤◌, ◌<◌, max}
use native.Mathlib.Omega.{arith}
use mathlib.Core.Logic.{◌⊎◌, inl, inr}
use mathlib.Core.Bool.{Bool, true, false, not, ◌&&◌, ◌||◌, cond}
use mathlib.Core.List.{List, [], ◌∷◌, ◌++◌, map}
use mathlib.Core.Option.{Option, none, some}
use lib.Dec.{T, leb, ltb}
use lib.ListN.{length, get_or}
use lib.Ieee.{Float, nan, inf, fin, binary64, add, sub, lt, le, eq, is_nan}
use lib.Ieee.Scale.{finite}
use borrow.Author.Tests.{ltb-true, lt-ltb, not-true}
use Rattle.laws.specs.Lists.{keep, is_empty, is_some, total}
use Rattle.laws.specs.Numbers.{within, reaches}
use Rattle.laws.specs.FloatFacts.{lt-self, nlt-chain, le_is}
use Rattle.laws.specs.FloatSums.{sub-not-above}
use Rattle.laws.specs.ListLaws.{clash, and_left, and_right, All, nil, cons, all-mono, all-zip, all_append, all_keep, all_map, all-total}
use Rattle.definition.specs.Refusal.{ok, each}
use Rattle.definition.specs.Limits.{is_finite, float_zero, sixteen, climbing, column_fits}
use Rattle.definition.specs.Score.{at_place, column_penalty, column_scoring}
use Rattle.definition.specs.Threading.{Ends, eq_ends, Edge, support_of}
use Rattle.definition.specs.Evidence.{Branches, bare, branch}
use Rattle.definition.specs.Search.{SearchInput, Path, Offer, among, vertices_from, times, sum_of, real_branches, unseen, by_support, offers, lengthen, extend, repeat_rule, extensions}
use Rattle.theorems.proofs.Column.{all-at, finite-num}
use Rattle.theorems.proofs.Counts.{Small, offers-small}
use Rattle.theorems.proofs.Walks.{refused-ok, ok_same, and-then-ok, all-each, all-best}

-- ---- the column never falls

-- an entry of the column after x: finite, and not below x
record Entry (x y : Float) : Type 0 where
  is-finite : T (finite y)
  number : is_nan y ≡ false
  not-below : lt y x ≡ false

finite-of : (x : Float) → is_finite x ≡ true → T (finite x)
unfolding is_finite
finite-of nan e = clash (sym e)
finite-of (inf s) e = clash (sym e)
finite-of (fin s m x) e = tt

-- the first entry, and the check of those after it
first_entry : (x y : Float) (ys : List Float) → is_nan x ≡ false → climbing x (y ∷ ys) ≡ true → Entry x y × (climbing y ys ≡ true)
unfolding climbing
first_entry x y ys n e =
    let a : (is_finite y && le x y && le y sixteen) ≡ true = and_left (is_finite y && le x y && le y sixteen) (climbing y ys) e in
    let d : (is_finite y && le x y) ≡ true = and_left (is_finite y && le x y) (le y sixteen) a in
    let f : is_finite y ≡ true = and_left (is_finite y) (le x y) d in
    let ny : is_nan y ≡ false = finite-num y f in (
      record {
        is-finite = finite-of y f;
        number = ny;
        not-below = not-true (lt y x) (sym (le_is x y n ny) ∙ and_right (is_finite y) (le x y) d);
      },
      and_right (is_finite y && le x y && le y sixteen) (climbing y ys) e,
    )

-- every entry after x is not below x
entries : (x : Float) (ys : List Float) → is_nan x ≡ false → climbing x ys ≡ true → All (Entry x) ys
entries x [] n e = nil
entries x (y ∷ ys) n e =
    let h = first_entry x y ys n e in
    cons h.0
    (all-mono (λ (z : Float) k. record { is-finite = k.is-finite; number = k.number; not-below = nlt-chain z y x h.0.number k.not-below h.0.not-below })
    (entries y ys h.0.number h.1))

-- of two entries the later one is not below the earlier one
later-entry : (x : Float) (ys : List Float) (i j : ℕ) → is_nan x ≡ false → climbing x ys ≡ true → i ≤ j → j < length ys → lt (get_or ys j nan) (get_or ys i nan) ≡ false
later-entry x [] i j n e h l = absurd (omega arith)
later-entry x (y ∷ ys) zero zero n e h l = lt-self y
later-entry x (y ∷ ys) zero (suc j) n e h l =
    let q = first_entry x y ys n e in
    let k : Entry y (get_or ys j nan) = all-at ys j nan (entries y ys q.0.number q.1) (omega arith) in
    k.not-below
later-entry x (y ∷ ys) (suc i) zero n e h l = absurd (omega arith)
later-entry x (y ∷ ys) (suc i) (suc j) n e h l = let q = first_entry x y ys n e in later-entry y ys i j q.0.number q.1 (omega arith) (omega arith)

module _ (c : List Float) (fits : column_fits c ≡ true) where
  -- the places of the column from 1 on
  places : (n t : ℕ) → 1 ≤ n → n ≤ t → t < length c → T (finite (at_place c n)) × (lt (at_place c t) (at_place c n) ≡ false)
  unfolding column_fits at_place
  places n t one h l = go c fits n t one h l
    where
      go : (c : List Float) → column_fits c ≡ true → (n t : ℕ) → 1 ≤ n → n ≤ t → t < length c → T (finite (get_or c n nan)) × (lt (get_or c t nan) (get_or c n nan) ≡ false)
      go [] e n t one h l = absurd (omega arith)
      go (z ∷ cs) e zero t one h l = absurd (omega arith)
      go (z ∷ cs) e (suc i) zero one h l = absurd (omega arith)
      go (z ∷ cs) e (suc i) (suc j) one h l =
          let k : climbing float_zero cs ≡ true = and_right (within 2 65536 (suc (length cs)) && eq (get_or (z ∷ cs) 1 nan) float_zero) (climbing float_zero cs) e in
          let nan0 : is_nan float_zero ≡ false = unfold is_nan in refl in
          let m : i < length cs = omega arith in
          let q : Entry float_zero (get_or cs i nan) = all-at cs i nan (entries float_zero cs nan0 k) m in
          (q.is-finite, later-entry float_zero cs i j nan0 k (omega arith) (omega arith))

  -- the penalty of a count that is a part of the total
  pub penalty-not-above : (n t : ℕ) (d : Float) → n ≤ t → column_penalty c n t ≡ some d → lt float_zero d ≡ false
  unfolding column_penalty
  penalty-not-above n zero d h e = let same : float_zero ≡ d = cc in rw (← same) (lt-self float_zero)
  penalty-not-above n (suc t) d h e = go (ltb m (length c) && ltb (suc t) (length c)) refl
    where
      m : ℕ
      m = max n 1

      go : (b : Bool) → (ltb m (length c) && ltb (suc t) (length c)) ≡ b → lt float_zero d ≡ false
      go false u = let k : none ≡ some d = rw (u, column_penalty) at e in let z : ◌≡◌ {A = ℕ} 0 1 = cc in absurd (omega arith)
      go true u =
          let k : some (sub binary64 (at_place c m) (at_place c (suc t))) ≡ some d = rw (u, column_penalty) at e in
          let same : sub binary64 (at_place c m) (at_place c (suc t)) ≡ d = cc in
          let r : suc t < length c = ltb-true (suc t) (length c) (and_right (ltb m (length c)) (ltb (suc t) (length c)) u) in
          let one : 1 ≤ max n 1 = omega arith in
          let part : max n 1 ≤ suc t = omega arith in
          let p = places m (suc t) one part r in
          let q = places (suc t) (suc t) (omega arith) (omega arith) r in
          subst (λ (x : Float). lt float_zero x ≡ false) same (sub-not-above (at_place c m) (at_place c (suc t)) p.0 q.0 p.1)

-- ---- an offer's count is a part of its total

abbrev pub Part : Offer → Type 0
Part o = o.count ≤ o.out_of

real-part : (f : SearchInput) (outs : List Ends) (t : ℕ) (b : Branches) → sum_of b ≤ t → All Part (real_branches f outs t b)
unfolding real_branches sum_of
real-part f outs t bare h = nil
real-part f outs t (branch e c below next) h = go (among e outs && not (eq_ends e f.symbolic)) (real-part f outs t next (omega arith))
  where
    o : Offer
    o = record { ends = e; count = c; out_of = t; guided = true }

    go : (z : Bool) → All Part (real_branches f outs t next) → All Part (cond z (o ∷ real_branches f outs t next) (real_branches f outs t next))
    go true ih = cons {x = o} (omega arith) ih
    go false ih = ih

support-part : (es : List Edge) → All Part (by_support es)
unfolding by_support
support-part es = all_map _ (λ e p. p) (all_keep _ (all-total support_of es))

-- every offer of a fork
pub offers-part : (f : SearchInput) (es : List Edge) (seen : List Ends) (bs : List Branches) → All Part (offers f es seen bs)
unfolding offers unseen
offers-part f es seen [] = all_keep _ (support-part es)
offers-part f es seen (b ∷ bs) = go (reaches (sum_of b) f.threshold) refl (λ l. offers-part f es l bs)
  where
    real : All Part (real_branches f (map (λ (e : Edge). e.ends) es) (sum_of b) b)
    real = real-part f (map (λ (e : Edge). e.ends) es) (sum_of b) b (omega arith)

    go : (z : Bool) → reaches (sum_of b) f.threshold ≡ z → ((l : List Ends) → All Part (offers f es l bs)) → All Part (offers f es seen (b ∷ bs))
    go true e ih = rw (e, offers) (all_keep _ (all-best real))
    go false e ih = rw (e, offers) (all_append (all_keep _ real) (ih _))

-- the penalty of every offer
pub offers-not-above : (c : List Float) → column_fits c ≡ true → (f : SearchInput) (es : List Edge) (seen : List Ends) (bs : List Branches)
    → All (λ (o : Offer). (d : Float) → column_penalty c o.count o.out_of ≡ some d → lt float_zero d ≡ false) (offers f es seen bs)
offers-not-above c h f es seen bs = all-mono (λ (o : Offer) p. λ d e. penalty-not-above c h o.count o.out_of d p e) (offers-part f es seen bs)

-- ---- in a column that is long enough no offer is refused

pub penalty-there : (c : List Float) (n t : ℕ) → n ≤ t → t < length c → is_some (column_penalty c n t) ≡ true
unfolding column_penalty
penalty-there c n zero h l = refl
penalty-there c n (suc t) h l =
    let one : 1 ≤ max n 1 = omega arith in
    let part : max n 1 < length c = omega arith in
    rw (lt-ltb (max n 1) (length c) part, lt-ltb (suc t) (length c) l, column_penalty)

-- where neither a row of an active tree nor the sum of the out-edges' supports passes n, and the column goes beyond place n
pub offers-there : (c : List Float) (n : ℕ) → n < length c → (f : SearchInput) (es : List Edge) (seen : List Ends) (bs : List Branches) → All (Small n) bs
    → total support_of es ≤ n → All (λ (o : Offer). is_some (column_penalty c o.count o.out_of) ≡ true) (offers f es seen bs)
offers-there c n l f es seen bs a h =
    all-mono (λ (o : Offer) q. (let k : o.out_of ≤ n = q.1 in penalty-there c o.count o.out_of q.0 (omega arith)))
    (all-zip (offers-part f es seen bs) (offers-small n f es seen bs a h))

-- ---- what the search adds to a score

-- the score y is x, or x and a penalty that is not above zero
abbrev pub Lowered : Float → Float → Type 0
Lowered x y = (y ≡ x) ⊎ ((d : Float) × (y ≡ add binary64 x d) × (lt float_zero d ≡ false))

lengthen-score : (f : SearchInput) (p q : Path Float) (c : List Ends) (e : Ends) (x : Float) (g r : Bool) → lengthen f p c e x g r ≡ ok q → q.score ≡ x
unfolding lengthen
lengthen-score f p q c e x g r t = go (leb (length (p.edges ++ c ++ e ∷ [])) f.path_edges) refl
  where
    go : (b : Bool) → leb (length (p.edges ++ c ++ e ∷ [])) f.path_edges ≡ b → q.score ≡ x
    go true u = subst (λ (z : Path Float). z.score ≡ x) (ok_same (rw (u, lengthen) at t)) refl
    go false u = refused-ok (rw (u, lengthen) at t)

module _ (column : List Float) (fits : column_fits column ≡ true) (f : SearchInput) (p : Path Float) (c : List Ends) where
  extend-lowered : (o : Offer) (q : Path Float) → Part o → extend (column_scoring column) f p c o ≡ ok q → Lowered p.score q.score
  unfolding extend column_scoring
  extend-lowered o q h t = go (column_penalty column o.count o.out_of) refl
    where
      go : (d : Option Float) → column_penalty column o.count o.out_of ≡ d → Lowered p.score q.score
      go none u = refused-ok (rw (u, extend) at t)
      go (some d) u =
          inr (
            d,
            lengthen-score f p q c o.ends (add binary64 p.score d) o.guided false (rw (u, extend) at t),
            penalty-not-above column fits o.count o.out_of d h u,
          )

  -- every extension of a path: only here is anything added to a score
  pub extensions-lowered : (v : ℕ) (es : List Edge) (qs : List (Path Float)) → extensions (column_scoring column) f p c v es ≡ ok qs
      → All (λ (q : Path Float). Lowered p.score q.score) qs
  unfolding extensions
  extensions-lowered v [] qs t = subst (All (λ (q : Path Float). Lowered p.score q.score)) (ok_same t) nil
  extensions-lowered v (x ∷ []) qs t = go (not (is_empty p.active) || leb (times v (vertices_from f.source p.edges)) 1) refl
    where
      go : (b : Bool) → (not (is_empty p.active) || leb (times v (vertices_from f.source p.edges)) 1) ≡ b → All (λ (q : Path Float). Lowered p.score q.score) qs
      go true u =
          let r = and-then-ok (lengthen f p c x.ends p.score false true) (λ q. ok (q ∷ [])) qs (rw (u, extensions) at t) in
          subst (All (λ (q : Path Float). Lowered p.score q.score)) (ok_same r.2)
          (cons (inl (lengthen-score f p r.0 c x.ends p.score false true r.1)) nil)
      go false u = subst (All (λ (q : Path Float). Lowered p.score q.score)) (ok_same (rw (u, extensions) at t)) nil
  extensions-lowered v (x ∷ y ∷ es) qs t =
      let r = and-then-ok (each (extend (column_scoring column) f p c) (offers f (x ∷ y ∷ es) [] p.active)) (λ qs. ok (keep (repeat_rule f) qs)) qs t in
      subst (All (λ (q : Path Float). Lowered p.score q.score)) (ok_same r.2)
      (all_keep (repeat_rule f)
      (all-each (extend (column_scoring column) f p c) (offers f (x ∷ y ∷ es) [] p.active) r.0 (λ o q h. extend-lowered o q h) (offers-part f (x ∷ y ∷ es) [] p.active) r.1))
