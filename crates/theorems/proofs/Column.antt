-- The column mode: `lt` orders the scores, and over a column that passed its check no score is NaN.
use mathlib.Core.Path.{◌≡◌, refl, sym, subst, ◌∙◌}
use Prim.Native.Nat.{ℕ, zero, suc, ◌≤◌, ◌<◌, max}
use native.Mathlib.Omega.{arith}
use mathlib.Core.Bool.{Bool, true, false, ◌&&◌}
use mathlib.Core.List.{List, [], ◌∷◌}
use mathlib.Core.Option.{none, some}
use lib.Dec.{T, ltb}
use lib.ListN.{length, get_or}
use lib.Ieee.{Float, nan, inf, fin, binary64, sub, lt, le, eq, is_nan}
use lib.Ieee.Scale.{finite}
use borrow.Author.Tests.{ltb-true, not-true}
use Rattle.laws.specs.Numbers.{within}
use Rattle.laws.specs.FloatFacts.{lt-flip, nlt-chain, le_is}
use Rattle.laws.specs.FloatSums.{add-num, sub_small, Small, small_of}
use Rattle.laws.specs.ListLaws.{clash, and_left, and_right, All, nil, cons}
use Rattle.definition.specs.Score.{at_place, column_penalty, column_scoring}
use Rattle.definition.specs.Limits.{is_finite, float_zero, sixteen, climbing, column_fits}
use Rattle.theorems.proofs.Order.{Ordered, Keeps}

abbrev pub NotNan : Float → Type 0
NotNan x = is_nan x ≡ false

pub column-ordered : (c : List Float) → Ordered (column_scoring c) NotNan
unfolding column_scoring
column-ordered c = record { one_way = lt-flip; through = nlt-chain }

-- ---- what the check of the column shows

pub all-at : {A : Type 0} {P : A → Type 0} (xs : List A) (i : ℕ) (d : A) → All P xs → i < length xs → P (get_or xs i d)
all-at [] i d a h = absurd (omega arith)
all-at (x ∷ xs) zero d (cons p a) h = p
all-at (x ∷ xs) (suc i) d (cons p a) h = all-at xs i d a (omega arith)

pub finite-num : (x : Float) → is_finite x ≡ true → is_nan x ≡ false
unfolding is_finite is_nan
finite-num nan e = clash (sym e)
finite-num (inf s) e = refl
finite-num (fin s m x) e = refl

climbing-small : (x : Float) (ys : List Float) → is_nan x ≡ false → lt x float_zero ≡ false → climbing x ys ≡ true → All Small ys
unfolding climbing
climbing-small x [] n h e = nil
climbing-small x (y ∷ ys) n h e =
    let a : (is_finite y && le x y && le y sixteen) ≡ true = and_left (is_finite y && le x y && le y sixteen) (climbing y ys) e in
    let b : climbing y ys ≡ true = and_right (is_finite y && le x y && le y sixteen) (climbing y ys) e in
    let d : (is_finite y && le x y) ≡ true = and_left (is_finite y && le x y) (le y sixteen) a in
    let ny : is_nan y ≡ false = finite-num y (and_left (is_finite y) (le x y) d) in
    let up : lt y x ≡ false = not-true (lt y x) (sym (le_is x y n ny) ∙ and_right (is_finite y) (le x y) d) in
    let top : lt sixteen y ≡ false =
    not-true (lt sixteen y) (sym (le_is y sixteen ny (unfold is_nan in refl)) ∙ and_right (is_finite y && le x y) (le y sixteen) a) in
    let low : lt y float_zero ≡ false = nlt-chain y x float_zero n up h in
    cons (small_of y ny low top) (climbing-small y ys ny low b)

-- the places of a column that passed its check, from 1 on
place-small : (c : List Float) (n : ℕ) → column_fits c ≡ true → 1 ≤ n → n < length c → Small (at_place c n)
unfolding column_fits at_place
place-small [] n e one h = absurd (omega arith)
place-small (z ∷ cs) zero e one h = absurd (omega arith)
place-small (z ∷ cs) (suc j) e one h = all-at cs j nan small (omega arith)
  where
    small : All Small cs
    small = climbing-small float_zero cs (unfold is_nan in refl) (unfold lt in refl) (and_right (within 2 65536 (suc (length cs)) && eq (get_or (z ∷ cs) 1 nan) float_zero) (climbing float_zero cs) e)

penalty-finite : (c : List Float) (n t : ℕ) (d : Float) → column_fits c ≡ true → column_penalty c n t ≡ some d → T (finite d)
unfolding column_penalty
penalty-finite c n zero d f e = let h : float_zero ≡ d = cc in rw (← h) tt
penalty-finite c n (suc t) d f e = go (ltb m (length c) && ltb (suc t) (length c)) refl
  where
    m : ℕ
    m = max n 1

    go : (b : Bool) → (ltb m (length c) && ltb (suc t) (length c)) ≡ b → T (finite d)
    go false u = let h : none ≡ some d = rw (u, column_penalty) at e in let z : ◌≡◌ {A = ℕ} 0 1 = cc in absurd (omega arith)
    go true u =
        let h : some (sub binary64 (at_place c m) (at_place c (suc t))) ≡ some d = rw (u, column_penalty) at e in
        let same : sub binary64 (at_place c m) (at_place c (suc t)) ≡ d = cc in
        let l : m < length c = ltb-true m (length c) (and_left (ltb m (length c)) (ltb (suc t) (length c)) u) in
        let r : suc t < length c = ltb-true (suc t) (length c) (and_right (ltb m (length c)) (ltb (suc t) (length c)) u) in
        let one : 1 ≤ max n 1 = omega arith in
        subst (λ (x : Float). T (finite x)) same (sub_small (at_place c m) (at_place c (suc t)) (place-small c m f one l) (place-small c (suc t) f (omega arith) r))

pub column-keeps : (c : List Float) → column_fits c ≡ true → Keeps (column_scoring c) NotNan
unfolding column_scoring
column-keeps c f = record { start_fine = unfold is_nan in refl; plus-fine = λ x d n t h e. add-num binary64 x d h (penalty-finite c n t d f e) }
