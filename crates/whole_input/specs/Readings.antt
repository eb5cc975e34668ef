-- What one read answers, what the reads of an input come to, and the input that they stand for.
use Rattle.std.specs.Prelude.{◌≡◌, refl, Result, Ok, Err, Option as Maybe, Some, None, List, [], ◌++◌, ℕ, zero, suc, ◌+◌, ◌-◌, ◌<◌, ◌≤◌, length, take, drop, OnErr}
use Rattle.std.proofs.Common.{sym, ap, subst, ◌∙◌, arith, length-take, length-take-le, append-nil, drop_at, drop_of_length-le, take-add}
use Rattle.std.proofs.KnownBytes.{Consumes-trans}
use Rattle.std.proofs.lemmas.List.{length-drop}
use borrow.Rule.Slice.PartMut.{put_mid, post_of}
use Rattle.std.proofs.Math.Option.{Option, none, some}
use Rattle.std.specs.Result.{result_ok}
use Rattle.std.specs.Io.{ReadsAtMost}
use Rattle.std.specs.Io.KnownBytes.{Keeps, Consumes, IsAtEnd, ReadConsumes}

-- the bytes that a reader has left, where these are known
abbrev pub Known : Type 0
Known = Maybe (List ℕ)

-- n bytes are the whole input where the read behind them tells its end
abbrev pub ended_at : ℕ → Maybe ℕ → Maybe ℕ
ended_at n (Some zero) = Some n
ended_at n (Some (suc m)) = None
ended_at n None = None

-- the input that was read into `bytes`, none where it could not be read whole
abbrev pub input_of : Maybe ℕ → List ℕ → Option (List ℕ)
input_of (Some n) bytes = some (take n bytes)
input_of None bytes = none

-- the bytes counted lie within the slice
abbrev pub Within : Maybe ℕ → ℕ → Type 0
Within (Some n) size = n ≤ size
Within None size = Unit {0}

-- what a reader had left, where that is known, and has left now: the bytes put came first, and where there were none, but room, it has none left
abbrev pub Gave : Maybe ℕ → Known → Known → List ℕ → Type 0
Gave (Some n) old new bytes = Consumes old new (take n bytes) × (n ≡ 0 → 0 < length bytes → IsAtEnd new)
Gave None old new bytes = Unit {0}

-- the same of as many reads as fill the slice: where it is not full, the reader has none left
abbrev pub Filled : Maybe ℕ → Known → Known → List ℕ → Type 0
Filled (Some n) old new bytes = Consumes old new (take n bytes) × (n < length bytes → IsAtEnd new)
Filled None old new bytes = Unit {0}

-- an input of n bytes is whole only where no bytes are left behind them
abbrev pub Ends : Maybe ℕ → ℕ → Known → Type 0
Ends (Some m) n left = (m ≡ n) × IsAtEnd left
Ends None n left = Unit {0}

-- the input that was read, where it is whole, is all that the reader had left, where that is known
abbrev pub Told : Known → Option (List ℕ) → Type 0
Told (Some xs) (some ys) = ys ≡ xs
Told (Some xs) none = Unit {0}
Told None input = Unit {0}

-- ---- laws

-- a read told within the slice took that many
pub took-within : {E : Type 0} (got : Result ℕ E) (xs ys : List ℕ) (r : Maybe ℕ) → ReadsAtMost got xs → length xs ≡ length ys → r ≡ result_ok got → Within r (length ys)
took-within got xs ys r h l e = subst (λ (x : Maybe ℕ). Within x (length ys)) (sym e) (go got h)
  where
    go : {E : Type 0} (got : Result ℕ E) → ReadsAtMost got xs → Within (result_ok got) (length ys)
    go (Ok n) h = omega (arith, h.0, l)
    go (Err x) h = tt

pub ended-within : (n : ℕ) (t r : Maybe ℕ) → r ≡ ended_at n t → Within r n
ended-within n t r e = subst (λ (x : Maybe ℕ). Within x n) (sym e) (go t)
  where
    go : (t : Maybe ℕ) → Within (ended_at n t) n
    go (Some zero) = omega arith
    go (Some (suc m)) = tt
    go None = tt

-- a read into a part of at most n bytes
pub took-part : (t : Maybe ℕ) (n : ℕ) (xs : List ℕ) → Within t (length (take n xs)) → Within t n
took-part (Some a) n xs h = let e = length-take n xs in omega arith
took-part None n xs h = tt

pub within-as : (r : Maybe ℕ) (n m : ℕ) → Within r n → n ≤ m → Within r m
within-as (Some a) n m h l = omega arith
within-as None n m h l = tt

-- ---- laws of the bytes that are known

pub gave : {E : Type 0} (got : Result ℕ E) (old new : Known) (bytes : List ℕ) (r : Maybe ℕ) → ReadConsumes old new got bytes → r ≡ result_ok got → Gave r old new bytes
gave got old new bytes r h e = subst (λ (x : Maybe ℕ). Gave x old new bytes) (sym e) (go got h)
  where
    go : {E : Type 0} (got : Result ℕ E) → ReadConsumes old new got bytes → Gave (result_ok got) old new bytes
    go (Ok n) h = h
    go (Err x) h = tt

-- a read that fails leaves what the reader had left
pub kept : {E : Type 0} (got : Result ℕ E) (old new : Known) (bytes : List ℕ) → ReadConsumes old new got bytes → OnErr got (Keeps old new)
kept (Ok n) old new bytes h = tt
kept (Err x) old new bytes h = h

-- what was read into the part behind a place
pub gave-behind : (t : Maybe ℕ) (old new : Known) (done : ℕ) (xs ys : List ℕ) → done ≤ length xs → Gave t old new ys
    → Gave t old new (drop done (put_mid done (length xs - done) xs ys))
gave-behind t old new done xs ys l h = subst (Gave t old new) (sym part) h
  where
    part : drop done (put_mid done (length xs - done) xs ys) ≡ ys
    part =
        drop_at (take done xs) (ys ++ post_of done (length xs - done) xs) done (length-take-le done xs l)
        ∙ ap (λ (l : List ℕ). ys ++ l) (drop_of_length-le (drop done xs) {i = length xs - done} (let e = length-drop done xs in omega arith)) ∙ append-nil ys

-- nothing read means that nothing was left
at_end : (old new : Known) → Consumes old new [] → IsAtEnd new → IsAtEnd old
at_end None new h e = tt
at_end (Some xs) None h e = absurd h
at_end (Some xs) (Some ys) h e = h ∙ e

-- a read that had room and put none found the end
pub ends : (m : ℕ) (old new : Known) (bytes : List ℕ) → Gave (Some m) old new bytes → 0 < length bytes → m ≤ 0 → IsAtEnd old
ends m old new bytes h l z =
    let e : m ≡ 0 = omega arith in
    at_end old new (subst (λ (n : ℕ). Consumes old new (take n bytes)) e h.0) (h.1 e l)

-- where the read behind n bytes tells the input whole, no bytes are left behind them
pub ends-at : (n : ℕ) (t : Maybe ℕ) (old new : Known) (bytes : List ℕ) (r : Maybe ℕ) → Gave t old new bytes → 0 < length bytes → r ≡ ended_at n t → Ends r n old
ends-at n t old new bytes r h l e = subst (λ (x : Maybe ℕ). Ends x n old) (sym e) (go t h)
  where
    go : (t : Maybe ℕ) → Gave t old new bytes → Ends (ended_at n t) n old
    go (Some zero) h = (refl, ends 0 old new bytes h l (omega arith))
    go (Some (suc m)) h = tt
    go None h = tt

-- the bytes before a place, and those that were read behind it
pub joined : (a b c : Known) (done n : ℕ) (old new : List ℕ) → take done new ≡ take done old → Consumes a b (take done old) → Consumes b c (take n (drop done new))
    → Consumes a c (take (done + n) new)
joined a b c done n old new f p q =
    subst (Consumes a c) (ap (λ (l : List ℕ). l ++ take n (drop done new)) (sym f) ∙ sym (take-add done n new)) (Consumes-trans a b c _ _ p q)

-- and where none were
pub joined-none : (a b c : Known) (done n : ℕ) (old new : List ℕ) → take done new ≡ take done old → Consumes a b (take done old) → Consumes b c (take n (drop done new))
    → n ≡ 0 → Consumes a c (take done new)
joined-none a b c done n old new f p q z =
    let e : done + n ≡ done = omega arith in
    subst (λ (k : ℕ). Consumes a c (take k new)) e (joined a b c done n old new f p q)

pub told-whole : (a b : Known) (n : ℕ) (bytes : List ℕ) → Consumes a b (take n bytes) → IsAtEnd b → Told a (input_of (Some n) bytes)
told-whole None b n bytes h e = tt
told-whole (Some xs) None n bytes h e = absurd h
told-whole (Some xs) (Some ys) n bytes h e = sym (h ∙ ap (λ (l : List ℕ). take n bytes ++ l) e ∙ append-nil (take n bytes))

pub told-partial : (a : Known) → Told a none
told-partial None = tt
told-partial (Some xs) = tt

pub told-ended : (a b : Known) (n : ℕ) (bytes : List ℕ) (r : Maybe ℕ) → Ends r n b → Consumes a b (take n bytes) → Told a (input_of r bytes)
told-ended a b n bytes (Some m) h p = told-whole a b m bytes (subst (λ (k : ℕ). Consumes a b (take k bytes)) (sym h.0) p) h.1
told-ended a b n bytes None h p = told-partial a
