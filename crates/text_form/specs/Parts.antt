-- The parts of a text that a byte ends, as a search for that byte finds them.
use Rattle.std.specs.Prelude.{◌≡◌, refl, ◌⊎◌, Bool, true, false, cond, List, [], ◌∷◌, ◌++◌, ℕ, zero, suc, ◌+◌, ◌-◌, ◌<◌, ◌≤◌, eqb, length, take, drop, Option as Maybe, Some, None, unwrap_or, position as find_position}
use Rattle.std.proofs.Common.{sym, ap, ◌∙◌, inl, inr, arith, length-append, length-drop, drop_of_length-le, drop-drop, eq-eqb, ltb, ltb-true, ltb-false}
use Rattle.std.proofs.Math.Option.{Option, none, some}
use Rattle.std.proofs.Math.Seq.{slice, take-nil, take-length}
use Rattle.std.proofs.lemmas.List.{drop-append-le, take-append-le}
use Rattle.std.proofs.lemmas.List.Recursion.{is_position_or_len}
use Rattle.std.specs.List.{position_or_len}
use Rattle.laws.specs.Lists.{position}
use Rattle.definition.specs.Text.{parts, longer, in_front}

-- where the byte `stop` first stands in a text: its length, where it does not
abbrev pub first_at : ℕ → List ℕ → ℕ
first_at stop t = position (λ (b : ℕ). eqb b stop) t

-- a search for a byte found it at its first place, or it doesn't stand there
abbrev pub Found : ℕ → List ℕ → Maybe ℕ → Type 0
Found byte t None = first_at byte t ≡ length t
Found byte t (Some n) = (n ≡ first_at byte t) × (n < length t)

first-here : (stop b : ℕ) (bs : List ℕ) → b ≡ stop → first_at stop (b ∷ bs) ≡ 0
first-here stop b bs e = rw (eq-eqb b stop e, position)

-- the first place as the library's search counts it
first-or-len : (byte : ℕ) (t : List ℕ) → first_at byte t ≡ position_or_len (λ (b : ℕ). eqb b byte) t
first-or-len byte = is_position_or_len (first_at byte) (λ (b : ℕ). eqb b byte) refl more
  where
    more : (b : ℕ) (bs : List ℕ) → first_at byte (b ∷ bs) ≡ cond (eqb b byte) 0 (1 + first_at byte bs)
    more b bs = go (eqb b byte) refl
      where
        go : (x : Bool) → eqb b byte ≡ x → first_at byte (b ∷ bs) ≡ cond x 0 (1 + first_at byte bs)
        go true e = rw (e, position)
        go false e = rw (e, position) (omega arith)

pub first-most : (stop : ℕ) (t : List ℕ) → first_at stop t ≤ length t
first-most stop [] = omega arith
first-most stop (b ∷ bs) = go (eqb b stop) refl (first-most stop bs)
  where
    go : (x : Bool) → eqb b stop ≡ x → first_at stop bs ≤ length bs → first_at stop (b ∷ bs) ≤ suc (length bs)
    go true e ih = rw (e, position) (omega arith)
    go false e ih = rw (e, position) (omega arith)

pub found-first : (byte : ℕ) (t : List ℕ) (r : Maybe ℕ) → r ≡ find_position (λ (b : ℕ). eqb b byte) t → Found byte t r
found-first byte t r e = go (ltb (position_or_len (λ (b : ℕ). eqb b byte) t) (length t)) refl
  where
    go : (x : Bool) → ltb (position_or_len (λ (b : ℕ). eqb b byte) t) (length t) ≡ x → Found byte t r
    go true f =
        let g : r ≡ Some (position_or_len (λ (b : ℕ). eqb b byte) t) = rw f at e in
        let l = ltb-true _ _ f in
        rw g (sym (first-or-len byte t), l)
    go false f =
        let g : r ≡ None = rw f at e in
        let l = ltb-false _ _ f in
        let m = first-most byte t in
        let w = first-or-len byte t in
        rw g (omega arith)

pub found-or : (byte : ℕ) (t : List ℕ) (r : Maybe ℕ) → Found byte t r → unwrap_or r (length t) ≡ first_at byte t
found-or byte t None h = sym h
found-or byte t (Some n) h = h.0

-- ---- the first part

longer-front : (b : ℕ) (p : List ℕ) (o : Option (List (List ℕ))) → longer b (in_front p o) ≡ in_front (b ∷ p) o
longer-front b p none = refl
longer-front b p (some ps) = refl

pub parts_first : (stop : ℕ) (t : List ℕ) → first_at stop t < length t
    → parts stop t ≡ in_front (take (first_at stop t) t) (parts stop (drop (suc (first_at stop t)) t))
unfolding parts
parts_first stop [] h = absurd (omega arith)
parts_first stop (b ∷ bs) h = go (eqb b stop) refl (parts_first stop bs) h
  where
    go : (x : Bool) → eqb b stop ≡ x
        → (first_at stop bs < length bs → parts stop bs ≡ in_front (take (first_at stop bs) bs) (parts stop (drop (suc (first_at stop bs)) bs)))
        → first_at stop (b ∷ bs) < suc (length bs)
        → parts stop (b ∷ bs) ≡ in_front (take (first_at stop (b ∷ bs)) (b ∷ bs)) (parts stop (drop (suc (first_at stop (b ∷ bs))) (b ∷ bs)))
    go true e ih k = rw (e, parts, position)
    go false e ih k =
        let f : first_at stop (b ∷ bs) ≡ suc (first_at stop bs) = rw (e, position) in
        rw (e, parts, position)
        (ap (longer b) (ih (omega arith)) ∙ longer-front b (take (first_at stop bs) bs) (parts stop (drop (suc (first_at stop bs)) bs)))

pub parts-unended : (stop : ℕ) (t : List ℕ) → 0 < length t → length t ≤ first_at stop t → parts stop t ≡ none
unfolding parts
parts-unended stop [] h k = absurd (omega arith)
parts-unended stop (b ∷ []) h k = go (eqb b stop) refl k
  where
    go : (x : Bool) → eqb b stop ≡ x → 1 ≤ first_at stop (b ∷ []) → parts stop (b ∷ []) ≡ none
    go true e k = absurd (let f : first_at stop (b ∷ []) ≡ 0 = rw (e, position) in omega arith)
    go false e k = rw (e, parts)
parts-unended stop (b ∷ c ∷ cs) h k = go (eqb b stop) refl k (parts-unended stop (c ∷ cs) (omega arith))
  where
    go : (x : Bool) → eqb b stop ≡ x → suc (suc (length cs)) ≤ first_at stop (b ∷ c ∷ cs)
        → (suc (length cs) ≤ first_at stop (c ∷ cs) → parts stop (c ∷ cs) ≡ none) → parts stop (b ∷ c ∷ cs) ≡ none
    go true e k ih = absurd (let f : first_at stop (b ∷ c ∷ cs) ≡ 0 = rw (e, position) in omega arith)
    go false e k ih =
        let f : first_at stop (b ∷ c ∷ cs) ≡ suc (first_at stop (c ∷ cs)) = rw (e, position) in
        rw (e, parts) (ap (longer b) (ih (omega arith)))

-- a text that is not empty has a part, or no parts at all
pub parts-some : (stop : ℕ) (t : List ℕ) → 0 < length t → (parts stop t ≡ none) ⊎ ((p : List ℕ) × (ps : List (List ℕ)) × (parts stop t ≡ some (p ∷ ps)))
unfolding parts
parts-some stop [] h = absurd (omega arith)
parts-some stop (b ∷ bs) h = go (eqb b stop) refl (parts stop bs) refl
  where
    go : (x : Bool) → eqb b stop ≡ x → (o : Option (List (List ℕ))) → parts stop bs ≡ o
        → (parts stop (b ∷ bs) ≡ none) ⊎ ((p : List ℕ) × (ps : List (List ℕ)) × (parts stop (b ∷ bs) ≡ some (p ∷ ps)))
    go true e none f = inl (rw (e, parts, f))
    go true e (some ps) f = inr ([], ps, rw (e, parts, f))
    go false e none f = inl (rw (e, parts, f))
    go false e (some []) f = inl (rw (e, parts, f))
    go false e (some (p ∷ ps)) f = inr (b ∷ p, ps, rw (e, parts, f))

-- ---- parts of a text by their places

module _ {A : Type 0} where
  pub take-slice : (n at : ℕ) (xs : List A) → take n (drop at xs) ≡ slice at (at + n) xs
  take-slice n zero xs = let e : 0 + n ≡ n = omega arith in rw e
  take-slice n (suc at) [] = let e : suc at + n ≡ suc (at + n) = omega arith in rw e (take-nil n)
  take-slice n (suc at) (x ∷ xs) = let e : suc at + n ≡ suc (at + n) = omega arith in rw e (take-slice n at xs)

  pub drop-whole : (at : ℕ) (xs : List A) → slice at (length xs) xs ≡ drop at xs
  drop-whole at xs = ap (drop at) (take-length xs)

  -- a part of a slice as a loan has it
  abbrev pub part : ℕ → ℕ → List A → List A
  part a e xs = take (e - a) (drop a xs)

  pub part_slice : (a e : ℕ) (xs : List A) → a ≤ e → part a e xs ≡ slice a e xs
  part_slice a e xs h = let z : a + (e - a) ≡ e = omega arith in take-slice (e - a) a xs ∙ ap (λ (n : ℕ). slice a n xs) z

  -- all behind a place as a loan has it
  pub part_rest : (a : ℕ) (xs : List A) → part a (length xs) xs ≡ drop a xs
  part_rest a xs = ap (λ (n : ℕ). take n (drop a xs)) (sym (length-drop-sub a xs)) ∙ take-length (drop a xs)
    where
      length-drop-sub : (a : ℕ) (xs : List A) → length (drop a xs) ≡ length xs - a
      length-drop-sub a xs = let l = length-drop a xs in omega arith

-- a line ends n bytes behind a place
pub line_first : (text : List ℕ) (at n : ℕ) → n ≡ first_at 10 (drop at text) → n < length (drop at text)
    → parts 10 (drop at text) ≡ in_front (slice at (at + n) text) (parts 10 (drop (at + n + 1) text))
line_first text at n e k =
    let g : at + suc n ≡ at + n + 1 = omega arith in
    parts_first 10 (drop at text) (rw (← e) k)
    ∙ rw (← e, take-slice n at text, drop-drop (suc n) at text, g)

-- no line feed is left
pub line-unended : (text : List ℕ) (at : ℕ) → at < length text → first_at 10 (drop at text) ≡ length (drop at text) → parts 10 (drop at text) ≡ none
line-unended text at h e = let l = length-drop at text in parts-unended 10 (drop at text) (omega arith) (omega arith)

-- ---- parts of a line with one more end behind it

first-append : (stop : ℕ) (xs : List ℕ) → first_at stop (xs ++ stop ∷ []) ≡ first_at stop xs
first-append stop [] = first-here stop stop [] refl
first-append stop (b ∷ bs) = go (eqb b stop) refl (first-append stop bs)
  where
    go : (x : Bool) → eqb b stop ≡ x → first_at stop (bs ++ stop ∷ []) ≡ first_at stop bs → first_at stop (b ∷ (bs ++ stop ∷ [])) ≡ first_at stop (b ∷ bs)
    go true e ih = rw (e, position)
    go false e ih = rw (e, position) (ap suc ih)

-- what is left of a line from place `at` on, with one more `stop` behind it
abbrev pub left_of : ℕ → List ℕ → ℕ → List ℕ
left_of stop line at = drop at (line ++ stop ∷ [])

module _ (stop : ℕ) (line : List ℕ) where
  pub left-none : left_of stop line (length line + 1) ≡ []
  left-none =
      let a = length-append line (stop ∷ []) in
      drop_of_length-le (line ++ stop ∷ []) {i = length line + 1} (omega arith)

  pub left-some : (at : ℕ) → at ≤ length line → 0 < length (left_of stop line at)
  left-some at h =
      let a = length-append line (stop ∷ []) in
      let d = length-drop at (line ++ stop ∷ []) in
      omega arith

  pub field-first : (at n : ℕ) → at ≤ length line → n ≡ first_at stop (drop at line)
      → parts stop (left_of stop line at) ≡ in_front (take n (drop at line)) (parts stop (left_of stop line (at + n + 1)))
  field-first at n h e =
      let s : List ℕ = drop at line in
      let q : left_of stop line at ≡ s ++ stop ∷ [] = drop-append-le at line (stop ∷ []) h in
      let m : first_at stop s ≤ length s = first-most stop s in
      let fa : first_at stop (left_of stop line at) ≡ n = ap (first_at stop) q ∙ first-append stop s ∙ sym e in
      let la : length (left_of stop line at) ≡ length s + 1 = ap length q ∙ length-append s (stop ∷ []) in
      let ta : take n (left_of stop line at) ≡ take n s = ap (take n) q ∙ take-append-le n s (stop ∷ []) (omega arith) in
      let g : at + suc n ≡ at + n + 1 = omega arith in
      let da : drop (suc n) (left_of stop line at) ≡ left_of stop line (at + n + 1) = drop-drop (suc n) at (line ++ stop ∷ []) ∙ ap (left_of stop line) g in
      let p = parts_first stop (left_of stop line at) (omega arith) in
      let p' : parts stop (left_of stop line at) ≡ in_front (take n (left_of stop line at)) (parts stop (drop (suc n) (left_of stop line at))) = rw fa at p in
      p' ∙ ap (λ (x : List ℕ). in_front x (parts stop (drop (suc n) (left_of stop line at)))) ta ∙ ap (λ (x : List ℕ). in_front (take n s) (parts stop x)) da
