-- What a slice is seen to hold, by the numbers that its elements are told by. Assumes nothing.
use Rattle.std.specs.Prelude.{◌≡◌, List, ℕ, ◌≤◌, ◌<◌, ◌+◌, ◌-◌, length, take, drop, get_or}
use Rattle.std.proofs.Common.{ap, sym, ◌∙◌, arith, length-take, length-drop, take_all, get_or-take, get_or-drop}
use Rattle.std.proofs.lemmas.List.{get_or_default}
use Rattle.std.proofs.Math.Decide.{ℕ_discrete}
use Rattle.std.proofs.Math.Seq.{ext_get_or}

module _ {A : Type 0} (shown : A → ℕ) where
  -- Every element is told by v.
  abbrev pub All : List A → ℕ → Type 0
  All xs v = (i : ℕ) (d : A) → i < length xs → shown (get_or xs i d) ≡ v

  -- The first n elements are told by v: those that a loop has passed.
  abbrev pub First : List A → ℕ → ℕ → Type 0
  First xs n v = (i : ℕ) (d : A) → i < n → i < length xs → shown (get_or xs i d) ≡ v

  pub first-none : (xs : List A) (v : ℕ) → First xs 0 v
  first-none xs v i d a b = absurd (omega arith)

  pub first-more : (xs : List A) (n v : ℕ) (x : A) → n < length xs → x ≡ get_or xs n x → shown x ≡ v → First xs n v → First xs (n + 1) v
  first-more xs n v x l q h f i d a b = go (ℕ_discrete i n)
    where
      go : Dec (i ≡ n) → shown (get_or xs i d) ≡ v
      go (yes e) = rw e (ap shown (get_or_default xs n d x l ∙ sym q) ∙ h)
      go (no e) = f i d (omega arith) b

  pub first-all : (xs : List A) (n v : ℕ) → length xs ≤ n → First xs n v → All xs v
  first-all xs n v l f i d h = f i d (omega arith) h

  -- As many elements as numbers, each told by the number in its place.
  pub record Same (xs : List A) (told : List ℕ) : Type 0 where
    pub many : length xs ≡ length told
    pub each : (i : ℕ) (d : A) → i < length told → shown (get_or xs i d) ≡ get_or told i 0

  -- The rows stand first, and every element behind them is told by v.
  pub record Written (xs : List A) (rows : List ℕ) (v : ℕ) : Type 0 where
    pub starts : Same (take (length rows) xs) rows
    pub rest : (i : ℕ) (d : A) → length rows ≤ i → i < length xs → shown (get_or xs i d) ≡ v

  -- The first n elements are told by u, and every other by v.
  pub record Left (xs : List A) (n u v : ℕ) : Type 0 where
    pub used : (i : ℕ) (d : A) → i < n → i < length xs → shown (get_or xs i d) ≡ u
    pub rest : (i : ℕ) (d : A) → n ≤ i → i < length xs → shown (get_or xs i d) ≡ v

  -- Every element from the place n on is told by v.
  pub record Untouched (xs : List A) (n v : ℕ) : Type 0 where
    pub rest : (i : ℕ) (d : A) → n ≤ i → i < length xs → shown (get_or xs i d) ≡ v

  -- A part from 0 to n is written by the code as `take (n - 0)`, and one from n on as `take (length xs - n) (drop n xs)`.
  all-behind : (xs : List A) (n v : ℕ) → All (take (length xs - n) (drop n xs)) v → (i : ℕ) (d : A) → n ≤ i → i < length xs → shown (get_or xs i d) ≡ v
  all-behind xs n v h i d b l =
      let e : n + (i - n) ≡ i = omega arith in
      let f : length (drop n xs) ≤ length xs - n = simp length-drop (omega arith) in
      let a : All (drop n xs) v = rw (take_all (length xs - n) (drop n xs) f) at h in
      let k : i - n < length (drop n xs) = simp length-drop (omega arith) in
      ap (λ (j : ℕ). shown (get_or xs j d)) (sym e) ∙ ap shown (sym (get_or-drop n xs (i - n) d)) ∙ a (i - n) d k

  all_first : (xs : List A) (n v : ℕ) → All (take (n - 0) xs) v → (i : ℕ) (d : A) → i < n → i < length xs → shown (get_or xs i d) ≡ v
  all_first xs n v h i d b l =
      let k : i < n - 0 = omega arith in
      ap shown (sym (get_or-take (n - 0) xs i d k)) ∙ h i d (simp length-take (omega arith))

  pub written_is : (xs : List A) (rows : List ℕ) (v : ℕ) → Same (take (length rows - 0) xs) rows → Untouched xs (length rows) v → Written xs rows v
  written_is xs rows v s h =
      let e : length rows - 0 ≡ length rows = omega arith in
      record { starts = rw e at s; rest = h.rest }

  pub left_is : (xs : List A) (n u v : ℕ) → All (take (n - 0) xs) u → Untouched xs n v → Left xs n u v
  left_is xs n u v s h = record { used = all_first xs n u s; rest = h.rest }

  pub untouched-is : (xs : List A) (n v : ℕ) → All (take (length xs - n) (drop n xs)) v → Untouched xs n v
  untouched-is xs n v h = record { rest = all-behind xs n v h }

-- Numbers that are told by themselves are the numbers told.
pub same-is : (xs told : List ℕ) → Same (λ x. x) xs told → xs ≡ told
same-is xs told s = ext_get_or 0 xs told s.many (λ i h. s.each i 0 (let m = s.many in omega arith))

pub written-starts : (xs rows : List ℕ) (v : ℕ) → Written (λ x. x) xs rows v → take (length rows) xs ≡ rows
written-starts xs rows v w = same-is (take (length rows) xs) rows w.starts
