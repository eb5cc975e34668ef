-- The lines printed as the pieces that the writers make, and how long a line is at most.
use Rattle.std.specs.Prelude.{◌≡◌, ℕ, ◌+◌, ◌<◌, ◌≤◌, length, Float}
use Rattle.std.proofs.Common.{ap, arith, length-append, List, [], ◌∷◌, ◌++◌, append_assoc}
use Rattle.std.specs.Float.{binary64}
use Rattle.std.specs.Float.Ieee.{to_bits}
use Rattle.definition.specs.Text.{decimal, hexadecimal, path_line, first_line, refused_line, paths_word, pushes_word, refused_word}
use Rattle.paths_output.specs.Written.{Begun, begin}
use Rattle.paths_output.specs.Digits.{decimal-most, length-hexadecimal}

-- a number and the byte behind it
abbrev pub numbered : ℕ → ℕ → List ℕ
numbered n stop = decimal n ++ stop ∷ []

-- ---- the line of a path

module _ (score : Float) (closing edges : ℕ) (bases : List ℕ) where
  abbrev pub after_rank : List ℕ
  after_rank =
      hexadecimal 16 (to_bits binary64 score)
      ++ ((32 ∷ []) ++ (numbered closing 32 ++ (numbered edges 32 ++ (bases ++ 10 ∷ []))))

  path-pieces : (rank : ℕ) → numbered rank 32 ++ after_rank ≡ path_line rank score closing edges bases
  unfolding path_line
  path-pieces rank = simp append_assoc

  pub path-begin : (rank : ℕ) (old : List ℕ) (at : ℕ) → at + length (path_line rank score closing edges bases) ≤ length old
      → Begun old old at at (path_line rank score closing edges bases) (numbered rank 32 ++ after_rank)
  path-begin rank old at h = let e = path-pieces rank in rw e (begin old at (path_line rank score closing edges bases) h)

-- ---- the other lines

pub refused-begin : (n : ℕ) (old : List ℕ) (at : ℕ) → at + length (refused_line n) ≤ length old
    → Begun old old at at (refused_line n) (refused_word ++ numbered n 10)
unfolding refused_line
refused-begin n old at h = begin old at (refused_line n) h

pub first-begin : (paths pushes : ℕ) (old : List ℕ) (at : ℕ) → at + length (first_line paths pushes) ≤ length old
    → Begun old old at at (first_line paths pushes) (paths_word ++ (decimal paths ++ (pushes_word ++ numbered pushes 10)))
unfolding first_line
first-begin paths pushes old at h = begin old at (first_line paths pushes) h

-- ---- lengths

pub refused-most : (n : ℕ) → n < 4294967296 → length (refused_line n) ≤ 19
unfolding refused_line
refused-most n h =
    let a = length-append refused_word (numbered n 10) in
    let b = length-append (decimal n) (10 ∷ []) in
    let c = decimal-most n h in
    omega arith

pub first-most : (paths pushes : ℕ) → paths < 4294967296 → pushes < 4294967296 → length (first_line paths pushes) ≤ 35
unfolding first_line
first-most paths pushes h k =
    let a = length-append paths_word (decimal paths ++ (pushes_word ++ numbered pushes 10)) in
    let b = length-append (decimal paths) (pushes_word ++ numbered pushes 10) in
    let c = length-append pushes_word (numbered pushes 10) in
    let d = length-append (decimal pushes) (10 ∷ []) in
    let e = decimal-most paths h in
    let f = decimal-most pushes k in
    omega arith

pub path-most : (rank : ℕ) (score : Float) (closing edges : ℕ) (bases : List ℕ) → rank < 4294967296 → closing < 4294967296 → edges < 4294967296
    → length (path_line rank score closing edges bases) ≤ 51 + length bases
path-most rank score closing edges bases h k l =
    let hex : List ℕ = hexadecimal 16 (to_bits binary64 score) in
    let r4 : List ℕ = bases ++ 10 ∷ [] in
    let r3 : List ℕ = numbered edges 32 ++ r4 in
    let r2 : List ℕ = numbered closing 32 ++ r3 in
    let z = ap length (path-pieces score closing edges bases rank) in
    let a = length-append (numbered rank 32) (after_rank score closing edges bases) in
    let a' = length-append (decimal rank) (32 ∷ []) in
    let b = length-append hex ((32 ∷ []) ++ r2) in
    let b' = length-hexadecimal 16 (to_bits binary64 score) in
    let c = length-append (numbered closing 32) r3 in
    let c' = length-append (decimal closing) (32 ∷ []) in
    let d = length-append (numbered edges 32) r4 in
    let d' = length-append (decimal edges) (32 ∷ []) in
    let e = length-append bases (10 ∷ []) in
    let f = decimal-most rank h in
    let g = decimal-most closing k in
    let i = decimal-most edges l in
    omega arith
