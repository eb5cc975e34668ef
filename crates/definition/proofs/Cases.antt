-- "Potatoes on paper": the twelve worked cases as one table and one theorem. Everything is computed from the definitions.
use mathlib.Core.Path.{◌≡◌, refl}
use mathlib.Core.List.{List, [], ◌∷◌, map}
use lib.IntN.{pos}
use lib.Ieee.{fin}
use mathlib.Core.Bool.{false}
use Rattle.definition.specs.Limits.{Input, float_zero}
use Rattle.definition.proofs.Examples.{A, C, G, T, seq_r, seq_a, column, room, allowance, sample, sample_with, ask, asking, recovering, within, over, minus_one, listing, score_bits, tree_of, supports_of, no, paths, numbers, reply, Case, asks, path, edge}

-- the inputs of the cases; a threshold that 01 leaves open is 3, the Rust's own
abbrev case1 : Input
case1 = ask (sample 3 (A ∷ C ∷ G ∷ T ∷ A ∷ []) []) 3

abbrev case5 : Input
case5 = ask (sample 3 seq_r (seq_a ∷ [])) 2

abbrev case6 : Input
case6 = ask (sample 3 seq_r (seq_a ∷ seq_r ∷ [])) 5

abbrev case7 : Input
case7 = ask (sample 3 seq_r (seq_a ∷ seq_r ∷ [])) 4

abbrev case12 : Input
case12 = ask (sample_with 3 seq_r (seq_a ∷ []) (40 ∷ 40 ∷ 40 ∷ 2 ∷ 40 ∷ 40 ∷ 40 ∷ [])) 3

pub table : List Case
table =
    -- 1. "ACGTA, no reads: ACGTA, score 0, 2 pushes."
    asks (listing case1) (paths (path float_zero 1 2 (A ∷ C ∷ G ∷ T ∷ A ∷ []) ∷ []) 2)
    -- 2. "ACG: ACG, no edges, 2 pushes."
    ∷ asks (listing (ask (sample 3 (A ∷ C ∷ G ∷ []) []) 3)) (paths (path float_zero 1 0 (A ∷ C ∷ G ∷ []) ∷ []) 2)
    -- 3. "Case 1, pushes 1: 12."
    ∷ asks (listing (within (room 128 256 256) (allowance 128 8 1) case1)) (no 12)
    -- 4. "Case 1, paths 0: empty, 0 pushes."
    ∷ asks (listing (asking 0 case1)) (paths [] 0)
    -- 5. "R, A, threshold 2: CAAGTGG only, score 0, 4 pushes; tree at 0: root 2, (0,5) 2, symbolic below 1."
    ∷ asks (listing case5) (paths (path float_zero 1 4 seq_a ∷ []) 4)
    ∷ asks (tree_of 0 case5) (numbers (0 ∷ 0 ∷ 2 ∷ 0 ∷ 0 ∷ 5 ∷ 2 ∷ 1 ∷ 4 ∷ 8 ∷ 1 ∷ 2 ∷ []))
    -- 6. "R, A, B, threshold 5: listing below": closings 2 and 1, 4 edges each, score bits bff0000000000000
    ∷ asks (listing case6) (paths (path minus_one 2 4 seq_a ∷ path minus_one 1 4 seq_r ∷ []) 7)
    ∷ asks (score_bits case6) (numbers (0xbff0000000000000 ∷ 0xbff0000000000000 ∷ []))
    -- 7. "Same, threshold 4: CAAGTGG only, score -1, 4 pushes."
    ∷ asks (listing case7) (paths (path minus_one 1 4 seq_a ∷ []) 4)
    -- 8. "Case 7 with recovery: same."
    ∷ asks (listing (recovering case7)) (paths (path minus_one 1 4 seq_a ∷ []) 4)
    -- 9. "k 1: 1."
    ∷ asks (listing (ask (sample 1 (A ∷ C ∷ G ∷ T ∷ A ∷ []) []) 3)) (no 1)
    -- 10. "Reference CA: 2."
    ∷ asks (listing (ask (sample 3 (C ∷ A ∷ []) []) 3)) (no 2)
    -- 11. "Place 2 holds 17: 6."
    ∷ asks (listing (over (column (fin false 17 (pos 0))) case1)) (no 6)
    -- 12. "R, A with quality 2 at its fourth base: CAACTGG only, 2 pushes; edges (2,3) and (3,4) have support 2."
    ∷ asks (listing case12) (paths (path float_zero 1 4 seq_r ∷ []) 2)
    ∷ asks (supports_of (edge 2 3 ∷ edge 3 4 ∷ []) case12) (numbers (2 ∷ 2 ∷ []))
    ∷ []

-- every question of the table is answered as 01 says
pub cases : map (λ (c : Case). reply c.question) table ≡ map (λ (c : Case). c.expected) table
unfolding table reply
cases = refl
