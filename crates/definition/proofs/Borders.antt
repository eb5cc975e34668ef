-- Beside the paper's cases: refusals at their borders, and the places where 01 leaves a choice (docs/DECISIONS.md, by the number of the reading).
use mathlib.Core.Path.{◌≡◌, refl}
use Prim.Native.Nat.{ℕ}
use mathlib.Core.List.{List, [], ◌∷◌, map}
use mathlib.Core.Bool.{true, false}
use lib.IntN.{pos, negsuc}
use lib.ListN.{replicate}
use lib.Ieee.{Float, fin, nan}
use Rattle.definition.specs.Refusal.{open_refusal}
use Rattle.definition.specs.Limits.{Input, float_zero}
use Rattle.definition.specs.Calls.{workspace_after, open_calls}
use Rattle.definition.proofs.Examples.{A, C, G, T, seq_r, seq_a, one, minus_one, column, room, allowance, sample, ask, asking, recovering, within, over, listing, lending, first_origins, longest, edge_rows, origin, no, paths, numbers, reply, Case, asks, path, edge}

abbrev acgta : List ℕ
acgta = A ∷ C ∷ G ∷ T ∷ A ∷ []

abbrev case1 : Input
case1 = ask (sample 3 acgta []) 3

abbrev case5 : Input
case5 = ask (sample 3 seq_r (seq_a ∷ [])) 2

abbrev case6 : Input
case6 = ask (sample 3 seq_r (seq_a ∷ seq_r ∷ [])) 5

-- AAA with the read AA, k 2: the vertex AA forks into itself and the symbolic vertex, and the repeat rule drops the first
abbrev ring : Input
ring = ask (sample 2 (A ∷ A ∷ A ∷ []) ((A ∷ A ∷ []) ∷ [])) 1

-- the reference GCAACTGG with two reads of the other branch and one of its own; the column goes on 0, 0, 1, 1.5, 2, 2.25, 2.5
abbrev split : Input
split =
    over (float_zero ∷ float_zero ∷ one ∷ fin false 3 (negsuc 0) ∷ fin false 1 (pos 1) ∷ fin false 9 (negsuc 1) ∷ fin false 5 (negsuc 0) ∷ [])
    (ask (sample 3 (G ∷ seq_r) ((G ∷ seq_a) ∷ (G ∷ seq_a) ∷ (G ∷ seq_r) ∷ [])) 4)

abbrev minus_half : Float
minus_half = fin true 1 (negsuc 0)

-- R with reads of the byte X, which no rule accepts as usable: the ends, the number of bases and that of qualities
abbrev reads : List ℕ → ℕ → ℕ → Input
reads ends bases qualities =
    ask (record { k = 3; quality = 10; reference = seq_r; ends = ends; bases = replicate bases 88; qualities = replicate qualities 40 }) 3

pub table : List Case
table =
    -- Reading 1: 3 kmers and the symbolic vertex, 2 edges and the symbolic edge; 8 is met one below
    asks (listing (within (room 4 3 1) (allowance 3 1 128) case1)) (paths (path float_zero 1 2 acgta ∷ []) 2)
    ∷ asks (listing (within (room 3 3 1) (allowance 3 1 128) case1)) (no 8)
    ∷ asks (listing (within (room 4 2 1) (allowance 3 1 128) case1)) (no 8)
    -- the five tree nodes of case 5; 9 is met one below, and 8 comes before 9
    ∷ asks (listing (within (room 9 9 5) (allowance 5 2 128) case5)) (paths (path float_zero 1 4 seq_a ∷ []) 4)
    ∷ asks (listing (within (room 9 9 4) (allowance 5 2 128) case5)) (no 9)
    ∷ asks (listing (within (room 8 9 4) (allowance 5 2 128) case5)) (no 8)
    -- Reading 2: 10 is met where a penalty is computed. TTTG, column of two places: no extension uses the total, the list is empty
    ∷ asks (listing (over (float_zero ∷ float_zero ∷ []) (ask (sample 2 (T ∷ T ∷ T ∷ G ∷ []) []) 3))) (paths [] 1)
    -- the total 4 of case 6 has no place in a column of four places
    ∷ asks (listing (over (float_zero ∷ float_zero ∷ one ∷ fin false 3 (negsuc 0) ∷ []) case6)) (no 10)
    -- an extension that the repeat rule then drops meets 10 too
    ∷ asks (listing (over (float_zero ∷ float_zero ∷ []) ring)) (no 10)
    ∷ asks (listing ring) (paths (path float_zero 1 0 (A ∷ A ∷ []) ∷ []) 1)
    -- one extension that meets 10 and 11 is 10: the fork behind GCA makes paths of 2 edges
    ∷ asks (listing (within (room 128 256 256) (allowance 1 8 128) (over (float_zero ∷ float_zero ∷ []) split))) (no 10)
    ∷ asks (listing (within (room 128 256 256) (allowance 1 8 128) split)) (no 11)
    -- Reading 3: such an extension meets 11 too; so does the symbolic edge of case 1, whose path has 3 edges with it
    ∷ asks (listing (within (room 128 256 256) (allowance 1 8 128) (ask (sample 2 (A ∷ C ∷ C ∷ C ∷ C ∷ []) []) 3))) (no 11)
    ∷ asks (listing (within (room 4 3 1) (allowance 2 1 128) case1)) (no 11)
    -- Reading 4: 11 is met when a tree joins, though the next edge would drop it
    ∷ asks (listing (within (room 128 256 256) (allowance 128 1 128) (ask (sample 2 (T ∷ C ∷ G ∷ []) ((T ∷ C ∷ C ∷ G ∷ []) ∷ [])) 8))) (no 11)
    ∷ asks (listing (within (room 9 9 5) (allowance 5 1 128) case5)) (no 11)
    -- Reading 6: the path that makes the last closing is still extended, and its push counts
    ∷ asks (listing (asking 1 case1)) (paths (path float_zero 1 2 acgta ∷ []) 2)
    ∷ asks (listing (asking 1 (within (room 128 256 256) (allowance 128 8 1) case1))) (no 12)
    -- 12 exactly beyond the maximum: case 6 has 7 pushes
    ∷ asks (listing (within (room 128 256 256) (allowance 128 8 7) case6)) (paths (path minus_one 2 4 seq_a ∷ path minus_one 1 4 seq_r ∷ []) 7)
    ∷ asks (listing (within (room 128 256 256) (allowance 128 8 6) case6)) (no 12)
    -- fewer paths asked: the first closing alone, not the first row
    ∷ asks (listing (asking 1 case6)) (paths (path minus_one 1 4 seq_r ∷ []) 6)
    -- Reading 7: with no path asked 8 and 9 still apply, and 12 does not
    ∷ asks (listing (asking 0 (within (room 3 3 1) (allowance 3 1 128) case1))) (no 8)
    ∷ asks (listing (asking 0 (within (room 9 9 4) (allowance 5 2 128) case5))) (no 9)
    ∷ asks (listing (asking 0 (within (room 128 256 256) (allowance 128 8 1) case6))) (paths [] 0)
    -- Reading 8: place 0 may be anything, and place 1 may be -0
    ∷ asks (listing (over (nan ∷ fin true 0 (pos 0) ∷ []) case1)) (paths (path float_zero 1 2 acgta ∷ []) 2)
    ∷ asks (listing (over (float_zero ∷ []) case1)) (no 6)
    ∷ asks (listing (over (float_zero ∷ float_zero ∷ nan ∷ []) case1)) (no 6)
    ∷ asks (listing (over (column (fin true 1 (pos 0))) case1)) (no 6)
    -- limits at their borders
    ∷ asks (listing (asking 129 case1)) (no 5)
    ∷ asks (listing (within (room 1 3 1) (allowance 3 1 128) case1)) (no 5)
    ∷ asks (listing (within (room 4 3 1) (allowance 3 65 128) case1)) (no 5)
    ∷ asks (listing (ask (sample 3 (A ∷ C ∷ 88 ∷ T ∷ []) []) 3)) (no 3)
    -- 4: ends that fall, a last end that is not the base count, no read but a base, qualities that differ in length
    ∷ asks (listing (reads (5 ∷ 4 ∷ 7 ∷ []) 7 7)) (no 4)
    ∷ asks (listing (reads (6 ∷ []) 7 7)) (no 4)
    ∷ asks (listing (reads [] 1 1)) (no 4)
    ∷ asks (listing (reads (7 ∷ []) 7 6)) (no 4)
    ∷ asks (listing (reads (7 ∷ []) 7 7)) (paths (path float_zero 1 4 seq_r ∷ []) 2)
    -- 7: a lent slice shorter than told, and one just as long
    ∷ asks (lending 9 8 case1) (no 7)
    ∷ asks (lending 9 9 case1) (paths (path float_zero 1 2 acgta ∷ []) 2)
    -- the origins of case 6's first row, CAAGTGG: read 1 made its four edges, at places 0 to 3; the flag is false
    ∷ asks (first_origins case6) (numbers (0 ∷ 1 ∷ 0 ∷ 1 ∷ 1 ∷ 1 ∷ 2 ∷ 1 ∷ 3 ∷ []))
    -- "reads in order": of two equal reads the first is the origin
    ∷ asks (first_origins (ask (sample 3 seq_r (seq_a ∷ seq_a ∷ [])) 2)) (numbers (0 ∷ 1 ∷ 0 ∷ 1 ∷ 1 ∷ 1 ∷ 2 ∷ 1 ∷ 3 ∷ []))
    -- the row of case 5's symbolic edge: support 0, marked reference, its origin the place of the reference's last kmer
    ∷ asks (edge_rows (edge 4 8 ∷ []) case5) (numbers (4 ∷ 8 ∷ 0 ∷ 1 ∷ 0 ∷ 4 ∷ []))
    -- Reading 10: the symbolic edge's origin answers 13; so does a read that is not there, and a place whose k + 1 bytes do not fit
    ∷ asks (origin 0 4 case5) (no 13)
    ∷ asks (origin 2 0 case5) (no 13)
    ∷ asks (origin 1 4 case5) (no 13)
    ∷ asks (origin 1 3 case5) (numbers (G ∷ T ∷ G ∷ G ∷ []))
    ∷ asks (origin 0 0 case5) (numbers (C ∷ A ∷ A ∷ C ∷ []))
    -- Reading 11: an empty read counts in the read numbers
    ∷ asks (origin 2 0 (ask (sample 3 seq_r ([] ∷ seq_a ∷ [])) 2)) (numbers (C ∷ A ∷ A ∷ G ∷ []))
    -- "A tree's branch whose edge does not leave the fork's vertex is passed over": at the sink CG the tree of AC offers AC's branch to CT, and closes the fork
    ∷ asks (listing (ask (sample 2 (A ∷ C ∷ G ∷ []) ((A ∷ C ∷ G ∷ A ∷ C ∷ T ∷ []) ∷ [])) 1)) (paths [] 2)
    -- below the threshold it is not yielded either, and at it a tree with no branch left still closes the fork
    ∷ asks (listing (ask (sample 2 (C ∷ A ∷ G ∷ A ∷ []) ((G ∷ A ∷ G ∷ G ∷ []) ∷ [])) 4)) (paths (path minus_half 1 2 (C ∷ A ∷ G ∷ A ∷ []) ∷ []) 3)
    ∷ asks (listing (ask (sample 2 (A ∷ C ∷ A ∷ []) ((C ∷ A ∷ A ∷ A ∷ C ∷ []) ∷ [])) 2)) (paths [] 1)
    -- "Every extension walks the active trees by its last edge, single edges included": a tree that fell away no longer keeps AACAC from closing
    ∷ asks (listing (ask (sample 2 (A ∷ A ∷ C ∷ []) ((A ∷ C ∷ A ∷ C ∷ C ∷ []) ∷ [])) 1)) (paths (path minus_half 1 3 (A ∷ A ∷ C ∷ A ∷ C ∷ []) ∷ []) 4)
    -- "an edge once", where two trees below the threshold have a branch of it
    ∷ asks (listing (ask (sample 2 (A ∷ C ∷ G ∷ []) ((C ∷ A ∷ C ∷ A ∷ G ∷ []) ∷ [])) 4)) (paths [] 6)
    -- "Active trees come in the order they joined": the first of two at the threshold closes the fork
    ∷ asks (listing (ask (sample 2 (C ∷ A ∷ A ∷ []) ((A ∷ C ∷ A ∷ C ∷ C ∷ []) ∷ [])) 1)) (paths [] 3)
    -- Reading 12: a tree without a branch ends a chain but never joins
    ∷ asks (listing (ask (sample 3 (C ∷ A ∷ A ∷ C ∷ T ∷ G ∷ G ∷ A ∷ []) (seq_a ∷ [])) 2)) (paths (path float_zero 1 5 (C ∷ A ∷ A ∷ G ∷ T ∷ G ∷ G ∷ A ∷ []) ∷ []) 4)
    -- Reading 13: source and sink may be one vertex
    ∷ asks (listing (ask (sample 3 (A ∷ A ∷ A ∷ A ∷ []) []) 3)) (paths (path float_zero 1 0 (A ∷ A ∷ A ∷ []) ∷ []) 1)
    -- Reading 19, "Numbers that slid": ACA with the reads AA and ACCA, threshold 1
    ∷ asks (listing (ask (sample 2 (A ∷ C ∷ A ∷ []) ((A ∷ A ∷ []) ∷ (A ∷ C ∷ C ∷ A ∷ []) ∷ [])) 1)) (paths (path float_zero 1 2 (A ∷ C ∷ C ∷ A ∷ []) ∷ []) 4)
    -- A recovered path keeps the whole score of the path it was split from, -0.5, and closes after it: of CAA's branches AAG has count 4 and AAC 2
    ∷ asks (listing (recovering split)) (paths (path minus_half 1 5 (G ∷ seq_a) ∷ path minus_half 2 5 (G ∷ seq_r) ∷ []) 7)
    ∷ asks (listing split) (paths (path minus_half 1 5 (G ∷ seq_a) ∷ []) 4)
    -- the waiting list of case 6 is never longer than 2
    ∷ asks (longest case6) (numbers (2 ∷ []))
    ∷ []

pub borders : map (λ (c : Case). reply c.question) table ≡ map (λ (c : Case). c.expected) table
unfolding table reply
borders = refl

-- ---- "Workspace after"

-- three sevens, of which two are told, after each number: "unchanged" after 1 to 7, and "zero" after 8 to 12 and after acceptance
abbrev after : ℕ → List ℕ
after n = workspace_after 0 n 2 (7 ∷ 7 ∷ 7 ∷ [])

abbrev kept : List ℕ
kept = 7 ∷ 7 ∷ 7 ∷ []

abbrev zeroed : List ℕ
zeroed = 0 ∷ 0 ∷ 7 ∷ []

pub workspaces : map after (0 ∷ 1 ∷ 2 ∷ 3 ∷ 4 ∷ 5 ∷ 6 ∷ 7 ∷ 8 ∷ 9 ∷ 10 ∷ 11 ∷ 12 ∷ [])
    ≡ zeroed ∷ kept ∷ kept ∷ kept ∷ kept ∷ kept ∷ kept ∷ kept ∷ zeroed ∷ zeroed ∷ zeroed ∷ zeroed ∷ zeroed ∷ []
unfolding open_refusal open_calls
workspaces = refl
