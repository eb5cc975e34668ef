-- "Limits and calls": what is handed in, its limits, and refusals 1 to 7 in the table's order. Each call checks only what it is given.
use Rattle.std.specs.Prelude.{ℕ, ◌+◌, ◌*◌, Bool, true, false, ◌&&◌, ◌||◌, List, [], ◌∷◌, ◌++◌, ℤ, pos, leb, eqb, length, drop, get_or, Float}
use Rattle.std.specs.Float.{nan, inf, fin}
use Rattle.std.specs.Float.Ieee.{eq, le}
use Rattle.laws.specs.Lists.{all, last_or}
use Rattle.laws.specs.Numbers.{within}
use Rattle.definition.specs.Refusal.{Rule}

-- ---- what is handed in

-- What is threaded. Reads lie one after the other in `bases`, with one quality for each base; read i ends, exclusive, at `ends` i.
-- `quality` is the minimum quality.
pub record Sample : Type 0 where
  pub k : ℕ
  pub quality : ℕ
  pub reference : List ℕ
  pub ends : List ℕ
  pub bases : List ℕ
  pub qualities : List ℕ

-- the caller's maxima for the graph and its trees; the symbolic vertex and edge count, and so do the roots
pub record GraphMaxima : Type 0 where
  pub vertices : ℕ
  pub edges : ℕ
  pub nodes : ℕ

-- the caller's maxima for the search: edges in a path, active trees in a path, pushes
pub record SearchMaxima : Type 0 where
  pub path_edges : ℕ
  pub active : ℕ
  pub pushes : ℕ

-- all that the call for the list is given, but for its slices
pub record Input : Type 0 where
  pub sample : Sample
  pub asked : ℕ
  pub threshold : ℤ
  pub recovery : Bool
  pub graph_maxima : GraphMaxima
  pub search_maxima : SearchMaxima
  pub column : List Float

-- ---- 1: k 2 to 128

unfoldable pub k_fits : ℕ → Bool
k_fits k = within 2 128 k

-- ---- 2 and 3: reference k to 1,024 bases, of A, C, G, T or N

unfoldable pub reference_fits : ℕ → List ℕ → Bool
reference_fits k reference = within k 1024 (length reference)

unfoldable pub is_base : ℕ → Bool
is_base b = eqb b 65 || eqb b 67 || eqb b 71 || eqb b 84 || eqb b 78

unfoldable pub reference_bases : List ℕ → Bool
reference_bases reference = all is_base reference

-- ---- 4: up to 512 reads and 32,768 read bases, which the read ends divide

-- no number is below the one before it, n before the first
unfoldable pub rising : ℕ → List ℕ → Bool
rising n [] = true
rising n (e ∷ es) = leb n e && rising e es

-- the ends do not fall, the last one (0 without reads) is the base count, and neither reads nor bases are too many
unfoldable pub ends_fit : List ℕ → List ℕ → Bool
ends_fit ends bases = rising 0 ends && eqb (last_or 0 ends) (length bases) && leb (length ends) 512 && leb (length bases) 32768

unfoldable pub reads_fit : Sample → Bool
reads_fit s = ends_fit s.ends s.bases && eqb (length s.qualities) (length s.bases)

-- ---- 5: paths asked 0 to 128, and the maxima

unfoldable pub graph_maxima_fit : GraphMaxima → Bool
graph_maxima_fit m = within 2 4096 m.vertices && within 1 8192 m.edges && within 1 16384 m.nodes

unfoldable pub search_maxima_fit : SearchMaxima → Bool
search_maxima_fit m = within 1 4096 m.path_edges && within 1 64 m.active && within 1 32768 m.pushes

unfoldable pub settings_fit : ℕ → GraphMaxima → SearchMaxima → Bool
settings_fit asked g s = leb asked 128 && graph_maxima_fit g && search_maxima_fit s

-- ---- 6: the logarithm column

unfoldable pub is_finite : Float → Bool
is_finite nan = false
is_finite (inf s) = false
is_finite (fin s m e) = true

abbrev pub float_zero : Float
float_zero = fin false 0 (pos 0)

abbrev pub sixteen : Float
sixteen = fin false 1 (pos 4)

-- entries are finite, never fall, x before the first, and do not exceed 16
unfoldable pub climbing : Float → List Float → Bool
climbing x [] = true
climbing x (y ∷ ys) = is_finite y && le x y && le y sixteen && climbing y ys

-- 2 to 65,536 long; place 0 is not read; place 1 is zero, of either sign
unfoldable pub column_fits : List Float → Bool
column_fits c = within 2 65536 (length c) && eq (get_or c 1 nan) float_zero && climbing float_zero (drop 1 c)

-- ---- 7: each lent slice is at least as long as told

unfoldable pub is_long_enough : List ℕ → List ℕ → Bool
is_long_enough [] lent = true
is_long_enough (n ∷ ns) [] = false
is_long_enough (n ∷ ns) (l ∷ ls) = leb n l && is_long_enough ns ls

-- Numbers of an edge row: from, to, support, mark, sequence, place; of a node row: from, to, count, depth.
abbrev pub edge_width : ℕ
edge_width = 6

abbrev pub node_width : ℕ
node_width = 4

unfoldable pub told_edges : GraphMaxima → ℕ
told_edges m = m.edges * edge_width

unfoldable pub told_nodes : GraphMaxima → ℕ
told_nodes m = m.nodes * node_width

-- a path's bases at full length
unfoldable pub bases_stride : ℕ → SearchMaxima → ℕ
bases_stride k m = k + m.path_edges

unfoldable pub told_bases : ℕ → ℕ → SearchMaxima → ℕ
told_bases k asked m = asked * bases_stride k m

unfoldable pub told_origins : ℕ → SearchMaxima → ℕ
told_origins asked m = asked * m.path_edges

-- What the call for the graph needs: edge rows, node rows, then its workspace, whose lengths are each program's own and so are handed in.
unfoldable pub graph_told : GraphMaxima → List ℕ → List ℕ
graph_told m workspace = told_edges m ∷ told_nodes m ∷ workspace

-- What the call for the list needs: path rows, bases, the origins' sequences and their places, then its workspace.
unfoldable pub list_told : Input → List ℕ → List ℕ
list_told i workspace =
    i.asked
    ∷ told_bases i.sample.k i.asked i.search_maxima
    ∷ told_origins i.asked i.search_maxima
    ∷ told_origins i.asked i.search_maxima
    ∷ workspace

-- ---- the rules of each call, in the table's order

abbrev rule : ℕ → Bool → Rule
rule n b = record { number = n; holds = b }

-- 1 to 4, of a call that is given no qualities
unfoldable pub origin_rules : ℕ → List ℕ → List ℕ → List ℕ → List Rule
origin_rules k reference ends bases =
    rule 1 (k_fits k) ∷ rule 2 (reference_fits k reference) ∷ rule 3 (reference_bases reference) ∷ rule 4 (ends_fit ends bases) ∷ []

unfoldable pub sample_rules : Sample → List Rule
sample_rules s =
    rule 1 (k_fits s.k) ∷ rule 2 (reference_fits s.k s.reference) ∷ rule 3 (reference_bases s.reference) ∷ rule 4 (reads_fit s) ∷ []

unfoldable pub lengths_rules : ℕ → ℕ → GraphMaxima → SearchMaxima → List Rule
lengths_rules k asked g s = rule 1 (k_fits k) ∷ rule 5 (settings_fit asked g s) ∷ []

-- `told` are the lengths told, `lent` those of the slices handed in
unfoldable pub graph_rules : Sample → GraphMaxima → List ℕ → List ℕ → List Rule
graph_rules s m told lent = sample_rules s ++ (rule 5 (graph_maxima_fit m) ∷ rule 7 (is_long_enough told lent) ∷ [])

unfoldable pub list_rules : Input → List ℕ → List ℕ → List Rule
list_rules i told lent =
    sample_rules i.sample
    ++ (rule 5 (settings_fit i.asked i.graph_maxima i.search_maxima) ∷ rule 6 (column_fits i.column) ∷ rule 7 (is_long_enough told lent) ∷ [])

-- A key: to unfold it is to unfold every definition of this file. The worked cases compute with it; a proof names only what it needs.
unfoldable pub open_limits : Unit {0}
unfolding k_fits reference_fits is_base reference_bases rising ends_fit reads_fit graph_maxima_fit search_maxima_fit settings_fit is_finite climbing column_fits is_long_enough told_edges told_nodes bases_stride told_bases told_origins graph_told list_told origin_rules sample_rules lengths_rules graph_rules list_rules
open_limits = tt
