-- Every limit of "Limits and calls" at its borders, each alone, computed from the definition.
use mathlib.Core.Path.{◌≡◌, refl}
use Prim.Native.Nat.{ℕ, suc, ◌-◌}
use mathlib.Core.Bool.{Bool, true, false}
use mathlib.Core.List.{List, [], ◌∷◌, map}
use lib.IntN.{pos, negsuc}
use lib.ListN.{replicate}
use lib.Ieee.{Float, nan, inf, fin, eq, le, lt}
use Rattle.definition.specs.Limits.{GraphMaxima, SearchMaxima, k_fits, reference_fits, is_base, ends_fit, reads_fit, graph_maxima_fit, search_maxima_fit, settings_fit, column_fits, float_zero, sixteen, open_limits}

-- ---- numbers

-- one below the least, the least, the greatest, one above it
abbrev around : (ℕ → Bool) → ℕ → ℕ → List Bool
around fits least greatest = map fits ((least - 1) ∷ least ∷ greatest ∷ suc greatest ∷ [])

-- none, the greatest, one above it
abbrev up_to : (ℕ → Bool) → ℕ → List Bool
up_to fits greatest = map fits (0 ∷ greatest ∷ suc greatest ∷ [])

-- the other maxima at their least
abbrev room : ℕ → ℕ → ℕ → GraphMaxima
room v e n = record { vertices = v; edges = e; nodes = n }

abbrev allowance : ℕ → ℕ → ℕ → SearchMaxima
allowance e a p = record { path_edges = e; active = a; pushes = p }

-- the reference of n bases, n reads without bases, and a read of n bases
abbrev referred : ℕ → Bool
referred n = reference_fits 3 (replicate n 65)

abbrev reads : ℕ → Bool
reads n = ends_fit (replicate n 0) []

abbrev bases : ℕ → Bool
bases n = ends_fit (n ∷ []) (replicate n 65)

-- "k 2 to 128; reference k to 1,024 bases"; "vertices 2 to 4,096, edges 1 to 8,192, tree nodes (roots counted) 1 to 16,384, edges in a path 1 to 4,096,
-- active trees in a path 1 to 64, pushes 1 to 32,768"; the column "2 to 65,536 long"
pub from-to : around k_fits 2 128
    ∷ around referred 3 1024
    ∷ around (λ n. graph_maxima_fit (room n 1 1)) 2 4096
    ∷ around (λ n. graph_maxima_fit (room 2 n 1)) 1 8192
    ∷ around (λ n. graph_maxima_fit (room 2 1 n)) 1 16384
    ∷ around (λ n. search_maxima_fit (allowance n 1 1)) 1 4096
    ∷ around (λ n. search_maxima_fit (allowance 1 n 1)) 1 64
    ∷ around (λ n. search_maxima_fit (allowance 1 1 n)) 1 32768
    ∷ around (λ n. column_fits (replicate n float_zero)) 2 65536
    ∷ []
    ≡ replicate 9 (false ∷ true ∷ true ∷ false ∷ [])
unfolding open_limits eq le lt
from-to = refl

-- "up to 512 reads and 32,768 read bases; paths asked 0 to 128"
pub up-to : up_to reads 512 ∷ up_to bases 32768 ∷ up_to (λ n. settings_fit n (room 2 1 1) (allowance 1 1 1)) 128 ∷ [] ≡ replicate 3 (true ∷ true ∷ false ∷ [])
unfolding open_limits eq le lt
up-to = refl

-- the maxima all at their greatest, and a setting of each kind that is refused among others that fit
pub together : settings_fit 128 (room 4096 8192 16384) (allowance 4096 64 32768)
    ∷ settings_fit 128 (room 4097 8192 16384) (allowance 4096 64 32768)
    ∷ settings_fit 128 (room 4096 8192 16384) (allowance 4096 64 32769)
    ∷ []
    ≡ true ∷ false ∷ false ∷ []
unfolding open_limits
together = refl

-- ---- letters and reads

-- "a reference byte not A C G T N": the five letters, then each beside them, and lower case
pub letters : map is_base (65 ∷ 67 ∷ 71 ∷ 84 ∷ 78 ∷ []) ≡ replicate 5 true
unfolding open_limits
letters = refl

pub no-letters : map is_base (0 ∷ 64 ∷ 66 ∷ 68 ∷ 70 ∷ 72 ∷ 77 ∷ 79 ∷ 83 ∷ 85 ∷ 97 ∷ 99 ∷ 103 ∷ 116 ∷ 110 ∷ []) ≡ replicate 15 false
unfolding open_limits
no-letters = refl

-- the ends of reads over n bases with q qualities
abbrev over : List ℕ → ℕ → ℕ → Bool
over ends n q = reads_fit (record { k = 3; quality = 0; reference = []; ends = ends; bases = replicate n 65; qualities = replicate q 0 })

-- no read and no base; ends that stand still; the last end at the base count
pub reads-within : over [] 0 0 ∷ over (0 ∷ 2 ∷ 2 ∷ 3 ∷ []) 3 3 ∷ [] ≡ true ∷ true ∷ []
unfolding open_limits
reads-within = refl

-- a base without a read; an end that falls; a last end below and above the base count; a quality missing, and one too many
pub reads-beyond : over [] 1 1 ∷ over (2 ∷ 1 ∷ 3 ∷ []) 3 3 ∷ over (2 ∷ []) 3 3 ∷ over (4 ∷ []) 3 3 ∷ over (3 ∷ []) 3 2 ∷ over (3 ∷ []) 3 4 ∷ [] ≡ replicate 6 false
unfolding open_limits
reads-beyond = refl

-- ---- the column's entries

abbrev minus_zero : Float
minus_zero = fin true 0 (pos 0)

abbrev one : Float
one = fin false 1 (pos 0)

-- the next f64 above 16, and the least above 0
abbrev above_sixteen : Float
above_sixteen = fin false 4503599627370497 (negsuc 47)

abbrev above_zero : Float
above_zero = fin false 1 (negsuc 1073)

-- places 0 and 1 are zero
abbrev from2 : List Float → Bool
from2 c = column_fits (float_zero ∷ float_zero ∷ c)

abbrev first : Float → Bool
first x = column_fits (float_zero ∷ x ∷ [])

-- 16 itself, entries that stand still, and zeros of either sign; "place 0 is not read"
pub column-within : from2 (sixteen ∷ [])
    ∷ from2 (one ∷ one ∷ sixteen ∷ sixteen ∷ [])
    ∷ from2 (minus_zero ∷ float_zero ∷ minus_zero ∷ [])
    ∷ first minus_zero
    ∷ column_fits (nan ∷ float_zero ∷ [])
    ∷ column_fits (inf true ∷ float_zero ∷ [])
    ∷ column_fits (inf false ∷ float_zero ∷ [])
    ∷ column_fits (above_sixteen ∷ float_zero ∷ [])
    ∷ []
    ≡ replicate 8 true
unfolding open_limits eq le lt
column-within = refl

-- above 16; entries that fall, also below zero; NaN and the infinities; a first place other than zero
pub column-beyond : from2 (above_sixteen ∷ [])
    ∷ from2 (sixteen ∷ above_sixteen ∷ [])
    ∷ from2 (one ∷ float_zero ∷ [])
    ∷ from2 (one ∷ sixteen ∷ one ∷ [])
    ∷ from2 (fin true 1 (pos 0) ∷ [])
    ∷ from2 (nan ∷ [])
    ∷ from2 (inf false ∷ [])
    ∷ from2 (inf true ∷ [])
    ∷ first above_zero
    ∷ first one
    ∷ first nan
    ∷ first (inf false)
    ∷ first (inf true)
    ∷ []
    ≡ replicate 13 false
unfolding open_limits eq le lt
column-beyond = refl
