-- How many paths wait at each moment of a search, computed from the definitions: for every turn the number after the taking, then the numbers after its pushes.
use mathlib.Core.Path.{◌≡◌, refl}
use Prim.Native.Nat.{ℕ}
use mathlib.Core.List.{List, [], ◌∷◌, map}
use lib.ListN.{length, replicate}
use lib.Ieee.{Float, add, sub, lt, eq, le}
use Rattle.definition.specs.Refusal.{Result, ok, refused, open_refusal}
use Rattle.definition.specs.Score.{column_scoring, open_score}
use Rattle.definition.specs.Limits.{Input, float_zero, open_limits}
use Rattle.definition.specs.Stretch.{open_stretch}
use Rattle.definition.specs.Threading.{open_threading}
use Rattle.definition.specs.Evidence.{open_evidence}
use Rattle.definition.specs.Search.{Path, open_search}
use Rattle.definition.specs.Building.{Built, built, open_building}
use Rattle.definition.specs.Listing.{search_input, open_listing}
use Rattle.definition.specs.Moments.{moments, open_moments}
use Rattle.definition.proofs.Examples.{A, C, G, T, seq_r, seq_a, room, allowance, sample, ask, asking, within, over}

abbrev case6 : Input
case6 = ask (sample 3 seq_r (seq_a ∷ seq_r ∷ [])) 5

-- AA with the read AAAC, k 2, one path asked: the source is the sink, so that the start path closes and ends the search, and it has two ways on
abbrev end_pushes : Input
end_pushes = asking 1 (ask (sample 2 (A ∷ A ∷ []) ((A ∷ A ∷ A ∷ C ∷ []) ∷ [])) 9)

abbrev waiting_of : Input → Result Built → List ℕ
waiting_of i (refused n) = []
waiting_of i (ok b) =
    map (λ (w : List (Path Float)). length w) (moments (column_scoring i.column) (search_input i b) i.asked i.search_maxima.pushes i.recovery)

unfoldable pub waiting : Input → List ℕ
unfolding open_refusal open_score open_limits open_stretch open_threading open_evidence open_search open_building open_listing open_moments add sub lt eq le
waiting i = waiting_of i (built i.sample i.graph_maxima)

-- case 6: the start path waits; then seven takings, the first with two pushes, the next four with one each, and two with none
pub case6-waiting : waiting case6 ≡ 1 ∷ 0 ∷ 1 ∷ 2 ∷ 1 ∷ 2 ∷ 1 ∷ 2 ∷ 1 ∷ 2 ∷ 1 ∷ 2 ∷ 1 ∷ 0 ∷ []
unfolding waiting
case6-waiting = refl

-- the last two pushes make the longest list, from which nothing is taken
pub end_pushes-waiting : waiting end_pushes ≡ 1 ∷ 0 ∷ 1 ∷ 2 ∷ []
unfolding waiting
end_pushes-waiting = refl

-- R with three ways on behind CAA, three pushes allowed: the run stops before the third of them is pushed, and the moment before has the longest list
abbrev three_ways : Input
three_ways =
    within (room 128 256 256) (allowance 128 8 3) (over (replicate 31 float_zero) (ask (sample 3 seq_r (seq_a ∷ (C ∷ A ∷ A ∷ T ∷ T ∷ G ∷ G ∷ []) ∷ seq_r ∷ [])) 9))

pub three_ways-waiting : waiting three_ways ≡ 1 ∷ 0 ∷ 1 ∷ 2 ∷ []
unfolding waiting
three_ways-waiting = refl
