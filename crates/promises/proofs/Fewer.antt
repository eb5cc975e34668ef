-- Slices as long as told for more paths are as long as told for fewer. Assumes nothing.
use Rattle.std.specs.Prelude.{◌≡◌, refl, true, List, [], ◌∷◌, ℕ, ◌+◌, ◌≤◌, max}
use Rattle.std.proofs.Common.{sym, ap, ◌∙◌, mul-le-mul_right, arith}
use Rattle.definition.specs.Limits.{GraphMaxima, SearchMaxima, Input, is_long_enough, bases_stride, told_bases, told_origins}
use Rattle.definition.specs.Promises.{AllElseEqual}
use Rattle.slice_lengths.specs.Lengths.{list_slices, accepted_lengths}
use Rattle.limits.specs.Long.{no_short, long-head}
use Rattle.list_lent.specs.Lent.{told_of, slices-told}

-- none is above the one beside it
abbrev Below : List ℕ → List ℕ → Type 0
Below [] ms = Unit {0}
Below (n ∷ ns) [] = ⊥
Below (n ∷ ns) (m ∷ ms) = (n ≤ m) × Below ns ms

below-long : (ns ms ls : List ℕ) → Below ns ms → is_long_enough ms ls ≡ true → is_long_enough ns ls ≡ true
unfolding is_long_enough
below-long [] ms ls b h = refl
below-long (n ∷ ns) [] ls b h = absurd b
below-long (n ∷ ns) (m ∷ ms) [] b h = h
below-long (n ∷ ns) (m ∷ ms) (l ∷ ls) b h =
    let a = long-head m l ms ls h in
    sym (no_short n l ns ls (omega (arith, b.0, a.0))) ∙ below-long ns ms ls b.1 a.1

walks-below : (x y p q : ℕ) → p ≤ q → max x (max y (max 32 p)) ≤ max x (max y (max 32 q))
walks-below x y p q h = omega arith

same : (n : ℕ) → n ≤ n
same n = omega arith

told_below : (k n m : ℕ) (g : GraphMaxima) (s : SearchMaxima) → n ≤ m → Below (list_slices (accepted_lengths k n g s)) (list_slices (accepted_lengths k m g s))
unfolding accepted_lengths told_bases told_origins bases_stride
told_below k n m g s h =
    let bases = mul-le-mul_right (k + s.path_edges) h in
    let origins = mul-le-mul_right s.path_edges h in
    let made : s.pushes + n + 8 ≤ s.pushes + m + 8 = omega arith in
    let paths = mul-le-mul_right 9 made in
    let active = mul-le-mul_right s.active made in
    let walks = walks-below _ _ _ _ origins in
    (h, (bases, (origins, (origins, (same _, (same _, (same _, (same _, (same _, (paths, (made, (active, (same _, (h, (same _, (same _, (walks, (h, (h, (h, tt))))))))))))))))))))

pub fewer-long : (a b : Input) (lent : List ℕ) → AllElseEqual a b → a.asked ≤ b.asked → is_long_enough (told_of b) lent ≡ true → is_long_enough (told_of a) lent ≡ true
fewer-long a b lent e h l =
    let k = a.sample.k in
    let g = a.graph_maxima in
    let s = a.search_maxima in
    let t : list_slices (accepted_lengths k b.asked g s) ≡ told_of b =
    (λ j. list_slices (accepted_lengths (e.sample j).k b.asked (e.graph_maxima j) (e.search_maxima j))) ∙ slices-told b in
    ap (λ (n : List ℕ). is_long_enough n lent) (sym (slices-told a))
    ∙ below-long (list_slices (accepted_lengths k a.asked g s)) (list_slices (accepted_lengths k b.asked g s)) lent (told_below k a.asked b.asked g s h)
    (ap (λ (n : List ℕ). is_long_enough n lent) t ∙ l)
