-- The next pivotal edge: the first from a place on whose mark is not 0, if there is one.
use Rattle.std.specs.Prelude.{◌≡◌, refl, Option, Some, None, List, [], ◌∷◌, ℕ, suc, ◌+◌, ◌<◌, ◌≤◌, length, get_or, take, drop}
use Rattle.std.proofs.Common.{sym, ap, ◌∙◌, add-one, arith, lt-ltb, le-ltb, drop_of_length-le, drop-cons, get_or-take, length-take-le, take_all}
use Rattle.laws.specs.ListLaws.{All}
use Rattle.closed_paths.specs.Cross.{unvisited}
use Rattle.closed_paths.specs.Recover.{all-at}

-- the places before n name edges that have a mark
pub record Marked (order marks : List ℕ) (n : ℕ) : Type 0 where
  pub room : n ≤ length order
  pub known : All (λ e. e < length marks) (take n order)

-- the edges from place i on that are still marked
abbrev pub left_from : List ℕ → List ℕ → ℕ → ℕ → List ℕ
left_from order marks n i = unvisited (drop i (take n order)) marks

-- the place i is the first that is still marked
pub record NextAt (order marks : List ℕ) (n next i : ℕ) : Type 0 where
  pub low : next ≤ i
  pub high : i < n
  pub same : left_from order marks n next ≡ left_from order marks n i
  pub live : 0 < get_or marks (get_or order i 0) 0

abbrev pub NextIs : List ℕ → List ℕ → ℕ → ℕ → Option ℕ → Type 0
NextIs order marks n next (Some i) = NextAt order marks n next i
NextIs order marks n next None = left_from order marks n next ≡ []

pub record Scanning (order marks : List ℕ) (n next i : ℕ) : Type 0 where
  pub low : next ≤ i
  pub high : i ≤ n
  pub same : left_from order marks n next ≡ left_from order marks n i

pub scan-start : (order marks : List ℕ) (n next : ℕ) → next ≤ n → Scanning order marks n next next
scan-start order marks n next h = record { low = omega arith; high = h; same = refl }

module _ {order marks : List ℕ} {n : ℕ} (M : Marked order marks n) where
  full : length (take n order) ≡ n
  full = length-take-le n order M.room

  -- the edge of a place
  pub place-known : (i : ℕ) → i < n → get_or order i 0 < length marks
  place-known i h =
      let e = get_or-take n order i 0 h in
      let k = all-at (λ e. e < length marks) (take n order) M.known i (omega (arith, full)) in
      omega arith

  split : (i : ℕ) → i < n → drop i (take n order) ≡ get_or order i 0 ∷ drop (i + 1) (take n order)
  split i h =
      drop-cons (take n order) i 0 (omega (arith, full))
      ∙ ap (λ x. x ∷ drop (suc i) (take n order)) (get_or-take n order i 0 h)
      ∙ ap (λ k. get_or order i 0 ∷ drop k (take n order)) (sym (add-one i))

  pub left-hit : (i : ℕ) → i < n → 0 < get_or marks (get_or order i 0) 0 → left_from order marks n i ≡ get_or order i 0 ∷ left_from order marks n (i + 1)
  left-hit i h k = ap (λ l. unvisited l marks) (split i h) ∙ (rw (lt-ltb 0 (get_or marks (get_or order i 0) 0) k))

  left-miss : (i : ℕ) → i < n → get_or marks (get_or order i 0) 0 ≡ 0 → left_from order marks n i ≡ left_from order marks n (i + 1)
  left-miss i h k = ap (λ l. unvisited l marks) (split i h) ∙ (rw (le-ltb 0 (get_or marks (get_or order i 0) 0) (omega arith)))

  left_end : (i : ℕ) → n ≤ i → left_from order marks n i ≡ []
  left_end i h = ap (λ l. unvisited l marks) (drop_of_length-le (take n order) {i = i} (omega (arith, full)))

  -- the same over the places before n alone
  front : take (length (take n order)) (take n order) ≡ take n order
  front = take_all (length (take n order)) (take n order) (omega arith)

  pub front-marked : Marked (take n order) marks (length (take n order))
  front-marked = record { room = omega arith; known = rw front M.known }

  front-left : (i : ℕ) → left_from (take n order) marks (length (take n order)) i ≡ left_from order marks n i
  front-left i = ap (λ l. unvisited (drop i l) marks) front

  pub front-next : (next : ℕ) (r : Option ℕ) → NextIs (take n order) marks (length (take n order)) next r → NextIs order marks n next r
  front-next next None N = sym (front-left next) ∙ N
  front-next next (Some i) N =
      let h : i < n = omega (arith, N.high, full) in
      record {
        low = N.low;
        high = h;
        same = sym (front-left next) ∙ N.same ∙ front-left i;
        live = rw (get_or-take n order i 0 h) at N.live;
      }

  module _ {next i : ℕ} (S : Scanning order marks n next i) where
    pub scan-hit : i < n → (get_or marks (get_or order i 0) 0 ≡ 0 → ⊥) → NextAt order marks n next i
    scan-hit h k = record { low = S.low; high = h; same = S.same; live = omega arith }

    pub scan-next : i < n → get_or marks (get_or order i 0) 0 ≡ 0 → Scanning order marks n next (i + 1)
    scan-next h k = record { low = omega (arith, S.low); high = omega arith; same = S.same ∙ left-miss i h k }

    pub scan-end : n ≤ i → left_from order marks n next ≡ []
    scan-end h = S.same ∙ left_end i h
