-- Where the reads lie in the read bases, and what a check that refuses nothing gives.
use Rattle.std.specs.Prelude.{◌≡◌, refl, ℕ, zero, suc, ◌+◌, ◌-◌, ◌≤◌, ◌<◌, Bool, true, false, ◌&&◌, List, [], ◌∷◌, leb, eqb, length, take, drop, get_or}
use Rattle.std.proofs.Common.{sym, ap, ◌∙◌, arith, drop-drop}
use Rattle.std.proofs.Math.Option.{none, some}
use borrow.Author.Tests.{leb-true, eqb-true}
use Rattle.laws.specs.Lists.{last_or}
use Rattle.laws.specs.ListLaws.{and_left, and_right, part-part}
use Rattle.definition.specs.Refusal.{first_broken}
use Rattle.definition.specs.Limits.{k_fits, reference_fits, reference_bases, rising, ends_fit, origin_rules}
use Rattle.definition.specs.Origins.{read_at}
use Rattle.slice_lengths.specs.Bounds.{k-most}

-- where a read, counted from 0, starts: at b or else where the one before it ends
abbrev start_from : ℕ → List ℕ → ℕ → ℕ
start_from b ends zero = b
start_from b ends (suc read) = get_or ends read 0

abbrev pub start_of : List ℕ → ℕ → ℕ
start_of ends read = start_from 0 ends read

-- ---- ends that do not fall

next_start : (e : ℕ) (es : List ℕ) (s : ℕ) → get_or (e ∷ es) s 0 ≡ start_from e es s
next_start e es zero = refl
next_start e es (suc s) = refl

module _ (b e : ℕ) (es : List ℕ) (h : rising b (e ∷ es) ≡ true) where
  rising-head : b ≤ e
  unfolding rising
  rising-head = leb-true b e (and_left (leb b e) (rising e es) h)

  rising-tail : rising e es ≡ true
  unfolding rising
  rising-tail = and_right (leb b e) (rising e es) h

start-most : (s b : ℕ) (es : List ℕ) → rising b es ≡ true → s < length es → start_from b es s ≤ get_or es s 0
start-most s b [] h l = absurd (omega arith)
start-most zero b (e ∷ es) h l = rising-head b e es h
start-most (suc s) b (e ∷ es) h l = rw next_start (start-most s e es (rising-tail b e es h) (omega arith))

last-least : (b : ℕ) (es : List ℕ) → rising b es ≡ true → b ≤ last_or b es
last-least b [] h = omega arith
last-least b (e ∷ es) h = let p = rising-head b e es h in let q = last-least e es (rising-tail b e es h) in omega arith

end-most : (s b : ℕ) (es : List ℕ) → rising b es ≡ true → s < length es → get_or es s 0 ≤ last_or b es
end-most s b [] h l = absurd (omega arith)
end-most zero b (e ∷ es) h l = last-least e es (rising-tail b e es h)
end-most (suc s) b (e ∷ es) h l = end-most s e es (rising-tail b e es h) (omega arith)

-- the bytes of a read, as a part of all bases
read-from : (s b : ℕ) (es bases : List ℕ) → rising b es ≡ true → s < length es
    → read_at s b es (drop b bases) ≡ some (take (get_or es s 0 - start_from b es s) (drop (start_from b es s) bases))
unfolding read_at
read-from s b [] bases h l = absurd (omega arith)
read-from zero b (e ∷ es) bases h l = refl
read-from (suc s) b (e ∷ es) bases h l =
    let p = rising-head b e es h in
    let q : b + (e - b) ≡ e = omega arith in
    ap (read_at s e es) (drop-drop (e - b) b bases ∙ ap (λ (n : ℕ). drop n bases) q)
    ∙ read-from s e es bases (rising-tail b e es h) (omega arith)
    ∙ ap (λ (n : ℕ). some (take (get_or es s 0 - n) (drop n bases))) (sym (next_start e es s))

pub read_get : (s : ℕ) (ends bases : List ℕ) → rising 0 ends ≡ true → s < length ends
    → read_at s 0 ends bases ≡ some (take (get_or ends s 0 - start_of ends s) (drop (start_of ends s) bases))
read_get s ends bases h l = read-from s 0 ends bases h l

pub no_read : (s b : ℕ) (es bs : List ℕ) → length es ≤ s → read_at s b es bs ≡ none
unfolding read_at
no_read s b [] bs l = refl
no_read zero b (e ∷ es) bs l = absurd (omega arith)
no_read (suc s) b (e ∷ es) bs l = no_read s e es (drop (e - b) bs) (omega arith)

-- ---- a part of a part

-- a part of a part of the read bases
pub part_at : (m size start place : ℕ) (xs : List ℕ) → place + m ≤ size
    → take m (drop place (take size (drop start xs))) ≡ take m (drop (start + place) xs)
part_at m size start place xs h = part-part m size place (drop start xs) h ∙ ap (take m) (drop-drop place start xs)

-- ---- what is accepted

pub record Accepted (k : ℕ) (ends bases : List ℕ) : Type 0 where
  pub small : k ≤ 128
  pub rise : rising 0 ends ≡ true
  pub last : last_or 0 ends ≡ length bases
  pub few : length bases ≤ 32768

rules-hold : (k : ℕ) (reference ends bases : List ℕ) → first_broken (origin_rules k reference ends bases) ≡ 0 → (k_fits k ≡ true) × (ends_fit ends bases ≡ true)
unfolding origin_rules first_broken
rules-hold k reference ends bases e =
    go (k_fits k) (reference_fits k reference) (reference_bases reference) (ends_fit ends bases) refl refl refl refl
  where
    go : (p q r s : Bool) → k_fits k ≡ p → reference_fits k reference ≡ q → reference_bases reference ≡ r → ends_fit ends bases ≡ s → (k_fits k ≡ true) × (ends_fit ends bases ≡ true)
    go true true true true a b c d = (a, d)
    go true true true false a b c d = let z : ◌≡◌ {A = ℕ} 4 0 = rw (a, b, c, d, first_broken) at e in absurd (omega arith)
    go true true false s a b c d = let z : ◌≡◌ {A = ℕ} 3 0 = rw (a, b, c, first_broken) at e in absurd (omega arith)
    go true false r s a b c d = let z : ◌≡◌ {A = ℕ} 2 0 = rw (a, b, first_broken) at e in absurd (omega arith)
    go false q r s a b c d = let z : ◌≡◌ {A = ℕ} 1 0 = rw (a, first_broken) at e in absurd (omega arith)

ends-parts : (k : ℕ) (ends bases : List ℕ) → k_fits k ≡ true → ends_fit ends bases ≡ true → Accepted k ends bases
unfolding ends_fit
ends-parts k ends bases a e = go (rising 0 ends) (eqb (last_or 0 ends) (length bases)) (leb (length ends) 512) (leb (length bases) 32768) refl refl refl e
  where
    go : (p q r s : Bool) → rising 0 ends ≡ p → eqb (last_or 0 ends) (length bases) ≡ q → leb (length bases) 32768 ≡ s → (p && q && r && s) ≡ true → Accepted k ends bases
    go p q r s f g h t =
        record {
          small = k-most k a;
          rise = f ∙ and_left p q (and_left (p && q) r (and_left (p && q && r) s t));
          last = eqb-true (last_or 0 ends) (length bases) (g ∙ and_right p q (and_left (p && q) r (and_left (p && q && r) s t)));
          few = leb-true (length bases) 32768 (h ∙ and_right (p && q && r) s t);
        }

-- n is what the code's check answered
pub accepted-by : (k : ℕ) (reference ends bases : List ℕ) (n : ℕ) → n ≡ first_broken (origin_rules k reference ends bases) → n ≤ 0 → Accepted k ends bases
accepted-by k reference ends bases n e h =
    let z : n ≡ 0 = omega arith in
    let p = rules-hold k reference ends bases (sym e ∙ z) in
    ends-parts k ends bases p.0 p.1

-- the bounds of a read
pub record Bounded (ends bases : List ℕ) (s : ℕ) : Type 0 where
  pub order : start_of ends s ≤ get_or ends s 0
  pub inside : get_or ends s 0 ≤ length bases

pub bounded : (k s : ℕ) (ends bases : List ℕ) → Accepted k ends bases → s < length ends → Bounded ends bases s
bounded k s ends bases a l =
    let p = end-most s 0 ends a.rise l in
    let q = a.last in
    record { order = start-most s 0 ends a.rise l; inside = omega arith }
