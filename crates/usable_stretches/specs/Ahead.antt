-- What comes next in a loop over reads, or over the runs of a read, whatever the loop does with it: the next read's end, and a run inside the text.
-- Assumes nothing.
use Rattle.std.specs.Prelude.{◌≡◌, refl, Bool, true, List, [], ◌∷◌, ◌++◌, ℕ, suc, ◌+◌, ◌-◌, ◌<◌, ◌≤◌, leb, length, get_or, take, drop}
use Rattle.std.proofs.Common.{ap, ◌∙◌, arith, add-one, length-append, drop-cons, drop-drop, get_or-append-add, leb-true}
use Rattle.laws.specs.Lists.{last_or}
use Rattle.laws.specs.ListLaws.{and_left, and_right}
use Rattle.definition.specs.Limits.{is_base, rising}
use Rattle.definition.specs.Stretch.{usable, runs, stretches_from}
use Rattle.usable_stretches.specs.Runs.{long_of, RunEnd}

-- ---- the stretches of the reads that are left
pub from-nil : (good : ℕ → ℕ → Bool) (k sq start : ℕ) (bs qs : List ℕ) → stretches_from good k sq start [] bs qs ≡ []
unfolding stretches_from
from-nil good k sq start bs qs = refl

pub from_cons : (good : ℕ → ℕ → Bool) (k sq start e : ℕ) (es bs qs : List ℕ)
    → stretches_from good k sq start (e ∷ es) bs qs
    ≡ long_of k (runs good sq 0 (take (e - start) bs) (take (e - start) qs)) ++ stretches_from good k (suc sq) e es (drop (e - start) bs) (drop (e - start) qs)
unfolding stretches_from
from_cons good k sq start e es bs qs = refl

-- ---- the next read's end
rising-cons : (n e : ℕ) (es : List ℕ) → rising n (e ∷ es) ≡ true → (n ≤ e) × (rising e es ≡ true)
unfolding rising
rising-cons n e es h = (leb-true n e (and_left (leb n e) (rising e es) h), and_right (leb n e) (rising e es) h)

rising-last : (n : ℕ) (es : List ℕ) → rising n es ≡ true → n ≤ last_or n es
rising-last n [] h = omega arith
rising-last n (e ∷ es) h = let w = rising-cons n e es h in let y = w.0 in let z = rising-last e es w.1 in omega arith

-- of ends that rise from `start` to `many` bases, the one at place j is e
pub record NextEnd (ends : List ℕ) (many start j e : ℕ) : Type 0 where
  pub split : drop j ends ≡ e ∷ drop (j + 1) ends
  pub order : start ≤ e
  pub rises : rising e (drop (j + 1) ends) ≡ true
  pub last : last_or e (drop (j + 1) ends) ≡ many
  pub inside : e ≤ many

pub next-end : (ends : List ℕ) (many start j e : ℕ) → rising start (drop j ends) ≡ true → last_or start (drop j ends) ≡ many → j < length ends → e ≡ get_or ends j 0
    → NextEnd ends many start j e
next-end ends many start j e r m l he =
    let split : drop j ends ≡ e ∷ drop (j + 1) ends = rw (add-one j, he) (drop-cons ends j 0 l) in
    let c = rising-cons start e (drop (j + 1) ends) (rw split at r) in
    let last : last_or e (drop (j + 1) ends) ≡ many = rw split at m in
    record {
      split = split;
      order = c.0;
      rises = c.1;
      last = last;
      inside = (let z = rising-last e (drop (j + 1) ends) c.1 in omega arith);
    }

-- what is left behind the read
pub later : (start e : ℕ) (q : List ℕ) → start ≤ e → drop (e - start) (drop start q) ≡ drop e q
later start e q l = drop-drop (e - start) start q ∙ ap (λ (n : ℕ). drop n q) (let z : start + (e - start) ≡ e = omega arith in z)

-- ---- a run inside the text
pub usable-base : (least b q : ℕ) → usable least b q ≡ true → is_base b ≡ true
unfolding usable
usable-base least b q h = and_left (is_base b) (leb least q) h

module _ (least : ℕ) (reference : List ℕ) {bases quals : List ℕ} {p e q : ℕ} (r : RunEnd (usable least) bases quals p e q) where
  pub run_inside : e ≤ length bases → length reference + p + (q - p) ≤ length (reference ++ bases)
  run_inside l = let z = length-append reference bases in let u = r.to in let v = r.from in omega arith

  pub run-base : (i : ℕ) → i < q - p → is_base (get_or (reference ++ bases) (length reference + p + i) 0) ≡ true
  run-base i h =
      let z : length reference + p + i ≡ length reference + (p + i) = omega arith in
      rw (z, get_or-append-add reference bases (p + i) 0)
      (usable-base least (get_or bases (p + i) 0) (get_or quals (p + i) 0) (r.all (p + i) (omega arith) (let u = r.from in omega arith)))
