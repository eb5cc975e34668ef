-- An accepted call for the list: the definition has made a list, the slices are long enough for it, and the rows read off them are its rows. Assumes nothing.
use Rattle.std.specs.Prelude.{◌≡◌, refl, ℕ, suc, ◌≤◌, true, List, Float}
use Rattle.std.proofs.Math.Path.{ap}
use Rattle.std.proofs.Common.{◌∙◌, arith}
use Rattle.laws.specs.ListLaws.{All, all-mono, all-zip}
use Rattle.definition.specs.Limits.{Input, is_long_enough, bases_stride, told_bases, told_origins, list_told}
use Rattle.definition.specs.Listing.{Row, Answer, refusal, listed, answer}
use Rattle.definition.specs.Calls.{ListSlices, list_outcome, list_lent, list_call}
use Rattle.definition.specs.Promises.{Spelled}
use Rattle.theorems.proofs.Bounds.{Bounded}
use Rattle.theorems.proofs.Checks.{passed, long-enough}
use Rattle.theorems.proofs.Late.{no_zero}
use Rattle.theorems.proofs.Demand.{paths-spelled, within-bounds}
use Rattle.limits.specs.Long.{long-head}
use Rattle.promises.specs.Reading.{read_list}
use Rattle.promises.proofs.Back.{Fits, LongFor, read_back}

-- ---- the list

-- the definition's answer is a list
pub record Made (i : Input) (told lent : List ℕ) : Type 0 where
  pub rows : List (Row Float)
  pub pushes : ℕ
  pub longest : ℕ
  pub is : answer i told lent ≡ listed rows pushes longest

pub made : (i : Input) (workspace lent : List ℕ) (old : ListSlices) → (list_call i workspace lent old).answer.refusal ≡ 0
    → Made i (list_told i workspace) (list_lent old lent)
unfolding list_call list_outcome
made i workspace lent old e = go (answer i (list_told i workspace) (list_lent old lent)) refl e
  where
    go : (a : Answer Float) → answer i (list_told i workspace) (list_lent old lent) ≡ a → (list_outcome i a old).answer.refusal ≡ 0
        → Made i (list_told i workspace) (list_lent old lent)
    go (refusal n) t h = let k : 1 ≤ n = no_zero i (list_told i workspace) (list_lent old lent) n t in absurd (omega arith)
    go (listed rs p q) t h = record { rows = rs; pushes = p; longest = q; is = t }

-- refused, the call has the number that the definition has
pub refused-is : (i : Input) (workspace lent : List ℕ) (old : ListSlices) (n : ℕ) → (list_call i workspace lent old).answer.refusal ≡ suc n
    → answer i (list_told i workspace) (list_lent old lent) ≡ refusal (suc n)
unfolding list_call list_outcome
refused-is i workspace lent old n e = go (answer i (list_told i workspace) (list_lent old lent)) refl e
  where
    go : (a : Answer Float) → answer i (list_told i workspace) (list_lent old lent) ≡ a → (list_outcome i a old).answer.refusal ≡ suc n
        → answer i (list_told i workspace) (list_lent old lent) ≡ refusal (suc n)
    go (refusal m) t h = t ∙ ap refusal h
    go (listed rs p q) t h = absurd (omega arith)

-- ---- the slices are long enough, by rule 7

long-for : (i : Input) (workspace lent : List ℕ) (old : ListSlices) → is_long_enough (list_told i workspace) (list_lent old lent) ≡ true → LongFor i i.asked old
unfolding list_told told_bases told_origins bases_stride list_lent
long-for i workspace lent old h =
    let a = long-head _ _ _ _ h in
    let b = long-head _ _ _ _ a.1 in
    let c = long-head _ _ _ _ b.1 in
    let d = long-head _ _ _ _ c.1 in
    record { rows = a.0; bases = b.0; sequences = c.0; places = d.0 }

-- ---- the rows read are the definition's

module _ (i : Input) (workspace lent : List ℕ) (old : ListSlices) (m : Made i (list_told i workspace) (list_lent old lent)) where
  pub bounded : Bounded i m.rows m.pushes m.longest
  bounded = within-bounds i (list_told i workspace) (list_lent old lent) m.rows m.pushes m.longest m.is

  spelled : All (Spelled i.sample) m.rows
  spelled = paths-spelled i (list_told i workspace) (list_lent old lent) m.rows m.pushes m.longest m.is

  rows_fit : All (Fits i) m.rows
  rows_fit = all-mono (λ r h. record { bases = h.0.bases-fit; origins = h.0.origins-fit; edges = h.1 }) (all-zip spelled bounded.edges_fit)

  pub outcome : list_call i workspace lent old ≡ list_outcome i (listed m.rows m.pushes m.longest) old
  unfolding list_call
  outcome = ap (λ (a : Answer Float). list_outcome i a old) m.is

  -- each slice is at least as long as told
  pub lent-long : is_long_enough (list_told i workspace) (list_lent old lent) ≡ true
  lent-long =
      long-enough i (list_told i workspace) (list_lent old lent)
      (passed i (list_told i workspace) (list_lent old lent) m.rows m.pushes m.longest m.is).0

  read_made : read_list i (list_outcome i (listed m.rows m.pushes m.longest) old) ≡ m.rows
  unfolding list_outcome
  read_made =
      read_back i m.rows old rows_fit bounded.rows_fit (long-for i workspace lent old lent-long)

  pub rows-read : read_list i (list_call i workspace lent old) ≡ m.rows
  rows-read = ap (read_list i) outcome ∙ read_made
