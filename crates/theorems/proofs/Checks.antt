-- What an accepted run has passed: rules 1 to 6, in numbers, and that its rows come from the search.
use mathlib.Core.Path.{◌≡◌, refl, sym, ap, ◌∙◌}
use Prim.Native.Nat.{ℕ, zero, suc, ◌≤◌}
use native.Mathlib.Omega.{arith}
use mathlib.Core.Bool.{Bool, true, false, ◌&&◌}
use mathlib.Core.List.{List, ◌∷◌}
use lib.Dec.{leb, eqb}
use lib.ListN.{length}
use lib.Ieee.{Float}
use borrow.Author.Tests.{leb-true, le-leb, eqb-true}
use Rattle.laws.specs.Numbers.{within}
use Rattle.laws.specs.ListLaws.{and_left, and_right}
use Rattle.definition.specs.Refusal.{Rule, first_broken}
use Rattle.definition.specs.Score.{column_scoring}
use Rattle.definition.specs.Limits.{Input, k_fits, reference_fits, reference_bases, ends_fit, reads_fit, graph_maxima_fit, search_maxima_fit, settings_fit, column_fits, is_long_enough, origin_rules, sample_rules, list_rules}
use Rattle.definition.specs.Building.{built}
use Rattle.definition.specs.Listing.{Row, listed, after_build, after_checks, answer}
use Rattle.theorems.proofs.Found.{Listing, listing, refusal-listed, with_asked}

-- rules 1 to 6, which an accepted run has passed
pub record Checked (i : Input) : Type 0 where
  pub k-fits : k_fits i.sample.k ≡ true
  pub reference-fits : reference_fits i.sample.k i.sample.reference ≡ true
  pub reference-bases : reference_bases i.sample.reference ≡ true
  pub reads-fit : reads_fit i.sample ≡ true
  pub settings-fit : settings_fit i.asked i.graph_maxima i.search_maxima ≡ true
  pub column-fits : column_fits i.column ≡ true

-- a first rule that has a number of 1 or more holds where none is broken
pub holds-first : (n : ℕ) (b : Bool) (rs : List Rule) → first_broken (record { number = suc n; holds = b } ∷ rs) ≡ 0 → (b ≡ true) × (first_broken rs ≡ 0)
unfolding first_broken
holds-first n true rs e = (refl, e)
holds-first n false rs e = absurd (omega arith)

-- rules 1 to 6, and 7
all-checked : (i : Input) (told lent : List ℕ) → first_broken (list_rules i told lent) ≡ 0 → Checked i × (is_long_enough told lent ≡ true)
unfolding list_rules sample_rules
all-checked i told lent e =
    let a = holds-first 0 _ _ e in
    let b = holds-first 1 _ _ a.1 in
    let c = holds-first 2 _ _ b.1 in
    let d = holds-first 3 _ _ c.1 in
    let f = holds-first 4 _ _ d.1 in
    let g = holds-first 5 _ _ f.1 in (
      record { k-fits = a.0; reference-fits = b.0; reference-bases = c.0; reads-fit = d.0; settings-fit = f.0; column-fits = g.0 },
      (holds-first 6 _ _ g.1).0,
    )

pub checked : (i : Input) (told lent : List ℕ) → first_broken (list_rules i told lent) ≡ 0 → Checked i
checked i told lent e = (all-checked i told lent e).0

pub long-enough : (i : Input) (told lent : List ℕ) → first_broken (list_rules i told lent) ≡ 0 → is_long_enough told lent ≡ true
long-enough i told lent e = (all-checked i told lent e).1

-- and no other rule is there
pub none-broken : (i : Input) (told lent : List ℕ) → Checked i → is_long_enough told lent ≡ true → first_broken (list_rules i told lent) ≡ 0
unfolding list_rules sample_rules first_broken
none-broken i told lent c l =
    rw (c.k-fits, first_broken, c.reference-fits, first_broken, c.reference-bases, first_broken, c.reads-fit, first_broken, c.settings-fit, first_broken, c.column-fits, first_broken, l, first_broken)

-- fewer paths asked pass them too
pub fewer-checked : (i : Input) (n m : ℕ) → n ≤ m → Checked (with_asked i m) → Checked (with_asked i n)
unfolding settings_fit
fewer-checked i n m le c =
    let g = graph_maxima_fit i.graph_maxima in
    let s = search_maxima_fit i.search_maxima in
    let e : (leb m 128 && g && s) ≡ true = c.settings-fit in
    let l : m ≤ 128 = leb-true m 128 (and_left (leb m 128) g (and_left (leb m 128 && g) s e)) in
    let h : leb n 128 ≡ leb m 128 = le-leb n 128 (omega arith) ∙ sym (le-leb m 128 l) in
    record {
      k-fits = c.k-fits;
      reference-fits = c.reference-fits;
      reference-bases = c.reference-bases;
      reads-fit = c.reads-fit;
      settings-fit = ap (λ (b : Bool). b && g && s) h ∙ e;
      column-fits = c.column-fits;
    }

-- an answer that is a list has passed the checks, and is what the search gives
pub passed : (i : Input) (told lent : List ℕ) (rows : List (Row Float)) (p q : ℕ) → answer i told lent ≡ listed rows p q
    → (first_broken (list_rules i told lent) ≡ 0) × (after_build (column_scoring i.column) i (built i.sample i.graph_maxima) ≡ listed rows p q)
unfolding answer after_checks
passed i told lent rows p q t = go (first_broken (list_rules i told lent)) refl t
  where
    go : (o : ℕ) → first_broken (list_rules i told lent) ≡ o → after_checks (column_scoring i.column) i o ≡ listed rows p q
        → (first_broken (list_rules i told lent) ≡ 0) × (after_build (column_scoring i.column) i (built i.sample i.graph_maxima) ≡ listed rows p q)
    go zero e h = (e, h)
    go (suc n) e h = refusal-listed h

pub accepted : (i : Input) (told lent : List ℕ) (rows : List (Row Float)) (p q : ℕ) → answer i told lent ≡ listed rows p q
    → Checked i × Listing (column_scoring i.column) i rows p q
accepted i told lent rows p q t =
    let a = passed i told lent rows p q t in
    (checked i told lent a.0, listing (column_scoring i.column) i rows p q a.1)

-- what the checks say in numbers
pub k-some : (i : Input) → Checked i → 2 ≤ i.sample.k
unfolding k_fits
k-some i c = leb-true 2 i.sample.k (and_left (leb 2 i.sample.k) (leb i.sample.k 128) c.k-fits)

pub reference-long : (i : Input) → Checked i → i.sample.k ≤ length i.sample.reference
unfolding reference_fits
reference-long i c =
    let s = i.sample in
    leb-true s.k (length s.reference) (and_left (leb s.k (length s.reference)) (leb (length s.reference) 1024) c.reference-fits)

-- the maximum of pushes is 1 or more
pub some-pushes : (i : Input) → Checked i → 1 ≤ i.search_maxima.pushes
unfolding settings_fit search_maxima_fit
some-pushes i c =
    let x = i.search_maxima in
    let m : (within 1 4096 x.path_edges && within 1 64 x.active && within 1 32768 x.pushes) ≡ true = and_right (leb i.asked 128 && graph_maxima_fit i.graph_maxima) _ c.settings-fit in
    let n : within 1 32768 x.pushes ≡ true = and_right (within 1 4096 x.path_edges && within 1 64 x.active) (within 1 32768 x.pushes) m in
    leb-true 1 x.pushes (and_left (leb 1 x.pushes) (leb x.pushes 32768) n)

-- each base has a quality
pub qualities-even : (i : Input) → Checked i → length i.sample.qualities ≡ length i.sample.bases
unfolding reads_fit
qualities-even i c =
    let s = i.sample in
    eqb-true (length s.qualities) (length s.bases) (and_right (ends_fit s.ends s.bases) (eqb (length s.qualities) (length s.bases)) c.reads-fit)

-- the origin call's own rules hold too
pub origin-checked : (i : Input) → Checked i → first_broken (origin_rules i.sample.k i.sample.reference i.sample.ends i.sample.bases) ≡ 0
unfolding origin_rules first_broken reads_fit
origin-checked i c =
    let s = i.sample in
    let e : ends_fit s.ends s.bases ≡ true = and_left (ends_fit s.ends s.bases) (eqb (length s.qualities) (length s.bases)) c.reads-fit in
    rw (c.k-fits, first_broken, c.reference-fits, first_broken, c.reference-bases, first_broken, e, first_broken)

-- and so do the sample's
pub sample-checked : (i : Input) → Checked i → first_broken (sample_rules i.sample) ≡ 0
unfolding sample_rules first_broken
sample-checked i c = rw (c.k-fits, first_broken, c.reference-fits, first_broken, c.reference-bases, first_broken, c.reads-fit, first_broken)
