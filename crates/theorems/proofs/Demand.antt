-- Demand 3, over the definition: what holds of every accepted list, and of two lists of which one was asked for fewer paths.
use mathlib.Core.Path.{◌≡◌, sym, subst, ◌∙◌}
use Prim.Native.Nat.{ℕ, suc, ◌≤◌}
use native.Mathlib.Omega.{arith}
use mathlib.Core.Bool.{true, false}
use mathlib.Core.List.{List, [], ◌∷◌}
use lib.Dec.{leb}
use lib.ListN.{take, drop, get_or}
use lib.Ieee.{Float, is_nan}
use Rattle.laws.specs.Lists.{keep}
use Rattle.laws.specs.ListLaws.{clash, All, all-mono}
use Rattle.definition.specs.Refusal.{ok, first_broken}
use Rattle.definition.specs.Score.{column_scoring}
use Rattle.definition.specs.Limits.{Sample, Input, is_long_enough, origin_rules, list_rules}
use Rattle.definition.specs.Threading.{Origin}
use Rattle.definition.specs.Building.{built}
use Rattle.definition.specs.Listing.{Row, listed, after_checks, answer}
use Rattle.definition.specs.Origins.{bytes_at}
use Rattle.definition.specs.Calls.{origin_of, after_origin_checks, origin_call}
use Rattle.definition.specs.Promises.{Spelled, NoneOutscores, AllElseEqual}
use Rattle.theorems.proofs.Column.{column-ordered, column-keeps}
use Rattle.theorems.proofs.Found.{refusal-listed, Falling, fine-listing, falling-listing, with_asked, fewer-listing}
use Rattle.theorems.proofs.Origins.{SpelledRow, spelled-listing}
use Rattle.theorems.proofs.Bounds.{Bounded, bounded-listing}
use Rattle.theorems.proofs.Allowance.{with_pushes, greater-maximum}
use Rattle.theorems.proofs.Fewer.{IsList, build-fewer}
use Rattle.theorems.proofs.Checks.{Checked, checked, none-broken, fewer-checked, passed, accepted, k-some, reference-long, some-pushes, qualities-even, origin-checked}

-- ---- the first half

-- the origin call hands back the bytes at an origin, where its own rules hold
origin-spelled : (s : Sample) (o : Origin) (bs : List ℕ) → first_broken (origin_rules s.k s.reference s.ends s.bases) ≡ 0 → bytes_at s o ≡ ok bs
    → origin_call s.k s.reference s.ends s.bases o ≡ record { refusal = 0; bytes = bs }
unfolding origin_call after_origin_checks origin_of
origin-spelled s o bs e h = rw (e, h)

row-spelled : (i : Input) → Checked i → (r : Row Float) → SpelledRow i.sample r → Spelled i.sample r
row-spelled i c r h =
    record {
      bases-fit = h.bases-length;
      origins-fit = h.origins-length;
      begins = h.begins;
      finishes = h.finishes;
      spells = λ o j w. origin-spelled i.sample (get_or r.origins j o) (take (suc i.sample.k) (drop j r.bases)) (origin-checked i c) (h.spells o j w);
      lies = h.lies;
    }

none_above : (c : List Float) (rows : List (Row Float)) → Falling (column_scoring c) rows → NoneOutscores rows
unfolding column_scoring
none_above c [] f = tt
none_above c (r ∷ rs) f = (all-mono (λ q e h. clash (sym h ∙ e)) f.0, none_above c rs f.1)

module _ (i : Input) (told lent : List ℕ) (rows : List (Row Float)) (p q : ℕ) (t : answer i told lent ≡ listed rows p q) where
  -- Every path of an accepted list begins with the reference's first k bases and ends with its last k; every edge's k + 1 bases are, byte for byte,
  -- those at its origin, in the reference or inside one usable stretch of the read named.
  pub paths-spelled : All (Spelled i.sample) rows
  paths-spelled =
      let a = accepted i told lent rows p q t in
      let k : 2 ≤ i.sample.k = k-some i a.0 in
      all-mono (row-spelled i a.0)
      (spelled-listing (column-keeps i.column a.0.column-fits) i rows p q (omega arith) (reference-long i a.0) (qualities-even i a.0) a.1)

  -- No path outscores the one above it.
  pub none-outscores : NoneOutscores rows
  none-outscores =
      let a = accepted i told lent rows p q t in
      none_above i.column rows (falling-listing (column-keeps i.column a.0.column-fits) (column-ordered i.column) a.1)

  -- Demand 3, first half.
  pub demand-3a : All (Spelled i.sample) rows × NoneOutscores rows
  demand-3a = (paths-spelled, none-outscores)

  -- No score is NaN.
  pub no_nan : All (λ r. is_nan r.score ≡ false) rows
  no_nan = let a = accepted i told lent rows p q t in fine-listing (column-keeps i.column a.0.column-fits) a.1

  -- Rows, edges of a path, pushes and the longest waiting list stay within what was asked and allowed.
  pub within-bounds : Bounded i rows p q
  within-bounds =
      let a = accepted i told lent rows p q t in
      bounded-listing (column-keeps i.column a.0.column-fits) i rows p q (some-pushes i a.0) a.1

-- ---- the second half

fewer-asked : (i : Input) (n m : ℕ) (told lent told' lent' : List ℕ) (rows rows' : List (Row Float)) (p q p' q' : ℕ) → n ≤ m
    → answer (with_asked i n) told lent ≡ listed rows p q → answer (with_asked i m) told' lent' ≡ listed rows' p' q'
    → rows ≡ keep (λ r. leb r.closing n) rows'
fewer-asked i n m told lent told' lent' rows rows' p q p' q' h tn tm =
    let a = accepted (with_asked i n) told lent rows p q tn in
    let b = accepted (with_asked i m) told' lent' rows' p' q' tm in
    fewer-listing (column-ordered i.column) (column-keeps i.column a.0.column-fits) i n m rows rows' p q p' q' h a.1 b.1

-- two inputs between which all else is equal differ in the paths asked
only-asked : (a b : Input) → AllElseEqual a b → b ≡ with_asked a b.asked
only-asked a b e =
    λ j.
    record {
      sample = sym e.sample j;
      asked = b.asked;
      threshold = sym e.threshold j;
      recovery = sym e.recovery j;
      graph_maxima = sym e.graph_maxima j;
      search_maxima = sym e.search_maxima j;
      column = sym e.column j;
    }

-- Demand 3, second half: all else equal, the list for fewer paths asked is the longer list with every path left out whose closing number is above the
-- smaller number. Rows are equal in all fields.
pub demand-3b : (a b : Input) (told lent told' lent' : List ℕ) (rows rows' : List (Row Float)) (p q p' q' : ℕ) → AllElseEqual a b → a.asked ≤ b.asked
    → answer a told lent ≡ listed rows p q → answer b told' lent' ≡ listed rows' p' q' → rows ≡ keep (λ r. leb r.closing a.asked) rows'
demand-3b a b told lent told' lent' rows rows' p q p' q' e h ta tb =
    fewer-asked a a.asked b.asked told lent told' lent' rows rows' p q p' q' h ta
    (subst (λ (x : Input). answer x told' lent' ≡ listed rows' p' q') (only-asked a b e) tb)

-- Where the call for more paths is accepted, the call for fewer is accepted too if it is lent what it is told: rules 1 to 6 hold of it, since they hold of
-- the other and the paths asked are fewer, and nothing is refused after the rules.
pub fewer-accepted : (a b : Input) (told lent told' lent' : List ℕ) (rows : List (Row Float)) (p q : ℕ) → AllElseEqual a b → a.asked ≤ b.asked
    → answer b told' lent' ≡ listed rows p q → is_long_enough told lent ≡ true → IsList (answer a told lent)
unfolding answer after_checks
fewer-accepted a b told lent told' lent' rows p q e h t l =
    let m = b.asked in
    let w : answer (with_asked a m) told' lent' ≡ listed rows p q = subst (λ (x : Input). answer x told' lent' ≡ listed rows p q) (only-asked a b e) t in
    let c = passed (with_asked a m) told' lent' rows p q w in
    rw (none-broken a told lent (fewer-checked a a.asked m h (checked (with_asked a m) told' lent' c.0)) l)
    (build-fewer (column_scoring a.column) a a.asked m (built a.sample a.graph_maxima) h (rw c.1 tt))

-- ---- a greater maximum of pushes

-- An accepted answer stays the same under a greater maximum of pushes, where that passes 1 to 7 too.
pub more-pushes : (i : Input) (l m : ℕ) (told lent told' lent' : List ℕ) (rows : List (Row Float)) (p q : ℕ) → l ≤ m
    → answer (with_pushes i l) told lent ≡ listed rows p q → first_broken (list_rules (with_pushes i m) told' lent') ≡ 0
    → answer (with_pushes i m) told' lent' ≡ listed rows p q
unfolding answer after_checks
more-pushes i l m told lent told' lent' rows p q le t e =
    let a = passed (with_pushes i l) told lent rows p q t in
    let c = checked (with_pushes i l) told lent a.0 in
    rw e (greater-maximum (column-keeps i.column c.column-fits) i l m (some-pushes (with_pushes i l) c) le (λ x. refusal-listed (sym x ∙ a.1)) ∙ a.1)
