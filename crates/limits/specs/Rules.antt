-- Rules in order: laws of `first_broken`, for a call that tests one rule after the other.
use Rattle.std.specs.Prelude.{◌≡◌, refl, ℕ, zero, suc, ◌<◌, Bool, true, false, ◌&&◌, List, [], ◌∷◌, ◌++◌, eqb, length}
use Rattle.std.proofs.Common.{sym, ap, ◌∙◌, arith}
use Rattle.definition.specs.Refusal.{Rule, first_broken}
use Rattle.bio_ids.specs.Sizes.{k_rules}
use Rattle.definition.specs.Limits.{Sample, GraphMaxima, Input, k_fits, reference_fits, reference_bases, ends_fit, reads_fit, graph_maxima_fit, settings_fit, column_fits, is_long_enough, origin_rules, sample_rules, graph_rules, list_rules}

abbrev pub rule : ℕ → Bool → Rule
rule n b = record { number = n; holds = b }

-- 1 to 3
unfoldable pub reference_rules : ℕ → List ℕ → List Rule
reference_rules k reference = rule 1 (k_fits k) ∷ rule 2 (reference_fits k reference) ∷ rule 3 (reference_bases reference) ∷ []

pub all_hold : 0 ≡ first_broken []
unfolding first_broken
all_hold = refl

module _ (n : ℕ) (b : Bool) (rs : List Rule) where
  pub broken : b ≡ false → n ≡ first_broken (rule n b ∷ rs)
  unfolding first_broken
  broken h = rw (h, first_broken)

  pub holds : b ≡ true → first_broken rs ≡ first_broken (rule n b ∷ rs)
  unfolding first_broken
  holds h = rw (h, first_broken)

-- no rule has the number 0, which says that all hold
abbrev pub Numbered : List Rule → Type 0
Numbered [] = Unit {0}
Numbered (r ∷ rs) = (0 < r.number) × Numbered rs

-- n is what the code's check of the first rules answered
pub first-broken : (xs ys : List Rule) (n : ℕ) → n ≡ first_broken xs → 0 < n → n ≡ first_broken (xs ++ ys)
unfolding first_broken
first-broken [] ys n e h = absurd (omega arith)
first-broken (r ∷ rs) ys n e h = go r.holds refl (λ k. first-broken rs ys n k h)
  where
    go : (b : Bool) → r.holds ≡ b → (n ≡ first_broken rs → n ≡ first_broken (rs ++ ys)) → n ≡ first_broken (r ∷ (rs ++ ys))
    go true f ih = rw (f, first_broken) (ih (rw (f, first_broken) at e))
    go false f ih = rw (f, first_broken) (rw (f, first_broken) at e)

pub first-hold : (xs ys : List Rule) → Numbered xs → 0 ≡ first_broken xs → first_broken ys ≡ first_broken (xs ++ ys)
unfolding first_broken
first-hold [] ys d e = refl
first-hold (r ∷ rs) ys d e = go r.holds refl (λ k. first-hold rs ys d.1 k)
  where
    go : (b : Bool) → r.holds ≡ b → (0 ≡ first_broken rs → first_broken ys ≡ first_broken (rs ++ ys)) → first_broken ys ≡ first_broken (r ∷ (rs ++ ys))
    go true f ih = rw (f, first_broken) (ih (rw (f, first_broken) at e))
    go false f ih = let z : 0 ≡ r.number = rw (f, first_broken) at e in let y : 0 < r.number = d.0 in absurd (omega arith)

-- ---- 7, tested once the rules before it hold

-- what the rules before 7 answered, and 7 where they hold and a slice is short
unfoldable pub or_short : ℕ → Bool → ℕ
or_short zero b = elim b [ true ↦ 0 | false ↦ 7 ]
or_short (suc n) b = suc n

-- a refusal by an earlier rule stays
pub earlier : (n : ℕ) (b : Bool) → 0 < n → n ≡ or_short n b
unfolding or_short
earlier zero b h = absurd (omega arith)
earlier (suc n) b h = refl

-- where the rules before 7 hold, the slices decide
pub short-7 : (b : Bool) → b ≡ false → 7 ≡ or_short 0 b
unfolding or_short
short-7 b e = rw e

pub none-7 : (b : Bool) → b ≡ true → 0 ≡ or_short 0 b
unfolding or_short
none-7 b e = rw e

-- slices that are long enough add nothing
pub or-long : (n : ℕ) → or_short n true ≡ n
unfolding or_short
or-long zero = refl
or-long (suc n) = refl

-- n is what the code's check of the rules before it answered
module _ (xs : List Rule) (numbered : Numbered xs) where
  pub then-7 : (n : ℕ) → n ≡ first_broken xs → (b : Bool) → or_short n b ≡ first_broken (xs ++ (rule 7 b ∷ []))
  unfolding or_short
  then-7 zero h true = all_hold ∙ holds 7 true [] refl ∙ first-hold xs (rule 7 true ∷ []) numbered h
  then-7 zero h false = broken 7 false [] refl ∙ first-hold xs (rule 7 false ∷ []) numbered h
  then-7 (suc n) h b = first-broken xs (rule 7 b ∷ []) (suc n) h (omega arith)

-- r is what a call answers that is told whether the slices are long enough, by b; n is what the rules before 7 answered, and first the number of them all
module _ (n : ℕ) (first : List ℕ → List ℕ → ℕ) (h : (told lent : List ℕ) → or_short n (is_long_enough told lent) ≡ first told lent) (b : Bool) (r : ℕ) (e : r ≡ or_short n b) where
  pub told-7 : (told lent : List ℕ) → is_long_enough told lent ≡ b → r ≡ first told lent
  told-7 told lent f = e ∙ ap (or_short n) (sym f) ∙ h told lent

  -- and 7 is still open where they are only taken to be
  pub open-7 : b ≡ true → (told lent : List ℕ) → or_short r (is_long_enough told lent) ≡ first told lent
  open-7 f told lent = ap (λ (m : ℕ). or_short m (is_long_enough told lent)) (e ∙ ap (or_short n) f ∙ or-long n) ∙ h told lent

-- the check of k refused nothing
pub k-holds : (k : ℕ) (ys : List Rule) → 0 ≡ first_broken (k_rules k) → first_broken ys ≡ first_broken (rule 1 (k_fits k) ∷ ys)
k-holds k ys e = first-hold (k_rules k) ys (omega arith, tt) e

-- every rule holds
abbrev pub Holds : List Rule → Type 0
Holds [] = Unit {0}
Holds (r ∷ rs) = (r.holds ≡ true) × Holds rs

-- what a caller may take from the answer 0
pub none-broken : (rs : List Rule) → Numbered rs → first_broken rs ≡ 0 → Holds rs
unfolding first_broken
none-broken [] d e = tt
none-broken (r ∷ rs) d e = go r.holds refl (none-broken rs d.1)
  where
    go : (b : Bool) → r.holds ≡ b → (first_broken rs ≡ 0 → Holds rs) → Holds (r ∷ rs)
    go true f ih = (f, ih (rw (f, first_broken) at e))
    go false f ih = let z : r.number ≡ 0 = rw (f, first_broken) at e in let y : 0 < r.number = d.0 in absurd (omega arith)

-- ---- the rules of each call, parted as the code checks them

pub reference-numbered : (k : ℕ) (reference : List ℕ) → Numbered (reference_rules k reference)
unfolding reference_rules
reference-numbered k reference = (omega arith, (omega arith, (omega arith, tt)))

pub sample-numbered : (s : Sample) → Numbered (sample_rules s)
unfolding sample_rules
sample-numbered s = (omega arith, (omega arith, (omega arith, (omega arith, tt))))

pub origin-parts : (k : ℕ) (reference ends bases : List ℕ)
    → first_broken (reference_rules k reference ++ (rule 4 (ends_fit ends bases) ∷ [])) ≡ first_broken (origin_rules k reference ends bases)
unfolding reference_rules origin_rules
origin-parts k reference ends bases = refl

pub sample-parts : (s : Sample)
    → first_broken (reference_rules s.k s.reference ++ (rule 4 (ends_fit s.ends s.bases && eqb (length s.qualities) (length s.bases)) ∷ [])) ≡ first_broken (sample_rules s)
unfolding reference_rules sample_rules reads_fit
sample-parts s = refl

pub graph-rules : (s : Sample) (m : GraphMaxima) (told lent : List ℕ)
    → first_broken (sample_rules s ++ (rule 5 (graph_maxima_fit m) ∷ rule 7 (is_long_enough told lent) ∷ [])) ≡ first_broken (graph_rules s m told lent)
unfolding graph_rules
graph-rules s m told lent = refl

-- 1 to 5
unfoldable pub graph_early : Sample → GraphMaxima → List Rule
graph_early s m = sample_rules s ++ (rule 5 (graph_maxima_fit m) ∷ [])

pub graph-then-7 : (s : Sample) (m : GraphMaxima) (n : ℕ) → n ≡ first_broken (graph_early s m) → (told lent : List ℕ) → or_short n (is_long_enough told lent) ≡ first_broken (graph_rules s m told lent)
unfolding graph_early graph_rules sample_rules
graph-then-7 s m n h told lent = then-7 (graph_early s m) (omega arith, (omega arith, (omega arith, (omega arith, (omega arith, tt))))) n h (is_long_enough told lent)

-- 1 to 6
unfoldable pub list_early : Input → List Rule
list_early i = sample_rules i.sample ++ (rule 5 (settings_fit i.asked i.graph_maxima i.search_maxima) ∷ rule 6 (column_fits i.column) ∷ [])

pub list-then-7 : (i : Input) (n : ℕ) → n ≡ first_broken (list_early i) → (told lent : List ℕ) → or_short n (is_long_enough told lent) ≡ first_broken (list_rules i told lent)
unfolding list_early list_rules sample_rules
list-then-7 i n h told lent =
    then-7 (list_early i) (omega arith, (omega arith, (omega arith, (omega arith, (omega arith, (omega arith, tt)))))) n h (is_long_enough told lent)
