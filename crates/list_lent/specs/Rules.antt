-- 1 to 7 of the call for the list: the rules 1 to 6 first, then 7, once the settings are known to be within the limits. Assumes nothing.
use Rattle.std.specs.Prelude.{◌≡◌, refl, Bool, true, false, ◌&&◌, List, [], ℕ, ℤ, ◌≤◌}
use Rattle.std.proofs.Common.{sym, ap, subst, ◌∙◌, arith}
use Rattle.definition.specs.Refusal.{first_broken}
use Rattle.definition.specs.Limits.{Sample, Input, is_long_enough, list_rules}
use Rattle.theorems.proofs.Checks.{checked}
use Rattle.slice_lengths.specs.Bounds.{InLimits, settings-most, k-most}
use Rattle.limits.specs.Rules.{or_short}
use Rattle.limits.specs.Long as long
use Rattle.slice_lengths.specs.Lengths.{accepted_lengths}
use Rattle.slice_lengths.specs.declared.LengthsTold.{LengthsTold}
use Rattle.limits.specs.declared.Maxima.{Maxima}
use Rattle.limits.specs.Handed.{graph_maxima_of, search_maxima_of, input_of}
use Rattle.list_interface.specs.declared.Input as code
use Rattle.list_interface.specs.Handed.{maxima_of, handed}
use Rattle.list_lent.specs.declared.Lent as lent
use Rattle.list_lent.specs.Lent.{told_of, lent_of, outputs_told, outputs_lent, graph_told, graph_lent, search_told, search_lent, long-is}

-- ---- the sample and the maxima are parts of what is handed in

module _ (i : code.Input) (s : Sample) (m : Maxima) (e : s ≡ (handed i).sample) (f : m ≡ maxima_of i.settings) where
  pub handed-checked : (n : ℕ)
      → ((threshold : ℤ) (recovery : Bool) (told lent : List ℕ) → or_short n (is_long_enough told lent) ≡ first_broken (list_rules (input_of s m.asked threshold recovery (graph_maxima_of m.graph) (search_maxima_of m.search) i.column.now) told lent))
      → (told lent : List ℕ) → or_short n (is_long_enough told lent) ≡ first_broken (list_rules (handed i) told lent)
  handed-checked n h told lent =
      let a = i.settings in
      h a.threshold a.recovery told lent
      ∙ (λ j. first_broken (list_rules (input_of (e j) (f j).asked a.threshold a.recovery (graph_maxima_of (f j).graph) (search_maxima_of (f j).search) i.column.now) told lent))

  pub handed-within : InLimits i.settings.asked (graph_maxima_of i.settings.graph) (search_maxima_of i.settings.search) → InLimits m.asked (graph_maxima_of m.graph) (search_maxima_of m.search)
  handed-within = subst (λ (a : Maxima). InLimits a.asked (graph_maxima_of a.graph) (search_maxima_of a.search)) (sym f)

  pub handed-told : (k : ℕ) (t : LengthsTold) → t ≡ accepted_lengths k m.asked (graph_maxima_of m.graph) (search_maxima_of m.search)
      → t ≡ accepted_lengths k i.settings.asked (graph_maxima_of i.settings.graph) (search_maxima_of i.settings.search)
  handed-told k t h = h ∙ (λ j. accepted_lengths k (f j).asked (graph_maxima_of (f j).graph) (search_maxima_of (f j).search))

-- ---- 1 to 6, and then 7

-- n is what the code's check of 1 to 6 answered
module _ (i : Input) (n : ℕ) (h : (told lent : List ℕ) → or_short n (is_long_enough told lent) ≡ first_broken (list_rules i told lent)) where
  module _ (l : n ≤ 0) (told lent : List ℕ) where
    late : (b : Bool) → is_long_enough told lent ≡ b → or_short 0 b ≡ first_broken (list_rules i told lent)
    late b e = let z : 0 ≡ n = omega arith in ap (or_short 0) (sym e) ∙ ap (λ (m : ℕ). or_short m (is_long_enough told lent)) z ∙ h told lent

    late-refused : is_long_enough told lent ≡ false → 7 ≡ first_broken (list_rules i told lent)
    unfolding or_short
    late-refused e = late false e

    late-accepted : is_long_enough told lent ≡ true → 0 ≡ first_broken (list_rules i told lent)
    unfolding or_short
    late-accepted e = late true e

  -- the settings are within the limits
  pub within-limits : n ≤ 0 → (i.sample.k ≤ 128) × InLimits i.asked i.graph_maxima i.search_maxima
  within-limits l =
      let c = checked i [] [] (sym (late-accepted l [] [] (sym long.none-short))) in
      (k-most i.sample.k c.k-fits, settings-most i.asked i.graph_maxima i.search_maxima c.settings-fit)

  -- ---- the three tests of 7
  -- t is what the code was told
  module _ (l : n ≤ 0) (w : lent.Lent) (t : LengthsTold) (told_is : t ≡ accepted_lengths i.sample.k i.asked i.graph_maxima i.search_maxima) where
    abbrev outputs : Bool
    outputs = is_long_enough (outputs_told t) (outputs_lent w)

    abbrev graphs : Bool
    graphs = is_long_enough (graph_told t.workspace) (graph_lent w)

    abbrev searches : Bool
    searches = is_long_enough (search_told t.workspace) (search_lent w)

    false-1 : (a b c : Bool) → a ≡ false → (a && (b && c)) ≡ false
    false-1 a b c e = rw e

    false-2 : (a b c : Bool) → b ≡ false → (a && (b && c)) ≡ false
    false-2 true b c e = rw e
    false-2 false b c e = refl

    false-3 : (a b c : Bool) → c ≡ false → (a && (b && c)) ≡ false
    false-3 true true c e = e
    false-3 true false c e = refl
    false-3 false b c e = refl

    true-3 : (a b c : Bool) → a ≡ true → b ≡ true → c ≡ true → (a && (b && c)) ≡ true
    true-3 a b c e f g = rw (e, f, g)

    pub short-outputs : outputs ≡ false → 7 ≡ first_broken (list_rules i (told_of i) (lent_of w))
    short-outputs e = late-refused l (told_of i) (lent_of w) (long-is i w t told_is ∙ false-1 outputs graphs searches e)

    pub short-graph : graphs ≡ false → 7 ≡ first_broken (list_rules i (told_of i) (lent_of w))
    short-graph e = late-refused l (told_of i) (lent_of w) (long-is i w t told_is ∙ false-2 outputs graphs searches e)

    pub short-search : searches ≡ false → 7 ≡ first_broken (list_rules i (told_of i) (lent_of w))
    short-search e = late-refused l (told_of i) (lent_of w) (long-is i w t told_is ∙ false-3 outputs graphs searches e)

    pub none-short : outputs ≡ true → graphs ≡ true → searches ≡ true → 0 ≡ first_broken (list_rules i (told_of i) (lent_of w))
    none-short e f g = late-accepted l (told_of i) (lent_of w) (long-is i w t told_is ∙ true-3 outputs graphs searches e f g)
