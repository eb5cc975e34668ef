-- 1 to 5 and 7 of the call for edges and trees: the rules 1 to 5 first, then 7, once the maxima are known to be within the limits. Assumes nothing.
use Rattle.std.specs.Prelude.{◌≡◌, true, false, List, [], ℕ, ◌≤◌}
use Rattle.std.proofs.Common.{sym, ap, ◌∙◌, arith}
use Rattle.definition.specs.Refusal.{first_broken}
use Rattle.definition.specs.Limits.{Sample, GraphMaxima, graph_maxima_fit, is_long_enough, sample_rules, graph_rules}
use Rattle.slice_lengths.specs.Bounds.{k-most}
use Rattle.limits.specs.Rules.{none-broken, or_short}
use Rattle.slice_lengths.specs.Lengths.{graph_slices}
use Rattle.slice_lengths.specs.declared.LengthsTold.{LengthsTold}
use Rattle.graph_call.specs.Lent.{told_for, told_of, slices-told}

-- the check of 1 to 5 refused nothing
module _ (s : Sample) (m : GraphMaxima) (h : (told lent : List ℕ) → or_short 0 (is_long_enough told lent) ≡ first_broken (graph_rules s m told lent)) where
  pub within-limits : (s.k ≤ 128) × (graph_maxima_fit m ≡ true)
  unfolding graph_rules sample_rules is_long_enough or_short
  within-limits =
      let p = none-broken (graph_rules s m [] []) (omega arith, (omega arith, (omega arith, (omega arith, (omega arith, (omega arith, tt)))))) (sym (h [] [])) in
      (k-most s.k p.0, p.1.1.1.1.0)

  -- t is what the code was told
  module _ (t : LengthsTold) (e : t ≡ told_for s.k m) (lent : List ℕ) where
    told_is : is_long_enough (told_of m) lent ≡ is_long_enough (graph_slices t) lent
    told_is = ap (λ (n : List ℕ). is_long_enough n lent) (sym (ap graph_slices e ∙ slices-told s.k m))

    pub late-refused : is_long_enough (graph_slices t) lent ≡ false → 7 ≡ first_broken (graph_rules s m (told_of m) lent)
    unfolding or_short
    late-refused f = ap (or_short 0) (sym (told_is ∙ f)) ∙ h (told_of m) lent

    pub late-accepted : is_long_enough (graph_slices t) lent ≡ true → 0 ≡ first_broken (graph_rules s m (told_of m) lent)
    unfolding or_short
    late-accepted f = ap (or_short 0) (sym (told_is ∙ f)) ∙ h (told_of m) lent
