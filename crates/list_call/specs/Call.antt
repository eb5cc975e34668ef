-- The whole call: the rules' number says whether it is refused with nothing touched, or the work is done. Assumes nothing.
use Rattle.std.specs.Prelude.{◌≡◌, true, false, Float}
use Rattle.std.proofs.Math.Path.{refl, ap}
use Rattle.std.proofs.Common.{sym, subst, ◌∙◌}
use Prim.Native.Nat.{ℕ, zero, suc, ◌<◌, ◌≤◌}
use native.Mathlib.Omega.{arith}
use Rattle.definition.specs.Refusal.{keeps_workspace, first_broken}
use Rattle.definition.specs.Score.{column_scoring}
use Rattle.definition.specs.Limits.{Input, is_long_enough, sample_rules, list_rules}
use Rattle.definition.specs.Listing.{Answer, refusal, listed, answer, after_checks}
use Rattle.theorems.proofs.Checks.{checked}
use Rattle.theorems.proofs.Late.{LateAnswer, found-late, accepted-zero, list-keeps}
use Rattle.limits.specs.Rules.{none-broken}
use Rattle.list_interface.specs.declared.ListAnswer.{ListAnswer}
use Rattle.list_interface.specs.Answers.{refused_answer}
use Rattle.list_lent.specs.Lent.{told_of, lent_of, long_of}
use Rattle.list_work.specs.Outcome.{Outputs, Tables, Listed, found, summary, listed-refused}
use Rattle.list_call.specs.Outcome.{after-work, after-checks}
use Rattle.list_call.specs.Within.{lengths_of, Within, Done, Called}

-- after what is answered once no rule is broken, the workspace is zero
found-zero : (i : Input) → keeps_workspace (summary (found i)).refusal ≡ false
unfolding summary
found-zero i = go (found i) (found-late i)
  where
    go : (o : Answer Float) → LateAnswer o → keeps_workspace (summary o).refusal ≡ false
    go (refusal n) l = l.1
    go (listed rs pushes longest) l = accepted-zero

module _ (i : Input) (rows : ℕ) (o : Outputs) (w : Tables) (n : ℕ) (e : n ≡ first_broken (list_rules i (told_of i) (lent_of (lengths_of rows o w)))) where
  -- ---- refused by a rule

  answer-refused : 0 < n → answer i (told_of i) (lent_of (lengths_of rows o w)) ≡ refusal n
  unfolding answer after_checks
  answer-refused h = ap (after_checks (column_scoring i.column) i) (sym e) ∙ go n h
    where
      go : (k : ℕ) → 0 < k → after_checks (column_scoring i.column) i k ≡ refusal k
      go zero l = absurd (omega arith)
      go (suc k) l = refl

  pub call-refused : 0 < n → (r : ListAnswer) → r ≡ refused_answer n → Called i rows r o o w w
  call-refused h r f =
      let g : r.refusal ≡ n = ap (λ (a : ListAnswer). a.refusal) f in
      let k : keeps_workspace r.refusal ≡ true = ap keeps_workspace (g ∙ e) ∙ list-keeps i (told_of i) (lent_of (lengths_of rows o w)) (omega arith) in
      record {
        listed = listed-refused i (answer i (told_of i) (lent_of (lengths_of rows o w))) n r o (answer-refused h) f;
        tables = after-checks r.refusal i w k;
      }

  -- ---- not refused

  module _ (h : n ≤ 0) where
    none : first_broken (list_rules i (told_of i) (lent_of (lengths_of rows o w))) ≡ 0
    none = omega arith

    long : is_long_enough (told_of i) (lent_of (lengths_of rows o w)) ≡ true
    unfolding list_rules sample_rules
    long =
        (none-broken (list_rules i (told_of i) (lent_of (lengths_of rows o w))) (omega arith, (omega arith, (omega arith, (omega arith, (omega arith, (omega arith, (omega arith, tt))))))) none
        ).1.1.1.1.1.1.0

    pub call-within : Within i o w
    call-within =
        let l = long_of i (lengths_of rows o w) long in
        record {
          checks = checked i (told_of i) (lent_of (lengths_of rows o w)) none;
          outs = record { scores = l.row-scores; closings = l.row-closings; edges = l.row-edges; bases = l.bases; sequences = l.sequences; places = l.places };
          room = record { vertices = l.vertices; edges = l.edges; index = l.index; nodes = l.nodes; targets = l.targets; paths = l.paths; scores = l.scores; active = l.active; queue = l.queue; closed = l.closed; order = l.order; marks = l.marks; walks = l.walks };
        }

    answer-found : found i ≡ answer i (told_of i) (lent_of (lengths_of rows o w))
    unfolding answer after_checks
    answer-found = ap (after_checks (column_scoring i.column) i) (sym none)

    pub call-done : (r : ListAnswer) (o' : Outputs) (w' : Tables) → Done i r o o' w w' → Called i rows r o o' w w'
    call-done r o' w' d =
        record {
          listed = subst (λ (a : Answer Float). Listed i a r o o') answer-found d.listed;
          tables = d.tables ∙ after-work r.refusal i w (ap keeps_workspace d.listed.refusal ∙ found-zero i);
        }
