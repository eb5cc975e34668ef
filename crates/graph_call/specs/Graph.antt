-- The whole call for edges and trees: refused by the rules with nothing touched, or the work over the parts told. Assumes nothing.
use Rattle.std.specs.Prelude.{◌≡◌, refl, true, false, List, [], ◌∷◌, ◌++◌, ℕ, zero, suc, ◌<◌, ◌≤◌, length, take, drop}
use Rattle.std.proofs.Common.{sym, ap, subst, ◌∙◌, arith, length-take-le}
use Rattle.std.proofs.Math.Decide.{dec_lt}
use Rattle.refusals.specs.declared.Refusal.{Refusal}
use Rattle.refusals.specs.Numbers.{number, number-positive}
use Rattle.definition.specs.Refusal.{keeps_workspace, Rule, first_broken}
use Rattle.definition.specs.Limits.{Sample, GraphMaxima, sample_rules, graph_rules, graph_maxima_fit, is_long_enough}
use Rattle.definition.specs.Building.{built}
use Rattle.definition.specs.Calls.{written_at, GraphOutcome, graph_of, graph_call, after_graph_checks, workspace_after}
use Rattle.theorems.proofs.Late.{graph-keeps, graph-late}
use Rattle.limits.specs.Rules.{rule, Numbered, none-broken, first-broken, first-hold, sample-numbered, graph-rules}
use Rattle.slice_lengths.specs.Workspaces.{vertex_table, edge_table, kmer_index, node_table, open_trees}
use Rattle.slice_lengths.specs.declared.Workspace.{Workspace}
use Rattle.slice_lengths.specs.declared.LengthsTold.{LengthsTold}
use Rattle.slice_lengths.specs.Lengths.{graph_workspace_told, accepted_lengths}
use Rattle.graph_work.specs.Clear.{zeros}
use Rattle.graph_call.specs.declared.GraphAnswer.{GraphAnswer}
use Rattle.graph_call.specs.Lent.{told_for, told_of, Long, long_of, Room, Lent}
use Rattle.graph_call.specs.Outcome.{outcome, refused_answer, Graphed}
use Rattle.graph_call.specs.Clear.{cleared-part}
use Rattle.graph_call.specs.Made.{Made}

-- ---- the rules hold

first_part : (xs ys : List Rule) → Numbered xs → first_broken (xs ++ ys) ≡ 0 → (first_broken xs ≡ 0) × (first_broken ys ≡ 0)
first_part xs ys d e = go (dec_lt 0 (first_broken xs))
  where
    go : Dec (0 < first_broken xs) → (first_broken xs ≡ 0) × (first_broken ys ≡ 0)
    go (yes h) = absurd (let z = first-broken xs ys (first_broken xs) refl h in omega arith)
    go (no h) = (omega arith, first-hold xs ys d (omega arith) ∙ e)

module _ (s : Sample) (m : GraphMaxima) (es ns wv we wi wx wo : List ℕ) where
  abbrev lent : List ℕ
  lent = length es ∷ length ns ∷ length wv ∷ length we ∷ length wi ∷ length wx ∷ length wo ∷ []

  abbrev rules : List Rule
  rules = graph_rules s m (told_of m) lent

  pub record Held : Type 0 where
    pub sample : first_broken (sample_rules s) ≡ 0
    pub maxima : graph_maxima_fit m ≡ true
    pub long : Long m (length es) (length ns) (length wv) (length we) (length wi) (length wx) (length wo)

  held : first_broken rules ≡ 0 → Held
  held e =
      let a = first_part (sample_rules s) (rule 5 (graph_maxima_fit m) ∷ rule 7 (is_long_enough (told_of m) lent) ∷ []) (sample-numbered s) (graph-rules s m (told_of m) lent ∙ e) in
      let b = none-broken (rule 5 (graph_maxima_fit m) ∷ rule 7 (is_long_enough (told_of m) lent) ∷ []) (omega arith, (omega arith, tt)) a.1 in
      record { sample = a.0; maxima = b.0; long = long_of m (length es) (length ns) (length wv) (length we) (length wi) (length wx) (length wo) b.1.0 }

  -- ---- refused by a rule
  module _ (c : Refusal) (e : number c ≡ first_broken rules) where
    unchanged : (told : ℕ) (w : List ℕ) → w ≡ workspace_after 0 (number c) told w
    unfolding workspace_after
    unchanged told w =
        let l = number-positive c in
        let k : keeps_workspace (number c) ≡ true = ap keeps_workspace e ∙ graph-keeps s m (told_of m) lent (omega arith) in
        rw (k, workspace_after)

    refused-is : outcome (refused_answer (number c)) es ns ≡ graph_call s m (graph_workspace_told m) (length wv ∷ length we ∷ length wi ∷ length wx ∷ length wo ∷ []) es ns
    unfolding graph_call graph_of after_graph_checks
    refused-is = go (number c) refl (number-positive c) ∙ ap (λ (k : ℕ). graph_of (after_graph_checks s m k) es ns) e
      where
        go : (k : ℕ) → number c ≡ k → 0 < k → outcome (refused_answer (number c)) es ns ≡ graph_of (after_graph_checks s m (number c)) es ns
        go zero f l = absurd (omega arith)
        go (suc k) f l = rw f

    pub graph-refused : (a : GraphAnswer) → a ≡ refused_answer (number c) → Graphed s m a es es ns ns wv wv we we wi wi wx wx wo wo
    graph-refused a f =
        rw f (record {
          is = refused-is;
          w-vertices = unchanged (vertex_table m) wv;
          w-edges = unchanged (edge_table m) we;
          w-index = unchanged (kmer_index m) wi;
          w-nodes = unchanged (node_table m) wx;
          w-open = unchanged (open_trees m) wo;
        })

  -- ---- not refused
  module _ (e : 0 ≡ first_broken rules) where
    work-is : graph_of (built s m) es ns ≡ graph_call s m (graph_workspace_told m) (length wv ∷ length we ∷ length wi ∷ length wx ∷ length wo ∷ []) es ns
    unfolding graph_call after_graph_checks
    work-is = ap (λ (k : ℕ). graph_of (after_graph_checks s m k) es ns) e

    -- t is what the code was told
    module _ (t : LengthsTold) (q : t ≡ told_for s.k m) where
      at_told : (P : Workspace → Type 0) → P (told_for s.k m).workspace → P t.workspace
      at_told P = subst (λ (u : LengthsTold). P u.workspace) (sym q)

      pub graph-room : Room t.workspace wv we wi wx wo
      unfolding accepted_lengths
      graph-room =
          let x = (held (sym e)).long in
          at_told (λ u. Room u wv we wi wx wo)
          (record { vertices = x.w-vertices; edges = x.w-edges; index = x.w-index; nodes = x.w-nodes; «open» = x.w-open })

      pub graph-lent : Lent s m es ns (take t.workspace.vertices wv) (take t.workspace.edges we) (take t.workspace.index wi) (take t.workspace.nodes wx) (take t.workspace.«open» wo)
      unfolding accepted_lengths
      graph-lent =
          let x = held (sym e) in
          at_told (λ u. Lent s m es ns (take u.vertices wv) (take u.edges we) (take u.index wi) (take u.nodes wx) (take u.«open» wo))
          (record {
            rules = x.sample;
            maxima = x.maxima;
            edges = x.long.edges;
            nodes = x.long.nodes;
            w-vertices = length-take-le (vertex_table m) wv x.long.w-vertices;
            w-edges = length-take-le (edge_table m) we x.long.w-edges;
            w-index = length-take-le (kmer_index m) wi x.long.w-index;
            w-nodes = length-take-le (node_table m) wx x.long.w-nodes;
            w-open = length-take-le (open_trees m) wo x.long.w-open;
          })

      module _ (r : GraphAnswer) (es' ns' pv pe pi px po : List ℕ)
          (x : Made s m r es es' ns ns' (take t.workspace.vertices wv) pv (take t.workspace.edges we) pe (take t.workspace.index wi) pi (take t.workspace.nodes wx) px (take t.workspace.«open» wo) po) where
        not-kept : keeps_workspace r.refusal ≡ false
        not-kept = ap (λ (o : GraphOutcome). keeps_workspace o.refusal) x.is ∙ graph-late s m es ns

        after : (told n : ℕ) (w p : List ℕ) → n ≤ length w → p ≡ zeros (length (take n w)) → n ≡ told → p ++ drop n w ≡ workspace_after 0 r.refusal told w
        unfolding workspace_after
        after told n w p l z e = cleared-part n w p l z ∙ ap (λ (k : ℕ). written_at 0 (zeros k) w) e ∙ rw (not-kept, workspace_after)

        pub graph-made : Graphed s m r es es' ns ns' wv (pv ++ drop t.workspace.vertices wv) we (pe ++ drop t.workspace.edges we) wi (pi ++ drop t.workspace.index wi) wx (px ++ drop t.workspace.nodes wx) wo (po ++ drop t.workspace.«open» wo)
        unfolding accepted_lengths
        graph-made =
            let y = graph-room in
            record {
              is = x.is ∙ work-is;
              w-vertices = after (vertex_table m) t.workspace.vertices wv pv y.vertices x.w-vertices (ap (λ (u : LengthsTold). u.workspace.vertices) q);
              w-edges = after (edge_table m) t.workspace.edges we pe y.edges x.w-edges (ap (λ (u : LengthsTold). u.workspace.edges) q);
              w-index = after (kmer_index m) t.workspace.index wi pi y.index x.w-index (ap (λ (u : LengthsTold). u.workspace.index) q);
              w-nodes = after (node_table m) t.workspace.nodes wx px y.nodes x.w-nodes (ap (λ (u : LengthsTold). u.workspace.nodes) q);
              w-open = after (open_trees m) t.workspace.«open» wo po y.«open» x.w-open (ap (λ (u : LengthsTold). u.workspace.«open») q);
            }
