-- The whole work: the graph and its trees, then the search over the parts of the tables that they fill. Assumes nothing.
use Rattle.std.specs.Prelude as Prelude
use Rattle.std.specs.Prelude.{◌≡◌, ◌≢◌, List, ℕ, ◌+◌, ◌<◌, ◌≤◌, max, length, take, Ok, Err}
use Rattle.std.proofs.Math.Path.{ap}
use Rattle.std.proofs.Common.{refl, sym, subst, ◌∙◌, arith, length-take-le}
use Rattle.definition.specs.Refusal.{Result, refused}
use Rattle.definition.specs.Limits.{Sample, GraphMaxima, Input}
use Rattle.definition.specs.Score.{column_scoring}
use Rattle.definition.specs.Building.{Built, built}
use Rattle.definition.specs.Listing.{after_build}
use Rattle.theorems.proofs.Checks.{sample-checked}
use Rattle.tables.specs.Widths.{edge_numbers}
use Rattle.slice_lengths.specs.Workspaces.{open_trees}
use Rattle.slice_lengths.specs.Bounds.{settings-most}
use Rattle.search_ground.specs.Exact.{built-exact}
use Rattle.graph_work.specs.declared.Raise.{Raise}
use Rattle.refusals.specs.declared.Refusal.{Refusal}
use Rattle.refusals.specs.Numbers.{number}
use Rattle.graph_work.specs.Raise.{Raises, RaisedAt, RaisedOf, raised-built}
use Rattle.list_interface.specs.declared.ListAnswer.{ListAnswer}
use Rattle.list_interface.specs.Answers.{refused_answer}
use Rattle.list_work.specs.Outcome.{Outputs, Tables, tables_of, Listed, found, listed-refused}
use Rattle.list_work.specs.Works.{Works, checked-maxima}
use Rattle.list_work.specs.Search.{Searches, none-asked}

max-first : (a b n : ℕ) → n ≡ max a b → a ≤ n
max-first a b n e = omega arith

-- an answer that tells nothing is the one of no refusal
none-told : (a : ListAnswer) → (a.refusal ≡ 0) × ((a.paths ≡ 0) × ((a.pushes ≡ 0) × (a.mark ≡ 0))) → a ≡ refused_answer 0
none-told a (r, (p, (q, m))) = rw (r, p, q, m) refl

-- ---- the sample that is handed to the building is that of the input

pub raised-of : (s s' : Sample) (m : GraphMaxima) (vs es x op : List ℕ) (r : Prelude.Result Raise Refusal) → s ≡ s' → RaisedOf s m vs es x op r → RaisedOf s' m vs es x op r
raised-of s s' m vs es x op r e h = subst (λ (s : Sample). RaisedOf s m vs es x op r) e h

pub raises-of : {s s' : Sample} {m : GraphMaxima} {vs es idx x op : List ℕ} → s ≡ s' → Raises s' m vs es idx x op → Raises s m vs es idx x op
raises-of {m = m} {vs = vs} {es = es} {idx = idx} {x = x} {op = op} e h = subst (λ (s : Sample). Raises s m vs es idx x op) (sym e) h

-- the parts of the tables that the search is handed; ne, ni and nt are the lengths of those tables
pub record Parts (i : Input) (ne ni nt : ℕ) (b : Raise) : Type 0 where
  pub few : b.built.edges + 1 ≤ 8192
  pub rows : edge_numbers (b.built.edges + 1) ≤ ne
  pub index : i.graph_maxima.vertices ≤ ni
  pub targets : b.built.edges + 1 ≤ nt

module _ {i : Input} {o : Outputs} {w : Tables} (q : Works i o w) where
  pub work-raises : Raises i.sample i.graph_maxima w.vertices w.edges w.index w.nodes w.walks
  work-raises =
      record {
        rules = sample-checked i q.checks;
        maxima = checked-maxima i q.checks;
        vertices = q.vertices;
        edges = q.edges;
        index = q.index;
        nodes = q.nodes;
        opened = max-first (open_trees i.graph_maxima) _ (length w.walks) q.walks;
      }

  module _ (vs es x op : List ℕ) (r : Prelude.Result Raise Refusal) (h : RaisedOf i.sample i.graph_maxima vs es x op r) where
    pub work-refused : (e : Refusal) → r ≡ Err e → (a : ListAnswer) → a ≡ refused_answer (number e) → Listed i (found i) a o o
    unfolding after_build
    work-refused e d a f =
        let z : built i.sample i.graph_maxima ≡ refused (number e) = rw d at h in
        listed-refused i (found i) (number e) a o (ap (λ (u : Result Built). after_build (column_scoring i.column) i u) z) f

    module _ (b : Raise) (d : r ≡ Ok b) where
      raised : RaisedAt i.sample i.graph_maxima vs es x op b
      raised = rw d at h

      pub work_none : i.asked ≡ 0 → (a : ListAnswer) → (a.refusal ≡ 0) × ((a.paths ≡ 0) × ((a.pushes ≡ 0) × (a.mark ≡ 0))) → Listed i (found i) a o o
      work_none e a f = none-asked i e (raised-built raised) a o (none-told a f)

      pub work-parts : {ne ni : ℕ} → ne ≡ length w.edges → ni ≡ length w.index → Parts i ne ni (length w.targets) b
      work-parts le li =
          let a = raised.at.edges_fit in
          let c = (settings-most i.asked i.graph_maxima i.search_maxima q.checks.settings-fit).edges_most in
          let e = q.edges in
          let f = q.index in
          let g = q.targets in
          record { few = omega arith; rows = omega arith; index = omega arith; targets = omega arith }

      module _ (idx : List ℕ) (lv : length vs ≡ length w.vertices) (le : length es ≡ length w.edges) (li : length idx ≡ length w.index) where
        pub work-searches : 0 < i.asked → length op ≡ length w.walks
            → Searches i o (tables_of vs (take (edge_numbers (b.built.edges + 1)) es) (take i.graph_maxima.vertices idx) x (take (b.built.edges + 1) w.targets) w.paths w.scores w.active w.queue w.closed w.order w.marks op) b
        work-searches some lo =
            record {
              checks = q.checks;
              outs = q.outs;
              some = some;
              raised = record { at = built-exact es b.built.edges raised.at; there = raised.there };
              rows = length-take-le (edge_numbers (b.built.edges + 1)) es (work-parts le li).rows;
              vertices = lv ∙ q.vertices;
              index = length-take-le i.graph_maxima.vertices idx (work-parts le li).index;
              targets = length-take-le (b.built.edges + 1) w.targets (work-parts le li).targets;
              paths = q.paths;
              scores = q.scores;
              active = q.active;
              queue = q.queue;
              closed = q.closed;
              order = q.order;
              marks = q.marks;
              walks = lo ∙ q.walks;
            }

pub some-asked : {n : ℕ} → n ≢ 0 → 0 < n
some-asked h = omega arith
