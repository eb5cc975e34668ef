-- The search and the list over a raised graph: what each part asks, and what the answer is to the definition. Assumes nothing.
use Rattle.std.specs.Prelude.{◌≡◌, List, ◌++◌, map, ℕ, ◌+◌, ◌*◌, ◌^◌, ◌<◌, ◌≤◌, max, length, take, Float}
use Rattle.std.proofs.Math.Path.{refl, ap}
use Rattle.std.proofs.Common.{sym, subst, ◌∙◌, arith, mul-le-mul, mul-le-mul_right, length-append, length-take-le}
use Rattle.std.proofs.Math.Bool.{false}
use Rattle.std.proofs.Math.Option.{some}
use Rattle.std.proofs.Math.Dec.{eqb}
use Rattle.std.proofs.lemmas.List.{length-map}
use Rattle.std.proofs.Common.{ne_eqb, eq-eqb}
use Rattle.laws.specs.Records.{field-other}
use Rattle.definition.specs.Refusal.{Result, ok, first_broken}
use Rattle.definition.specs.Limits.{Input, bases_stride, sample_rules}
use Rattle.definition.specs.Score.{column_scoring}
use Rattle.definition.specs.Search.{SearchInput, Turn, search}
use Rattle.definition.specs.Building.{Built, built}
use Rattle.definition.specs.Listing.{Row, row_of, list_order, search_input, refusal, listed, list_of, answer_of, after_build}
use Rattle.theorems.proofs.Column.{NotNan, column-keeps}
use Rattle.theorems.proofs.Walks.{GoodState, Numbered}
use Rattle.theorems.proofs.Turns.{last_of, search-reached}
use Rattle.theorems.proofs.Bounds.{Counted, search-counted}
use Rattle.theorems.proofs.Checks.{Checked, k-some, some-pushes, sample-checked}
use Rattle.assembly.specs.Fields.{kmer_place}
use Rattle.tables.specs.Widths.{edge_numbers, queued_numbers, offer_numbers}
use Rattle.slice_lengths.specs.Workspaces.{vertex_table, path_table, path_scores, active_nodes, waiting_queue, closed_paths, pivotal_order, pivotal_marks, path_walks, open_trees}
use Rattle.slice_lengths.specs.Bounds.{InLimits, settings-most}
use Rattle.assembly.specs.Symbolic.{linked, length-linked}
use Rattle.junction_tree_graph.specs.Built.{BuiltAt, fits-of}
use Rattle.fork_offers.specs.Actives.{Least}
use Rattle.search_state.specs.Settings.{Setting, setting_of}
use Rattle.search_state.specs.declared.Progress.{Progress}
use Rattle.search_state.specs.Ground.{Ground}
use Rattle.search_ground.specs.Ground.{built_for, setting_for, Lies, ground-tables, ground-of}
use Rattle.std.specs.Prelude as Prelude
use Rattle.std.specs.Prelude.{Bool, Ok, Err}
use Rattle.refusals.specs.declared.Refusal.{Refusal}
use Rattle.refusals.specs.Numbers.{number}
use Rattle.search_state.specs.declared.Setting as code
use Rattle.junction_kbest.specs.Turn.{Stopped, fails, fills}
use Rattle.junction_kbest.specs.Find.{searched, Finds, Ended, Found}
use Rattle.path_list.specs.Told.{Shows}
use Rattle.path_list.specs.List as list
use Rattle.path_list.specs.Ended.{ended-listable, ended-shows}
use Rattle.graph_work.specs.declared.Raise.{Raise}
use Rattle.graph_work.specs.Raise.{RaisedAt, raised-built}
use Rattle.list_interface.specs.declared.ListAnswer.{ListAnswer}
use Rattle.list_interface.specs.Answers.{refused_answer, found_answer, Told32}
use Rattle.list_work.specs.Outcome.{Outputs, outputs_of, Tables, written_list, Listed, found, listed-refused, listed-done, listed-none}
use Rattle.list_work.specs.Works.{Outs, active-some}
use Rattle.search_setup.specs.Chains.{Chains, Chained, Small, Reads}

-- ---- what is asked: a raised graph in tables that end behind the symbolic edge, and a path asked

pub record Searches (i : Input) (o : Outputs) (w : Tables) (b : Raise) : Type 0 where
  pub checks : Checked i
  pub outs : Outs i o
  pub some : 0 < i.asked
  pub raised : RaisedAt i.sample i.graph_maxima w.vertices w.edges w.nodes w.walks b
  pub rows : length w.edges ≡ edge_numbers (b.built.edges + 1)
  pub vertices : length w.vertices ≡ vertex_table i.graph_maxima
  pub index : length w.index ≡ i.graph_maxima.vertices
  pub targets : length w.targets ≡ b.built.edges + 1
  pub paths : length w.paths ≡ path_table i.asked i.search_maxima
  pub scores : length w.scores ≡ path_scores i.asked i.search_maxima
  pub active : length w.active ≡ active_nodes i.asked i.search_maxima
  pub queue : length w.queue ≡ waiting_queue i.search_maxima
  pub closed : length w.closed ≡ closed_paths i.asked
  pub order : length w.order ≡ pivotal_order i.graph_maxima
  pub marks : length w.marks ≡ pivotal_marks i.graph_maxima
  pub walks : length w.walks ≡ path_walks i.asked i.graph_maxima i.search_maxima

-- ---- the slices that a setting reads

module _ {g : code.Setting} {vs es x index targets : List ℕ} {column : List Float} (r : Reads g vs es x index targets column) where
  pub finds-read : {t : List ℕ} {sc : List Float} {ac queue closed order marks walks : List ℕ} → Finds (setting_of g) vs es x index targets column t sc ac queue closed order marks walks
      → Finds (setting_of g) g.graph.vertices.now g.graph.edges.now g.trees.nodes.now g.chains.index.now g.chains.targets.now g.column.now t sc ac queue closed order marks walks
  finds-read f = rw (r.vertices, r.edges, r.nodes, r.index, r.targets, r.column) f

  pub found-read : {recovery : Bool} {a : Prelude.Result Progress Refusal} {t : List ℕ} {sc : List Float} {ac queue closed order marks : List ℕ}
      → Found (setting_of g) g.graph.vertices.now g.graph.edges.now g.trees.nodes.now g.chains.index.now g.chains.targets.now g.column.now recovery a t sc ac queue closed order marks
      → Found (setting_of g) vs es x index targets column recovery a t sc ac queue closed order marks
  found-read f = rw (r.vertices, r.edges, r.nodes, r.index, r.targets, r.column) at f

-- ---- numbers

max-four : (a b c d n : ℕ) → n ≡ max a (max b (max c d)) → (a ≤ n) × (b ≤ n) × (c ≤ n) × (d ≤ n)
max-four a b c d n e = (omega arith, omega arith, omega arith, omega arith)

as-much : (a m : ℕ) → 0 < a → m ≤ a * m
as-much a m h = let z : 1 * m ≤ a * m = mul-le-mul_right m h in omega arith

-- ---- the definition's answer

none-stopped : (i : Input) (t : Turn Float) (n : ℕ) → Stopped t n → answer_of (column_scoring i.column) (built_for i.sample) t ≡ refusal n
unfolding answer_of
none-stopped i t n (fails e) = rw e
none-stopped i t n (fills k s ps e) = rw (e, k)

module _ (i : Input) (some-asked : 0 < i.asked) (is : built i.sample i.graph_maxima ≡ ok (built_for i.sample)) where
  found-is : (t : Turn Float) → search (column_scoring i.column) (search_input i (built_for i.sample)) i.asked i.search_maxima.pushes i.recovery ≡ t
      → found i ≡ answer_of (column_scoring i.column) (built_for i.sample) t
  unfolding after_build
  found-is t e =
      let z : eqb i.asked 0 ≡ false = ne_eqb i.asked 0 (λ h. (let y : i.asked ≡ 0 = h in omega arith)) in
      ap (λ (r : Result Built). after_build (column_scoring i.column) i r) is
      ∙ (rw (z, after_build) (ap (answer_of (column_scoring i.column) (built_for i.sample)) e))

-- no path is asked
pub none-asked : (i : Input) → i.asked ≡ 0 → built i.sample i.graph_maxima ≡ ok (built_for i.sample) → (r : ListAnswer) (o : Outputs) → r ≡ refused_answer 0 → Listed i (found i) r o o
unfolding after_build
none-asked i h is r o e =
    listed-none i (found i) r o
    (ap (λ (q : Result Built). after_build (column_scoring i.column) i q) is ∙ (rw (eq-eqb i.asked 0 h, after_build)))
    e

-- ---- the parts

module _ {i : Input} {o : Outputs} {w : Tables} {b : Raise} (q : Searches i o w b) where
  abbrev f : SearchInput
  f = search_input i (built_for i.sample)

  rules : first_broken (sample_rules i.sample) ≡ 0
  rules = sample-checked i q.checks

  limits : InLimits i.asked i.graph_maxima i.search_maxima
  limits = settings-most i.asked i.graph_maxima i.search_maxima q.checks.settings-fit

  at : BuiltAt i.sample i.graph_maxima.vertices i.graph_maxima.edges w.vertices w.edges b.built.vertices b.built.edges b.built.sink
  at = q.raised.at

  walks-room : (queued_numbers i.graph_maxima.edges ≤ length w.walks) × (offer_numbers ≤ length w.walks) × (i.asked * i.search_maxima.path_edges ≤ length w.walks)
  walks-room =
      let z = max-four (open_trees i.graph_maxima) (queued_numbers i.graph_maxima.edges) offer_numbers (i.asked * i.search_maxima.path_edges) (length w.walks) q.walks in
      (z.1, z.2, z.3)

  pub small : Small b
  small =
      let a = at.vertices-fit in
      let c = at.edges_fit in
      let d = at.inside in
      let e = limits.vertices-most in
      let h = limits.edges_most in
      record { edges = omega arith; vertices = omega arith; sink = omega arith }

  module _ {vs₁ : List ℕ} (link : vs₁ ≡ linked w.vertices b.built.sink b.built.edges) {index₁ : List ℕ} (lo : length index₁ ≡ length w.index) where
    lies : Lies vs₁ w.edges index₁ b.built.vertices b.built.edges
    lies =
        let a = at.vertices-fit in
        let c = limits.vertices-most in
        let d : length vs₁ ≡ length w.vertices = rw link (length-linked w.vertices b.built.sink b.built.edges) in
        let e = q.vertices in
        let h = q.index in
        record { rows = q.rows; places = omega arith; room = omega arith; few = omega arith }

  pub chain-asks : Chains w.vertices w.edges w.index w.targets b
  chain-asks =
      let a = at.vertices-fit in
      let c = at.edges_fit in
      let d = at.inside in
      let e = limits.edges_most in
      let h = q.vertices in
      record {
        sink-in = omega arith;
        few = omega arith;
        tables = ground-tables i rules q.checks.settings-fit at refl (lies refl {index₁ = w.index} refl) w.targets q.targets;
      }

  module _ {vs₁ index₁ targets₁ : List ℕ} (k : Chained w.vertices w.edges b vs₁ index₁ targets₁) (lo : length index₁ ≡ length w.index) {g : Setting}
      (ge : g ≡ setting_for i b.built.vertices b.built.edges b.built.sink b.nodes i.graph_maxima.nodes g.least) (gl : Least i.threshold g.least) where
    on_ground : Ground (search_input i (built_for i.sample)) g vs₁ w.edges w.nodes index₁ targets₁
    on_ground =
        subst (λ (h : Setting). Ground f h vs₁ w.edges w.nodes index₁ targets₁) (sym ge)
        (ground-of i rules q.checks.settings-fit at k.vertices (lies k.vertices lo) q.raised.there k.tabled g.least gl limits.nodes-most)

    pub find-asks : Finds g vs₁ w.edges w.nodes index₁ targets₁ i.column w.paths w.scores w.active w.queue w.closed w.order w.marks w.walks
    find-asks =
        let edges : g.edges ≡ b.built.edges + 1 = ap (λ (h : Setting). h.edges) ge in
        let most : g.most ≡ i.search_maxima.path_edges = ap (λ (h : Setting). h.most) ge in
        let active : g.active ≡ i.search_maxima.active = ap (λ (h : Setting). h.active) ge in
        let pushes : g.pushes ≡ i.search_maxima.pushes = ap (λ (h : Setting). h.pushes) ge in
        let asked : g.asked ≡ i.asked = ap (λ (h : Setting). h.asked) ge in
        let c = at.edges_fit in
        let v = walks-room in
        let s = some-pushes i q.checks in
        let m = as-much i.asked i.search_maxima.path_edges q.some in
        let l-order = q.order in
        let l-marks = q.marks in
        record {
          input = f;
          on_ground = on_ground;
          fits = q.checks.column-fits;
          room = rw ge (record {
            paths = (let z = q.paths in omega arith);
            scores = (let z = q.scores in omega arith);
            actives = (let z = q.active in omega arith);
            waiting = (let z = q.queue in omega arith);
            closed-room = (let z = q.closed in omega arith);
          });
          allowed = omega arith;
          order-room = omega arith;
          marks-room = omega arith;
          queued = (let y = v.0 in omega arith);
          walks-room = (let y = v.2 in omega arith);
          rows = v.1;
        }

    module _ {r : Prelude.Result Progress Refusal} {t' : List ℕ} {sc' : List Float} {ac' queue' closed' order' marks' : List ℕ}
        (F : Found g vs₁ w.edges w.nodes index₁ targets₁ i.column i.recovery r t' sc' ac' queue' closed' order' marks') where
      searched-is : search (column_scoring i.column) (search_input i (built_for i.sample)) i.asked i.search_maxima.pushes i.recovery ≡ searched i.column f g i.recovery
      searched-is = sym (ap (λ (h : Setting). searched i.column f h i.recovery) ge)

      pub search-stop : {e : Refusal} → r ≡ Err e → {a : ListAnswer} → a ≡ refused_answer (number e) → Listed i (found i) a o o
      search-stop {e} d {a} h =
          let s : Stopped (searched i.column f g i.recovery) (number e) = rw d at (F.is f on_ground) in
          listed-refused i (found i) (number e) a o
          (found-is i q.some (raised-built q.raised) _ searched-is ∙ none-stopped i (searched i.column f g i.recovery) (number e) s)
          h

      module _ {p : Progress} (d : r ≡ Ok p) where
        there : Ended f g w.edges w.nodes index₁ targets₁ i.column i.recovery t' sc' ac' queue' closed' order' marks' p
        there = rw d at (F.is f on_ground)

        reached : last_of (search (column_scoring i.column) f i.asked i.search_maxima.pushes i.recovery) ≡ some there.state
        reached = ap last_of (searched-is ∙ there.is)

        good : GoodState NotNan f there.state × Numbered 0 there.state.closed
        good = search-reached (column-keeps i.column q.checks.column-fits) f i.search_maxima.pushes i.asked i.recovery there.state reached

        counted : Counted i.asked i.search_maxima.pushes there.state
        counted =
            search-counted (column-keeps i.column q.checks.column-fits) f i.asked i.search_maxima.pushes i.recovery there.state (some-pushes i q.checks) reached

        closed-are : length there.state.closed ≡ p.closed
        closed-are = ap length there.holds.closed_is ∙ length-map (take p.closed closed') _ ∙ length-take-le p.closed closed' there.holds.closed-room

        closed-few : p.closed ≤ i.asked
        closed-few = let a = closed-are in let c = counted.closed in omega arith

        pub told-asks : Told32 p
        told-asks =
            let a = closed-few in
            let c = limits.asked-most in
            let h = limits.pushes-most in
            let e = there.holds.mark-fits in
            let m = counted.pushes in
            let n = there.holds.pushes in
            record { closed = omega arith; pushes = omega arith; mark = omega arith }

        kept : (u : ℕ) → u < b.built.vertices → kmer_place vs₁ u ≡ kmer_place w.vertices u
        unfolding linked
        kept u h = rw k.vertices (field-other w.vertices 12 b.built.sink 4 (b.built.edges + 1) u 8 (omega arith) (omega arith) (omega arith))

        most-is : g.most ≡ i.search_maxima.path_edges
        most-is = ap (λ (h : Setting). h.most) ge

        text-small : length (i.sample.reference ++ i.sample.bases) < 2 ^ 32
        text-small =
            let z = length-append i.sample.reference i.sample.bases in
            let a = fits-of i.sample rules in
            let y = a.high in
            let x = a.many in
            omega arith

        pub list-asks : (walks rank : ℕ) → walks ≡ length w.walks → rank ≡ length w.active
            → list.Listable (i.sample.reference ++ i.sample.bases) vs₁ w.edges index₁ targets₁ t' sc' closed' i.sample.k i.search_maxima.path_edges p.closed walks rank
            (length o.scores) (length o.closings) (length o.edges) (length o.bases) (length o.sequences) (length o.places)
        list-asks walks rank lw lr =
            let few = closed-few in
            let v = walks-room.2 in
            let n-low = at.vertices-fit in
            let lv : length vs₁ ≡ length w.vertices = rw k.vertices (length-linked w.vertices b.built.sink b.built.edges) in
            let lv₂ = q.vertices in
            let out = q.outs in
            let o1 = out.scores in
            let o2 = out.closings in
            let o3 = out.edges in
            let o4 = out.bases in
            let o5 = out.sequences in
            let o6 = out.places in
            let la = q.active in
            let some-active = active-some i q.checks in
            let many : p.closed * i.search_maxima.path_edges ≤ i.asked * i.search_maxima.path_edges = mul-le-mul_right i.search_maxima.path_edges few in
            let long : p.closed * (i.sample.k + i.search_maxima.path_edges) ≤ i.asked * (i.sample.k + i.search_maxima.path_edges)
            = mul-le-mul_right (i.sample.k + i.search_maxima.path_edges) few in
            let ranks : i.asked * 1 ≤ (i.search_maxima.pushes + i.asked + 8) * i.search_maxima.active = mul-le-mul {n₂ = i.search_maxima.pushes + i.asked + 8} (omega arith) some-active in
            let k-low = k-some i q.checks in
            let asked_low = limits.asked-most in
            subst (λ (m : ℕ). list.Listable (i.sample.reference ++ i.sample.bases) vs₁ w.edges index₁ targets₁ t' sc' closed' i.sample.k m p.closed walks rank
            (length o.scores) (length o.closings) (length o.edges) (length o.bases) (length o.sequences) (length o.places)) most-is
            (ended-listable i.sample i.graph_maxima.vertices i.graph_maxima.edges w.vertices w.edges b.built.vertices b.built.edges b.built.sink at vs₁ kept f g w.nodes index₁ targets₁ on_ground
            (ap (λ (h : Setting). h.edges) ge) (ap (λ (h : Setting). h.sink) ge) there.branches there.closings t' sc' ac' queue' closed' order' marks' p there.state there.holds good.0
            (omega arith) text-small (omega arith) (omega arith)
            walks rank (length o.scores) (length o.closings) (length o.edges) (length o.bases) (length o.sequences) (length o.places)
            (rw most-is (omega arith)) (omega arith) (omega arith) (omega arith) (omega arith) (rw most-is (omega arith)) (rw most-is (omega arith)) (rw most-is (omega arith)))

        shows : Shows (i.sample.reference ++ i.sample.bases) vs₁ w.edges index₁ targets₁ t' sc' closed' i.sample.k p.closed (built_for i.sample) there.state.closed
        shows =
            ended-shows i.sample i.graph_maxima.vertices i.graph_maxima.edges w.vertices w.edges b.built.vertices b.built.edges b.built.sink at vs₁ kept f g w.nodes index₁ targets₁ on_ground
            (ap (λ (h : Setting). h.edges) ge) (ap (λ (h : Setting). h.sink) ge) there.branches there.closings t' sc' ac' queue' closed' order' marks' p there.state there.holds good.0
            (built_for i.sample) refl refl good.1

        rows_of : List (Row Float)
        rows_of = list_order (column_scoring i.column) (map (row_of (built_for i.sample)) there.state.closed)

        found-list : found i ≡ listed rows_of there.state.pushes there.state.longest
        unfolding answer_of list_of rows_of
        found-list = found-is i q.some (raised-built q.raised) _ (searched-is ∙ there.is)

        pub search-done : {ss : List Float} {cs ls bs qs ps : List ℕ}
            → list.Listed (i.sample.reference ++ i.sample.bases) vs₁ w.edges index₁ targets₁ t' sc' closed' i.sample.k i.search_maxima.path_edges p.closed
            o.scores o.closings o.edges ss cs ls o.bases o.sequences o.places bs qs ps
            → {a : ListAnswer} → a ≡ found_answer p → Listed i (found i) a o (outputs_of ss cs ls bs qs ps)
        unfolding written_list bases_stride rows_of
        search-done {ss} {cs} {ls} {bs} {qs} {ps} L {a} e =
            let t = L (built_for i.sample) there.state.closed i.column shows in
            let m = there.holds.longest in
            let n = there.holds.pushes in
            let h = there.holds.mark-fits in
            let c1 = t.scores-are in
            let c2 = t.closings-are in
            let c3 = t.edges_are in
            let c4 = t.bases-are in
            let c5 = t.sequences-are in
            let c6 = t.places-are in
            rw e
            (listed-done i (found i) rows_of there.state.pushes there.state.longest (found_answer p) o (outputs_of ss cs ls bs qs ps) found-list refl (sym t.paths) (sym n) (omega arith) (omega arith)
            (λ j. record { scores = c1 j; closings = c2 j; edges = c3 j; bases = c4 j; sequences = c5 j; places = c6 j }))
