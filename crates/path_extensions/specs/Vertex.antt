-- The extensions of a taken path at the vertex that its chain leads to (Rust: process_vertex).
use Rattle.std.specs.Prelude.{Ok, Option, Some, None, is_some, ◌≡◌, refl, true, false, List, [], ◌∷◌, ℕ, ◌+◌, ◌*◌, ◌^◌, ◌<◌, ◌≤◌, length, Float}
use Rattle.std.proofs.Common.{sym, ap, subst, ◌∙◌, arith}
use Rattle.laws.specs.Lists.{keep, total}
use Rattle.laws.specs.Rows.{length-rows}
use Rattle.definition.specs.Refusal.{Result, ok, refused, and_then, each}
use Rattle.definition.specs.Limits.{column_fits}
use Rattle.definition.specs.Score.{Scoring, column_scoring}
use Rattle.definition.specs.Threading.{Ends, Edge, leaving, support_of}
use Rattle.definition.specs.Evidence.{Branches}
use Rattle.definition.specs.Search.{SearchInput, Path, Offer, offers, extend, repeat_rule, extensions}
use Rattle.tables.specs.Widths.{offer_numbers}
use Rattle.assembly.specs.Fields.{edge_to}
use Rattle.assembly.specs.Store.{edge_at, edges_of}
use Rattle.out_edges.specs.Outs.{Slots, Nexts, out_from}
use Rattle.out_edges.specs.Walked.{Named}
use Rattle.threading_node.specs.Ends.{ends}
use Rattle.pivotal_edges.specs.Walk.{leaving-none, leaving-some, next-asks, here-slots, next-none, next-some, next-in, next-again}
use Rattle.pivotal_edges.specs.Walk as outs
use Rattle.fork_offers.specs.Fields.{HasOffers}
use Rattle.fork_offers.specs.Actives.{Actives}
use Rattle.fork_offers.specs.Rows.{offer_at, offers_of, Few}
use Rattle.fork_offers.specs.Offers.{Forks, Offers, smalls-of}
use Rattle.path_growth.specs.declared.Taken.{Taken}
use Rattle.path_store.specs.declared.records.PathRecord.{PathRecord}
use Rattle.path_store.specs.Cells.{end_of, since_of, trees_of, path_at}
use Rattle.path_store.specs.Steps.{after-low}
use Rattle.path_growth.specs.Grow.{Following}
use Rattle.search_state.specs.Settings.{Setting}
use Rattle.search_state.specs.Ground.{Ground}
use Rattle.search_state.specs.State.{path_of, Records}
use Rattle.search_ground.specs.Offers.{actives-few}
use Rattle.path_extensions.specs.Made.{Here, made_none}
use Rattle.path_extensions.specs.One.{Extended, Run, Answers, Wanted, chain_of, Gives, Place, Stands}
use Rattle.path_extensions.specs.Each.{Rooms, rooms-place, all_tried}
use Rattle.path_extensions.specs.Alone.{AloneStands, alone, alone-is}

-- the search's tables, of which n records are made, and a taken one of them with the chain after it
pub record Taking (g : Setting) (vs es x index targets t : List ℕ) (sc : List Float) (ac : List ℕ) (n : ℕ) (taken : Taken) (f : SearchInput) (bs : ℕ → List Branches) : Type 0 where
  pub on_ground : Ground f g vs es x index targets
  pub records : Records f g es x index targets bs t sc ac n
  pub known : taken.path < n
  pub follows : Following index targets t taken.path taken

-- what is asked: the tables stand, the taken path has few decisions since guidance, the column has passed its check, and there is room for eight records
-- and eight rows
pub record Extends (g : Setting) (vs es x index targets : List ℕ) (column : List Float) (t : List ℕ) (sc : List Float) (ac out : List ℕ) (n : ℕ) (taken : Taken) : Type 0 where
  pub input : SearchInput
  pub trees : ℕ → List Branches
  pub taking : Taking g vs es x index targets t sc ac n taken input trees
  pub guided : since_of t taken.path ≤ 5
  pub fits : column_fits column ≡ true
  pub rooms : Rooms g t sc ac n
  pub rows : offer_numbers ≤ length out

-- what the definition wants: the extensions of the path beyond its chain to v
abbrev pub extensions_at : List Float → ℕ → Wanted
extensions_at column v f p = extensions (column_scoring column) f p (chain_of f p) v (leaving f.edges v)

-- by the answer: the extensions, at most six, are the records from n on; or the definition refuses with that number
pub record Extensions (g : Setting) (vs es x index targets : List ℕ) (column : List Float) (t : List ℕ) (sc : List Float) (ac : List ℕ) (n : ℕ) (taken : Taken) (r : Extended) (t' : List ℕ)
    (sc' : List Float) (ac' : List ℕ) : Type 0 where
  pub is : (f : SearchInput) (bs : ℕ → List Branches) → Taking g vs es x index targets t sc ac n taken f bs
      → Answers (Run f g es x index targets bs t sc n taken.path t' sc' ac' 6 (extensions_at column taken.vertex f (path_of f es index targets bs t sc taken.path)))
      (λ k. extensions_at column taken.vertex f (path_of f es index targets bs t sc taken.path) ≡ refused k) r

-- ---- the vertex and its out-edges

module _ {g : Setting} {vs es x index targets t : List ℕ} {sc : List Float} {ac : List ℕ} {n : ℕ} {taken : Taken} {f : SearchInput} {bs : ℕ → List Branches}
    (H : Taking g vs es x index targets t sc ac n taken f bs) where
  here_of : Here g es x index targets t sc ac n taken f bs
  here_of = record { vertices = vs; on_ground = H.on_ground; records = H.records; known = H.known; follows = H.follows }

  vertex-low : taken.vertex < length index
  vertex-low =
      let T = H.records.held.table in
      rw H.follows.vertex (after-low index targets T.graph (end_of t taken.path) taken.chain (T.rows taken.path H.known).low H.follows.chain.runs)

  pub vertex-here : outs.Here vs es g.edges taken.vertex
  vertex-here = let a = vertex-low in let b = H.on_ground.vertices in record { linked = H.on_ground.linked; v-in = omega arith }

  leaving-is : leaving (edges_of es g.edges) taken.vertex ≡ leaving f.edges taken.vertex
  leaving-is = ap (λ (l : List Edge). leaving l taken.vertex) (sym H.on_ground.settings.edges)

-- ---- the offers, as rows

pub record Lists (g : Setting) (vs es x t : List ℕ) (sc : List Float) (ac out : List ℕ) (taken : Taken) : Type 0 where
  pub index : List ℕ
  pub targets : List ℕ
  pub records : ℕ
  pub input : SearchInput
  pub trees : ℕ → List Branches
  pub taking : Taking g vs es x index targets t sc ac records taken input trees
  pub rows : offer_numbers ≤ length out

pub record Listed (g : Setting) (vs es x t : List ℕ) (sc : List Float) (ac : List ℕ) (taken : Taken) (out : List ℕ) (k : ℕ) : Type 0 where
  pub few : k ≤ 6
  pub edges : Few g.edges out k
  pub is : (index targets : List ℕ) (n : ℕ) (f : SearchInput) (bs : ℕ → List Branches) → Taking g vs es x index targets t sc ac n taken f bs
      → offers_of es out k ≡ offers f (leaving f.edges taken.vertex) [] (bs taken.path)

many-rows : (es out : List ℕ) (k : ℕ) → length (offers_of es out k) ≡ k
unfolding offers_of
many-rows es out k = length-rows (offer_at es out) k

module _ {g : Setting} {vs es x t : List ℕ} {sc : List Float} {ac out : List ℕ} {taken : Taken} (L : Lists g vs es x t sc ac out taken) where
  module _ {row : PathRecord} (hr : row ≡ path_at t sc taken.path) where
    ends_at : taken.path * g.active + row.trees ≡ taken.path * g.active + trees_of t taken.path
    ends_at = ap (λ (y : PathRecord). taken.path * g.active + y.trees) hr

    stood : (index targets : List ℕ) (n : ℕ) (f : SearchInput) (bs : ℕ → List Branches) → Taking g vs es x index targets t sc ac n taken f bs
        → Actives g.cap g.nodes x ac (taken.path * g.active) (taken.path * g.active + row.trees) (bs taken.path)
    stood index targets n f bs H = rw ends_at (H.records.actives taken.path H.known)

    at_most : (index targets : List ℕ) (n : ℕ) (f : SearchInput) (bs : ℕ → List Branches) → Taking g vs es x index targets t sc ac n taken f bs
        → length (offers f (leaving f.edges taken.vertex) [] (bs taken.path)) ≤ 6
    at_most index targets n f bs H =
        actives-few f g vs es x index targets H.on_ground taken.vertex (bs taken.path) ac (taken.path * g.active) (taken.path * g.active + row.trees) (stood index targets n f bs H)

    pub lists-asks : Forks vs es g.edges g.cap g.nodes x ac (taken.path * g.active) (taken.path * g.active + row.trees) taken.vertex (ends g.sink g.symbolic) g.least out
    lists-asks =
        let H = L.taking in
        let o = vertex-here H in
        let s = H.on_ground.support taken.vertex in
        let m = at_most L.index L.targets L.records L.input L.trees H in
        let few = H.on_ground.linked.few in
        record {
          fork = record { slots = here-slots o; distinct = H.on_ground.linked.distinct; room-v = o.v-in; room-e = H.on_ground.linked.room; few = omega arith };
          active = record { branches = L.trees taken.path; stands = stood L.index L.targets L.records L.input L.trees H };
          input = L.input;
          settings = H.on_ground.settings;
          small = smalls-of 65535 (L.trees taken.path) (omega arith) (H.records.small taken.path H.known);
          support = rw (leaving-is H) (small-support (total support_of (leaving L.input.edges taken.vertex)) s);
          room = rowed (length (offers L.input (leaving L.input.edges taken.vertex) [] (L.trees taken.path))) m;
        }
      where
        small-support : (a : ℕ) → a ≤ 65535 → a < 2 ^ 32
        small-support a h = omega arith

        rowed : (a : ℕ) → a ≤ 6 → HasOffers out a
        rowed a h = let r = L.rows in omega arith

    module _ {out' : List ℕ} {r : ℕ} (O : Offers es g.edges g.cap g.nodes x ac (taken.path * g.active) (taken.path * g.active + row.trees) taken.vertex (ends g.sink g.symbolic) g.least out' r) where
      pub lists-listed : Listed g vs es x t sc ac taken out' r
      lists-listed =
          let a = many-rows es out' r in
          let b = ap length (O.is L.input (L.trees taken.path) L.taking.on_ground.settings (stood L.index L.targets L.records L.input L.trees L.taking)) in
          let d = at_most L.index L.targets L.records L.input L.trees L.taking in
          record { few = omega arith; edges = O.few; is = λ index targets n f bs H. O.is f (bs taken.path) H.on_ground.settings (stood index targets n f bs H) }

-- ---- the three ways

extensions-fork : (𝓢 : Scoring Float) (f : SearchInput) (p : Path Float) (c : List Ends) (v : ℕ) (l : List Edge) (e d : Edge) (r : List Edge) → l ≡ e ∷ d ∷ r
    → extensions 𝓢 f p c v l ≡ and_then (each (extend 𝓢 f p c) (offers f l [] p.active)) (λ qs. ok (keep (repeat_rule f) qs))
unfolding extensions
extensions-fork 𝓢 f p c v l e d r h = rw h

extensions-none : (𝓢 : Scoring Float) (f : SearchInput) (p : Path Float) (c : List Ends) (v : ℕ) (l : List Edge) → l ≡ [] → extensions 𝓢 f p c v l ≡ ok []
unfolding extensions
extensions-none 𝓢 f p c v l h = rw h

module _ {g : Setting} {vs es x index targets : List ℕ} {column : List Float} {t : List ℕ} {sc : List Float} {ac out : List ℕ} {n : ℕ} {taken : Taken} (E : Extends g vs es x index targets column t sc ac out n taken)
  where
    stands_of : Stands g es x index targets t sc ac n taken
    stands_of = record { input = E.input; trees = E.trees; here = here_of E.taking; guided = E.guided }

    place_of : Place g t sc ac n
    place_of = rooms-place g t sc ac n E.rooms t sc ac n refl refl refl (omega arith)

    -- what another way to say it gives
    gives_as : (want : Wanted) (r : Extended) (t' : List ℕ) (sc' : List Float) (ac' : List ℕ) → Gives g es x index targets t sc ac n taken 6 want r t' sc' ac'
        → ((f : SearchInput) (bs : ℕ → List Branches) → Taking g vs es x index targets t sc ac n taken f bs
        → want f (path_of f es index targets bs t sc taken.path) ≡ extensions_at column taken.vertex f (path_of f es index targets bs t sc taken.path))
        → Extensions g vs es x index targets column t sc ac n taken r t' sc' ac'
    gives_as want r t' sc' ac' G e =
        record {
          is = λ f bs H.
              subst (λ (w : Result (List (Path Float))). Answers (Run f g es x index targets bs t sc n taken.path t' sc' ac' 6 w) (λ k. w ≡ refused k) r) (e f bs H) (G.is f bs (here_of H));
        }

    pub outs-here : outs.Here vs es g.edges taken.vertex
    outs-here = vertex-here E.taking

    pub outs-named : Named vs es taken.vertex
    outs-named = next-asks outs-here

    pub outs-slots : Slots vs es g.edges taken.vertex
    outs-slots = here-slots outs-here

    pub vertex-none : Nexts es g.edges taken.vertex 0 None → Extensions g vs es x index targets column t sc ac n taken (Ok n) t sc ac
    vertex-none z =
        record {
          is = λ f bs H.
              let e : leaving f.edges taken.vertex ≡ [] = sym (leaving-is H) ∙ leaving-none outs-here z in
              let p = path_of f es index targets bs t sc taken.path in
              record {
                paths = [];
                is = extensions-none (column_scoring column) f p (chain_of f p) taken.vertex (leaving f.edges taken.vertex) e;
                made = made_none f g es x index targets bs t sc n ac taken.path H.records;
                most = omega arith;
              };
        }

    module _ {i : ℕ} (z : Nexts es g.edges taken.vertex 0 (Some i)) where
      pub first-low : i < 8192
      first-low = let a = next-in outs-here z in let b = E.taking.on_ground.linked.few in omega arith

      begins : leaving (edges_of es g.edges) taken.vertex ≡ edge_at es i ∷ out_from (edges_of es g.edges) taken.vertex (edge_to es i + 1)
      begins = leaving-some outs-here z

      pub alone-stands : AloneStands g es x index targets t sc ac n taken i
      alone-stands = record { stands = stands_of; place = place_of; edge_in = next-in outs-here z }

      module _ {w : ℕ} (hw : w ≡ edge_to es i + 1) where
        one-edge : Nexts es g.edges taken.vertex w None → {f : SearchInput} {bs : ℕ → List Branches} → Taking g vs es x index targets t sc ac n taken f bs
            → leaving f.edges taken.vertex ≡ edge_at es i ∷ []
        one-edge y H = sym (leaving-is H) ∙ begins ∙ ap (λ (l : List Edge). edge_at es i ∷ l) (next-none outs-here (next-again outs-here z hw y))

        pub vertex-alone : {s : Option ℕ} → Nexts es g.edges taken.vertex w s → is_some s ≡ false → {r : Extended} {t' : List ℕ} {sc' : List Float} {ac' : List ℕ}
            → Gives g es x index targets t sc ac n taken 6 (alone es taken.vertex i) r t' sc' ac' → Extensions g vs es x index targets column t sc ac n taken r t' sc' ac'
        vertex-alone {s} = go s
          where
            go : (s : Option ℕ) → Nexts es g.edges taken.vertex w s → is_some s ≡ false → {r : Extended} {t' : List ℕ} {sc' : List Float} {ac' : List ℕ}
                → Gives g es x index targets t sc ac n taken 6 (alone es taken.vertex i) r t' sc' ac' → Extensions g vs es x index targets column t sc ac n taken r t' sc' ac'
            go (Some j) y h G = absurd (let q : ◌≡◌ {A = ℕ} 0 1 = cc in omega arith)
            go None y h {r} {t'} {sc'} {ac'} G =
                gives_as (alone es taken.vertex i) r t' sc' ac' G
                (λ f bs H.
                let p = path_of f es index targets bs t sc taken.path in
                sym
                (ap (extensions (column_scoring column) f p (chain_of f p) taken.vertex) (one-edge y H) ∙ alone-is (column_scoring column) es taken.vertex i f p))

        two_edges : {j : ℕ} → Nexts es g.edges taken.vertex w (Some j) → {f : SearchInput} {bs : ℕ → List Branches} → Taking g vs es x index targets t sc ac n taken f bs
            → leaving f.edges taken.vertex ≡ edge_at es i ∷ edge_at es j ∷ out_from (edges_of es g.edges) taken.vertex (edge_to es j + 1)
        two_edges y H = sym (leaving-is H) ∙ begins ∙ ap (λ (l : List Edge). edge_at es i ∷ l) (next-some outs-here (next-again outs-here z hw y))

        module _ {k : ℕ} {out' : List ℕ} (L : Listed g vs es x t sc ac taken out' k) where
          pub vertex-fork : {s : Option ℕ} → Nexts es g.edges taken.vertex w s → is_some s ≡ true → {r : Extended} {t' : List ℕ} {sc' : List Float} {ac' : List ℕ}
              → Gives g es x index targets t sc ac n taken 6 (all_tried column es out' k) r t' sc' ac' → Extensions g vs es x index targets column t sc ac n taken r t' sc' ac'
          vertex-fork {s} = go s
            where
              go : (s : Option ℕ) → Nexts es g.edges taken.vertex w s → is_some s ≡ true → {r : Extended} {t' : List ℕ} {sc' : List Float} {ac' : List ℕ}
                  → Gives g es x index targets t sc ac n taken 6 (all_tried column es out' k) r t' sc' ac' → Extensions g vs es x index targets column t sc ac n taken r t' sc' ac'
              go None y h G = absurd (let q : ◌≡◌ {A = ℕ} 0 1 = cc in omega arith)
              go (Some j) y h {r} {t'} {sc'} {ac'} G =
                  gives_as (all_tried column es out' k) r t' sc' ac' G
                  (λ f bs H.
                  let p = path_of f es index targets bs t sc taken.path in
                  ap (λ (os : List Offer). and_then (each (extend (column_scoring column) f p (chain_of f p)) os) (λ qs. ok (keep (repeat_rule f) qs))) (L.is index targets n f bs H)
                  ∙ sym
                  (extensions-fork (column_scoring column) f p (chain_of f p) taken.vertex (leaving f.edges taken.vertex) (edge_at es i) (edge_at es j)
                  (out_from (edges_of es g.edges) taken.vertex (edge_to es j + 1)) (two_edges y H)))
