-- One base of a walk, and the walk's end: what the code asks, and that it is the definition's step. Assumes nothing.
use Rattle.std.specs.Prelude.{◌≡◌, refl, Bool, true, false, List, [], ℕ, zero, suc, ◌+◌, ◌*◌, ◌^◌, ◌<◌, ◌≤◌, eqb, length, Option, Result, Ok, Err}
use Rattle.std.proofs.Common.{sym, ap, ◌∙◌, mul-le-mul_right, suc-mul, arith, eq-eqb, ne_eqb}
use Rattle.std.proofs.Math.Decide.{ℕ_discrete}
use Rattle.definition.specs.Threading.{Ends, Graph, leaving}
use Rattle.definition.specs.Evidence.{Walk, take_edge, pass, walk_bases}
use Rattle.tables.specs.Widths.{open_numbers}
use Rattle.assembly.specs.Fields.{HasVertex, tree_root, put_tree_root, HasEdges, edge_from, edge_to}
use Rattle.assembly.specs.Store.{edge_at, edges_of, Good}
use Rattle.threading_node.specs.Ends.{ends}
use Rattle.threading_node.specs.Links.{slot_at, link_to, link_is, linked_at}
use Rattle.threading_node.specs.Slots.{cols, told, Beyond}
use Rattle.threading_node.specs.Good.{slot-live}
use Rattle.threading_tree.specs.All.{Walking as Asks, TookAll}
use Rattle.threading_tree.specs.Held.{HeldWalk, held-under, held-few, held-walking, held-takes, held-full}
use Rattle.threading_tree.specs.Grows.{many, take-many, bound-step}
use Rattle.threading_tree.specs.Pass.{open_where, take_unless, pass-is, Stepping, Steps, passing, where-many}
use Rattle.threading_tree.specs.declared.ThreadingState.{ThreadingState}
use Rattle.refusals.specs.declared.Refusal.{Refusal}
use Rattle.refusals.specs.Numbers.{number}
use Rattle.junction_trees.specs.declared.Ground.{Ground}
use Rattle.junction_trees.specs.declared.Way.{Way}
use Rattle.junction_trees.specs.Degrees.{OutDegree, Warrants}
use Rattle.junction_trees.specs.Roots.{root_of, Kept, kept_self, kept_on, kept_put, root-same, root-other, good-kept}

-- ---- the graph that is walked, which the tables hold
pub record Sound (d : Ground) (text vs es : List ℕ) : Type 0 where
  pub good : Good d.k text vs d.built.vertices es d.built.edges
  pub some : 0 < d.k
  pub room-v : HasVertex vs d.built.vertices
  pub room-e : HasEdges es d.built.edges
  pub few : d.built.vertices < 2 ^ 16
  pub sink : d.built.sink < d.built.vertices
  pub small : length text ≤ 33792

pub sound-kept : {d : Ground} {text vs vs' es : List ℕ} → Kept d.built.vertices vs vs' → Sound d text vs es → Sound d text vs' es
sound-kept {d = d} {text = text} p s =
    let z = p.size in
    let r = s.room-v in
    record { good = good-kept p d.k text s.good; some = s.some; room-v = omega arith; room-e = s.room-e; few = s.few; sink = s.sink; small = s.small }

-- ---- the tables hold a walk, after at most p steps of all walks
pub record State (d : Ground) (w : Walk) (p nodes groups : ℕ) (vs x op : List ℕ) : Type 0 where
  pub held : HeldWalk w d.most nodes groups (p * suc p) (root_of vs) x op
  pub few : length w.opened ≤ p

mul_mono : (a b c : ℕ) → b ≤ c → a * b ≤ a * c
mul_mono zero b c k = omega arith
mul_mono (suc a) b c k = let z = mul_mono a b c k in omega (arith, suc-mul a b, suc-mul a c)

bound-more : (p q : ℕ) → p ≤ q → p * suc p ≤ q * suc q
bound-more p q h =
    let a : p * suc p ≤ q * suc p = mul-le-mul_right (suc p) h in
    let b : q * suc p ≤ q * suc q = mul_mono q (suc p) (suc q) (omega arith) in
    omega arith

pub state-more : {d : Ground} {w : Walk} {p n g : ℕ} {vs x op : List ℕ} (q : ℕ) → p ≤ q → State d w p n g vs x op → State d w q n g vs x op
state-more {p = p} q h s = record { held = held-under (q * suc q) (bound-more p q h) s.held; few = (let z = s.few in omega arith) }

bound-fits : (p o : ℕ) → p ≤ 33792 → o ≤ p → p * suc p + (o + 2) < 2 ^ 32
bound-fits p o h q = let a : p * suc p ≤ 33792 * suc p = mul-le-mul_right (suc p) h in omega arith

-- ---- what a call leaves alone
pub record Frame (d : Ground) (vs vs' x x' op op' : List ℕ) : Type 0 where
  pub kept : Kept d.built.vertices vs vs'
  pub beyond : Beyond (told d.most) x x'
  pub beyond-open : Beyond (open_numbers d.most) op op'

pub frame_self : (d : Ground) (vs x op : List ℕ) → Frame d vs vs x x op op
frame_self d vs x op = record { kept = kept_self d.built.vertices vs; beyond = λ i h. refl; beyond-open = λ i h. refl }

pub frame_on : {d : Ground} {vs vs' vs'' x x' x'' op op' op'' : List ℕ} → Frame d vs vs' x x' op op' → Frame d vs' vs'' x' x'' op' op'' → Frame d vs vs'' x x'' op op''
frame_on a b =
    record { kept = kept_on a.kept b.kept; beyond = λ i h. b.beyond i h ∙ a.beyond i h; beyond-open = λ i h. b.beyond-open i h ∙ a.beyond-open i h }

-- ---- an edge is passed
pub record Passing (d : Ground) (s : Way) (i : ℕ) (vs es x op : List ℕ) : Type 0 where
  pub text : List ℕ
  pub sound : Sound d text vs es
  pub walk : Walk
  pub steps : ℕ
  pub state : State d walk steps s.nodes s.groups vs x op
  pub low : steps ≤ 33792
  pub edge : i < d.built.edges
  pub from : edge_from es i ≡ s.here

abbrev pub pass_of : Ground → List ℕ → ℕ → Walk → Walk
pass_of d es i w = pass (edges_of es d.built.edges) (edge_at es i).ends w

abbrev pub PassedTo : Ground → ℕ → Walk → ℕ → List ℕ → List ℕ → List ℕ → List ℕ → Result Way Refusal → Type 0
PassedTo d i w p vs es x op (Ok t) = State d (pass_of d es i w) (suc p) t.nodes t.groups vs x op
PassedTo d i w p vs es x op (Err r) = (number r ≡ 9) × (d.most < many (pass_of d es i w))

abbrev pub Arrives : List ℕ → ℕ → Result Way Refusal → Type 0
Arrives es i (Ok t) = t.here ≡ edge_to es i
Arrives es i (Err r) = Unit {0}

pub record Passed (d : Ground) (s : Way) (i : ℕ) (vs vs' es x x' op op' : List ℕ) (r : Result Way Refusal) : Type 0 where
  pub is : (w : Walk) (p : ℕ) → State d w p s.nodes s.groups vs x op → PassedTo d i w p vs' es x' op' r
  pub arrives : Arrives es i r
  pub frame : Frame d vs vs' x x' op op'

unless-many : (q : Bool) (e : Ends) (w : Walk) → length (take_unless q e w).opened ≡ length w.opened
unfolding take_unless
unless-many true e w = refl
unless-many false e w = take-many e w

module _ {d : Ground} {s : Way} {i : ℕ} {vs es x op : List ℕ} (q : Passing d s i vs es x op) where
  here_in : s.here < d.built.vertices
  here_in = rw (← q.from) (q.sound.good.from_in i q.edge)

  pub pass-row : HasVertex vs s.here
  pass-row = let a = here_in in let b = q.sound.room-v in omega arith

  pub pass-here-fits : s.here < 2 ^ 32
  pass-here-fits = let a = here_in in let b = q.sound.few in omega arith

  module _ (to : ℕ) (ht : to ≡ edge_to es i) where
    to_in : to < d.built.vertices
    to_in = rw ht (q.sound.good.to_in i q.edge)

    pub pass-to-fits : to < 2 ^ 32
    pass-to-fits = let a = to_in in let b = q.sound.few in omega arith

    ends-are : (edge_at es i).ends ≡ ends s.here to
    ends-are = rw (ht, q.from)

    module _ (root : Option ℕ) (hr : root ≡ slot_at (tree_root vs s.here)) where
      abbrev told_of : ThreadingState
      told_of = record { nodes = s.nodes; cap = d.most; groups = s.groups; root = root }

      told-root : tree_root vs s.here ≡ link_to root
      told-root = sym (ap link_to hr ∙ link_is (tree_root vs s.here))

      pub pass-stepping : Stepping d.most (ends s.here to) 2 told_of x op
      pass-stepping =
          let f = q.sound.few in
          let a = here_in in
          let b = to_in in
          record {
            walk = q.walk;
            bound = q.steps * suc q.steps;
            roots = root_of vs;
            holds = q.state.held;
            root = told-root;
            linked = rw hr (linked_at (tree_root vs s.here));
            ends = (omega arith, omega arith);
            spare = bound-fits q.steps (length q.walk.opened) q.low q.state.few;
          }

      module _ (outs : ℕ) (hd : OutDegree vs s.here outs) (o : Bool) (ho : Warrants vs outs to o) (x' op' : List ℕ) (r : Result ThreadingState Refusal)
          (k : Steps (λ w. take_unless (eqb outs 1) (ends s.here to) (open_where o s.here w)) passing d.most s.here told_of x x' op op' r) where
        step_is : (w : Walk) → take_unless (eqb outs 1) (ends s.here to) (open_where o s.here w) ≡ pass_of d es i w
        step_is w =
            let m : outs ≡ length (leaving (edges_of es d.built.edges) s.here) = hd.is q.sound.good here_in in
            rw (ho.is q.sound.good s.here i q.edge q.from (sym ht) m, m, ends-are)
            (sym (pass-is (edges_of es d.built.edges) (ends s.here to) w))

        pass-few : (w : Walk) → length (pass_of d es i w).opened ≤ length w.opened + 1
        pass-few w =
            let a = unless-many (eqb outs 1) (ends s.here to) (open_where o s.here w) in
            let b = where-many o s.here w in
            rw (← step_is w) (omega arith)

        -- the walk has gone on, whatever is kept as the root
        module _ (h : ThreadingState) (e : r ≡ Ok h) where
          went : (w : Walk) (p : ℕ) → State d w p s.nodes s.groups vs x op → State d (pass_of d es i w) (suc p) h.nodes h.groups (put_tree_root vs s.here (link_to h.root)) x' op'
          went w p st =
              let k' : Steps (λ u. take_unless (eqb outs 1) (ends s.here to) (open_where o s.here u)) passing d.most s.here told_of x x' op op' (Ok h) = rw e at k in
              let c = (k'.is w (p * suc p) (root_of vs) st.held told-root).1 (root_of (put_tree_root vs s.here (link_to h.root))) (root-same vs s.here (link_to h.root) pass-row)
              (λ u z. root-other vs s.here (link_to h.root) u z) in
              let f = st.few in
              let b = bound-step p (p * suc p) (length w.opened) (omega arith) f in
              record {
                held = held-under (suc p * suc (suc p)) (omega arith) (rw (step_is w) at c);
                few = (let z = pass-few w in omega arith);
              }

          pub pass-root-fits : link_to h.root < 2 ^ 32
          pass-root-fits =
              let g = (went q.walk q.steps q.state).held in
              let y = root-same vs s.here (link_to h.root) pass-row in
              go (ℕ_discrete (link_to h.root) 0) y g.room g.wide.few
              (λ z. slot-live (cols x') (cols x') h.nodes 0 (ends 0 0) (root_of (put_tree_root vs s.here (link_to h.root)) s.here) g.good (g.rooted s.here z))
            where
              go : Dec (link_to h.root ≡ 0) → root_of (put_tree_root vs s.here (link_to h.root)) s.here ≡ link_to h.root → h.nodes ≤ d.most → d.most < 2 ^ 32
                  → ((root_of (put_tree_root vs s.here (link_to h.root)) s.here ≡ 0 → ⊥) → root_of (put_tree_root vs s.here (link_to h.root)) s.here ≤ h.nodes) → link_to h.root < 2 ^ 32
              go (yes z) y a b c = omega arith
              go (no z) y a b c = let l = c (λ v. z (sym y ∙ v)) in omega arith

          pub pass-next : (vs' : List ℕ) → vs' ≡ put_tree_root vs s.here (link_to h.root) → Passed d s i vs vs' es x x' op op' (Ok (record { here = to; nodes = h.nodes; groups = h.groups }))
          pass-next vs' f =
              rw f
              (record {
                is = went;
                arrives = ht;
                frame = record { kept = kept_put d.built.vertices vs s.here (link_to h.root) here_in; beyond = k.beyond; beyond-open = k.beyond-open };
              })

        pub pass-stop : (m : Refusal) → r ≡ Err m → Passed d s i vs vs es x x' op op' (Err m)
        pass-stop m e =
            let k' : Steps (λ u. take_unless (eqb outs 1) (ends s.here to) (open_where o s.here u)) passing d.most s.here told_of x x' op op' (Err m) = rw e at k in
            record {
              is = λ w p st. let o = k'.is w (p * suc p) (root_of vs) st.held told-root in (o.0, rw (← step_is w) o.1);
              arrives = tt;
              frame = record { kept = kept_self d.built.vertices vs; beyond = k.beyond; beyond-open = k.beyond-open };
            }

-- ---- the end of a walk
unfoldable pub end_of : Ground → ℕ → Walk → Walk
end_of d v w = elim (eqb v d.built.sink) [ true ↦ take_edge (ends d.built.sink d.built.vertices) w | false ↦ w ]

pub end_is : (g : Graph) (d : Ground) (v : ℕ) (w : Walk) → walk_bases g d.built.sink (ends d.built.sink d.built.vertices) v [] w ≡ end_of d v w
unfolding walk_bases end_of
end_is g d v w = refl

end-yes : (d : Ground) (v : ℕ) (w : Walk) → v ≡ d.built.sink → end_of d v w ≡ take_edge (ends d.built.sink d.built.vertices) w
unfolding end_of
end-yes d v w h = rw (eq-eqb v d.built.sink h, end_of)

end-no : (d : Ground) (v : ℕ) (w : Walk) → (v ≡ d.built.sink → ⊥) → end_of d v w ≡ w
unfolding end_of
end-no d v w h = rw (ne_eqb v d.built.sink h, end_of)

pub record Ending (d : Ground) (s : Way) (x op : List ℕ) : Type 0 where
  pub walk : Walk
  pub steps : ℕ
  pub roots : List ℕ
  pub state : State d walk steps s.nodes s.groups roots x op
  pub low : steps ≤ 33792
  pub few : d.built.vertices < 2 ^ 16
  pub sink : d.built.sink < d.built.vertices

abbrev pub EndedTo : Ground → ℕ → Walk → ℕ → List ℕ → List ℕ → List ℕ → Result Way Refusal → Type 0
EndedTo d v w p vs x op (Ok t) = State d (end_of d v w) (suc p) t.nodes t.groups vs x op
EndedTo d v w p vs x op (Err r) = (number r ≡ 9) × (d.most < many (end_of d v w))

pub record Ended (d : Ground) (s : Way) (x x' op op' : List ℕ) (r : Result Way Refusal) : Type 0 where
  pub is : (w : Walk) (p : ℕ) (vs : List ℕ) → State d w p s.nodes s.groups vs x op → EndedTo d s.here w p vs x' op' r
  pub beyond : Beyond (told d.most) x x'
  pub beyond-open : Beyond (open_numbers d.most) op op'

module _ {d : Ground} {s : Way} {x op : List ℕ} (q : Ending d s x op) where
  pub end_stays : (s.here ≡ d.built.sink → ⊥) → Ended d s x x op op (Ok s)
  end_stays h = record { is = λ w p vs st. rw (end-no d s.here w h) (state-more (suc p) (omega arith) st); beyond = λ i j. refl; beyond-open = λ i j. refl }

  pub end-asks : Asks d.most s.nodes s.groups (ends d.built.sink d.built.vertices) x op
  end-asks =
      let f = q.few in
      let k = q.sink in
      let b = bound-fits q.steps (length q.walk.opened) q.low q.state.few in
      held-walking q.walk d.most s.nodes s.groups (q.steps * suc q.steps) (root_of q.roots) x op q.state.held (ends d.built.sink d.built.vertices) (omega arith, omega arith) (omega arith)

  pub end-sink-fits : d.built.sink < 2 ^ 32
  end-sink-fits = let f = q.few in let k = q.sink in omega arith

  pub end-to-fits : d.built.vertices < 2 ^ 32
  end-to-fits = let f = q.few in omega arith

  module _ (h : s.here ≡ d.built.sink) (x' op' : List ℕ) (r : Result ℕ Refusal) (t : TookAll d.most s.nodes s.groups (ends d.built.sink d.built.vertices) x x' op op' r) where
    far : Beyond (open_numbers d.most) op op'
    far i j =
        let a = held-few q.walk d.most s.nodes s.groups (q.steps * suc q.steps) (root_of q.roots) x op q.state.held (ends d.built.sink d.built.vertices) in
        t.beyond-open i (omega arith)

    pub end-next : (n : ℕ) → r ≡ Ok n → length x' ≡ length x → length op' ≡ length op → Ended d s x x' op op' (Ok (record { here = s.here; nodes = n; groups = s.groups }))
    end-next n e lx lo = record { is = go; beyond = t.beyond; beyond-open = far }
      where
        go : (w : Walk) (p : ℕ) (vs : List ℕ) → State d w p s.nodes s.groups vs x op → State d (end_of d s.here w) (suc p) n s.groups vs x' op'
        go w p vs st =
            let f = st.few in
            let b = bound-step p (p * suc p) (length w.opened) (omega arith) f in
            let m = take-many (ends d.built.sink d.built.vertices) w in
            rw (end-yes d s.here w h)
            (record {
              held =
                  held-under (suc p * suc (suc p)) (omega arith)
                  (held-takes w d.most s.nodes s.groups (p * suc p) (root_of vs) x op st.held (ends d.built.sink d.built.vertices) x' op' n (rw e at t) lx lo);
              few = omega arith;
            })

    pub end-stop : (m : Refusal) → r ≡ Err m → Ended d s x x' op op' (Err m)
    end-stop m e =
        record {
          is = λ w p vs st.
              let o = held-full w d.most s.nodes s.groups (p * suc p) (root_of vs) x op st.held (ends d.built.sink d.built.vertices) x' op' m (rw e at t) in
              (o.0, rw (end-yes d s.here w h) o.1);
          beyond = t.beyond;
          beyond-open = far;
        }
