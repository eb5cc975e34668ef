-- A whole stretch: the loop keeps "what is left of the walk from here is the whole walk", for every list of trees that the tables may hold at its start.
-- Assumes nothing.
use Rattle.std.specs.Prelude.{◌≡◌, refl, true, List, [], ◌∷◌, ℕ, suc, ◌+◌, ◌-◌, ◌<◌, ◌≤◌, length, get_or, drop, Result, Ok, Err, take}
use Rattle.std.proofs.Common.{sym, ap, ◌∙◌, arith, length-drop, drop_of_length-le, drop-cons, get_or-take, get_or-drop, length-take-le, lt-ltb, le-ltb, take-take}
use Rattle.std.proofs.Math.Option.{none, some}
use Rattle.std.proofs.Math.Decide.{dec_lt}
use Rattle.definition.specs.Limits.{is_base}
use Rattle.definition.specs.Stretch.{Stretch}
use Rattle.definition.specs.Threading.{Ends, Edge, Graph, follow, number_of}
use Rattle.definition.specs.Evidence.{Tree, Walk, pass, walk_bases, walk_stretch, nodes}
use Rattle.assembly.specs.Fields.{HasVertices, HasVertex, out_edge, kmer_place, edge_from, edge_to}
use Rattle.assembly.specs.Store.{edge_at, kmers_of, graph_of, code, code_lt, follow-none, follow-some}
use Rattle.assembly.specs.Kmers.{part, number-le}
use Rattle.sequence_threading.specs.Stretches.{stretch_at}
use Rattle.threading_node.specs.Ends.{ends}
use Rattle.threading_tree.specs.Held.{held-again}
use Rattle.threading_tree.specs.Grows.{many, walk-grows}
use Rattle.junction_trees.specs.declared.Ground.{Ground}
use Rattle.junction_trees.specs.declared.Way.{Way}
use Rattle.refusals.specs.declared.Refusal.{Refusal}
use Rattle.refusals.specs.Numbers.{number}
use Rattle.junction_trees.specs.Roots.{kept_self, graph-kept}
use Rattle.junction_trees.specs.Steps.{Sound, sound-kept, State, state-more, Frame, frame_self, frame_on, pass_of, Passing, Passed, end_of, end_is, Ending, Ended}

-- ---- trees to trees
abbrev pub begun : List Tree → Walk
begun ts = record { trees = ts; opened = [] }

-- the graph that the tables hold
abbrev pub ground_of : Ground → List ℕ → List ℕ → List ℕ → Graph
ground_of d text vs es = graph_of d.k text vs d.built.vertices es d.built.edges

abbrev pub symbolic_ends : Ground → Ends
symbolic_ends d = ends d.built.sink d.built.vertices

-- what a stretch makes of the trees
abbrev pub walk_of : Ground → List ℕ → List ℕ → List ℕ → ℕ → ℕ → List Tree → List Tree
walk_of d text vs es a len ts = walk_stretch d.k (ground_of d text vs es) d.built.sink (symbolic_ends d) (stretch_at text a len 0 0) ts

abbrev pub Answered : Ground → List Tree → ℕ → List ℕ → List ℕ → List ℕ → Result ℕ Refusal → Type 0
Answered d ts p vs x op (Ok c) = State d (begun ts) p c 0 vs x op
Answered d ts p vs x op (Err r) = (number r ≡ 9) × (d.most < length (nodes ts))

-- F is what the call makes of the trees, whatever trees the tables hold before it: p steps before, at most p' after
pub record Walking (F : List Tree → List Tree) (d : Ground) (p p' count : ℕ) (vs vs' x x' op op' : List ℕ) (r : Result ℕ Refusal) : Type 0 where
  pub is : (ts : List Tree) → State d (begun ts) p count 0 vs x op → Answered d (F ts) p' vs' x' op' r
  pub frame : Frame d vs vs' x x' op op'

pub record Walks (d : Ground) (text vs es x op : List ℕ) (a len count : ℕ) : Type 0 where
  pub sound : Sound d text vs es
  pub trees : List Tree
  pub state : State d (begun trees) a count 0 vs x op
  pub inside : a + len ≤ length text
  pub bases : (i : ℕ) → i < len → is_base (get_or text (a + i) 0) ≡ true

-- ---- the definition's clauses
walk_none : (g : Graph) (sink : ℕ) (sy : Ends) (v b : ℕ) (bs : List ℕ) (w : Walk) → follow g v b ≡ none → walk_bases g sink sy v (b ∷ bs) w ≡ w
unfolding walk_bases
walk_none g sink sy v b bs w h = rw (h, walk_bases)

walk-some : (g : Graph) (sink : ℕ) (sy : Ends) (v b : ℕ) (bs : List ℕ) (w : Walk) (e : Edge) → follow g v b ≡ some e
    → walk_bases g sink sy v (b ∷ bs) w ≡ walk_bases g sink sy e.ends.to bs (pass g.edges e.ends w)
unfolding walk_bases
walk-some g sink sy v b bs w e h = rw (h, walk_bases)

stretch-long : (k : ℕ) (g : Graph) (sink : ℕ) (sy : Ends) (r : Stretch) (ts : List Tree) → k < length r.bytes
    → walk_stretch k g sink sy r ts ≡ (walk_bases g sink sy (number_of g.kmers (take k r.bytes)) (drop k r.bytes) (record { trees = ts; opened = [] })).trees
unfolding walk_stretch
stretch-long k g sink sy r ts h = rw (lt-ltb k (length r.bytes) h, walk_stretch)

pub stretch-short : (k : ℕ) (g : Graph) (sink : ℕ) (sy : Ends) (r : Stretch) (ts : List Tree) → length r.bytes ≤ k → walk_stretch k g sink sy r ts ≡ ts
unfolding walk_stretch
stretch-short k g sink sy r ts h = rw (le-ltb k (length r.bytes) h, walk_stretch)

-- nothing is open any more
pub state-closed : {d : Ground} {w : Walk} {p n g : ℕ} {vs x op : List ℕ} → State d w p n g vs x op → State d (begun w.trees) p n 0 vs x op
state-closed {op = op} s = record { held = held-again op s.held.in-open s.held; few = omega arith }

-- ---- the loop
module _ (d : Ground) (text es : List ℕ) (a len first count : ℕ) (vs₁ x₁ op₁ : List ℕ) where
  abbrev whole_walk : List Tree → Walk
  whole_walk ts = walk_bases (ground_of d text vs₁ es) d.built.sink (symbolic_ends d) first (drop d.k (take len (drop a text))) (begun ts)

  pub record Left (vs x op : List ℕ) (s : Way) (j : ℕ) : Type 0 where
    pub within : j ≤ len - d.k
    pub here : s.here ≤ d.built.vertices
    pub frame : Frame d vs₁ vs x₁ x op₁ op
    pub size-x : length x ≡ length x₁
    pub size-op : length op ≡ length op₁
    pub walked : List Tree → Walk
    pub is : (ts : List Tree) → State d (begun ts) a count 0 vs₁ x₁ op₁ → State d (walked ts) (a + j) s.nodes s.groups vs x op
    pub run : (ts : List Tree) → walk_bases (ground_of d text vs₁ es) d.built.sink (symbolic_ends d) s.here (drop (d.k + j) (take len (drop a text))) (walked ts) ≡ whole_walk ts

-- what the search for the first kmer asks
pub walk-find : {d : Ground} {text vs es x op : List ℕ} {a len count : ℕ} → Walks d text vs es x op a len count → d.k < len
    → (a + d.k ≤ length text) × (HasVertices vs d.built.vertices) × ((v : ℕ) → v < d.built.vertices → kmer_place vs v + d.k ≤ length text)
walk-find q long = ((let z = q.inside in omega arith), (let z = q.sound.room-v in omega arith), q.sound.good.fits)

module _ {d : Ground} {text vs₁ es x₁ op₁ : List ℕ} {a len count : ℕ} (q : Walks d text vs₁ es x₁ op₁ a len count) (long : d.k < len)
    (first : ℕ) (hf : first ≡ number_of (kmers_of d.k text vs₁ d.built.vertices) (part d.k text a)) where
  pub left-start : Left d text es a len first count vs₁ x₁ op₁ vs₁ x₁ op₁ (record { here = first; nodes = count; groups = 0 }) 0
  left-start =
      let z : a + 0 ≡ a = omega arith in
      let y : d.k + 0 ≡ d.k = omega arith in
      record {
        within = omega arith;
        here = rw hf (number-le d.k text vs₁ d.built.vertices a);
        frame = frame_self d vs₁ x₁ op₁;
        size-x = refl;
        size-op = refl;
        walked = begun;
        is = λ ts st. rw z st;
        run = λ ts. rw y;
      }

  size : length (take len (drop a text)) ≡ len
  size = length-take-le len (drop a text) (rw (length-drop a text) (let z = q.inside in omega arith))

  -- the whole walk is the definition's
  whole_is : (ts : List Tree) → (whole_walk d text es a len first count vs₁ x₁ op₁ ts).trees ≡ walk_of d text vs₁ es a len ts
  unfolding graph_of
  whole_is ts =
      let e : take d.k (take len (drop a text)) ≡ part d.k text a = take-take d.k len (drop a text) (omega arith) in
      sym (stretch-long d.k (ground_of d text vs₁ es) d.built.sink (symbolic_ends d) (stretch_at text a len 0 0) ts (rw size long) ∙ rw (e, ← hf))

  module _ {vs x op : List ℕ} {s : Way} {j : ℕ} (b : Left d text es a len first count vs₁ x₁ op₁ vs x op s j) where
    graph-now : ground_of d text vs es ≡ ground_of d text vs₁ es
    graph-now = graph-kept b.frame.kept d.k text es d.built.edges

    sound-now : Sound d text vs es
    sound-now = sound-kept b.frame.kept q.sound

    state-now : State d (b.walked q.trees) (a + j) s.nodes s.groups vs x op
    state-now = b.is q.trees q.state

    low : a + j ≤ 33792
    low = let z = q.inside in let y = q.sound.small in let u = b.within in omega arith

    pub left-row : HasVertex vs s.here
    left-row = let z = b.here in let y = sound-now.room-v in omega arith

    -- ---- the end
    pub left-ending : Ending d s x op
    left-ending =
        record { walk = b.walked q.trees; steps = a + j; roots = vs; state = state-now; low = low; few = q.sound.few; sink = q.sound.sink }

    module _ (l : len - d.k ≤ j) (x' op' : List ℕ) (r : Result Way Refusal) (e : Ended d s x x' op op' r) where
      at-end : (ts : List Tree) → end_of d s.here (b.walked ts) ≡ whole_walk d text es a len first count vs₁ x₁ op₁ ts
      at-end ts =
          let z : drop (d.k + j) (take len (drop a text)) ≡ [] = drop_of_length-le (take len (drop a text)) {i = d.k + j} (rw size (omega arith)) in
          sym (end_is (ground_of d text vs₁ es) d s.here (b.walked ts)) ∙ (rw z at (b.run ts))

      end_frame : Frame d vs₁ vs x₁ x' op₁ op'
      end_frame = frame_on b.frame (record { kept = kept_self d.built.vertices vs; beyond = e.beyond; beyond-open = e.beyond-open })

      pub left_end : (t : Way) → r ≡ Ok t → Walking (walk_of d text vs₁ es a len) d a (a + len) count vs₁ vs x₁ x' op₁ op' (Ok t.nodes)
      left_end t f =
          let e' : Ended d s x x' op op' (Ok t) = rw f at e in
          let u = b.within in
          let k = q.sound.some in
          record {
            is = λ ts st.
                rw (← whole_is ts, ← at-end ts)
                (state-more (a + len) (omega arith) (state-closed (e'.is (b.walked ts) (a + j) vs (b.is ts st))));
            frame = end_frame;
          }

      pub left-end-stop : (m : Refusal) → r ≡ Err m → Walking (walk_of d text vs₁ es a len) d a (a + len) count vs₁ vs x₁ x' op₁ op' (Err m)
      left-end-stop m f =
          let e' : Ended d s x x' op op' (Err m) = rw f at e in
          record {
            is = λ ts st. let c = e'.is (b.walked ts) (a + j) vs (b.is ts st) in (c.0, rw (← whole_is ts, ← at-end ts) c.1);
            frame = end_frame;
          }

    -- ---- a base more
    module _ (l : j < len - d.k) where
      pub left-place : a + d.k + j < length text
      left-place = let z = q.inside in omega arith

      pub left-asks : (a + d.k + j < length text) × (HasVertex vs s.here)
      left-asks = (left-place, left-row)

      base-here : is_base (get_or text (a + d.k + j) 0) ≡ true
      base-here = let z : a + d.k + j ≡ a + (d.k + j) = omega arith in rw z (q.bases (d.k + j) (omega arith))

      ahead : drop (d.k + j) (take len (drop a text)) ≡ get_or text (a + d.k + j) 0 ∷ drop (d.k + (j + 1)) (take len (drop a text))
      ahead =
          let h : d.k + j < length (take len (drop a text)) = rw size (omega arith) in
          let g : get_or (take len (drop a text)) (d.k + j) 0 ≡ get_or text (a + d.k + j) 0 = byte_at in
          let n : suc (d.k + j) ≡ d.k + (j + 1) = omega arith in
          drop-cons (take len (drop a text)) (d.k + j) 0 h ∙ rw (g, n)
        where
          byte_at : get_or (take len (drop a text)) (d.k + j) 0 ≡ get_or text (a + d.k + j) 0
          byte_at =
              let m : d.k + j < len = omega arith in
              let z : a + (d.k + j) ≡ a + d.k + j = omega arith in
              rw (get_or-take, get_or-drop, z)

      module _ (sl : ℕ) (hs : sl ≡ out_edge vs s.here (code (get_or text (a + d.k + j) 0))) where
        -- no edge fits: the walk stops
        pub left-none : sl ≡ 0 → Walking (walk_of d text vs₁ es a len) d a (a + len) count vs₁ vs x₁ x op₁ op (Ok s.nodes)
        left-none z =
            let f : follow (ground_of d text vs₁ es) s.here (get_or text (a + d.k + j) 0) ≡ none = rw (← graph-now) (follow-none sound-now.good s.here (get_or text (a + d.k + j) 0) (sym hs ∙ z)) in
            let u = b.within in
            record {
              is = λ ts st.
                  rw (← whole_is ts, ← b.run ts, ahead, walk_none (ground_of d text vs₁ es) d.built.sink (symbolic_ends d) s.here (get_or text (a + d.k + j) 0) (drop (d.k + (j + 1)) (take len (drop a text))) (b.walked ts) f)
                  (state-more (a + len) (omega arith) (state-closed (b.is ts st)));
              frame = b.frame;
            }

        -- edge i fits
        module _ (i : ℕ) (hi : i + 1 ≡ sl) where
          p : sl ≡ 0 → ⊥
          p z = omega arith

          here_in : s.here < d.built.vertices
          here_in = go (dec_lt s.here d.built.vertices)
            where
              go : Dec (s.here < d.built.vertices) → s.here < d.built.vertices
              go (yes h) = h
              go (no h) = absurd (p (hs ∙ sound-now.good.zeros s.here (code (get_or text (a + d.k + j) 0)) (omega arith) (let y = code_lt (get_or text (a + d.k + j) 0) in omega arith)))

          pos : 0 < out_edge vs s.here (code (get_or text (a + d.k + j) 0))
          pos = omega arith

          full : (sl ≤ d.built.edges) × (edge_from es i ≡ s.here)
          full =
              let w = sound-now.good.full s.here (code (get_or text (a + d.k + j) 0)) here_in (code_lt (get_or text (a + d.k + j) 0)) pos in
              let z : out_edge vs s.here (code (get_or text (a + d.k + j) 0)) - 1 ≡ i = omega arith in
              (rw hs w.0, rw z at w.1)

          pub left-passing : Passing d s i vs es x op
          left-passing =
              let y = full.0 in
              record { text = text; sound = sound-now; walk = b.walked q.trees; steps = a + j; state = state-now; low = low; edge = omega arith; from = full.1 }

          found : follow (ground_of d text vs₁ es) s.here (get_or text (a + d.k + j) 0) ≡ some (edge_at es i)
          found =
              let z : out_edge vs s.here (code (get_or text (a + d.k + j) 0)) - 1 ≡ i = omega arith in
              rw (← graph-now) (rw z at (follow-some sound-now.good s.here (get_or text (a + d.k + j) 0) here_in base-here pos))

          turn : (ts : List Tree)
              → walk_bases (ground_of d text vs₁ es) d.built.sink (symbolic_ends d) (edge_to es i) (drop (d.k + (j + 1)) (take len (drop a text))) (pass_of d es i (b.walked ts))
              ≡ whole_walk d text es a len first count vs₁ x₁ op₁ ts
          unfolding graph_of
          turn ts =
              sym (walk-some (ground_of d text vs₁ es) d.built.sink (symbolic_ends d) s.here (get_or text (a + d.k + j) 0) (drop (d.k + (j + 1)) (take len (drop a text))) (b.walked ts) (edge_at es i) found)
              ∙ (rw ahead at (b.run ts))

          module _ (vs' x' op' : List ℕ) (r : Result Way Refusal) (e : Passed d s i vs vs' es x x' op op' r) where
            pub left-next : (t : Way) → r ≡ Ok t → length x' ≡ length x → length op' ≡ length op → Left d text es a len first count vs₁ x₁ op₁ vs' x' op' t (j + 1)
            left-next t f lx lo =
                let e' : Passed d s i vs vs' es x x' op op' (Ok t) = rw f at e in
                let y = full.0 in
                let z : suc (a + j) ≡ a + (j + 1) = omega arith in
                record {
                  within = omega arith;
                  here = (let h = e'.arrives in let u = q.sound.good.to_in i (omega arith) in omega arith);
                  frame = frame_on b.frame e'.frame;
                  size-x = lx ∙ b.size-x;
                  size-op = lo ∙ b.size-op;
                  walked = λ ts. pass_of d es i (b.walked ts);
                  is = λ ts st. rw (← z) (e'.is (b.walked ts) (a + j) (b.is ts st));
                  run = λ ts. rw e'.arrives (turn ts);
                }

            pub left-stop : (m : Refusal) → r ≡ Err m → Walking (walk_of d text vs₁ es a len) d a (a + len) count vs₁ vs' x₁ x' op₁ op' (Err m)
            left-stop m f =
                let e' : Passed d s i vs vs' es x x' op op' (Err m) = rw f at e in
                record {
                  is = λ ts st. let c = e'.is (b.walked ts) (a + j) (b.is ts st) in (c.0, over ts c.1);
                  frame = frame_on b.frame e'.frame;
                }
              where
                over : (ts : List Tree) → d.most < many (pass_of d es i (b.walked ts)) → d.most < length (nodes (walk_of d text vs₁ es a len ts))
                over ts h =
                    let g = walk-grows (ground_of d text vs₁ es) d.built.sink (symbolic_ends d) (edge_to es i) (drop (d.k + (j + 1)) (take len (drop a text))) (pass_of d es i (b.walked ts)) in
                    let z : many (walk_bases (ground_of d text vs₁ es) d.built.sink (symbolic_ends d) (edge_to es i) (drop (d.k + (j + 1)) (take len (drop a text))) (pass_of d es i (b.walked ts))) ≡ length (nodes (walk_of d text vs₁ es a len ts))
                    = ap many (turn ts) ∙ ap (λ (l : List Tree). length (nodes l)) (whole_is ts) in
                    omega arith

-- no vertex has the stretch's first kmer: the walk stops where it begins
pub left-missing : {d : Ground} {text vs es x op : List ℕ} {a len count : ℕ} → Walks d text vs es x op a len count → d.k < len
    → d.built.vertices ≡ number_of (kmers_of d.k text vs d.built.vertices) (part d.k text a) → Walking (walk_of d text vs es a len) d a (a + len) count vs vs x x op op (Ok count)
left-missing {d = d} {text = text} {vs = vs} {a = a} q long h =
    left-none q long d.built.vertices h (left-start q long d.built.vertices h) (omega arith) 0
    (sym (q.sound.good.zeros d.built.vertices (code (get_or text (a + d.k + 0) 0)) (omega arith) (let y = code_lt (get_or text (a + d.k + 0) 0) in omega arith))) refl
