-- A run, a read and all reads: what each call asks, and the loops that keep "what is left of the walks from here is the whole". Assumes nothing.
use Rattle.std.specs.Prelude.{◌≡◌, Bool, true, false, List, [], ◌∷◌, ◌++◌, ℕ, suc, ◌+◌, ◌-◌, ◌^◌, ◌<◌, ◌≤◌, leb, length, get_or, take, drop, Result, Ok, Err, refl}
use Rattle.std.proofs.Common.{sym, ap, ◌∙◌, arith, length-append, length-drop, length-take-le, leb-false}
use Rattle.std.proofs.Math.Seq.{drop-append-add, drop-length}
use Rattle.laws.specs.Lists.{last_or}
use Rattle.definition.specs.Limits.{rising}
use Rattle.definition.specs.Stretch.{Stretch, usable, runs, stretches_from}
use Rattle.definition.specs.Threading.{Ends, Graph}
use Rattle.definition.specs.Evidence.{Tree, walk_stretch, walk_all, nodes}
use Rattle.sequence_threading.specs.Stretches.{stretch_at}
use Rattle.usable_stretches.specs.Runs.{long_of, runs_at, runs_at-start, RunEnd, run-ahead}
use Rattle.read_threading.specs.Reads.{read_of, reads_of}
use Rattle.usable_stretches.specs.Ahead.{from-nil, from_cons, NextEnd, next-end, later, run_inside, run-base}
use Rattle.threading_tree.specs.Grows.{all-grows}
use Rattle.junction_trees.specs.declared.Ground.{Ground}
use Rattle.refusals.specs.declared.Refusal.{Refusal}
use Rattle.junction_trees.specs.Roots.{graph-kept}
use Rattle.junction_trees.specs.Steps.{Sound, sound-kept, State, state-more, Frame, frame_self, frame_on}
use Rattle.junction_trees.specs.Stretches.{begun, ground_of, symbolic_ends, walk_of, Walking, Walks, stretch-short}

-- ---- a run
module _ {d : Ground} {text vs es x op : List ℕ} {a len count : ℕ} (q : Walks d text vs es x op a len count) where
  pub run-skip : len ≤ d.k → Walking (walk_of d text vs es a len) d a (a + len) count vs vs x x op op (Ok count)
  run-skip h =
      let z : length (take len (drop a text)) ≡ len = length-take-le len (drop a text) (rw (length-drop a text) (let y = q.inside in omega arith)) in
      record {
        is = λ ts st. rw (stretch-short d.k (ground_of d text vs es) d.built.sink (symbolic_ends d) (stretch_at text a len 0 0) ts (rw z h)) (state-more (a + len) (omega arith) st);
        frame = frame_self d vs x op;
      }

-- ---- the walks of a list of stretches
none_left : (good : ℕ → ℕ → Bool) (sq start e : ℕ) (bs qs : List ℕ) (p : ℕ) → e ≤ p → runs_at good sq start e bs qs p ≡ []
unfolding runs_at runs
none_left good sq start e bs qs p h = let z : e - p ≡ 0 = omega arith in rw z

abbrev pub walks_of : Ground → List ℕ → List ℕ → List ℕ → List Stretch → List Tree → List Tree
walks_of d text vs es rs ts = walk_all d.k (ground_of d text vs es) d.built.sink (symbolic_ends d) rs ts

module _ (k : ℕ) (g : Graph) (sink : ℕ) (sy : Ends) where
  all_none : (ts : List Tree) → walk_all k g sink sy [] ts ≡ ts
  unfolding walk_all
  all_none ts = refl

  all_cons : (r : Stretch) (rs : List Stretch) (ts : List Tree) → walk_all k g sink sy (r ∷ rs) ts ≡ walk_all k g sink sy rs (walk_stretch k g sink sy r ts)
  unfolding walk_all
  all_cons r rs ts = refl

  all_append : (xs ys : List Stretch) (ts : List Tree) → walk_all k g sink sy (xs ++ ys) ts ≡ walk_all k g sink sy ys (walk_all k g sink sy xs ts)
  all_append [] ys ts = ap (λ (l : List Tree). walk_all k g sink sy ys l) (sym (all_none ts))
  all_append (x ∷ xs) ys ts =
      all_cons x (xs ++ ys) ts
      ∙ all_append xs ys (walk_stretch k g sink sy x ts)
      ∙ ap (λ (l : List Tree). walk_all k g sink sy ys l) (sym (all_cons x xs ts))

  -- one of less than k bytes is not kept, and would not be walked
  all_one : (r : Stretch) (ts : List Tree) → walk_all k g sink sy (long_of k (r ∷ [])) ts ≡ walk_stretch k g sink sy r ts
  all_one r ts = go (leb k (length r.bytes)) refl
    where
      go : (t : Bool) → leb k (length r.bytes) ≡ t → walk_all k g sink sy (long_of k (r ∷ [])) ts ≡ walk_stretch k g sink sy r ts
      go true c = rw c (all_cons r [] ts ∙ all_none (walk_stretch k g sink sy r ts))
      go false c = let h = leb-false k (length r.bytes) c in rw c (all_none ts ∙ sym (stretch-short k g sink sy r ts (omega arith)))

  -- where a stretch stands does not matter
  stretch-any : (sq pl : ℕ) (bs : List ℕ) (ts : List Tree)
      → walk_stretch k g sink sy (record { sequence = sq; place = pl; bytes = bs }) ts ≡ walk_stretch k g sink sy (record { sequence = 0; place = 0; bytes = bs }) ts
  unfolding walk_stretch
  stretch-any sq pl bs ts = refl

  walk-ahead : (good : ℕ → ℕ → Bool) (sq start e : ℕ) (bs qs : List ℕ) → e ≤ length bs → e ≤ length qs → (p q : ℕ) → 0 < k → start ≤ p → p < e → RunEnd good bs qs p e q → (ts : List Tree)
      → walk_all k g sink sy (long_of k (runs_at good sq start e bs qs p)) ts
      ≡ walk_all k g sink sy (long_of k (runs_at good sq start e bs qs (q + 1))) (walk_stretch k g sink sy (record { sequence = 0; place = 0; bytes = take (q - p) (drop p bs) }) ts)
  walk-ahead good sq start e bs qs eb eq p q h a l r ts =
      ap (λ (x : List Stretch). walk_all k g sink sy x ts) (run-ahead good sq start e bs qs eb eq k p q h a l r)
      ∙ all_append (long_of k (record { sequence = sq; place = p - start; bytes = take (q - p) (drop p bs) } ∷ [])) (long_of k (runs_at good sq start e bs qs (q + 1))) ts
      ∙ ap (λ (x : List Tree). walk_all k g sink sy (long_of k (runs_at good sq start e bs qs (q + 1))) x)
      (all_one (record { sequence = sq; place = p - start; bytes = take (q - p) (drop p bs) }) ts ∙ stretch-any sq (p - start) (take (q - p) (drop p bs)) ts)

  walk_end : (good : ℕ → ℕ → Bool) (sq start e : ℕ) (bs qs : List ℕ) (p : ℕ) → e ≤ p → (ts : List Tree) → walk_all k g sink sy (long_of k (runs_at good sq start e bs qs p)) ts ≡ ts
  walk_end good sq start e bs qs p h ts = rw (none_left good sq start e bs qs p h) (all_none ts)

-- ---- a read, from `start` to e of the bases
pub record ReadWalks (d : Ground) (reference bases quals vs es x op : List ℕ) (start e count : ℕ) : Type 0 where
  pub sound : Sound d (reference ++ bases) vs es
  pub trees : List Tree
  pub state : State d (begun trees) (length reference + start) count 0 vs x op
  pub order : start ≤ e
  pub in_b : e ≤ length bases
  pub in-q : e ≤ length quals

pub record ReadLeft (d : Ground) (least : ℕ) (reference bases quals es : List ℕ) (start e count₁ : ℕ) (vs₁ x₁ op₁ vs x op : List ℕ) (c p sq : ℕ) : Type 0 where
  pub from : start ≤ p
  pub to : p ≤ e + 1
  pub steps : ℕ
  pub low : steps ≤ length reference + p
  pub capped : steps ≤ length reference + e
  pub frame : Frame d vs₁ vs x₁ x op₁ op
  pub size-x : length x ≡ length x₁
  pub size-op : length op ≡ length op₁
  pub walked : List Tree → List Tree
  pub is : (ts : List Tree) → State d (begun ts) (length reference + start) count₁ 0 vs₁ x₁ op₁ → State d (begun (walked ts)) steps c 0 vs x op
  pub run : (ts : List Tree)
      → walks_of d (reference ++ bases) vs₁ es (long_of d.k (runs_at (usable least) sq start e bases quals p)) (walked ts)
      ≡ walks_of d (reference ++ bases) vs₁ es (read_of d.k least bases quals sq start e) ts

module _ {d : Ground} {reference bases quals vs₁ es x₁ op₁ : List ℕ} {start e count₁ : ℕ} (y : ReadWalks d reference bases quals vs₁ es x₁ op₁ start e count₁) (least : ℕ) where
  abbrev G : Graph
  G = ground_of d (reference ++ bases) vs₁ es

  abbrev whole : ℕ → List Tree → List Tree
  whole sq ts = walks_of d (reference ++ bases) vs₁ es (read_of d.k least bases quals sq start e) ts

  abbrev Gone : List ℕ → List ℕ → List ℕ → Result ℕ Refusal → Type 0
  Gone vs x op r = (sq : ℕ) → Walking (walks_of d (reference ++ bases) vs₁ es (read_of d.k least bases quals sq start e)) d (length reference + start) (length reference + e) count₁ vs₁ vs x₁ x op₁ op r

  pub read-start : (sq : ℕ) → ReadLeft d least reference bases quals es start e count₁ vs₁ x₁ op₁ vs₁ x₁ op₁ count₁ start sq
  read-start sq =
      let o = y.order in
      record {
        from = omega arith;
        to = omega arith;
        steps = length reference + start;
        low = omega arith;
        capped = omega arith;
        frame = frame_self d vs₁ x₁ op₁;
        size-x = refl;
        size-op = refl;
        walked = λ ts. ts;
        is = λ ts st. st;
        run = λ ts. ap (λ (l : List Stretch). walks_of d (reference ++ bases) vs₁ es (long_of d.k l) ts) (runs_at-start (usable least) sq start e bases quals);
      }

  module _ {vs x op : List ℕ} {c p : ℕ} (b : (sq : ℕ) → ReadLeft d least reference bases quals es start e count₁ vs₁ x₁ op₁ vs x op c p sq) where
    pub read-end : e ≤ p → Gone vs x op (Ok c)
    read-end h sq =
        record {
          is = λ ts st.
              rw (← (b sq).run ts, walk_end d.k G d.built.sink (symbolic_ends d) (usable least) sq start e bases quals p h ((b sq).walked ts))
              (state-more (length reference + e) (b sq).capped ((b sq).is ts st));
          frame = (b sq).frame;
        }

    module _ (l : p < e) {q : ℕ} (r : RunEnd (usable least) bases quals p e q) where
      inside : length reference + p + (q - p) ≤ length (reference ++ bases)
      inside = run_inside least reference r y.in_b

      pub read_fits : length reference + p < 2 ^ 64
      read_fits = let z = inside in let u = y.sound.small in omega arith

      pub read-run : Walks d (reference ++ bases) vs es x op (length reference + p) (q - p) c
      read-run =
          record {
            sound = sound-kept (b 0).frame.kept y.sound;
            trees = (b 0).walked y.trees;
            state = state-more (length reference + p) (b 0).low ((b 0).is y.trees y.state);
            inside = inside;
            bases = run-base least reference r;
          }

      graph-now : ground_of d (reference ++ bases) vs es ≡ ground_of d (reference ++ bases) vs₁ es
      graph-now = graph-kept (b 0).frame.kept d.k (reference ++ bases) es d.built.edges

      same-run : stretch_at (reference ++ bases) (length reference + p) (q - p) 0 0 ≡ record { sequence = 0; place = 0; bytes = take (q - p) (drop p bases) }
      same-run = rw (drop-append-add reference bases p)

      abbrev after : List Tree → List Tree
      after ts = walk_of d (reference ++ bases) vs es (length reference + p) (q - p) ts

      turn : (sq : ℕ) (ts : List Tree) → walks_of d (reference ++ bases) vs₁ es (long_of d.k (runs_at (usable least) sq start e bases quals (q + 1))) (after ((b sq).walked ts)) ≡ whole sq ts
      turn sq ts =
          rw (graph-now, same-run)
          (sym (walk-ahead d.k G d.built.sink (symbolic_ends d) (usable least) sq start e bases quals y.in_b y.in-q p q y.sound.some (b sq).from l r ((b sq).walked ts)) ∙ (b sq).run ts)

      module _ (vs' x' op' : List ℕ) (a : Result ℕ Refusal) (k : Walking (walk_of d (reference ++ bases) vs es (length reference + p) (q - p)) d (length reference + p) (length reference + p + (q - p)) c vs vs' x x' op op' a) where
        pub read_next : (c' : ℕ) → a ≡ Ok c' → length x' ≡ length x → length op' ≡ length op → (sq : ℕ) → ReadLeft d least reference bases quals es start e count₁ vs₁ x₁ op₁ vs' x' op' c' (q + 1) sq
        read_next c' f lx lo sq =
            let k' : Walking (walk_of d (reference ++ bases) vs es (length reference + p) (q - p)) d (length reference + p) (length reference + p + (q - p)) c vs vs' x x' op op' (Ok c') = rw f at k in
            let u = r.from in
            let w = r.to in
            let v = (b sq).from in
            record {
              from = omega arith;
              to = omega arith;
              steps = length reference + p + (q - p);
              low = omega arith;
              capped = omega arith;
              frame = frame_on (b sq).frame k'.frame;
              size-x = lx ∙ (b sq).size-x;
              size-op = lo ∙ (b sq).size-op;
              walked = λ ts. after ((b sq).walked ts);
              is = λ ts st. k'.is ((b sq).walked ts) (state-more (length reference + p) (b sq).low ((b sq).is ts st));
              run = λ ts. turn sq ts;
            }

        pub read-stop : (n : Refusal) → a ≡ Err n → Gone vs' x' op' a
        read-stop n f sq =
            let k' : Walking (walk_of d (reference ++ bases) vs es (length reference + p) (q - p)) d (length reference + p) (length reference + p + (q - p)) c vs vs' x x' op op' (Err n) = rw f at k in
            rw f
            (record {
              is = λ ts st. (let w = k'.is ((b sq).walked ts) (state-more (length reference + p) (b sq).low ((b sq).is ts st)) in (w.0, over ts w.1));
              frame = frame_on (b sq).frame k'.frame;
            })
          where
            over : (ts : List Tree) → d.most < length (nodes (after ((b sq).walked ts))) → d.most < length (nodes (whole sq ts))
            over ts h =
                let g = all-grows d.k G d.built.sink (symbolic_ends d) (long_of d.k (runs_at (usable least) sq start e bases quals (q + 1))) (after ((b sq).walked ts)) in
                let z = ap (λ (t : List Tree). length (nodes t)) (turn sq ts) in
                omega arith

-- ---- all reads
pub record ReadsWalk (d : Ground) (reference ends bases quals vs es x op : List ℕ) (count : ℕ) : Type 0 where
  pub sound : Sound d (reference ++ bases) vs es
  pub trees : List Tree
  pub state : State d (begun trees) (length reference) count 0 vs x op
  pub rises : rising 0 ends ≡ true
  pub last : last_or 0 ends ≡ length bases
  pub quals-b : length quals ≡ length bases
  pub few : length ends ≤ 512

pub record ReadsLeft (d : Ground) (least : ℕ) (reference ends bases quals es : List ℕ) (count₁ : ℕ) (vs₁ x₁ op₁ vs x op : List ℕ) (c start j : ℕ) : Type 0 where
  pub within : j ≤ length ends
  pub rises : rising start (drop j ends) ≡ true
  pub last : last_or start (drop j ends) ≡ length bases
  pub frame : Frame d vs₁ vs x₁ x op₁ op
  pub size-x : length x ≡ length x₁
  pub size-op : length op ≡ length op₁
  pub walked : List Tree → List Tree
  pub is : (ts : List Tree) → State d (begun ts) (length reference) count₁ 0 vs₁ x₁ op₁ → State d (begun (walked ts)) (length reference + start) c 0 vs x op
  pub run : (ts : List Tree)
      → walks_of d (reference ++ bases) vs₁ es (stretches_from (usable least) d.k (j + 1) start (drop j ends) (drop start bases) (drop start quals)) (walked ts)
      ≡ walks_of d (reference ++ bases) vs₁ es (reads_of d.k least ends bases quals) ts

module _ {d : Ground} {reference ends bases quals vs₁ es x₁ op₁ : List ℕ} {count₁ : ℕ} (y : ReadsWalk d reference ends bases quals vs₁ es x₁ op₁ count₁) (least : ℕ) where
  abbrev G' : Graph
  G' = ground_of d (reference ++ bases) vs₁ es

  abbrev all_of : List Tree → List Tree
  all_of ts = walks_of d (reference ++ bases) vs₁ es (reads_of d.k least ends bases quals) ts

  abbrev Done : List ℕ → List ℕ → List ℕ → Result ℕ Refusal → Type 0
  Done vs x op r = Walking (walks_of d (reference ++ bases) vs₁ es (reads_of d.k least ends bases quals)) d (length reference) (length (reference ++ bases)) count₁ vs₁ vs x₁ x op₁ op r

  pub reads-start : ReadsLeft d least reference ends bases quals es count₁ vs₁ x₁ op₁ vs₁ x₁ op₁ count₁ 0 0
  reads-start =
      let z : length reference + 0 ≡ length reference = omega arith in
      record {
        within = omega arith;
        rises = y.rises;
        last = y.last;
        frame = frame_self d vs₁ x₁ op₁;
        size-x = refl;
        size-op = refl;
        walked = λ ts. ts;
        is = λ ts st. rw z st;
        run = λ ts. refl;
      }

  module _ {vs x op : List ℕ} {c start j : ℕ} (b : ReadsLeft d least reference ends bases quals es count₁ vs₁ x₁ op₁ vs x op c start j) where
    pub reads_end : length ends ≤ j → Done vs x op (Ok c)
    reads_end h =
        let f : drop j ends ≡ [] = (let z : j ≡ length ends = (let u = b.within in omega arith) in rw z (drop-length ends)) in
        let s : start ≡ length bases = rw f at b.last in
        let u = length-append reference bases in
        record {
          is = λ ts st. rw (← left ts f) (state-more (length (reference ++ bases)) (omega arith) (b.is ts st));
          frame = b.frame;
        }
      where
        left : (ts : List Tree) → drop j ends ≡ [] → b.walked ts ≡ all_of ts
        left ts f =
            sym (all_none d.k G' d.built.sink (symbolic_ends d) (b.walked ts))
            ∙ ap (λ (l : List Stretch). walks_of d (reference ++ bases) vs₁ es l (b.walked ts)) (sym (from-nil (usable least) d.k (j + 1) start (drop start bases) (drop start quals)))
            ∙ (rw f at (b.run ts))

    module _ (l : j < length ends) (e : ℕ) (he : e ≡ get_or ends j 0) where
      next : NextEnd ends (length bases) start j e
      next = next-end ends (length bases) start j e b.rises b.last l he

      pub reads-read : ReadWalks d reference bases quals vs es x op start e c
      reads-read =
          record {
            sound = sound-kept b.frame.kept y.sound;
            trees = b.walked y.trees;
            state = b.is y.trees y.state;
            order = next.order;
            in_b = next.inside;
            in-q = (let z = y.quals-b in let u = next.inside in omega arith);
          }

      graph-there : ground_of d (reference ++ bases) vs es ≡ ground_of d (reference ++ bases) vs₁ es
      graph-there = graph-kept b.frame.kept d.k (reference ++ bases) es d.built.edges

      abbrev read : List Tree → List Tree
      read ts = walks_of d (reference ++ bases) vs es (read_of d.k least bases quals (j + 1) start e) ts

      onward : (ts : List Tree)
          → walks_of d (reference ++ bases) vs₁ es (stretches_from (usable least) d.k (j + 1 + 1) e (drop (j + 1) ends) (drop e bases) (drop e quals)) (read (b.walked ts)) ≡ all_of ts
      onward ts =
          let n : j + 1 + 1 ≡ suc (j + 1) = omega arith in
          rw (graph-there, n, ← later start e bases next.order, ← later start e quals next.order)
          (sym (all_append d.k G' d.built.sink (symbolic_ends d) (read_of d.k least bases quals (j + 1) start e) (stretches_from (usable least) d.k (suc (j + 1)) e (drop (j + 1) ends) (drop (e - start) (drop start bases)) (drop (e - start) (drop start quals))) (b.walked ts))
          ∙ ap (λ (l : List Stretch). walks_of d (reference ++ bases) vs₁ es l (b.walked ts)) (sym (from_cons (usable least) d.k (j + 1) start e (drop (j + 1) ends) (drop start bases) (drop start quals)))
          ∙ (rw next.split at (b.run ts)))

      module _ (vs' x' op' : List ℕ) (a : Result ℕ Refusal)
          (k : (q : ℕ) → Walking (walks_of d (reference ++ bases) vs es (read_of d.k least bases quals q start e)) d (length reference + start) (length reference + e) c vs vs' x x' op op' a) where
        pub reads-next : (c' : ℕ) → a ≡ Ok c' → length x' ≡ length x → length op' ≡ length op → ReadsLeft d least reference ends bases quals es count₁ vs₁ x₁ op₁ vs' x' op' c' e (j + 1)
        reads-next c' f lx lo =
            let k' : Walking (walks_of d (reference ++ bases) vs es (read_of d.k least bases quals (j + 1) start e)) d (length reference + start) (length reference + e) c vs vs' x x' op op' (Ok c') = rw f at (k (j + 1)) in
            record {
              within = omega arith;
              rises = next.rises;
              last = next.last;
              frame = frame_on b.frame k'.frame;
              size-x = lx ∙ b.size-x;
              size-op = lo ∙ b.size-op;
              walked = λ ts. read (b.walked ts);
              is = λ ts st. k'.is (b.walked ts) (b.is ts st);
              run = λ ts. onward ts;
            }

        pub reads-stop : (n : Refusal) → a ≡ Err n → Done vs' x' op' a
        reads-stop n f =
            let k' : Walking (walks_of d (reference ++ bases) vs es (read_of d.k least bases quals (j + 1) start e)) d (length reference + start) (length reference + e) c vs vs' x x' op op' (Err n) = rw f at (k (j + 1)) in
            rw f
            (record {
              is = λ ts st. (let w = k'.is (b.walked ts) (b.is ts st) in (w.0, over ts w.1));
              frame = frame_on b.frame k'.frame;
            })
          where
            over : (ts : List Tree) → d.most < length (nodes (read (b.walked ts))) → d.most < length (nodes (all_of ts))
            over ts h =
                let g = all-grows d.k G' d.built.sink (symbolic_ends d) (stretches_from (usable least) d.k (j + 1 + 1) e (drop (j + 1) ends) (drop e bases) (drop e quals)) (read (b.walked ts)) in
                let z = ap (λ (t : List Tree). length (nodes t)) (onward ts) in
                omega arith
