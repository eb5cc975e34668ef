-- The start: record 0 is the start path, which waits, and the pivotal edges are listed where recovery is asked for.
use Rattle.std.specs.Prelude.{◌≡◌, refl, Bool, true, false, List, [], ◌∷◌, ◌++◌, map, ℕ, ◌+◌, ◌<◌, ◌≤◌, ltb, pos, length, get_or, replicate, take, drop, Float}
use Rattle.std.proofs.Common.{sym, ap, ◌∙◌, arith, lt-ltb, length-set, get_or-set_same, length-take-le}
use Rattle.std.proofs.lemmas.List.{length-replicate, get_or-replicate}
use Rattle.std.proofs.Math.ListN.{get_or-append}
use Rattle.std.specs.Float.{nan, fin}
use Rattle.std.specs.Float.Ieee.{is_nan}
use Rattle.laws.specs.ListLaws.{All, nil, all-mono, keep_all}
use Rattle.laws.specs.Sorting.{insert-nil}
use Rattle.definition.specs.Threading.{Ends}
use Rattle.definition.specs.Score.{column_scoring}
use Rattle.definition.specs.Search.{SearchInput, Path, ends_of, pivotal_edges, first_state}
use Rattle.pivotal_edges.specs.Turns.{Pivoted}
use Rattle.theorems.proofs.Tables.{Once}
use Rattle.pivotal_edges.specs.Once.{edges-once}
use Rattle.closed_paths.specs.Pivots.{pivotal-distinct, pivotal-forks}
use Rattle.path_store.specs.Cells.{IsPathField, path_field, trees_of, score_of, Inside, put_cells, Stored, put-at, put-trees}
use Rattle.path_growth.specs.Grow.{start_row}
use Rattle.path_growth.specs.View.{start-view}
use Rattle.path_growth.specs.Held.{held_start}
use Rattle.closed_paths.specs.Cross.{unvisited, Distinct, Fork}
use Rattle.path_heap.specs.Heap.{Pushable, Pushed, waiting, ahead_of, waiting_none, pushed-all}
use Rattle.search_state.specs.Settings.{Setting}
use Rattle.search_state.specs.declared.Progress.{Progress}
use Rattle.search_state.specs.Ground.{name_of, Ground}
use Rattle.search_state.specs.State.{path_of, Records, Idle, Holds}

-- ---- the first n marks become x

abbrev pub MarksSet : ℕ → ℕ → List ℕ → Type 0
MarksSet n x m = (i : ℕ) → i < n → get_or m i 0 ≡ x

-- a slice whose first n places are filled
pub marks-filled : (n x : ℕ) (m m' : List ℕ) → n ≤ length m → m' ≡ replicate (length (take n m)) x → MarksSet n x (m' ++ drop n m)
marks-filled n x m m' l e i h =
    let s : length (take n m) ≡ n = length-take-le n m l in
    let k : length m' ≡ n = ap length e ∙ length-replicate (length (take n m)) x ∙ s in
    get_or-append m' (drop n m) 0 i (omega arith) ∙ ap (λ y. get_or y i 0) e ∙ get_or-replicate (length (take n m)) i x 0 (omega arith)

-- ---- the pivotal edges

-- the input and the tables that the graph's slices stand for
pub record Based (g : Setting) (vs es : List ℕ) : Type 0 where
  pub f : SearchInput
  pub x : List ℕ
  pub index : List ℕ
  pub targets : List ℕ
  pub on_ground : Ground f g vs es x index targets

pub record ListsPivotal (g : Setting) (vs es queue order marks : List ℕ) : Type 0 where
  pub based : Based g vs es
  pub queue-room : g.edges + g.edges ≤ length queue
  pub order-room : g.edges ≤ length order
  pub marks-room : g.edges ≤ length marks

abbrev pub asked : SearchInput → Bool → List Ends
asked f recovery = elim recovery [ true ↦ pivotal_edges f | false ↦ [] ]

pub record PivotalHeld (f : SearchInput) (es index targets order marks : List ℕ) (n : ℕ) (recovery : Bool) : Type 0 where
  pub is : asked f recovery ≡ map (name_of es) (unvisited (take n order) marks)
  pub distinct : Distinct (take n order)
  pub known : All (λ e. e < length targets) (take n order)
  pub forks : All (Fork index) (take n order)

pub record PivotalListed (g : Setting) (vs es order marks : List ℕ) (n : ℕ) (recovery : Bool) : Type 0 where
  pub room : n ≤ length order
  pub each : (f : SearchInput) (x index targets : List ℕ) → Ground f g vs es x index targets → PivotalHeld f es index targets order marks n recovery

module _ {g : Setting} {vs es queue order marks : List ℕ} (L : ListsPivotal g vs es queue order marks) where
  pub no-pivotal : (recovery : Bool) → recovery ≡ false → PivotalListed g vs es order marks 0 recovery
  no-pivotal recovery e = rw e (record { room = omega arith; each = λ f x index targets B. record { is = refl; distinct = tt; known = nil; forks = nil } })

  pub some-pivotal : (clear queue' marks' order' marks'' : List ℕ) (n : ℕ) (recovery : Bool) → recovery ≡ true → length order' ≡ length order → Pivoted es g.edges queue clear order queue' marks' order' n
      → MarksSet g.edges 1 marks'' → PivotalListed g vs es order' marks'' n recovery
  some-pivotal clear queue' marks' order' marks'' n recovery e l P m =
      rw e
      (record {
        room = omega (arith, P.few, L.order-room);
        each =
            λ f x index targets B.
            (let names : map (name_of es) (take n order') ≡ pivotal_edges f = P.is f B.settings.edges B.source in
            let left : unvisited (take n order') marks'' ≡ take n order' =
            keep_all (λ d. ltb 0 (get_or marks'' d 0)) (all-mono (λ d h. lt-ltb 0 (get_or marks'' d 0) (omega (arith, m d h))) P.low)
            in
            let single : Once (ends_of f.edges) = rw B.settings.edges (edges-once es g.edges) in
            record {
              is = sym names ∙ ap (λ l. map (name_of es) l) (sym left);
              distinct = pivotal-distinct f single (name_of es) (take n order') names;
              known = all-mono (λ d h. omega (arith, B.size)) P.low;
              forks = pivotal-forks f single (name_of es) (take n order') names index targets B.agrees;
            });
      })

-- ---- the start

pub record Begins (g : Setting) (vs es t : List ℕ) (sc : List Float) (queue walks order marks : List ℕ) : Type 0 where
  pub lists : ListsPivotal g vs es walks order marks
  pub paths : 9 ≤ length t
  pub scores : 0 < length sc
  pub allowed : 0 < g.pushes
  pub waiting : g.pushes ≤ length queue

abbrev pub begun_with : ℕ → Progress
begun_with n = record { records = 1; waiting = 1; closed = 0; next = 0; pivotal = n; pushes = 1; mark = 1 }

pub record Begun (g : Setting) (vs es t' : List ℕ) (sc' : List Float) (queue' order' marks' : List ℕ) (recovery : Bool) (p : Progress) : Type 0 where
  pub is : p ≡ begun_with p.pivotal
  pub each : (f : SearchInput) (x index targets ac closed : List ℕ) (column : List Float) → Ground f g vs es x index targets
      → Holds f g es x index targets (λ r. []) (λ r. 0) t' sc' ac queue' closed order' marks' p (first_state (column_scoring column) (asked f recovery))

zero-score : is_nan (fin false 0 (pos 0)) ≡ false
unfolding is_nan
zero-score = refl

module _ {g : Setting} {vs es t : List ℕ} {sc : List Float} {queue walks order marks : List ℕ} (A : Begins g vs es t sc queue walks order marks) where
  pub begin-inside : Inside t sc 0
  begin-inside = record { cells = omega (arith, A.paths); score = A.scores }

  module _ {t' : List ℕ} {sc' : List Float} (S : Stored t sc 0 (start_row 0) t' sc') where
    score-is : score_of sc' 0 ≡ fin false 0 (pos 0)
    score-is = rw S.scores (get_or-set_same sc 0 (fin false 0 (pos 0)) nan A.scores)

    score-number : is_nan (score_of sc' 0) ≡ false
    score-number = rw score-is zero-score

    scored : 0 < length sc'
    scored = omega (arith, A.scores, ap (λ (l : List Float). length l) S.scores, length-set sc 0 (start_row 0).score)

    pub begin-heap : Pushable sc' queue 0 0
    begin-heap =
        record {
          heap = record { room = omega arith; known = λ i h. absurd (omega arith); order = λ j p h. absurd (omega arith) };
          free = omega (arith, A.allowed, A.waiting);
          known = record { there = scored; number = score-number };
          later = λ i h. absurd (omega arith);
        }

    cell : (j : ℕ) → IsPathField j → path_field t' 0 j ≡ get_or (0 ∷ 0 ∷ 0 ∷ 0 ∷ 0 ∷ 0 ∷ 0 ∷ 0 ∷ 0 ∷ []) j 0
    cell j h = rw S.cells (put-at t 0 (start_row 0) (omega (arith, A.paths)) j h)

    idle : Idle t' 1 0
    idle = record { known = omega arith; unjoined = cell 7 (omega arith); childless = λ q h. let z : q ≡ 0 = omega arith in rw z (λ e. omega (arith, cell 0 (omega arith))) }

    module _ (f : SearchInput) (x index targets ac : List ℕ) (B : Ground f g vs es x index targets) where
      records : Records f g es x index targets (λ r. []) t' sc' ac 1
      records =
          record {
            held =
                rw (S.cells, S.scores, B.source) (held_start index targets 0 t sc B.agrees.graph (omega (arith, B.sink-in)) begin-inside);
            actives =
                λ r h.
                (let z : r ≡ 0 = omega arith in
                let e : trees_of t' 0 ≡ 0 = rw S.cells (put-trees t 0 (start_row 0) (omega (arith, A.paths))) in
                rw z (record { stand = omega arith; inside = omega arith; room = B.nodes; wide = B.wide }));
            trees = λ r h. (let z : r ≡ 0 = omega arith in let e : trees_of t' 0 ≡ 0 = rw S.cells (put-trees t 0 (start_row 0) (omega (arith, A.paths))) in rw z (omega (arith, e)));
            small = λ r h. nil;
            short = λ r h. (let z : r ≡ 0 = omega arith in rw z (omega (arith, cell 3 (omega arith))));
            number = λ r h. (let z : r ≡ 0 = omega arith in rw z score-number);
          }

      first-path : (column : List Float) → path_of f es index targets (λ r. []) t' sc' 0 ≡ record { edges = []; score = (column_scoring column).start; active = []; visited = []; since = 0 }
      unfolding column_scoring
      first-path column =
          let c : t' ≡ put_cells t 0 (start_row f.source) = S.cells ∙ ap (λ v. put_cells t 0 (start_row v)) (sym B.source) in
          rw (c, S.scores) (start-view f (name_of es) index targets t sc begin-inside)

    module _ {queue' : List ℕ} (P : Pushed sc' queue 0 0 queue') {order' marks' : List ℕ} {n : ℕ} {recovery : Bool} (L : PivotalListed g vs es order' marks' n recovery)
        (l : length marks' ≡ length marks) where
      one : waiting sc' queue' 1 ≡ 0 ∷ []
      one = P.is ∙ (rw (waiting_none sc' queue)) ∙ insert-nil (ahead_of sc') 0

      pub begun : Begun g vs es t' sc' queue' order' marks' recovery (begun_with n)
      unfolding first_state
      begun =
          record {
            is = refl;
            each =
                λ f x index targets ac closed column B.
                (let W = L.each f x index targets B in
                record {
                  records = records f x index targets ac B;
                  heap = P.heap;
                  idle = pushed-all (λ q. Idle t' 1 q) sc' queue 0 0 queue' P idle (λ i h. absurd (omega arith));
                  once = rw one (nil, tt);
                  waiting = sym (ap (λ q. map (path_of f es index targets (λ r. []) t' sc') q) one ∙ ap (λ (q : Path Float). q ∷ []) (first-path f x index targets ac B column));
                  closed-known = nil;
                  closed_is = refl;
                  closed-room = omega arith;
                  pivotal = W.is;
                  pivotal-once = W.distinct;
                  pivotal-known = W.known;
                  pivotal-forks = W.forks;
                  order-room = L.room;
                  marks-room = omega (arith, l, A.lists.marks-room, B.size);
                  next_low = omega arith;
                  pushes = refl;
                  longest = refl;
                  mark-fits = omega arith;
                  waiting-fits = omega arith;
                  pushes-fit = omega (arith, A.allowed);
                });
          }
