-- At the sink the path that was taken may close; closed or not, its edges are no longer pivotal.
use Rattle.std.specs.Prelude.{◌≡◌, refl, ◌⊎◌, ◌≢◌, Bool, true, false, eqb, length, drop, set, Float, Ok, Err, List, [], ◌∷◌, ◌++◌, map, ℕ, zero, suc, ◌+◌, ◌*◌, ◌<◌, ◌≤◌, take, is_nan}
use Rattle.std.proofs.Common.{sym, ◌∙◌, inl, eq-or-lt_of_le, eq-eqb, ne_eqb, ap, subst, inr, add-one, arith, length-set, get_or-set_same, get_or-set_other, take-suc-set}
use Rattle.std.proofs.lemmas.List.{map-append}
use Rattle.std.specs.Float.{nan}
use Rattle.std.specs.Prelude as std
use Rattle.laws.specs.ListLaws.{All, nil, cons, all-mono, all_append}
use Rattle.laws.specs.Records.{row_step}
use Rattle.definition.specs.Refusal.{Result, ok, refused}
use Rattle.definition.specs.Threading.{Ends}
use Rattle.definition.specs.Evidence.{Branches}
use Rattle.definition.specs.Search.{SearchInput, Path, Closed, State, close_at, cross_off, has_stopping_evidence}
use Rattle.definition.specs.Search as defs
use Rattle.theorems.proofs.Counts.{Small}
use Rattle.path_store.specs.declared.records.PathRecord.{PathRecord}
use Rattle.path_growth.specs.declared.Taken.{Taken}
use Rattle.path_store.specs.Cells.{HasPaths, parent_of, count_of, trees_of, score_of, Inside, put_cells, put-at, put-trees}
use Rattle.path_edges.specs.Path.{Table, edges, table-front}
use Rattle.path_growth.specs.Push.{put_same, edges-kept}
use Rattle.path_growth.specs.Grow.{Following, closed_row}
use Rattle.path_growth.specs.Link.{Agrees}
use Rattle.path_growth.specs.View.{view_of, closed_of}
use Rattle.path_growth.specs.Held.{Held, held-closed, pushed-view, pushed-closed, following-pushed}
use Rattle.closed_paths.specs.Cross.{Distinct, Struck, struck-out}
use Rattle.closed_paths.specs.Recover.{edges-in}
use Rattle.closed_paths.specs.Close.{close-elsewhere, close-kept, close-over, close-made}
use Rattle.fork_offers.specs.Actives.{Actives, actives-none}
use Rattle.search_state.specs.Settings.{Setting}
use Rattle.search_state.specs.declared.Progress.{Progress}
use Rattle.refusals.specs.declared.Refusal.{Refusal}
use Rattle.refusals.specs.Numbers.{number}
use Rattle.search_state.specs.Ground.{name_of, Ground}
use Rattle.search_state.specs.State.{path_of, closed_record, Records, Holds, Apart, Kept}
use Rattle.search_state.specs.Keep.{with_records, map-agree, holds_kept, apart-kept}
use Rattle.path_closing.specs.ClosesTaken.{with_closed, ClosedTaken, ClosingTaken, ClosedTakenBy}
use Rattle.path_closing.specs.Joins.{Joined}

-- ---- what the contract says

-- the stores as a search f has them, with room for one record more
pub record Closing (f : SearchInput) (g : Setting) (vs es x index targets : List ℕ) (bs : ℕ → List Branches) (closing : ℕ → ℕ) (t : List ℕ) (sc : List Float) (ac queue closed order marks : List ℕ)
    (p : Progress) (s : State Float) (taken : Taken) : Type 0 where
  pub on_ground : Ground f g vs es x index targets
  pub holds : Holds f g es x index targets bs closing t sc ac queue closed order marks p s
  pub known : taken.path < p.records
  pub following : Following index targets t taken.path taken
  pub apart : Apart sc queue p.waiting taken.path
  pub more : p.closed < length closed
  pub paths : HasPaths t (p.records + 1)
  pub scores : p.records + 1 ≤ length sc
  pub actives : (p.records + 1) * g.active ≤ length ac
  pub few : p.records + 1 < 2147483648

-- what the code asks: they are those of some search
pub record Closes (g : Setting) (x index targets t : List ℕ) (sc : List Float) (ac closed marks : List ℕ) (p : Progress) (taken : Taken) : Type 0 where
  pub input : SearchInput
  pub vertices : List ℕ
  pub edges : List ℕ
  pub branches : ℕ → List Branches
  pub closings : ℕ → ℕ
  pub queue : List ℕ
  pub order : List ℕ
  pub state : State Float
  pub all : Closing input g vertices edges x index targets branches closings t sc ac queue closed order marks p state taken

-- the chain after the path r, as the definition has it
abbrev pub chain_after : SearchInput → Path Float → List Ends
chain_after f q = defs.chain f (defs.end_from f.source q.edges)

-- the definition's `close_at`, of the path that was taken
abbrev pub closing : SearchInput → List ℕ → List ℕ → List ℕ → (ℕ → List Branches) → List ℕ → List Float → Taken → State Float → Result (State Float)
closing f es index targets bs t sc taken s = close_at f taken.vertex (path_of f es index targets bs t sc taken.path) (chain_after f (path_of f es index targets bs t sc taken.path)) s

-- the stores after the step
pub record ClosedOn (f : SearchInput) (g : Setting) (es x index targets : List ℕ) (bs : ℕ → List Branches) (t : List ℕ) (sc : List Float) (ac queue order : List ℕ) (p : Progress) (s : State Float) (taken : Taken)
    (p' : Progress) (t' : List ℕ) (sc' : List Float) (closed' marks' : List ℕ) : Type 0 where
  pub branches : ℕ → List Branches
  pub closings : ℕ → ℕ
  pub state : State Float
  pub is : closing f es index targets bs t sc taken s ≡ ok state
  pub holds : Holds f g es x index targets branches closings t' sc' ac queue closed' order marks' p' state
  pub path : path_of f es index targets branches t' sc' taken.path ≡ path_of f es index targets bs t sc taken.path
  pub following : Following index targets t' taken.path taken
  pub apart : Apart sc' queue p'.waiting taken.path
  pub known : taken.path < p'.records
  pub progress : (p' ≡ p) ⊎ (p' ≡ with_closed p)

abbrev pub ClosedBy : SearchInput → Setting → List ℕ → List ℕ → List ℕ → List ℕ → (ℕ → List Branches) → List ℕ → List Float → List ℕ → List ℕ → List ℕ → Progress → State Float → Taken → std.Result Progress Refusal → List ℕ → List Float → List ℕ → List ℕ → Type 0
ClosedBy f g es x index targets bs t sc ac queue order p s taken (Ok p') t' sc' closed' marks' = ClosedOn f g es x index targets bs t sc ac queue order p s taken p' t' sc' closed' marks'
ClosedBy f g es x index targets bs t sc ac queue order p s taken (Err e) t' sc' closed' marks' = closing f es index targets bs t sc taken s ≡ refused (number e)

-- by the answer, for every search whose stores these are
pub record ClosedAt (g : Setting) (x index targets t : List ℕ) (sc : List Float) (ac closed marks : List ℕ) (p : Progress) (taken : Taken) (r : std.Result Progress Refusal) (t' : List ℕ) (sc' : List Float) (closed' marks' : List ℕ) : Type 0 where
  pub is : (f : SearchInput) (vs es : List ℕ) (bs : ℕ → List Branches) (closings : ℕ → ℕ) (queue order : List ℕ) (s : State Float)
      → Closing f g vs es x index targets bs closings t sc ac queue closed order marks p s taken → ClosedBy f g es x index targets bs t sc ac queue order p s taken r t' sc' closed' marks'

-- ---- the marks of a path's edges are cleared

distinct-drop : (n : ℕ) (xs : List ℕ) → Distinct xs → Distinct (drop n xs)
distinct-drop zero xs d = d
distinct-drop (suc n) [] d = tt
distinct-drop (suc n) (x ∷ xs) d = distinct-drop n xs d.1

all_drop : {P : ℕ → Type 0} (n : ℕ) {xs : List ℕ} → All P xs → All P (drop n xs)
all_drop zero a = a
all_drop (suc n) nil = nil
all_drop (suc n) (cons h a) = all_drop n a

-- the state with these edges crossed off
abbrev crossed_state : List Ends → State Float → State Float
crossed_state ds s = record { waiting = s.waiting; closed = s.closed; pivotal = cross_off ds s.pivotal; pushes = s.pushes; longest = s.longest }

module _ (f : SearchInput) (g : Setting) (es x index targets : List ℕ) (bs : ℕ → List Branches) (cl : ℕ → ℕ) (t : List ℕ) (sc : List Float) (ac queue closed order marks : List ℕ) (p : Progress) (s : State Float)
    (H : Holds f g es x index targets bs cl t sc ac queue closed order marks p s) where
  holds-crossed : Agrees f index targets (name_of es) → (ds : List ℕ) → All (λ e. e < length targets) ds → (marks' : List ℕ) → Struck index marks ds marks'
      → Holds f g es x index targets bs cl t sc ac queue closed order marks' p (crossed_state (map (name_of es) ds) s)
  holds-crossed A ds a marks' S =
      record {
        records = H.records;
        heap = H.heap;
        idle = H.idle;
        once = H.once;
        waiting = H.waiting;
        closed-known = H.closed-known;
        closed_is = H.closed_is;
        closed-room = H.closed-room;
        pivotal =
            ap (λ (l : List Ends). cross_off (map (name_of es) ds) l) H.pivotal
            ∙ sym
            (struck-out f index targets (name_of es) A (drop p.next (take p.pivotal order)) marks ds marks' (distinct-drop p.next (take p.pivotal order) H.pivotal-once)
            (all_drop p.next H.pivotal-known) (all_drop p.next H.pivotal-forks) H.marks-room a S);
        pivotal-once = H.pivotal-once;
        pivotal-known = H.pivotal-known;
        pivotal-forks = H.pivotal-forks;
        order-room = H.order-room;
        marks-room = let q = S.size in let r = H.marks-room in omega arith;
        next_low = H.next_low;
        pushes = H.pushes;
        longest = H.longest;
        mark-fits = H.mark-fits;
        waiting-fits = H.waiting-fits;
        pushes-fit = H.pushes-fit;
      }

-- ---- the record n closes: its number stands next among the closed

-- the closing numbers with that of n
closing_with : (ℕ → ℕ) → ℕ → ℕ → ℕ → ℕ
closing_with cl n c q = elim (eqb q n) [ true ↦ c | false ↦ cl q ]

closing-own : (cl : ℕ → ℕ) (n c : ℕ) → closing_with cl n c n ≡ c
unfolding closing_with
closing-own cl n c = rw (eq-eqb n n refl, closing_with)

closing-other : (cl : ℕ → ℕ) (n c q : ℕ) → q ≢ n → closing_with cl n c q ≡ cl q
unfolding closing_with
closing-other cl n c q d = rw (ne_eqb q n d, closing_with)

-- the state with a closed path more
abbrev closed_state : Closed Float → State Float → State Float
closed_state c s = record { waiting = s.waiting; closed = s.closed ++ c ∷ []; pivotal = s.pivotal; pushes = s.pushes; longest = s.longest }

module _ (f : SearchInput) (g : Setting) (es x index targets : List ℕ) (bs : ℕ → List Branches) (cl : ℕ → ℕ) (t : List ℕ) (sc : List Float) (ac queue closed order marks : List ℕ) (p : Progress) (s : State Float)
    (H : Holds f g es x index targets bs cl t sc ac queue closed order marks (with_records p (p.records + 1)) s) (before : All (λ q. q < p.records) (take p.closed closed)) (more : p.closed < length closed) (c : ℕ) where
  closed' : List ℕ
  closed' = set closed p.closed p.records

  numbers : take (p.closed + 1) closed' ≡ take p.closed closed ++ p.records ∷ []
  unfolding closed'
  numbers = ap (λ (d : ℕ). take d (set closed p.closed p.records)) (add-one p.closed) ∙ take-suc-set closed p.closed p.records more

  earlier : map (closed_record es index targets cl t sc) (take p.closed closed) ≡ map (closed_record es index targets (closing_with cl p.records c) t sc) (take p.closed closed)
  earlier =
      map-agree (closed_record es index targets cl t sc) (closed_record es index targets (closing_with cl p.records c) t sc)
      (all-mono (λ q l. ap (λ (d : ℕ). closed_of (name_of es) index targets t sc d q) (sym (closing-other cl p.records c q (omega arith)))) before)

  both : s.closed ++ closed_of (name_of es) index targets t sc c p.records ∷ []
      ≡ map (closed_record es index targets (closing_with cl p.records c) t sc) (take (p.closed + 1) closed')
  both =
      ap (λ (l : List (Closed Float)). l ++ closed_of (name_of es) index targets t sc c p.records ∷ []) (H.closed_is ∙ earlier)
      ∙ ap (λ (d : ℕ). map (closed_record es index targets (closing_with cl p.records c) t sc) (take p.closed closed) ++ closed_of (name_of es) index targets t sc d p.records ∷ []) (sym (closing-own cl p.records c))
      ∙ sym (map-append (closed_record es index targets (closing_with cl p.records c) t sc) (take p.closed closed) (p.records ∷ []))
      ∙ ap (λ (l : List ℕ). map (closed_record es index targets (closing_with cl p.records c) t sc) l) (sym numbers)

  holds-closed : Holds f g es x index targets bs (closing_with cl p.records c) t sc ac queue (set closed p.closed p.records) order marks (with_closed p)
      (closed_state (closed_of (name_of es) index targets t sc c p.records) s)
  unfolding closed'
  holds-closed =
      record {
        records = H.records;
        heap = H.heap;
        idle = H.idle;
        once = H.once;
        waiting = H.waiting;
        closed-known = rw numbers (all_append H.closed-known (cons {x = p.records} (omega arith) nil));
        closed_is = both;
        closed-room = let q = length-set closed p.closed p.records in omega arith;
        pivotal = H.pivotal;
        pivotal-once = H.pivotal-once;
        pivotal-known = H.pivotal-known;
        pivotal-forks = H.pivotal-forks;
        order-room = H.order-room;
        marks-room = H.marks-room;
        next_low = H.next_low;
        pushes = H.pushes;
        longest = H.longest;
        mark-fits = H.mark-fits;
        waiting-fits = H.waiting-fits;
        pushes-fit = H.pushes-fit;
      }

-- ---- the step, for a search whose stores these are

-- the active trees, with none for the record n
branches_with : (ℕ → List Branches) → ℕ → ℕ → List Branches
branches_with bs n q = elim (eqb q n) [ true ↦ [] | false ↦ bs q ]

branches-own : (bs : ℕ → List Branches) (n : ℕ) → branches_with bs n n ≡ []
unfolding branches_with
branches-own bs n = rw (eq-eqb n n refl, branches_with)

branches-other : (bs : ℕ → List Branches) (n q : ℕ) → q ≢ n → branches_with bs n q ≡ bs q
unfolding branches_with
branches-other bs n q d = rw (ne_eqb q n d, branches_with)

module _ (f : SearchInput) (g : Setting) (vs es x index targets : List ℕ) (bs : ℕ → List Branches) (cl : ℕ → ℕ) (t : List ℕ) (sc : List Float) (ac queue closed order marks : List ℕ) (p : Progress) (s : State Float)
    (taken : Taken) (C : Closing f g vs es x index targets bs cl t sc ac queue closed order marks p s taken) where
  abbrev n : ℕ
  n = p.records

  abbrev r : ℕ
  r = taken.path

  H : Holds f g es x index targets bs cl t sc ac queue closed order marks p s
  H = C.holds

  G : Held index targets f.source t sc n
  G = H.records.held

  A : Agrees f index targets (name_of es)
  A = C.on_ground.agrees

  I : Inside t sc n
  I = let a = C.paths in let b = C.scores in record { cells = omega arith; score = omega arith }

  pub closing-table : Table index targets t sc (taken.path + 1)
  closing-table = table-front index targets t sc n (r + 1) G.table (let q = C.known in omega arith)

  pub closed-elsewhere : (taken.vertex ≡ g.sink → ⊥) → ClosedOn f g es x index targets bs t sc ac queue order p s taken p t sc closed marks
  closed-elsewhere h =
      record {
        branches = bs;
        closings = cl;
        state = s;
        is = close-elsewhere f (name_of es) index targets A t sc n taken G.table G.rooted I C.known C.following (bs r) taken.vertex s (λ e. h (e ∙ C.on_ground.sink));
        holds = H;
        path = refl;
        following = C.following;
        apart = C.apart;
        known = C.known;
        progress = inl refl;
      }

  module _ (at : taken.vertex ≡ g.sink) where
    sunk : taken.vertex ≡ f.sink
    sunk = at ∙ sym C.on_ground.sink

    own : All (λ e. e < length targets) (edges index targets t r)
    own = edges-in index targets t sc n G.table r C.known

    pub closed-open : has_stopping_evidence f (bs taken.path) ≡ false → (marks' : List ℕ) → Struck index marks (edges index targets t taken.path) marks'
        → ClosedOn f g es x index targets bs t sc ac queue order p s taken p t sc closed marks'
    closed-open e marks' z =
        record {
          branches = bs;
          closings = cl;
          state = crossed_state (map (name_of es) (edges index targets t r)) s;
          is = close-kept f (name_of es) index targets A t sc n taken G.table G.rooted I C.known C.following (bs r) taken.vertex s sunk e;
          holds = holds-crossed f g es x index targets bs cl t sc ac queue closed order marks p s H A (edges index targets t r) own marks' z;
          path = refl;
          following = C.following;
          apart = C.apart;
          known = C.known;
          progress = inl refl;
        }

    module _ (e : has_stopping_evidence f (bs taken.path) ≡ true) where
      pub closed-over : g.most < (closed_row t sc taken).edges → closing f es index targets bs t sc taken s ≡ refused 11
      closed-over h =
          close-over f (name_of es) index targets A t sc n taken G.table G.rooted I C.known C.following (bs r) taken.vertex s sunk e
          (let q = C.on_ground.most in omega arith)

      module _ (h : (closed_row t sc taken).edges ≤ g.most) where
        row : PathRecord
        row = closed_row t sc taken

        t' : List ℕ
        t' = put_cells t n (closed_row t sc taken)

        sc' : List Float
        sc' = set sc n (score_of sc r)

        bs' : ℕ → List Branches
        bs' = branches_with bs n

        kept : Kept f es index targets bs t sc bs' t' sc' n r
        unfolding t' sc' bs'
        kept =
            record {
              path = λ q l d.
                  ap (λ (b : List Branches). view_of f (name_of es) index targets b t' sc' q) (branches-other bs n q (omega arith))
                  ∙ pushed-view index targets f.source t sc n G I f (name_of es) (bs q) (closed_row t sc taken) q l;
              closed = λ c q l. pushed-closed index targets f.source t sc n G I f (name_of es) (closed_row t sc taken) c q l;
              joined = λ q l d. put_same t n (closed_row t sc taken) q 7 l (omega arith);
              parent = λ q l. put_same t n (closed_row t sc taken) q 0 l (omega arith);
              score = λ q l. get_or-set_other sc n q (score_of sc r) nan (omega arith);
            }

        trees-new : trees_of t' n ≡ 0
        unfolding t'
        trees-new = put-trees t n (closed_row t sc taken) I.cells

        trees-old : (q : ℕ) → q < n → trees_of t' q ≡ trees_of t q
        unfolding t'
        trees-old q l = rw (put_same t n (closed_row t sc taken) q 8 l (omega arith))

        count-new : count_of t' n ≡ (closed_row t sc taken).edges
        unfolding t'
        count-new = put-at t n (closed_row t sc taken) I.cells 3 (omega arith)

        score-new : score_of sc' n ≡ score_of sc r
        unfolding sc'
        score-new = get_or-set_same sc n (score_of sc r) nan I.score

        actives-new : Actives g.cap g.nodes x ac (n * g.active) (n * g.active + trees_of t' n) (bs' n)
        unfolding bs'
        actives-new =
            let a = row_step g.active n (n + 1) (omega arith) in
            let b = C.actives in
            let z : n * g.active + trees_of t' n ≡ n * g.active = let q = trees-new in omega arith in
            rw (z, branches-own bs n) (actives-none g.cap g.nodes x ac (n * g.active) (omega arith) C.on_ground.nodes C.on_ground.wide)

        records : Records f g es x index targets bs' t' sc' ac (n + 1)
        unfolding t' sc' bs'
        records =
            record {
              held = held-closed index targets f.source t sc n G I taken C.known C.following;
              actives = λ q l. go-actives q (eq-or-lt_of_le (omega arith));
              trees = λ q l. go-trees q (eq-or-lt_of_le (omega arith));
              small = λ q l. go-small q (eq-or-lt_of_le (omega arith));
              short = λ q l. go-short q (eq-or-lt_of_le (omega arith));
              number = λ q l. go-number q (eq-or-lt_of_le (omega arith));
            }
          where
            go-actives : (q : ℕ) → (q ≡ n) ⊎ (q < n) → Actives g.cap g.nodes x ac (q * g.active) (q * g.active + trees_of t' q) (bs' q)
            go-actives q (inl z) = subst (λ (d : ℕ). Actives g.cap g.nodes x ac (d * g.active) (d * g.active + trees_of t' d) (bs' d)) (sym z) actives-new
            go-actives q (inr l) = rw (trees-old q l, branches-other bs n q (omega arith)) (H.records.actives q l)

            go-trees : (q : ℕ) → (q ≡ n) ⊎ (q < n) → trees_of t' q ≤ g.active
            go-trees q (inl z) = rw z (let w = trees-new in omega arith)
            go-trees q (inr l) = rw (trees-old q l) (H.records.trees q l)

            go-small : (q : ℕ) → (q ≡ n) ⊎ (q < n) → All (Small 65535) (bs' q)
            go-small q (inl z) = rw (z, branches-own bs n) nil
            go-small q (inr l) = rw (branches-other bs n q (omega arith)) (H.records.small q l)

            go-short : (q : ℕ) → (q ≡ n) ⊎ (q < n) → count_of t' q ≤ g.most
            go-short q (inl z) = rw z (let w = count-new in omega arith)
            go-short q (inr l) = rw (put_same t n (closed_row t sc taken) q 3 l (omega arith)) (H.records.short q l)

            go-number : (q : ℕ) → (q ≡ n) ⊎ (q < n) → is_nan (score_of sc' q) ≡ false
            go-number q (inl z) = rw (z, score-new) (H.records.number r C.known)
            go-number q (inr l) = rw (kept.score q l) (H.records.number q l)

        parent-new : (q : ℕ) → n ≤ q → q < n + 1 → parent_of t' q ≡ suc r
        unfolding t'
        parent-new q a b =
            let z : q ≡ n = omega arith in
            rw z (put-at t n (closed_row t sc taken) I.cells 0 (omega arith) ∙ add-one r)

        held : Holds f g es x index targets bs' cl t' sc' ac queue closed order marks (with_records p (n + 1)) s
        held = holds_kept f g es x index targets bs cl t sc ac queue closed order marks p s H bs' t' sc' ac (n + 1) r records (omega arith) kept C.apart parent-new

        made : (marks' : List ℕ) → Struck index marks (edges index targets t' r) marks'
            → ClosedOn f g es x index targets bs t sc ac queue order p s taken (with_closed p) t' sc' (set closed p.closed n) marks'
        unfolding t' sc' bs'
        made marks' z =
            let same : edges index targets t' r ≡ edges index targets t r = edges-kept index targets t t' sc sc' n G.table (λ a b i j. put_same t n (closed_row t sc taken) a b i (omega arith)) r C.known in
            let c = suc (length s.closed) in
            let y : Struck index marks (edges index targets t r) marks' = rw same at z in
            record {
              branches = bs';
              closings = closing_with cl n c;
              state = crossed_state (map (name_of es) (edges index targets t r)) (closed_state (closed_of (name_of es) index targets t' sc' c n) s);
              is = close-made f (name_of es) index targets A t sc n taken G.table G.rooted I C.known C.following (bs r) taken.vertex s sunk e (let q = C.on_ground.most in omega arith);
              holds =
                  holds-crossed f g es x index targets bs' (closing_with cl n c) t' sc' ac queue (set closed p.closed n) order marks (with_closed p) (closed_state (closed_of (name_of es) index targets t' sc' c n) s)
                  (holds-closed f g es x index targets bs' cl t' sc' ac queue closed order marks p s held H.closed-known C.more c) A (edges index targets t r) own marks' y;
              path =
                  ap (λ (b : List Branches). view_of f (name_of es) index targets b t' sc' r) (branches-other bs n r (let q = C.known in omega arith))
                  ∙ pushed-view index targets f.source t sc n G I f (name_of es) (bs r) (closed_row t sc taken) r C.known;
              following = following-pushed index targets f.source t sc n G I (closed_row t sc taken) taken C.known C.following;
              apart = apart-kept f g es x index targets bs cl t sc ac queue closed order marks p s H bs' t' sc' ac (n + 1) r records (omega arith) kept C.apart parent-new;
              known = let q = C.known in omega arith;
              progress = inr refl;
            }

        -- the tables as the code leaves them
        module _ (p'' : Progress) (t'' : List ℕ) (sc'' : List Float) (closed'' : List ℕ) (u : ClosedTaken g t sc closed taken p p'' t'' sc'' closed'') where
          pub taken-table : Table index targets t'' sc'' (taken.path + 1)
          unfolding t' sc'
          taken-table = rw (u.cells, u.scores) (table-front index targets t' sc' (n + 1) (r + 1) records.held.table (let q = C.known in omega arith))

          pub closed-made : (marks'' : List ℕ) → Struck index marks (edges index targets t'' taken.path) marks'' → ClosedOn f g es x index targets bs t sc ac queue order p s taken p'' t'' sc'' closed'' marks''
          unfolding t' sc'
          closed-made marks'' z =
              let y : Struck index marks (edges index targets t' r) marks'' = rw u.cells at z in
              rw (u.progress, u.cells, u.scores, u.numbers) (made marks'' y)

-- ---- what the code asks and says, by what it has read

abbrev Answer : Type 0
Answer = std.Result Progress Refusal

on-on : {a b : Progress} → ◌≡◌ {A = Answer} (Ok a) (Ok b) → a ≡ b
on-on e = cc

refused-on : {B : Type 0} {k : Refusal} {a : Progress} → ◌≡◌ {A = Answer} (Err k) (Ok a) → B
refused-on e = let z : ◌≡◌ {A = ℕ} 0 1 = cc in absurd (omega arith)

module _ (g : Setting) (x index targets t : List ℕ) (sc : List Float) (ac closed marks : List ℕ) (p : Progress) (taken : Taken) where
  pub closed-away : (taken.vertex ≡ g.sink → ⊥) → ClosedAt g x index targets t sc ac closed marks p taken (Ok p) t sc closed marks
  closed-away h = record { is = λ f vs es bs cl queue order s C. closed-elsewhere f g vs es x index targets bs cl t sc ac queue closed order marks p s taken C h }

  pub closes-marks : Closes g x index targets t sc ac closed marks p taken → length targets ≤ length marks
  closes-marks P = P.all.holds.marks-room

  module _ (at : taken.vertex ≡ g.sink) (t' : List ℕ) (sc' : List Float) (closed' : List ℕ) where
    module _ (f : SearchInput) (vs es : List ℕ) (bs : ℕ → List Branches) (cl : ℕ → ℕ) (queue order : List ℕ) (s : State Float) (C : Closing f g vs es x index targets bs cl t sc ac queue closed order marks p s taken) where
      evidence : (a : Answer) (Z : ClosingTaken g x ac t sc closed taken p a t' sc' closed') → Z.evidence ≡ has_stopping_evidence f (bs taken.path)
      evidence a Z = Z.stops.is f (bs taken.path) C.on_ground.settings.symbolic C.on_ground.settings.threshold (C.holds.records.actives taken.path C.known)

      refused-by : (b : Bool) (k : Refusal) → b ≡ has_stopping_evidence f (bs taken.path) → ClosedTakenBy g t sc closed taken p b (Err k) t' sc' closed' → closing f es index targets bs t sc taken s ≡ refused (number k)
      refused-by false k e u = refused-on u.answer
      refused-by true k e u =
          closed-over f g vs es x index targets bs cl t sc ac queue closed order marks p s taken C at (sym e) u.over ∙ ap (λ (d : ℕ). refused d) (sym u.number)

      on-by : (b : Bool) (q : Progress) → b ≡ has_stopping_evidence f (bs taken.path) → ClosedTakenBy g t sc closed taken p b (Ok q) t' sc' closed' → (marks' : List ℕ)
          → Struck index marks (edges index targets t' taken.path) marks' → ClosedOn f g es x index targets bs t sc ac queue order p s taken q t' sc' closed' marks'
      on-by false q e u marks' z =
          let y : Struck index marks (edges index targets t taken.path) marks' = rw u.cells at z in
          rw (on-on u.answer, u.cells, u.scores, u.numbers) (closed-open f g vs es x index targets bs cl t sc ac queue closed order marks p s taken C at (sym e) marks' y)
      on-by true q e u marks' z = closed-made f g vs es x index targets bs cl t sc ac queue closed order marks p s taken C at (sym e) u.fits q t' sc' closed' u marks' z

      table-by : (b : Bool) (q : Progress) → b ≡ has_stopping_evidence f (bs taken.path) → ClosedTakenBy g t sc closed taken p b (Ok q) t' sc' closed' → Table index targets t' sc' (taken.path + 1)
      table-by false q e u = rw (u.cells, u.scores) (closing-table f g vs es x index targets bs cl t sc ac queue closed order marks p s taken C)
      table-by true q e u = taken-table f g vs es x index targets bs cl t sc ac queue closed order marks p s taken C at (sym e) u.fits q t' sc' closed' u

    pub closed-refused : (k : Refusal) → ClosingTaken g x ac t sc closed taken p (Err k) t' sc' closed' → ClosedAt g x index targets t sc ac closed marks p taken (Err k) t' sc' closed' marks
    closed-refused k Z =
        record { is = λ f vs es bs cl queue order s C. refused-by f vs es bs cl queue order s C Z.evidence k (evidence f vs es bs cl queue order s C (Err k) Z) Z.by }

    module _ (q : Progress) (Z : ClosingTaken g x ac t sc closed taken p (Ok q) t' sc' closed') where
      pub closed-table : Closes g x index targets t sc ac closed marks p taken → Table index targets t' sc' (taken.path + 1)
      closed-table P =
          table-by P.input P.vertices P.edges P.branches P.closings P.queue P.order P.state P.all Z.evidence q
          (evidence P.input P.vertices P.edges P.branches P.closings P.queue P.order P.state P.all (Ok q) Z) Z.by

      pub closed_on : (marks' : List ℕ) → Struck index marks (edges index targets t' taken.path) marks' → ClosedAt g x index targets t sc ac closed marks p taken (Ok q) t' sc' closed' marks'
      closed_on marks' z =
          record { is = λ f vs es bs cl queue order s C. on-by f vs es bs cl queue order s C Z.evidence q (evidence f vs es bs cl queue order s C (Ok q) Z) Z.by marks' z }

-- ---- for callers: the step comes after a tree has joined, or has not
module _ (f : SearchInput) (g : Setting) (vs es x index targets : List ℕ) (bs : ℕ → List Branches) (cl : ℕ → ℕ) (t : List ℕ) (sc : List Float) (ac queue closed order marks : List ℕ) (p : Progress) (s : State Float)
    (taken : Taken) (H : Holds f g es x index targets bs cl t sc ac queue closed order marks p s) (known : taken.path < p.records) (apart : Apart sc queue p.waiting taken.path)
    (t' : List ℕ) (sc' : List Float) (ac' : List ℕ) (J : Joined f g es x index targets bs t sc p.records taken t' sc' ac') where
  none-new : (q : ℕ) → p.records ≤ q → q < p.records → parent_of t' q ≡ suc taken.path
  none-new q a b = absurd (omega arith)

  -- the state stays
  pub joined-holds : Holds f g es x index targets J.branches cl t' sc' ac' queue closed order marks p s
  joined-holds =
      holds_kept f g es x index targets bs cl t sc ac queue closed order marks p s H J.branches t' sc' ac' p.records taken.path J.records (omega arith) J.kept apart none-new

  pub joined-apart : Apart sc' queue p.waiting taken.path
  joined-apart =
      apart-kept f g es x index targets bs cl t sc ac queue closed order marks p s H J.branches t' sc' ac' p.records taken.path J.records (omega arith) J.kept apart none-new

  -- and so does the chain after the path
  pub joined-chain : chain_after f (path_of f es index targets J.branches t' sc' taken.path) ≡ chain_after f (path_of f es index targets bs t sc taken.path)
  joined-chain = ap (λ (c : Closed Float). defs.chain f (defs.end_from f.source c.edges)) (J.kept.closed 0 taken.path known)

  -- what this step asks
  pub joined-closing : Ground f g vs es x index targets → p.closed < length closed → HasPaths t' (p.records + 1) → p.records + 1 ≤ length sc' → (p.records + 1) * g.active ≤ length ac'
      → p.records + 1 < 2147483648 → Closing f g vs es x index targets J.branches cl t' sc' ac' queue closed order marks p s taken
  joined-closing G more a b c few =
      record {
        on_ground = G;
        holds = joined-holds;
        known = known;
        following = J.following;
        apart = joined-apart;
        more = more;
        paths = a;
        scores = b;
        actives = c;
        few = few;
      }
