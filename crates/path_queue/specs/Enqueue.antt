-- Where nothing waits, the next pivotal edge is tried: what the step says of the definition's state, and of its `recover`.
use Rattle.std.specs.Prelude.{◌≡◌, refl, ◌⊎◌, Option, Some, None, Result, Ok, Err, true, false, List, [], ◌∷◌, map, ℕ, ◌+◌, ◌-◌, ◌*◌, ◌/◌, ◌<◌, ◌≤◌, eqb, length, get_or, take, set, Float}
use Rattle.std.proofs.Common.{sym, ap, subst, ◌∙◌, inl, inr, arith, eq-eqb, ne_eqb, get_or-take, get_or-set_same, get_or-set_other, length-take-le}
use Rattle.std.proofs.Math.Decide.{ℕ_discrete}
use Rattle.std.specs.Float.{nan}
use Rattle.std.specs.Float.Ieee.{is_nan}
use Rattle.laws.specs.ListLaws.{All, nil, cons, all-mono}
use Rattle.definition.specs.Threading.{Ends}
use Rattle.definition.specs.Evidence.{Branches}
use Rattle.definition.specs.Score.{column_scoring}
use Rattle.definition.specs.Search.{SearchInput, Path, State, made, broken, recover, advance}
use Rattle.theorems.proofs.Counts.{Small}
use Rattle.assembly.specs.Fields.{edge_from}
use Rattle.path_store.specs.Cells.{HasPaths, IsPathField, path_field, count_of, joined_of, trees_of, score_of, Inside, put_cells, put-at, put_other, put-trees}
use Rattle.path_growth.specs.Grow.{recovered_row}
use Rattle.path_growth.specs.Held.{Held, held-recovered, pushed-closed}
use Rattle.path_growth.specs.View.{view_of}
use Rattle.closed_paths.specs.Best.{best_of}
use Rattle.closed_paths.specs.Recover.{all-at, recover-none, recover-lost, recover-low, recover-over, recover-made}
use Rattle.path_heap.specs.Heap.{waiting, waiting_none}
use Rattle.threading_node.specs.Take.{Wide}
use Rattle.fork_offers.specs.Actives.{Actives}
use Rattle.refusals.specs.declared.Refusal.{Refusal}
use Rattle.refusals.specs.Numbers.{number}
use Rattle.search_state.specs.Settings.{Setting}
use Rattle.search_state.specs.declared.Progress.{Progress}
use Rattle.search_state.specs.Ground.{name_of, Ground}
use Rattle.search_state.specs.State.{path_of, Records, Idle, Holds, up_from}
use Rattle.path_queue.specs.Next.{Marked, NextAt, NextIs, left_from, left-hit, front-marked, front-next}
use Rattle.path_queue.specs.Recover.{kept, one_more, Lost, Recovered}
use Rattle.path_queue.specs.Try.{TriesEdge, EdgeTried, best_for, best-at}

-- what the step is not handed: the input, the vertices, the trees, and the heap
pub record Around : Type 0 where
  pub f : SearchInput
  pub vs : List ℕ
  pub x : List ℕ
  pub bs : ℕ → List Branches
  pub closing : ℕ → ℕ
  pub ac : List ℕ
  pub queue : List ℕ

-- nothing waits
pub record Resting (A : Around) (es index targets t : List ℕ) (sc : List Float) (closed order marks : List ℕ) (g : Setting) (p : Progress) (s : State Float) : Type 0 where
  pub on_ground : Ground A.f g A.vs es A.x index targets
  pub holds : Holds A.f g es A.x index targets A.bs A.closing t sc A.ac A.queue closed order marks p s
  pub none : p.waiting ≡ 0
  pub actives : (p.records + 1) * g.active ≤ length A.ac

pub record TriesNext (es index targets t : List ℕ) (sc : List Float) (closed order marks walks : List ℕ) (g : Setting) (p : Progress) : Type 0 where
  pub around : Around
  pub state : State Float
  pub resting : Resting around es index targets t sc closed order marks g p state
  pub paths : HasPaths t (p.records + 1)
  pub scores : p.records + 1 ≤ length sc
  pub fits : p.records + 1 < 4294967296
  pub walk-room : g.most ≤ length walks

-- the state without its first pivotal edge, where nothing waits
abbrev pub with_pivotal : State Float → List Ends → State Float
with_pivotal s rest = record { waiting = []; closed = s.closed; pivotal = rest; pushes = s.pushes; longest = s.longest }

-- the edge is the next pivotal one
pub record NextEdge (es : List ℕ) (s : State Float) : Type 0 where
  pub edge : ℕ
  pub rest : List Ends
  pub is : s.pivotal ≡ name_of es edge ∷ rest

pub record Broken (A : Around) (es : List ℕ) (s : State Float) (column : List Float) (k : ℕ) : Type 0 where
  pub next : NextEdge es s
  pub gives : recover (column_scoring column) A.f (name_of es next.edge) (with_pivotal s next.rest) ≡ broken k

pub record Remade (A : Around) (es index targets : List ℕ) (closed order marks : List ℕ) (g : Setting) (p : Progress) (s : State Float) (column : List Float) (t' : List ℕ) (sc' : List Float)
    (p' : Progress) : Type 0 where
  pub next : NextEdge es s
  pub bs : ℕ → List Branches
  pub gives : recover (column_scoring column) A.f (name_of es next.edge) (with_pivotal s next.rest)
      ≡ made (with_pivotal s next.rest) (map (path_of A.f es index targets bs t' sc') (up_from p.records (p'.records - p.records)))
  pub holds : Holds A.f g es A.x index targets bs A.closing t' sc' A.ac A.queue closed order marks p' (with_pivotal s next.rest)
  pub new : (q : ℕ) → p.records ≤ q → q < p'.records → Idle t' p'.records q

-- only the place of the next pivotal edge, which rises, and the number of records change
pub record Moved (p p' : Progress) : Type 0 where
  pub next : p.next < p'.next
  pub low : p.records ≤ p'.records
  pub high : p'.records ≤ p.records + 1
  pub waiting : p'.waiting ≡ p.waiting
  pub closed : p'.closed ≡ p.closed
  pub pivotal : p'.pivotal ≡ p.pivotal
  pub pushes : p'.pushes ≡ p.pushes
  pub mark : p'.mark ≡ p.mark

abbrev pub Tried : List ℕ → List ℕ → List ℕ → List ℕ → List Float → List ℕ → List ℕ → List ℕ → Setting → Progress → List ℕ → List Float → Result (Option Progress) Refusal → Type 0
Tried es index targets t sc closed order marks g p t' sc' (Ok None) =
    (t' ≡ t) × (sc' ≡ sc) × ((A : Around) (s : State Float) → Resting A es index targets t sc closed order marks g p s → s.pivotal ≡ [])
Tried es index targets t sc closed order marks g p t' sc' (Err r) =
    (A : Around) (s : State Float) (column : List Float) → Resting A es index targets t sc closed order marks g p s → Broken A es s column (number r)
Tried es index targets t sc closed order marks g p t' sc' (Ok (Some p')) =
    Moved p p'
    × ((A : Around) (s : State Float) (column : List Float) → Resting A es index targets t sc closed order marks g p s → Remade A es index targets closed order marks g p s column t' sc' p')

-- ---- small laws

map_same : {A B : Type 0} {h k : A → B} {xs : List A} → All (λ x. h x ≡ k x) xs → map h xs ≡ map k xs
map_same nil = refl
map_same {h = h} {k = k} (cons {x = x} {xs = xs} e a) = rw (e, map_same {h = h} {k = k} a)

low-or-last : (r n : ℕ) → r < n + 1 → (r < n) ⊎ (r ≡ n)
low-or-last r n h = go (ℕ_discrete r n)
  where
    go : Dec (r ≡ n) → (r < n) ⊎ (r ≡ n)
    go (yes e) = inr e
    go (no d) = inl (omega arith)

actives-none : (cap n : ℕ) (x a : List ℕ) (i end : ℕ) (bs : List Branches) → bs ≡ [] → end ≡ i → i ≤ length a → n ≤ cap → Wide cap x → Actives cap n x a i end bs
actives-none cap n x a i end bs e h l r w = rw (e, h) (record { stand = refl; inside = l; room = r; wide = w })

actives-same : (cap n : ℕ) (x a : List ℕ) (i end end' : ℕ) (bs bs' : List Branches) → end' ≡ end → bs' ≡ bs → Actives cap n x a i end bs → Actives cap n x a i end' bs'
actives-same cap n x a i end end' bs bs' e h A = rw (e, h) A

-- the active trees with those of a new record, which has none
with_none : (ℕ → List Branches) → ℕ → ℕ → List Branches
with_none bs n r = elim (eqb r n) [ true ↦ [] | false ↦ bs r ]

with-new : (bs : ℕ → List Branches) (n r : ℕ) → r ≡ n → with_none bs n r ≡ []
unfolding with_none
with-new bs n r e = rw (eq-eqb r n e, with_none)

with-old : (bs : ℕ → List Branches) (n r : ℕ) → r < n → with_none bs n r ≡ bs r
unfolding with_none
with-old bs n r h = rw (ne_eqb r n (omega arith), with_none)

-- ---- a new record, where nothing waits

module _ {A : Around} {es index targets t : List ℕ} {sc : List Float} {closed order marks : List ℕ} {g : Setting} {p : Progress} {s : State Float}
    (R : Resting A es index targets t sc closed order marks g p s) where
  none-waiting : (sd : List Float) → waiting sd A.queue p.waiting ≡ []
  none-waiting sd = ap (λ n. waiting sd A.queue n) R.none ∙ waiting_none sd A.queue

  module _ (I : Inside t sc p.records) (b k e : ℕ) (l : b < p.records) (pos : 0 < k) (low : k ≤ count_of t b) (h : e < length targets) (m : k + 1 ≤ g.most) where
    new-cells : List ℕ
    new-cells = put_cells t p.records (recovered_row index t sc targets b k e)

    new-scores : List Float
    new-scores = set sc p.records (score_of sc b)

    new-held : Held index targets A.f.source new-cells new-scores (p.records + 1)
    unfolding new-cells new-scores
    new-held = held-recovered index targets A.f.source t sc p.records R.holds.records.held I b k e l pos low h

    old-cell : (r j : ℕ) → r < p.records → IsPathField j → path_field new-cells r j ≡ path_field t r j
    unfolding new-cells
    old-cell r j a c = put_other t p.records (recovered_row index t sc targets b k e) r j (omega arith) c

    old-score : (r : ℕ) → r < p.records → score_of new-scores r ≡ score_of sc r
    unfolding new-scores
    old-score r a = get_or-set_other sc p.records r (score_of sc b) nan (omega arith)

    new-score : score_of new-scores p.records ≡ score_of sc b
    unfolding new-scores
    new-score = get_or-set_same sc p.records (score_of sc b) nan I.score

    new-trees : trees_of new-cells p.records ≡ 0
    unfolding new-cells
    new-trees = put-trees t p.records (recovered_row index t sc targets b k e) I.cells

    new-count : count_of new-cells p.records ≡ k + 1
    unfolding new-cells
    new-count = put-at t p.records (recovered_row index t sc targets b k e) I.cells 3 (omega arith)

    new-joined : joined_of new-cells p.records ≡ 0
    unfolding new-cells
    new-joined = put-at t p.records (recovered_row index t sc targets b k e) I.cells 7 (omega arith)

    row_room : p.records * g.active ≤ length A.ac
    row_room = let q : p.records * g.active ≤ (p.records + 1) * g.active = omega arith in omega (arith, R.actives)

    new-records : Records A.f g es A.x index targets (with_none A.bs p.records) new-cells new-scores A.ac (p.records + 1)
    new-records =
        let O = R.holds.records in
        record {
          held = new-held;
          actives = λ r a. go r (low-or-last r p.records a);
          trees = λ r a. few r (low-or-last r p.records a);
          small = λ r a. all r (low-or-last r p.records a);
          short = λ r a. count r (low-or-last r p.records a);
          number = λ r a. num r (low-or-last r p.records a);
        }
      where
        go : (r : ℕ) → (r < p.records) ⊎ (r ≡ p.records)
            → Actives g.cap g.nodes A.x A.ac (r * g.active) (r * g.active + trees_of new-cells r) (with_none A.bs p.records r)
        go r (inl a) =
            actives-same g.cap g.nodes A.x A.ac (r * g.active) (r * g.active + trees_of t r) (r * g.active + trees_of new-cells r) (A.bs r) (with_none A.bs p.records r)
            (ap (λ y. r * g.active + y / 2) (old-cell r 8 a (omega arith))) (with-old A.bs p.records r a) (R.holds.records.actives r a)
        go r (inr e) =
            rw e
            (actives-none g.cap g.nodes A.x A.ac (p.records * g.active) (p.records * g.active + trees_of new-cells p.records) (with_none A.bs p.records p.records)
            (with-new A.bs p.records p.records refl) (omega (arith, new-trees)) row_room R.on_ground.nodes R.on_ground.wide)

        few : (r : ℕ) → (r < p.records) ⊎ (r ≡ p.records) → trees_of new-cells r ≤ g.active
        few r (inl a) = omega (arith, ap (λ y. y / 2) (old-cell r 8 a (omega arith)), R.holds.records.trees r a)
        few r (inr e) = rw e (omega (arith, new-trees))

        all : (r : ℕ) → (r < p.records) ⊎ (r ≡ p.records) → All (Small 65535) (with_none A.bs p.records r)
        all r (inl a) = subst (λ y. All (Small 65535) y) (sym (with-old A.bs p.records r a)) (R.holds.records.small r a)
        all r (inr e) = subst (λ y. All (Small 65535) y) (sym (with-new A.bs p.records r e)) nil

        count : (r : ℕ) → (r < p.records) ⊎ (r ≡ p.records) → count_of new-cells r ≤ g.most
        count r (inl a) = omega (arith, old-cell r 3 a (omega arith), R.holds.records.short r a)
        count r (inr e) = rw e (omega (arith, new-count))

        num : (r : ℕ) → (r < p.records) ⊎ (r ≡ p.records) → is_nan (score_of new-scores r) ≡ false
        num r (inl a) = ap (λ y. is_nan y) (old-score r a) ∙ R.holds.records.number r a
        num r (inr e) = ap (λ y. is_nan (score_of new-scores y)) e ∙ ap (λ y. is_nan y) new-score ∙ R.holds.records.number b l

    new-idle : Idle (put_cells t p.records (recovered_row index t sc targets b k e)) (p.records + 1) p.records
    unfolding new-cells
    new-idle =
        record {
          known = omega arith;
          unjoined = new-joined;
          childless = λ q a z. omega (arith, (new-held.table.rows q a).rises);
        }

    new-holds : Holds A.f g es A.x index targets (with_none A.bs p.records) A.closing (put_cells t p.records (recovered_row index t sc targets b k e)) (set sc p.records (score_of sc b)) A.ac A.queue closed order marks (one_more p) s
    unfolding new-cells new-scores
    new-holds =
        let H = R.holds in
        record {
          records = new-records;
          heap = record { room = H.heap.room; known = λ i a. absurd (omega (arith, R.none)); order = λ j a c. absurd (omega (arith, R.none)) };
          idle = λ i a. absurd (omega (arith, R.none));
          once = rw (none-waiting new-scores) tt;
          waiting = H.waiting ∙ ap (λ q. map (path_of A.f es index targets A.bs t sc) q) (none-waiting sc) ∙ sym (ap (λ q. map (path_of A.f es index targets (with_none A.bs p.records) new-cells new-scores) q) (none-waiting new-scores));
          closed-known = all-mono (λ r a. omega arith) H.closed-known;
          closed_is =
              H.closed_is
              ∙ map_same
              (all-mono (λ r a. sym (pushed-closed index targets A.f.source t sc p.records H.records.held I A.f (name_of es) (recovered_row index t sc targets b k e) (A.closing r) r a)) H.closed-known);
          closed-room = H.closed-room;
          pivotal = H.pivotal;
          pivotal-once = H.pivotal-once;
          pivotal-known = H.pivotal-known;
          pivotal-forks = H.pivotal-forks;
          order-room = H.order-room;
          marks-room = H.marks-room;
          next_low = H.next_low;
          pushes = H.pushes;
          longest = H.longest;
          mark-fits = H.mark-fits;
          waiting-fits = H.waiting-fits;
          pushes-fit = H.pushes-fit;
        }

  -- ---- `recover`, by what the edge came to
  module _ (column : List Float) (e : ℕ) where
    best-source : best_for es index targets t sc closed p e ≡ best_of index targets A.f.source t sc (name_of es e).from (take p.closed closed)
    best-source = rw R.on_ground.source

    gives_none : best_for es index targets t sc closed p e ≡ None → recover (column_scoring column) A.f (name_of es e) s ≡ made s []
    gives_none z =
        recover-none A.f (name_of es) index targets R.on_ground.agrees column A.closing t sc p.records R.holds.records.held.table e (take p.closed closed) s R.holds.closed_is
        (best_for es index targets t sc closed p e) best-source z

    module _ (b : ℕ) (B : Some b ≡ best_for es index targets t sc closed p e) (l : b < p.records) where
      gives-lost : kept index targets t b (edge_from es e) ≡ 0 → recover (column_scoring column) A.f (name_of es e) s ≡ made s []
      gives-lost z =
          recover-lost A.f (name_of es) index targets R.on_ground.agrees column A.closing t sc p.records R.holds.records.held.table e (take p.closed closed) s R.holds.closed_is
          b (B ∙ best-source) l z

      module _ (pos : 0 < kept index targets t b (edge_from es e)) where
        keeps_low : kept index targets t b (edge_from es e) ≤ count_of t b
        keeps_low =
            recover-low A.f (name_of es) index targets R.on_ground.agrees column A.closing t sc p.records R.holds.records.held.table e (take p.closed closed) s R.holds.closed_is
            b (B ∙ best-source) l (kept index targets t b (edge_from es e)) refl pos

        module _ (I : Inside t sc p.records) (h : e < length targets) where
          gives-over : g.most < kept index targets t b (edge_from es e) + 1 → recover (column_scoring column) A.f (name_of es e) s ≡ broken 11
          gives-over o =
              recover-over A.f (name_of es) index targets R.on_ground.agrees column A.closing t sc p.records R.holds.records.held.table e (take p.closed closed) s R.holds.closed_is
              b (B ∙ best-source) l (kept index targets t b (edge_from es e)) refl pos I h (omega (arith, R.on_ground.most))

          gives_made : kept index targets t b (edge_from es e) + 1 ≤ g.most
              → recover (column_scoring column) A.f (name_of es e) s
              ≡ made s
              (view_of A.f (name_of es) index targets [] (put_cells t p.records (recovered_row index t sc targets b (kept index targets t b (edge_from es e)) e)) (set sc p.records (score_of sc b)) p.records ∷ [])
          gives_made o =
              recover-made A.f (name_of es) index targets R.on_ground.agrees column A.closing t sc p.records R.holds.records.held.table e (take p.closed closed) s R.holds.closed_is
              b (B ∙ best-source) l (kept index targets t b (edge_from es e)) refl pos I h (omega (arith, R.on_ground.most))

-- ---- the next pivotal edge

abbrev pub next_at : Progress → ℕ → Progress
next_at p place =
    record { records = p.records; waiting = p.waiting; closed = p.closed; next = place + 1; pivotal = p.pivotal; pushes = p.pushes; mark = p.mark }

abbrev rest_from : List ℕ → List ℕ → List ℕ → Progress → ℕ → List Ends
rest_from es order marks p place = map (name_of es) (left_from order marks p.pivotal (place + 1))

module _ {A : Around} {es index targets t : List ℕ} {sc : List Float} {closed order marks : List ℕ} {g : Setting} {p : Progress} {s : State Float}
    (R : Resting A es index targets t sc closed order marks g p s) where
  marked : Marked order marks p.pivotal
  marked =
      record { room = R.holds.order-room; known = all-mono (λ d h. omega (arith, R.holds.marks-room)) R.holds.pivotal-known }

  edge-known : (i : ℕ) → i < p.pivotal → get_or order i 0 < length targets
  edge-known i h =
      let q = get_or-take p.pivotal order i 0 h in
      let k =
      all-at (λ d. d < length targets) (take p.pivotal order) R.holds.pivotal-known i (omega (arith, length-take-le p.pivotal order R.holds.order-room))
      in
      omega arith

  module _ {place : ℕ} (N : NextAt order marks p.pivotal p.next place) where
    next_edge : NextEdge es s
    next_edge =
        record {
          edge = get_or order place 0;
          rest = rest_from es order marks p place;
          is = R.holds.pivotal ∙ ap (λ l. map (name_of es) l) (N.same ∙ left-hit marked place N.high N.live);
        }

    next-resting : Resting A es index targets t sc closed order marks g (next_at p place) (with_pivotal s (rest_from es order marks p place))
    next-resting =
        let H = R.holds in
        record {
          on_ground = R.on_ground;
          holds =
              record {
                records = H.records;
                heap = H.heap;
                idle = H.idle;
                once = H.once;
                waiting = sym (ap (λ q. map (path_of A.f es index targets A.bs t sc) q) (none-waiting R sc));
                closed-known = H.closed-known;
                closed_is = H.closed_is;
                closed-room = H.closed-room;
                pivotal = refl;
                pivotal-once = H.pivotal-once;
                pivotal-known = H.pivotal-known;
                pivotal-forks = H.pivotal-forks;
                order-room = H.order-room;
                marks-room = H.marks-room;
                next_low = omega (arith, N.high);
                pushes = H.pushes;
                longest = H.longest;
                mark-fits = H.mark-fits;
                waiting-fits = H.waiting-fits;
                pushes-fit = H.pushes-fit;
              };
          none = R.none;
          actives = R.actives;
        }

-- ---- the step

none_from : {B : Type 0} (h : ℕ → B) (n : ℕ) → map h (up_from n (n - n)) ≡ []
unfolding up_from
none_from h n = let z : n - n ≡ 0 = omega arith in rw z

one_from : {B : Type 0} (h : ℕ → B) (n : ℕ) → map h (up_from n (n + 1 - n)) ≡ h n ∷ []
unfolding up_from
one_from h n = let z : n + 1 - n ≡ 1 = omega arith in rw z

module _ {es index targets t : List ℕ} {sc : List Float} {closed order marks walks : List ℕ} {g : Setting} {p : Progress} (T : TriesNext es index targets t sc closed order marks walks g p) where
  pub step-marked : Marked (take p.pivotal order) marks (length (take p.pivotal order)) × (p.next ≤ length (take p.pivotal order))
  step-marked = (front-marked (marked T.resting), omega (arith, T.resting.holds.next_low, length-take-le p.pivotal order T.resting.holds.order-room))

  pub step-next : (r : Option ℕ) → NextIs (take p.pivotal order) marks (length (take p.pivotal order)) p.next r → NextIs order marks p.pivotal p.next r
  step-next r N = front-next (marked T.resting) p.next r N

  inside : Inside t sc p.records
  inside = record { cells = omega (arith, T.paths); score = omega (arith, T.scores) }

  module _ {place : ℕ} (N : NextAt order marks p.pivotal p.next place) where
    pub step-tries : TriesEdge es index targets t sc closed walks g (next_at p place) (get_or order place 0)
    step-tries =
        let G = T.resting.on_ground in
        let H = T.resting.holds in
        record {
          f = T.around.f;
          agrees = G.agrees;
          source = G.source;
          table = H.records.held.table;
          closed-known = H.closed-known;
          closed-room = H.closed-room;
          numbers = H.records.number;
          short = H.records.short;
          walk-room = T.walk-room;
          most-fits = G.most-fits;
          room = inside;
          fits = T.fits;
          edge = edge-known T.resting place N.high;
          row = omega (arith, edge-known T.resting place N.high, G.size, G.linked.room);
        }

    -- the edge
    abbrev e : ℕ
    e = get_or order place 0

    -- nothing was made
    lost : (A : Around) (s : State Float) (column : List Float) → Resting A es index targets t sc closed order marks g p s → (t' : List ℕ) (sc' : List Float) (p' : Progress)
        → Lost t sc (next_at p place) t' sc' p'
        → recover (column_scoring column) A.f (name_of es e) (with_pivotal s (rest_from es order marks p place)) ≡ made (with_pivotal s (rest_from es order marks p place)) []
        → Remade A es index targets closed order marks g p s column t' sc' p'
    unfolding next_edge
    lost A s column R t' sc' p' L q =
        rw (L.progress, L.cells, L.scores)
        (record {
          next = next_edge R N;
          bs = A.bs;
          gives = q ∙ ap (λ (l : List (Path Float)). made (with_pivotal s (rest_from es order marks p place)) l) (sym (none_from (path_of A.f es index targets A.bs t sc) p.records));
          holds = (next-resting R N).holds;
          new = λ d a c. absurd (omega arith);
        })

    lost-moved : (t' : List ℕ) (sc' : List Float) (p' : Progress) → Lost t sc (next_at p place) t' sc' p' → Moved p p'
    lost-moved t' sc' p' L =
        rw L.progress
        (record { next = omega (arith, N.low); low = omega arith; high = omega arith; waiting = refl; closed = refl; pivotal = refl; pushes = refl; mark = refl })

    -- the best closed path through its vertex, and how many edges of it are kept
    module _ {best : ℕ} (B : best_for es index targets t sc closed (next_at p place) (get_or order place 0) ≡ Some best) where
      abbrev keeps : ℕ
      keeps = kept index targets t best (edge_from es (get_or order place 0))

      best-low : best < p.records
      best-low = best-at step-tries best B

      -- a path was made
      more : (A : Around) (s : State Float) (column : List Float) → Resting A es index targets t sc closed order marks g p s → (t' : List ℕ) (sc' : List Float) (p' : Progress)
          → Recovered index targets t sc g (next_at p place) best keeps e t' sc' p' → Remade A es index targets closed order marks g p s column t' sc' p'
      unfolding next_edge
      more A s column R t' sc' p' L =
          let S = next-resting R N in
          let E = edge-known R place N.high in
          let low = keeps_low S column e best (sym B) best-low L.some in
          let view = path_of A.f es index targets (with_none A.bs p.records) (put_cells t p.records (recovered_row index t sc targets best keeps e)) (set sc p.records (score_of sc best)) in
          let one : view_of A.f (name_of es) index targets [] (put_cells t p.records (recovered_row index t sc targets best keeps e)) (set sc p.records (score_of sc best)) p.records ≡ view p.records =
          ap (λ (y : List Branches). view_of A.f (name_of es) index targets y (put_cells t p.records (recovered_row index t sc targets best keeps e)) (set sc p.records (score_of sc best)) p.records)
          (sym (with-new A.bs p.records p.records refl))
          in
          rw (L.progress, L.cells, L.scores)
          (record {
            next = next_edge R N;
            bs = with_none A.bs p.records;
            gives =
                gives_made S column e best (sym B) best-low L.some inside E L.short
                ∙ ap (λ (y : Path Float). made (with_pivotal s (rest_from es order marks p place)) (y ∷ [])) one
                ∙ ap (λ (y : List (Path Float)). made (with_pivotal s (rest_from es order marks p place)) y) (sym (one_from view p.records));
            holds = new-holds S inside best keeps e best-low L.some low E L.short;
            new = λ d a c. (let z : d ≡ p.records = omega arith in rw z (new-idle S inside best keeps e best-low L.some low E L.short));
          })

      more-moved : (t' : List ℕ) (sc' : List Float) (p' : Progress) → Recovered index targets t sc g (next_at p place) best keeps e t' sc' p' → Moved p p'
      more-moved t' sc' p' L =
          rw L.progress
          (record { next = omega (arith, N.low); low = omega arith; high = omega arith; waiting = refl; closed = refl; pivotal = refl; pushes = refl; mark = refl })

    made-number : {a c : Progress} → ◌≡◌ {A = Result Progress Refusal} (Ok a) (Ok c) → a ≡ c
    made-number q = cc

    -- by the answer of the edge that was tried
    pub step-refused : (t' : List ℕ) (sc' : List Float) (r : Refusal) → EdgeTried es index targets t sc closed g (next_at p place) (get_or order place 0) t' sc' (Err r)
        → Tried es index targets t sc closed order marks g p t' sc' (Err r)
    unfolding next_edge
    step-refused t' sc' r (inl q) = let u = q.1 in let z : ◌≡◌ {A = ℕ} 0 1 = cc in absurd (omega arith)
    step-refused t' sc' r (inr q) =
        λ A s column R.
        record {
          next = next_edge R N;
          gives =
              gives-over (next-resting R N) column e q.path (sym q.best) (best-low q.best) q.left.some inside (edge-known R place N.high) q.left.over
              ∙ ap broken (sym q.left.number);
        }

    pub step-made : (t' : List ℕ) (sc' : List Float) (p' : Progress) → EdgeTried es index targets t sc closed g (next_at p place) (get_or order place 0) t' sc' (Ok p')
        → Tried es index targets t sc closed order marks g p t' sc' (Ok (Some p'))
    step-made t' sc' p' (inl q) =
        let L : Lost t sc (next_at p place) t' sc' p' = record { progress = made-number q.1; cells = q.2.cells; scores = q.2.scores } in
        (lost-moved t' sc' p' L, λ A s column R. lost A s column R t' sc' p' L (gives_none (next-resting R N) column e q.0))
    step-made t' sc' p' (inr q) = go q.left
      where
        go : ((kept index targets t q.path (edge_from es e) ≡ 0) × Lost t sc (next_at p place) t' sc' p') ⊎ Recovered index targets t sc g (next_at p place) q.path (kept index targets t q.path (edge_from es e)) e t' sc' p'
            → Tried es index targets t sc closed order marks g p t' sc' (Ok (Some p'))
        go (inl L) = (
          lost-moved t' sc' p' L.1,
          λ A s column R.
              lost A s column R t' sc' p' L.1 (gives-lost (next-resting R N) column e q.path (sym q.best) (best-low q.best) L.0),
        )
        go (inr L) = (more-moved q.best t' sc' p' L, λ A s column R. more q.best A s column R t' sc' p' L)

-- ---- the definition's `advance`, by the answer

module _ {A : Around} {es index targets t : List ℕ} {sc : List Float} {closed order marks : List ℕ} {g : Setting} {p : Progress} {s : State Float}
    (R : Resting A es index targets t sc closed order marks g p s) where
  pub nothing-waits : s.waiting ≡ []
  nothing-waits = R.holds.waiting ∙ ap (λ q. map (path_of A.f es index targets A.bs t sc) q) (none-waiting R sc)

  module _ (column : List Float) where
    advance-next : (n : NextEdge es s)
        → advance (column_scoring column) A.f s s.waiting s.pivotal ≡ recover (column_scoring column) A.f (name_of es n.edge) (with_pivotal s n.rest)
    unfolding advance
    advance-next n =
        ap (λ (w : List (Path Float)). advance (column_scoring column) A.f s w s.pivotal) nothing-waits
        ∙ ap (λ (l : List Ends). advance (column_scoring column) A.f s [] l) n.is

    pub advance-made : (t' : List ℕ) (sc' : List Float) (p' : Progress) (M : Remade A es index targets closed order marks g p s column t' sc' p')
        → advance (column_scoring column) A.f s s.waiting s.pivotal
        ≡ made (with_pivotal s M.next.rest) (map (path_of A.f es index targets M.bs t' sc') (up_from p.records (p'.records - p.records)))
    advance-made t' sc' p' M = advance-next M.next ∙ M.gives
