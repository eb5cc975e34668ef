-- One extension of the taken path (Rust: extend_with_edges).
use Rattle.std.specs.Prelude as Prelude
use Rattle.std.specs.Prelude.{Ok, Err, ◌≡◌, refl, ◌≢◌, Bool, true, false, not, ◌||◌, cond, List, [], ◌∷◌, map, ℕ, suc, ◌+◌, ◌-◌, ◌*◌, ◌/◌, ◌<◌, ◌≤◌, eqb, length, set, Float}
use Rattle.std.proofs.Common.{sym, ◌∙◌, inr, add-one, arith, eq-eqb, ne_eqb, get_or-set_same, get_or-set_other}
use Rattle.std.proofs.Math.Path.{ap}
use Rattle.std.proofs.Math.Decide.{ℕ_discrete}
use Rattle.std.specs.Float.{nan}
use Rattle.std.specs.Float.Ieee.{is_nan}
use Rattle.laws.specs.Lists.{is_empty}
use Rattle.laws.specs.ListLaws.{All}
use Rattle.laws.specs.Records.{row_step}
use Rattle.definition.specs.Refusal.{Result, ok, refused, and_then}
use Rattle.definition.specs.Threading.{Ends}
use Rattle.definition.specs.Evidence.{Branches}
use Rattle.definition.specs.Search.{SearchInput, Path, walk_trees, lengthen}
use Rattle.definition.specs.Search as defs
use Rattle.theorems.proofs.Counts.{Small, small-walk}
use Rattle.refusals.specs.declared.Refusal.{Refusal}
use Rattle.refusals.specs.Numbers.{number}
use Rattle.threading_node.specs.declared.Edge.{Edge}
use Rattle.threading_node.specs.Ends.{ends_of}
use Rattle.fork_offers.specs.Actives.{Actives, actives-kept, actives-many}
use Rattle.fork_offers.specs.Walks.{Walkable, Walked}
use Rattle.path_growth.specs.declared.Taken.{Taken}
use Rattle.path_growth.specs.declared.Extension.{Extension}
use Rattle.path_store.specs.declared.records.PathRecord.{PathRecord}
use Rattle.path_store.specs.Cells.{HasPaths, count_of, since_of, trees_of, score_of, Inside, path_at, put_cells, put-at, put-trees}
use Rattle.path_edges.specs.Path.{Same}
use Rattle.path_growth.specs.Push.{put_same}
use Rattle.path_growth.specs.Grow.{extended_row, Grown}
use Rattle.path_growth.specs.Held.{Put, grown-made, grown-refused, held-extended}
use Rattle.path_growth.specs.View.{view_of, extended-made, extended-full}
use Rattle.search_state.specs.Settings.{Setting}
use Rattle.search_state.specs.Ground.{name_of}
use Rattle.search_state.specs.State.{path_of, Records, up_from}
use Rattle.path_extensions.specs.declared.Way.{Way}
use Rattle.path_extensions.specs.Made.{Here, MadeTo, kept_of, up_one}

-- ---- answers

-- what the definition makes has been made: at most `few` records
pub record Run (f : SearchInput) (g : Setting) (es x index targets : List ℕ) (bs : ℕ → List Branches) (t : List ℕ) (sc : List Float) (n path : ℕ) (t' : List ℕ) (sc' : List Float) (ac' : List ℕ)
    (few : ℕ) (want : Result (List (Path Float))) (n' : ℕ) : Type 0 where
  pub paths : List (Path Float)
  pub is : want ≡ ok paths
  pub made : MadeTo f g es x index targets bs t sc n path t' sc' ac' n' paths
  pub most : n' ≤ n + few

-- the paths that the definition wants are the new records, in their order
pub run_is : {f : SearchInput} {g : Setting} {es x index targets : List ℕ} {bs : ℕ → List Branches} {t : List ℕ} {sc : List Float} {n path : ℕ} {t' : List ℕ} {sc' : List Float} {ac' : List ℕ}
    {few : ℕ} {want : Result (List (Path Float))} {n' : ℕ} (R : Run f g es x index targets bs t sc n path t' sc' ac' few want n')
    → want ≡ ok (map (path_of f es index targets R.made.bs' t' sc') (up_from n (n' - n)))
run_is R = R.is ∙ ap ok R.made.is

-- the number of the next free record once the extensions are made, or a refusal
abbrev pub Extended : Type 0
Extended = Prelude.Result ℕ Refusal

-- by the answer: the records, or the definition's refusal
abbrev pub Answers : (ℕ → Type 0) → (ℕ → Type 0) → Extended → Type 0
Answers P Q (Ok m) = P m
Answers P Q (Err e) = Q (number e)

-- what the definition wants, of the search's input and the taken path
abbrev pub Wanted : Type 0
Wanted = SearchInput → Path Float → Result (List (Path Float))

-- the chain after a path
abbrev pub chain_of : SearchInput → Path Float → List Ends
chain_of f p = defs.chain f (defs.end_from f.source p.edges)

pub record Gives (g : Setting) (es x index targets t : List ℕ) (sc : List Float) (ac : List ℕ) (n : ℕ) (taken : Taken) (few : ℕ) (want : Wanted) (r : Extended) (t' : List ℕ) (sc' : List Float)
    (ac' : List ℕ) : Type 0 where
  pub is : (f : SearchInput) (bs : ℕ → List Branches) → Here g es x index targets t sc ac n taken f bs
      → Answers (Run f g es x index targets bs t sc n taken.path t' sc' ac' few (want f (path_of f es index targets bs t sc taken.path))) (λ k. want f (path_of f es index targets bs t sc taken.path) ≡ refused k) r

-- ---- what one extension asks

-- there is room for the record n
pub record Place (g : Setting) (t : List ℕ) (sc : List Float) (ac : List ℕ) (n : ℕ) : Type 0 where
  pub paths : HasPaths t (n + 1)
  pub scores : n + 1 ≤ length sc
  pub actives : (n + 1) * g.active ≤ length ac
  pub number : n + 1 < 2147483648

pub record Stands (g : Setting) (es x index targets t : List ℕ) (sc : List Float) (ac : List ℕ) (n : ℕ) (taken : Taken) : Type 0 where
  pub input : SearchInput
  pub trees : ℕ → List Branches
  pub here : Here g es x index targets t sc ac n taken input trees
  -- a taken path has few decisions since guidance
  pub guided : since_of t taken.path ≤ 5

pub record Lengthens (g : Setting) (es x index targets t : List ℕ) (sc : List Float) (ac : List ℕ) (n : ℕ) (taken : Taken) (w : Way) : Type 0 where
  pub stands : Stands g es x index targets t sc ac n taken
  pub place : Place g t sc ac n
  pub edge : w.edge < g.edges
  pub score : is_nan w.score ≡ false

-- what the definition wants of one extension
abbrev pub lengthened : List ℕ → Way → Wanted
lengthened es w f p = and_then (lengthen f p (chain_of f p) (name_of es w.edge) w.score w.guided w.free) (λ q. ok (q ∷ []))

-- the decisions since guidance, by the number of trees that are left
abbrev pub decisions : ℕ → Bool → Bool → ℕ → ℕ
decisions trees guided free since = cond (not (eqb trees 0) || guided) 0 (cond free since (suc since))

-- ---- one more list of trees
put_trees : (ℕ → List Branches) → ℕ → List Branches → ℕ → List Branches
put_trees bs n b q = cond (eqb q n) b (bs q)

put-here : (bs : ℕ → List Branches) (n : ℕ) (b : List Branches) (q : ℕ) → q ≡ n → put_trees bs n b q ≡ b
unfolding put_trees
put-here bs n b q h = rw (eq-eqb q n h)

put-there : (bs : ℕ → List Branches) (n : ℕ) (b : List Branches) (q : ℕ) → q ≢ n → put_trees bs n b q ≡ bs q
unfolding put_trees
put-there bs n b q h = rw (ne_eqb q n h)

pub empty-is : {A : Type 0} (l : List A) (k : ℕ) → length l ≡ k → is_empty l ≡ eqb k 0
empty-is [] k h = sym (eq-eqb k 0 (sym h))
empty-is (a ∷ l) k h = sym (ne_eqb k 0 (λ z. omega arith))

-- ---- the record
module _ (g : Setting) (es x index targets t : List ℕ) (sc : List Float) (ac : List ℕ) (n : ℕ) (taken : Taken) (P : Place g t sc ac n) where
  pub place_inside : Inside t sc n
  place_inside = record { cells = omega (arith, P.paths); score = omega (arith, P.scores) }

  module _ (f : SearchInput) (bs : ℕ → List Branches) (H : Here g es x index targets t sc ac n taken f bs) where
    abbrev at : ℕ
    at = taken.path * g.active

    abbrev end : ℕ
    end = taken.path * g.active + trees_of t taken.path

    abbrev slot : ℕ
    slot = n * g.active

    -- the places of a record lie before those of a later one
    before : (q : ℕ) → q < n → q * g.active + trees_of t q ≤ n * g.active
    before q l = let a = row_step g.active q n l in let b = H.records.trees q l in omega arith

    stood : Actives g.cap g.nodes x ac at end (bs taken.path)
    stood = H.records.actives taken.path H.known

    asks : Walkable g.cap g.nodes x ac at end slot
    asks =
        let a = row_step g.active n (n + 1) (omega arith) in
        let b = P.actives in
        let d = H.records.trees taken.path H.known in
        record {
          active = record { branches = bs taken.path; stands = stood };
          apart = inr (before taken.path H.known);
          room = omega arith;
          few = omega (arith, H.on_ground.cap-fits);
        }

    module _ (k : ℕ) (ek : k ≡ trees_of t taken.path) where
      pub walk-asks : Walkable g.cap g.nodes x ac at (at + k) slot
      walk-asks = rw ek asks

      module _ (w : Way) (he : w.edge < g.edges) (hs : is_nan w.score ≡ false) (e : Ends) (named : e ≡ name_of es w.edge) (ad : List ℕ) (r : ℕ)
          (W : Walked g.cap g.nodes x ac ad at (at + k) slot e r) (long : length ad ≡ length ac) (since : ℕ)
          (hd : since ≡ decisions r w.guided w.free (since_of t taken.path)) where
        walked : List Branches
        walked = walk_trees (name_of es w.edge) (bs taken.path)

        walk : Walked g.cap g.nodes x ac ad at end slot (name_of es w.edge) r
        walk = rw (ek, named) at W

        stand : Actives g.cap g.nodes x ad slot (slot + r) walked
        unfolding walked
        stand = walk.is (bs taken.path) stood

        pub few-left : r ≤ trees_of t taken.path
        few-left = let h = walk.few in omega arith

        many : length walked ≡ r
        many = let h = actives-many g.cap g.nodes x ad slot (slot + r) walked stand in omega arith

        abbrev new : Extension
        new = record { edge = w.edge; score = w.score; since = since; trees = r }

        abbrev row : PathRecord
        row = extended_row t targets taken new

        pub known-edge : w.edge < length targets
        known-edge = omega (arith, H.on_ground.size)

        since-is : since ≡ cond (not (is_empty walked) || w.guided) 0 (cond w.free (since_of t taken.path) (suc (since_of t taken.path)))
        since-is = hd ∙ ap (λ (z : Bool). cond (not z || w.guided) 0 (cond w.free (since_of t taken.path) (suc (since_of t taken.path)))) (sym (empty-is walked r many))

        one-refused : g.most < row.edges → lengthened es w f (path_of f es index targets bs t sc taken.path) ≡ refused 11
        one-refused h =
            ap (λ (y : Result (Path Float)). and_then y (λ q. ok (q ∷ [])))
            (extended-full f (name_of es) index targets H.on_ground.agrees t sc n taken H.records.held.table H.records.held.rooted place_inside H.known H.follows new known-edge (bs taken.path)
            w.guided w.free (omega (arith, H.on_ground.most)))

        module _ (fits : row.edges ≤ g.most) where
          abbrev u : List ℕ
          u = put_cells t n row

          abbrev sd : List Float
          sd = set sc n w.score

          abbrev bd : ℕ → List Branches
          bd = put_trees bs n walked

          old-cells : Same 9 t u n
          old-cells = put_same t n row

          old-score : (q : ℕ) → q < n → score_of sd q ≡ score_of sc q
          old-score q l = get_or-set_other sc n q w.score nan (omega arith)

          old-trees : (q : ℕ) → q < n → bd q ≡ bs q
          old-trees q l = put-there bs n walked q (omega arith)

          new-trees : trees_of u n ≡ r
          new-trees = put-trees t n row place_inside.cells

          kept-trees : (q : ℕ) → q < n → trees_of u q ≡ trees_of t q
          kept-trees q l = ap (λ (d : ℕ). d / 2) (old-cells q 8 l (omega arith))

          by_cases : (Q : ℕ → Type 0) → ((q : ℕ) → q < n → Q q) → Q n → (q : ℕ) → q < n + 1 → Q q
          by_cases Q below this q l = go (ℕ_discrete q n)
            where
              go : Dec (q ≡ n) → Q q
              go (yes h) = rw h this
              go (no h) = below q (omega arith)

          recorded : Records f g es x index targets bd u sd ad (n + 1)
          recorded =
              record {
                held = held-extended index targets f.source t sc n H.records.held place_inside taken H.known H.follows new known-edge;
                actives =
                    by_cases (λ (q : ℕ). Actives g.cap g.nodes x ad (q * g.active) (q * g.active + trees_of u q) (bd q))
                    (λ q l.
                    rw (kept-trees q l, old-trees q l)
                    (actives-kept g.cap g.nodes x ac ad (q * g.active) (q * g.active + trees_of t q) (bs q) long (λ m p h. let b = before q l in walk.before m (omega arith))
                    (H.records.actives q l)))
                    (rw (new-trees, put-here bs n walked n refl) stand);
                small =
                    by_cases (λ (q : ℕ). All (Small 65535) (bd q)) (λ q l. rw (old-trees q l) (H.records.small q l))
                    (rw (put-here bs n walked n refl) small-walked);
                short = by_cases (λ (q : ℕ). count_of u q ≤ g.most) (λ q l. rw (old-cells q 3 l (omega arith)) (H.records.short q l)) (rw (put-at t n row place_inside.cells 3 (omega arith)) fits);
                trees =
                    by_cases (λ (q : ℕ). trees_of u q ≤ g.active) (λ q l. rw (kept-trees q l) (H.records.trees q l))
                    (rw new-trees (let h = H.records.trees taken.path H.known in let k = few-left in omega arith));
                number =
                    by_cases (λ (q : ℕ). is_nan (score_of sd q) ≡ false) (λ q l. rw (old-score q l) (H.records.number q l))
                    (rw (get_or-set_same sc n w.score nan place_inside.score) hs);
              }
            where
              small-walked : All (Small 65535) walked
              small-walked = unfold walked in small-walk 65535 (name_of es w.edge) (bs taken.path) (H.records.small taken.path H.known)

          abbrev view : Path Float
          view = view_of f (name_of es) index targets walked u sd n

          one-is : lengthened es w f (path_of f es index targets bs t sc taken.path) ≡ ok (view ∷ [])
          unfolding walked
          one-is =
              ap (λ (y : Result (Path Float)). and_then y (λ q. ok (q ∷ [])))
              (extended-made f (name_of es) index targets H.on_ground.agrees t sc n taken H.records.held.table H.records.held.rooted place_inside H.known H.follows new known-edge
              (bs taken.path) w.guided w.free (omega (arith, H.on_ground.most)) since-is)

          one-made : MadeTo f g es x index targets bs t sc n taken.path u sd ad (n + 1) (view ∷ [])
          one-made =
              record {
                bs' = bd;
                records = recorded;
                kept = kept_of f g es x index targets bs t sc n H.records.held bd u sd old-cells old-score old-trees;
                same = old-trees;
                cells = old-cells;
                up = omega arith;
                new =
                    record {
                      unjoined = λ q l m. let z : q ≡ n = omega arith in rw z (put-at t n row place_inside.cells 7 (omega arith));
                      parent = λ q l m. let z : q ≡ n = omega arith in rw z (put-at t n row place_inside.cells 0 (omega arith) ∙ add-one taken.path);
                    };
                is =
                    sym
                    (ap (map (path_of f es index targets bd u sd)) (up_one n) ∙ ap (λ (d : List Branches). view_of f (name_of es) index targets d u sd n ∷ []) (put-here bs n walked n refl));
              }

          one-run : Run f g es x index targets bs t sc n taken.path u sd ad 1 (lengthened es w f (path_of f es index targets bs t sc taken.path)) (n + 1)
          one-run = record { paths = view ∷ []; is = one-is; made = one-made; most = omega arith }

-- ---- the function's needs
module _ {g : Setting} {es x index targets t : List ℕ} {sc : List Float} {ac : List ℕ} {n : ℕ} {taken : Taken} {w : Way} (L : Lengthens g es x index targets t sc ac n taken w) where
  abbrev there : Here g es x index targets t sc ac n taken L.stands.input L.stands.trees
  there = L.stands.here

  module _ {row : PathRecord} (hr : row ≡ path_at t sc taken.path) where
    many-trees : row.trees ≡ trees_of t taken.path
    many-trees = ap (λ (y : PathRecord). y.trees) hr

    pub lengthen-walks : Walkable g.cap g.nodes x ac (taken.path * g.active) (taken.path * g.active + row.trees) (n * g.active)
    lengthen-walks = walk-asks g es x index targets t sc ac n taken L.place L.stands.input L.stands.trees there row.trees many-trees

    module _ {e : Edge} (he : ends_of e ≡ name_of es w.edge) {ad : List ℕ} {r : ℕ}
        (W : Walked g.cap g.nodes x ac ad (taken.path * g.active) (taken.path * g.active + row.trees) (n * g.active) (ends_of e) r) where
      module _ (long : length ad ≡ length ac) {since : ℕ} (hd : since ≡ decisions r w.guided w.free row.since) {answer : Extended} {t' : List ℕ} {sc' : List Float}
          (G : Grown t sc n (extended_row t targets taken (record { edge = w.edge; score = w.score; since = since; trees = r })) g.most answer t' sc') where
        since-by : since ≡ decisions r w.guided w.free (since_of t taken.path)
        since-by = hd ∙ ap (λ (y : PathRecord). decisions r w.guided w.free y.since) hr

        new_row : PathRecord
        new_row = extended_row t targets taken (record { edge = w.edge; score = w.score; since = since; trees = r })

        pub lengthen-refused : {k₀ : Refusal} → answer ≡ Err k₀ → Gives g es x index targets t sc ac n taken 1 (lengthened es w) answer t' sc' ad
        unfolding new_row
        lengthen-refused {k₀} told =
            let q = grown-refused t sc n new_row g.most t' sc' k₀ (rw told at G) in
            rw told
            (record {
              is = λ f bs H.
                  one-refused g es x index targets t sc ac n taken L.place f bs H row.trees many-trees w L.edge L.score (ends_of e) he ad r W long since since-by q.1
                  ∙ ap (λ (i : ℕ). refused i) (sym q.0.number);
            })

        module _ {m₀ : ℕ} (told : answer ≡ Ok m₀) where
          put : Put t sc n new_row m₀ t' sc' × (new_row.edges ≤ g.most)
          unfolding new_row
          put = grown-made t sc n new_row g.most t' sc' m₀ (rw told at G)

          pub made-low : m₀ < 2147483648
          made-low = let h = put.0.number in let z = L.place.number in omega arith

          pub lengthen-made : Gives g es x index targets t sc ac n taken 1 (lengthened es w) (Ok (m₀ + 1)) t' sc' ad
          unfolding new_row
          lengthen-made =
              record {
                is = λ f bs H.
                    rw (put.0.number, put.0.cells, put.0.scores)
                    (one-run g es x index targets t sc ac n taken L.place f bs H row.trees many-trees w L.edge L.score (ends_of e) he ad r W long since since-by put.1);
              }
