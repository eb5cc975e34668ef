-- A tree joins the path that was taken, over the stores (Rust: add_junction_tree).
use Rattle.std.specs.Prelude.{◌≡◌, ◌⊎◌, ◌≢◌, Bool, true, false, not, Option, Some, None, Result, Ok, Err, ℕ, ◌+◌, ◌-◌, ◌*◌, ◌<◌, ◌≤◌, eqb, length, set, Float, refl, List, [], ◌∷◌, ◌++◌, get_or}
use Rattle.std.proofs.Common.{ap, subst, sym, ◌∙◌, inl, inr, eq-eqb, ne_eqb, arith, length-set, get_or-set_same, get_or-set_other}
use Rattle.std.proofs.Math.Decide.{ℕ_discrete}
use Rattle.laws.specs.Lists.{any}
use Rattle.laws.specs.ListLaws.{All, nil, cons, all_append}
use Rattle.laws.specs.Records.{row_step, place-row}
use Rattle.definition.specs.Refusal.{ok, refused}
use Rattle.definition.specs.Evidence.{Branches, has_branch}
use Rattle.definition.specs.Search.{SearchInput, join_tree}
use Rattle.theorems.proofs.Counts.{Small}
use Rattle.assembly.specs.Fields.{HasVertex, tree_root}
use Rattle.threading_node.specs.Slots.{cols, Slot}
use Rattle.threading_node.specs.Take.{wide-slot}
use Rattle.threading_tree.specs.Read.{leads-has}
use Rattle.path_store.specs.declared.records.PathRecord.{PathRecord}
use Rattle.refusals.specs.declared.Refusal.{Refusal}
use Rattle.refusals.specs.Numbers.{number}
use Rattle.path_growth.specs.declared.Taken.{Taken}
use Rattle.path_store.specs.Steps.{after-low}
use Rattle.path_store.specs.Cells.{joined_of, trees_of, score_of, Inside, path_at, put_cells, put_other, put-trees}
use Rattle.path_edges.specs.Path.{Table, inside, table-front}
use Rattle.path_growth.specs.Grow.{Following, joined_row}
use Rattle.path_edges.specs.Visit.{seen, visited, seen-visited}
use Rattle.path_growth.specs.View.{view_of, has_tree}
use Rattle.path_growth.specs.Join.{Childless, joined_same, joined-scores, join-none, join-bare, join-had, join-over, join-made}
use Rattle.path_growth.specs.Held.{held-joined, following-joined, joined-view, joined-closed}
use Rattle.path_growth.specs.Held as held
use Rattle.path_growth.specs.Grow as grow
use Rattle.fork_offers.specs.Actives.{Actives, actives-kept, actives-join, actives-many}
use Rattle.search_state.specs.Settings.{Setting}
use Rattle.search_state.specs.Ground.{name_of, TreeIn, Ground}
use Rattle.search_state.specs.State.{path_of, Records, Kept}

-- ---- what the contract says

-- the stores as a search f has them, when the path is taken: nothing has joined it yet, and no path has been made from it
pub record Joining (f : SearchInput) (g : Setting) (vs es x index targets : List ℕ) (bs : ℕ → List Branches) (t : List ℕ) (sc : List Float) (ac : List ℕ) (n : ℕ) (taken : Taken) : Type 0 where
  pub on_ground : Ground f g vs es x index targets
  pub records : Records f g es x index targets bs t sc ac n
  pub known : taken.path < n
  pub following : Following index targets t taken.path taken
  pub unjoined : joined_of t taken.path ≡ 0
  pub childless : Childless t n taken.path
  pub room : n * g.active ≤ length ac
  pub few : n < 2147483648

-- what the code asks: they are those of some search
pub record Joins (g : Setting) (vs x index targets t : List ℕ) (sc : List Float) (ac : List ℕ) (taken : Taken) : Type 0 where
  pub input : SearchInput
  pub edges : List ℕ
  pub branches : ℕ → List Branches
  pub count : ℕ
  pub all : Joining input g vs edges x index targets branches t sc ac count taken

-- the path after the tree has joined, or has not; the other paths stay
pub record Joined (f : SearchInput) (g : Setting) (es x index targets : List ℕ) (bs : ℕ → List Branches) (t : List ℕ) (sc : List Float) (n : ℕ) (taken : Taken) (t' : List ℕ) (sc' : List Float) (ac' : List ℕ) : Type 0 where
  pub branches : ℕ → List Branches
  pub is : join_tree f taken.vertex (path_of f es index targets bs t sc taken.path) ≡ ok (path_of f es index targets branches t' sc' taken.path)
  pub records : Records f g es x index targets branches t' sc' ac' n
  pub kept : Kept f es index targets bs t sc branches t' sc' n taken.path
  pub scores : sc' ≡ sc
  pub following : Following index targets t' taken.path taken
  pub same : (q : ℕ) → q ≢ taken.path → branches q ≡ bs q

abbrev pub JoinedBy : SearchInput → Setting → List ℕ → List ℕ → List ℕ → List ℕ → (ℕ → List Branches) → List ℕ → List Float → ℕ → Taken → Result ℕ Refusal → List ℕ → List Float → List ℕ → Type 0
JoinedBy f g es x index targets bs t sc n taken (Ok m) t' sc' ac' = Joined f g es x index targets bs t sc n taken t' sc' ac'
JoinedBy f g es x index targets bs t sc n taken (Err e) t' sc' ac' = join_tree f taken.vertex (path_of f es index targets bs t sc taken.path) ≡ refused (number e)

-- by the answer, for every search whose stores these are
pub record TreeAdded (g : Setting) (vs x index targets t : List ℕ) (sc : List Float) (ac : List ℕ) (taken : Taken) (r : Result ℕ Refusal) (t' : List ℕ) (sc' : List Float) (ac' : List ℕ) : Type 0 where
  pub is : (f : SearchInput) (es : List ℕ) (bs : ℕ → List Branches) (n : ℕ) → Joining f g vs es x index targets bs t sc ac n taken
      → JoinedBy f g es x index targets bs t sc n taken r t' sc' ac'

-- ---- the tree at a vertex

-- the slot of the root of v's tree where that has a branch, else none
abbrev pub Rooted : List ℕ → List ℕ → ℕ → Option ℕ → Type 0
Rooted vs x v None = (tree_root vs v ≡ 0) ⊎ ((tree_root vs v ≡ 0 → ⊥) × ((cols x).kid (tree_root vs v) ≡ 0))
Rooted vs x v (Some s) = (s ≡ tree_root vs v) × ((s ≡ 0 → ⊥) × ((cols x).kid (tree_root vs v) ≡ 0 → ⊥))

-- what the code asks of the tables at v
pub record Rootable (vs x : List ℕ) (v : ℕ) : Type 0 where
  pub inside : HasVertex vs v
  pub slot : (tree_root vs v ≡ 0 → ⊥) → Slot (tree_root vs v) x

-- ---- the stores at a taken path
module _ (f : SearchInput) (g : Setting) (vs es x index targets : List ℕ) (bs : ℕ → List Branches) (t : List ℕ) (sc : List Float) (ac : List ℕ) (n : ℕ) (taken : Taken) (J : Joining f g vs es x index targets bs t sc ac n taken) where
  abbrev r : ℕ
  r = taken.path

  abbrev v : ℕ
  v = taken.vertex

  T : Table index targets t sc n
  T = J.records.held.table

  pub joining-vertex : taken.vertex < length index
  joining-vertex =
      subst (λ (d : ℕ). d < length index) (sym J.following.vertex)
      (after-low index targets J.on_ground.agrees.graph _ taken.chain (T.rows r J.known).low J.following.chain.runs)

  pub joining-rootable : Rootable vs x taken.vertex
  joining-rootable =
      let G = J.on_ground in
      let l = joining-vertex in
      record {
        inside = let q = G.vertices in omega arith;
        slot = λ ne. wide-slot G.wide _ (let a = (G.tree v l ne).live in let b = G.nodes in omega arith);
      }

  pub joining-inside : Inside t sc taken.path
  joining-inside = inside index targets t sc n T r J.known

  pub joining-table : Table index targets t sc (taken.path + 1)
  joining-table = table-front index targets t sc n (r + 1) T (let q = J.known in omega arith)

  many : length (bs r) ≡ trees_of t r
  many = let q = actives-many g.cap g.nodes x ac (r * g.active) (r * g.active + trees_of t r) (bs r) (J.records.actives r J.known) in omega arith

  -- nothing joins
  left : join_tree f v (path_of f es index targets bs t sc r) ≡ ok (path_of f es index targets bs t sc r) → Joined f g es x index targets bs t sc n taken t sc ac
  left h =
      record {
        branches = bs;
        is = h;
        records = J.records;
        kept = record { path = λ q l d. refl; closed = λ c q l. refl; joined = λ q l d. refl; parent = λ q l. refl; score = λ q l. refl };
        scores = refl;
        following = J.following;
        same = λ q d. refl;
      }

  pub joined-none : Rooted vs x taken.vertex None → Joined f g es x index targets bs t sc n taken t sc ac
  joined-none k = go k
    where
      go : (tree_root vs v ≡ 0) ⊎ ((tree_root vs v ≡ 0 → ⊥) × ((cols x).kid (tree_root vs v) ≡ 0)) → Joined f g es x index targets bs t sc n taken t sc ac
      go (inl z) = left (join-none index targets t sc n r v T J.known f (name_of es) (bs r) (J.on_ground.no-tree v joining-vertex z))
      go (inr (ne, z)) =
          let w = J.on_ground.tree v joining-vertex ne in
          let h : has_branch w.below ≡ false = leads-has g.nodes x _ w.below w.leads ∙ ap not (eq-eqb _ 0 z) in
          left (join-bare index targets t sc n r v T J.known f (name_of es) (bs r) w.below w.is h)

  -- ---- a tree that has a branch, in the slot s
  module _ (s : ℕ) (k : Rooted vs x taken.vertex (Some s)) where
    at-root : s ≡ tree_root vs v
    at-root = k.0

    tree : TreeIn f x g.nodes (tree_root vs v) v
    tree = J.on_ground.tree v joining-vertex (λ z. k.1.0 (at-root ∙ z))

    has : has_branch tree.below ≡ true
    has = leads-has g.nodes x _ tree.below tree.leads ∙ ap not (ne_eqb _ 0 k.1.1)

    seen-is : any (eqb v) (seen index targets 0 t r) ≡ any (eqb v) (visited (has_tree f) index targets f.source t r)
    seen-is =
        ap (λ (d : ℕ). any (eqb v) (seen index targets d t r)) (sym J.on_ground.source)
        ∙ seen-visited (has_tree f) index targets f.source v (rw tree.is) t r

    pub joining-small : s < 65536
    joining-small =
        let a = tree.live in
        let b = J.on_ground.nodes in
        let c = J.on_ground.cap-fits in
        let d = at-root in
        omega arith

    -- "unless the path has visited it"
    pub joined-had : true ≡ any (eqb taken.vertex) (seen index targets 0 t taken.path) → Joined f g es x index targets bs t sc n taken t sc ac
    joined-had h = left (join-had index targets t sc n r v T J.known f (name_of es) (bs r) tree.below tree.is has (sym seen-is ∙ sym h))

    module _ (fresh : false ≡ any (eqb taken.vertex) (seen index targets 0 t taken.path)) where
      not_yet : any (eqb v) (visited (has_tree f) index targets f.source t r) ≡ false
      not_yet = sym seen-is ∙ sym fresh

      -- "More active trees than the maximum is 11."
      pub joined-over : g.active ≤ trees_of t taken.path → join_tree f taken.vertex (path_of f es index targets bs t sc taken.path) ≡ refused 11
      joined-over h =
          join-over index targets t sc n r v T J.known f (name_of es) (bs r) tree.below tree.is has not_yet many (let q = J.on_ground.active in omega arith)

      module _ (h : trees_of t taken.path < g.active) where
        -- the place in `active` where the slot is stored
        abbrev place : ℕ
        place = r * g.active + trees_of t r

        pub joining-place : taken.path * g.active + trees_of t taken.path < length ac
        joining-place = let a = row_step g.active r n J.known in let b = J.room in omega arith

        t' : List ℕ
        t' = put_cells t r (joined_row (path_at t sc r) v)

        ac' : List ℕ
        ac' = set ac place s

        bs' : ℕ → List Branches
        bs' q = elim (eqb q r) [ true ↦ bs r ++ tree.below ∷ [] | false ↦ bs q ]

        own : bs' r ≡ bs r ++ tree.below ∷ []
        unfolding bs'
        own = rw (eq-eqb r r refl, bs')

        other : (q : ℕ) → q ≢ r → bs' q ≡ bs q
        unfolding bs'
        other q d = rw (ne_eqb q r d, bs')

        trees-own : trees_of t' r ≡ trees_of t r + 1
        unfolding t'
        trees-own = put-trees t r (joined_row (path_at t sc r) v) joining-inside.cells

        trees-other : (q : ℕ) → q ≢ r → trees_of t' q ≡ trees_of t q
        unfolding t'
        trees-other q d = rw (put_other t r (joined_row (path_at t sc r) v) q 8 d (omega arith))

        -- the slots of another record stay
        apart : (q : ℕ) → q < n → q ≢ r → (i : ℕ) → q * g.active ≤ i → i < q * g.active + trees_of t q → get_or ac' i 0 ≡ get_or ac i 0
        unfolding ac'
        apart q l d i a b =
            let w = J.records.trees q l in
            let z : i ≢ place = λ e. place-row g.active q (i - q * g.active) r (trees_of t r) (omega arith) h d (omega arith) in
            get_or-set_other ac place i s 0 z

        actives-other : (q : ℕ) → q < n → q ≢ r → Actives g.cap g.nodes x ac' (q * g.active) (q * g.active + trees_of t' q) (bs' q)
        unfolding ac'
        actives-other q l d =
            rw (trees-other q d, other q d)
            (actives-kept g.cap g.nodes x ac ac' (q * g.active) (q * g.active + trees_of t q) (bs q) (length-set ac place s) (apart q l d) (J.records.actives q l))

        actives-own : Actives g.cap g.nodes x ac' (r * g.active) (r * g.active + trees_of t' r) (bs' r)
        unfolding ac'
        actives-own =
            let l = joining-place in
            let z : get_or ac' place 0 ≡ tree_root vs v = get_or-set_same ac place s 0 l ∙ at-root in
            let e : r * g.active + trees_of t' r ≡ place + 1 = let q = trees-own in omega arith in
            let before : Actives g.cap g.nodes x ac' (r * g.active) place (bs r) =
            actives-kept g.cap g.nodes x ac ac' (r * g.active) place (bs r) (length-set ac place s) (λ i a b. get_or-set_other ac place i s 0 (omega arith))
            (J.records.actives r J.known)
            in
            let j : Actives g.cap g.nodes x ac' (r * g.active) (place + 1) (bs r ++ tree.below ∷ []) =
            actives-join g.cap g.nodes x ac' (r * g.active) place (bs r) tree.below before (let q = length-set ac place s in omega arith) (rw z tree.live) (rw z tree.leads)
            in
            rw (own, e) j

        records : Records f g es x index targets bs' t' sc ac' n
        unfolding t' ac'
        records =
            record {
              held = held-joined index targets f.source t sc n r v J.records.held J.known;
              actives = λ q l. go-actives q l (ℕ_discrete q r);
              trees = λ q l. go-trees q l (ℕ_discrete q r);
              small = λ q l. go-small q l (ℕ_discrete q r);
              short = λ q l. rw (joined_same index targets t sc n r v T J.known q 3 l (omega arith)) (J.records.short q l);
              number = J.records.number;
            }
          where
            go-actives : (q : ℕ) → q < n → Dec (q ≡ r) → Actives g.cap g.nodes x ac' (q * g.active) (q * g.active + trees_of t' q) (bs' q)
            go-actives q l (yes e) = subst (λ (d : ℕ). Actives g.cap g.nodes x ac' (d * g.active) (d * g.active + trees_of t' d) (bs' d)) (sym e) actives-own
            go-actives q l (no d) = actives-other q l d

            go-trees : (q : ℕ) → q < n → Dec (q ≡ r) → trees_of t' q ≤ g.active
            go-trees q l (yes e) = rw e (let z = trees-own in omega arith)
            go-trees q l (no d) = rw (trees-other q d) (J.records.trees q l)

            go-small : (q : ℕ) → q < n → Dec (q ≡ r) → All (Small 65535) (bs' q)
            go-small q l (yes e) = rw (e, own) (all_append (J.records.small r J.known) (cons (J.on_ground.small v tree.below tree.is) nil))
            go-small q l (no d) = rw (other q d) (J.records.small q l)

        made : Joined f g es x index targets bs t sc n taken t' sc ac'
        unfolding t'
        made =
            record {
              branches = bs';
              is =
                  join-made index targets t sc n r v T J.known f (name_of es) (bs r) tree.below tree.is has not_yet many J.unjoined (let q = J.on_ground.active in omega arith)
                  ∙ ap (λ (d : List Branches). ok (view_of f (name_of es) index targets d t' sc r)) (sym own);
              records = records;
              kept =
                  record {
                    path = λ q l d.
                        ap (λ (c : List Branches). view_of f (name_of es) index targets c t' sc q) (other q d)
                        ∙ joined-view index targets f.source t sc n r v J.records.held J.known f (name_of es) (bs q) J.childless q l d;
                    closed = λ c q l. joined-closed index targets f.source t sc n r v J.records.held J.known f (name_of es) c q l;
                    joined = λ q l d. put_other t r (joined_row (path_at t sc r) v) q 7 d (omega arith);
                    parent = λ q l. joined_same index targets t sc n r v T J.known q 0 l (omega arith);
                    score = λ q l. refl;
                  };
              scores = refl;
              following = following-joined index targets f.source t sc n r v J.records.held J.known taken J.known J.following;
              same = other;
            }

        -- the tables as the code leaves them
        pub joined_made : (u : List ℕ) (sd : List Float) (ad : List ℕ) → u ≡ put_cells t taken.path (joined_row (path_at t sc taken.path) taken.vertex)
            → sd ≡ set sc taken.path (score_of sc taken.path) → ad ≡ set ac (taken.path * g.active + trees_of t taken.path) s
            → Joined f g es x index targets bs t sc n taken u sd ad
        unfolding t' ac'
        joined_made u sd ad a b c =
            let e : sd ≡ sc = b ∙ joined-scores index targets t sc n r v T J.known in
            rw (a, e, c) made

-- ---- what the code asks and says, by what it has read
module _ (g : Setting) (vs x index targets t : List ℕ) (sc : List Float) (ac : List ℕ) (taken : Taken) where
  module _ (P : Joins g vs x index targets t sc ac taken) where
    pub joins-rootable : Rootable vs x taken.vertex
    joins-rootable = joining-rootable P.input g vs P.edges x index targets P.branches t sc ac P.count taken P.all

    pub joins-table : Table index targets t sc (taken.path + 1)
    joins-table = joining-table P.input g vs P.edges x index targets P.branches t sc ac P.count taken P.all

    pub joins-inside : Inside t sc taken.path
    joins-inside = joining-inside P.input g vs P.edges x index targets P.branches t sc ac P.count taken P.all

    pub joins-vertex : taken.vertex + 1 < 4294967296
    joins-vertex = let a = joining-vertex P.input g vs P.edges x index targets P.branches t sc ac P.count taken P.all in let b = P.all.on_ground.few in omega arith

    pub joins-active : g.active ≤ 64
    joins-active = P.all.on_ground.active-fits

  pub added_none : (m : ℕ) → Rooted vs x taken.vertex None → TreeAdded g vs x index targets t sc ac taken (Ok m) t sc ac
  added_none m k = record { is = λ f es bs n J. joined-none f g vs es x index targets bs t sc ac n taken J k }

  module _ (s : ℕ) (k : Rooted vs x taken.vertex (Some s)) where
    module _ (b : Bool) (h : b ≡ any (eqb taken.vertex) (seen index targets 0 t taken.path)) where
      pub added-had : (m : ℕ) → b ≡ true → TreeAdded g vs x index targets t sc ac taken (Ok m) t sc ac
      added-had m z = record { is = λ f es bs n J. joined-had f g vs es x index targets bs t sc ac n taken J s k (sym z ∙ h) }

      module _ (z : b ≡ false) (most : ℕ) (me : most ≡ g.active) (t' : List ℕ) (sc' : List Float) where
        pub added-over : (i : Refusal) → grow.Joined t sc taken.path taken.vertex most (Err i) t' sc' → TreeAdded g vs x index targets t sc ac taken (Err i) t' sc' ac
        added-over i j =
            let a = held.joined-refused t sc taken.path taken.vertex most t' sc' i j in
            record {
              is = λ f es bs n J.
                  joined-over f g vs es x index targets bs t sc ac n taken J s k (sym z ∙ h) (let q = a.1 in omega arith)
                  ∙ ap (λ (d : ℕ). refused d) (sym a.0.number);
            }

        module _ (m : ℕ) (j : grow.Joined t sc taken.path taken.vertex most (Ok m) t' sc') where
          put : held.Put t sc taken.path (joined_row (path_at t sc taken.path) taken.vertex) m t' sc' × (trees_of t taken.path < most)
          put = held.joined_made t sc taken.path taken.vertex most t' sc' m j

          low : trees_of t taken.path < g.active
          low = let q = put.1 in omega arith

          module _ (row : PathRecord) (re : row ≡ path_at t sc taken.path) where
            trees : row.trees ≡ trees_of t taken.path
            trees = ap (λ (d : PathRecord). d.trees) re

            pub added-place : Joins g vs x index targets t sc ac taken → taken.path * g.active + row.trees < length ac
            added-place P =
                let a = joining-place P.input g vs P.edges x index targets P.branches t sc ac P.count taken P.all s k (sym z ∙ h) low in
                let b = trees in
                omega arith

            pub added-small : Joins g vs x index targets t sc ac taken → s < 65536
            added-small P = joining-small P.input g vs P.edges x index targets P.branches t sc ac P.count taken P.all s k

            pub added-made : (i : ℕ) (ac' : List ℕ) → ac' ≡ set ac (taken.path * g.active + row.trees) s → TreeAdded g vs x index targets t sc ac taken (Ok i) t' sc' ac'
            added-made i ac' q =
                record {
                  is = λ f es bs n J.
                      joined_made f g vs es x index targets bs t sc ac n taken J s k (sym z ∙ h) low t' sc' ac' put.0.cells put.0.scores
                      (q ∙ ap (λ (d : ℕ). set ac (taken.path * g.active + d) s) trees);
                }
