-- The records that are made, and what the functions that make them say: one equation of the answer and the tables.
use Rattle.std.specs.Prelude.{◌≡◌, refl, Result, Ok, Err, true, false, List, ℕ, ◌+◌, ◌<◌, ◌≤◌, leb, ltb, pos, get_or, set, Float}
use Rattle.std.proofs.Common.{ap, ◌∙◌, le-leb, lt-ltb, le-ltb}
use Rattle.std.proofs.lemmas.Bool.{lt-leb}
use Rattle.std.specs.Float.{fin}
use Rattle.definition.specs.Refusal as definition
use Rattle.path_store.specs.declared.records.PathRecord.{PathRecord}
use Rattle.refusals.specs.declared.Refusal.{Refusal}
use Rattle.refusals.specs.declared.Refusal.TheVariants.{PathSize}
use Rattle.refusals.specs.Numbers.{number}
use Rattle.path_growth.specs.declared.Taken.{Taken}
use Rattle.path_growth.specs.declared.Extension.{Extension}
use Rattle.path_growth.specs.declared.Cut.{Cut}
use Rattle.path_store.specs.Walk.{after}
use Rattle.path_store.specs.Steps.{Chained}
use Rattle.path_store.specs.Cells.{count_of, end_of, trees_of, score_of, Inside, path_at, put_cells, Stored}
use Rattle.path_growth.specs.Cut.{cut_of}

-- the paper's number and value of each answer
abbrev pub answer_of : Result ℕ Refusal → definition.Result ℕ
answer_of (Ok n) = definition.ok n
answer_of (Err e) = definition.refused (number e)

-- an answer with the tables that it leaves
pub record Store : Type 0 where
  pub answer : Result ℕ Refusal
  pub cells : List ℕ
  pub scores : List Float

-- the record n becomes `row`, or the path has too many edges
unfoldable pub grow : List ℕ → List Float → ℕ → PathRecord → ℕ → Store
grow t sc n row most =
    elim (leb row.edges most) [
      | true ↦ record { answer = Ok n; cells = put_cells t n row; scores = set sc n row.score }
      | false ↦ record { answer = Err PathSize; cells = t; scores = sc }
    ]

abbrev pub Grown : List ℕ → List Float → ℕ → PathRecord → ℕ → Result ℕ Refusal → List ℕ → List Float → Type 0
Grown t sc n row most r t' sc' = ◌≡◌ {A = Store} (record { answer = r; cells = t'; scores = sc' }) (grow t sc n row most)

-- a record may be put at n, below the record p
pub record Growable (t : List ℕ) (sc : List Float) (n p : ℕ) : Type 0 where
  pub room : Inside t sc n
  pub known : p < n

-- ---- the records

abbrev pub start_row : ℕ → PathRecord
start_row source =
    record {
      score = fin false 0 (pos 0);
      parent = 0;
      chain = 0;
      edge = 0;
      edges = 0;
      end = source;
      fork = source;
      since = 0;
      joined = 0;
      trees = 0;
      recovered = false;
    }

abbrev pub extended_row : List ℕ → List ℕ → Taken → Extension → PathRecord
extended_row t targets taken x =
    record {
      score = x.score;
      parent = taken.path + 1;
      chain = taken.chain;
      edge = x.edge + 1;
      edges = count_of t taken.path + taken.chain + 1;
      end = get_or targets x.edge 0;
      fork = taken.vertex;
      since = x.since;
      joined = 0;
      trees = x.trees;
      recovered = false;
    }

abbrev pub closed_row : List ℕ → List Float → Taken → PathRecord
closed_row t sc taken =
    record {
      score = score_of sc taken.path;
      parent = taken.path + 1;
      chain = taken.chain;
      edge = 0;
      edges = count_of t taken.path + taken.chain;
      end = taken.vertex;
      fork = taken.vertex;
      since = 0;
      joined = 0;
      trees = 0;
      recovered = false;
    }

abbrev pub recovered_row : List ℕ → List ℕ → List Float → List ℕ → ℕ → ℕ → ℕ → PathRecord
recovered_row index t sc targets path k e =
    record {
      score = score_of sc path;
      parent = (cut_of t k path).parent + 1;
      chain = (cut_of t k path).chain;
      edge = e + 1;
      edges = k + 1;
      end = get_or targets e 0;
      fork = after index targets (end_of t (cut_of t k path).parent) (cut_of t k path).chain;
      since = 0;
      joined = 0;
      trees = 0;
      recovered = true;
    }

abbrev pub joined_row : PathRecord → ℕ → PathRecord
joined_row row v =
    record {
      score = row.score;
      parent = row.parent;
      chain = row.chain;
      edge = row.edge;
      edges = row.edges;
      end = row.end;
      fork = row.fork;
      since = 0;
      joined = v + 1;
      trees = row.trees + 1;
      recovered = row.recovered;
    }

-- the tree at v joins the path r, or there are too many
unfoldable pub join : List ℕ → List Float → ℕ → ℕ → ℕ → Store
join t sc r v most =
    elim (ltb (trees_of t r) most) [
      | true ↦ record { answer = Ok r; cells = put_cells t r (joined_row (path_at t sc r) v); scores = set sc r (score_of sc r) }
      | false ↦ record { answer = Err PathSize; cells = t; scores = sc }
    ]

abbrev pub Joined : List ℕ → List Float → ℕ → ℕ → ℕ → Result ℕ Refusal → List ℕ → List Float → Type 0
Joined t sc r v most a t' sc' = ◌≡◌ {A = Store} (record { answer = a; cells = t'; scores = sc' }) (join t sc r v most)

-- the chain after the path
pub record Following (index targets t : List ℕ) (r : ℕ) (taken : Taken) : Type 0 where
  pub path : taken.path ≡ r
  pub chain : Chained index targets (end_of t r) taken.chain
  pub vertex : taken.vertex ≡ after index targets (end_of t r) taken.chain

pub followed : (index targets t : List ℕ) (r u c v : ℕ) → u ≡ end_of t r → Chained index targets u c → v ≡ after index targets u c
    → Following index targets t r (record { path = r; chain = c; vertex = v })
followed index targets t r u c v e C h = record { path = refl; chain = rw e at C; vertex = rw e at h }

-- ---- the records by the values that the code has read
pub extend-row : (t targets : List ℕ) (taken : Taken) (x : Extension) (k v : ℕ) → k ≡ count_of t taken.path + taken.chain + 1 → v ≡ get_or targets x.edge 0
    → ◌≡◌ {A = PathRecord}
    (record {
      score = x.score;
      parent = taken.path + 1;
      chain = taken.chain;
      edge = x.edge + 1;
      edges = k;
      end = v;
      fork = taken.vertex;
      since = x.since;
      joined = 0;
      trees = x.trees;
      recovered = false;
    })
    (extended_row t targets taken x)
extend-row t targets taken x k v p q = rw (p, q)

pub close_row : (t : List ℕ) (sc : List Float) (taken : Taken) (s : Float) (k : ℕ) → s ≡ score_of sc taken.path
    → k ≡ count_of t taken.path + taken.chain
    → ◌≡◌ {A = PathRecord}
    (record {
      score = s;
      parent = taken.path + 1;
      chain = taken.chain;
      edge = 0;
      edges = k;
      end = taken.vertex;
      fork = taken.vertex;
      since = 0;
      joined = 0;
      trees = 0;
      recovered = false;
    })
    (closed_row t sc taken)
close_row t sc taken s k p q = rw (p, q)

pub recover-row : (index t : List ℕ) (sc : List Float) (targets : List ℕ) (path k e : ℕ) (s : Float) (cut : Cut) (v w u : ℕ) → s ≡ score_of sc path → cut ≡ cut_of t k path
    → v ≡ get_or targets e 0 → u ≡ end_of t cut.parent → w ≡ after index targets u cut.chain
    → ◌≡◌ {A = PathRecord}
    (record {
      score = s;
      parent = cut.parent + 1;
      chain = cut.chain;
      edge = e + 1;
      edges = k + 1;
      end = v;
      fork = w;
      since = 0;
      joined = 0;
      trees = 0;
      recovered = true;
    })
    (recovered_row index t sc targets path k e)
recover-row index t sc targets path k e s cut v w u p q h x y = rw (p, y, x, q, h)

-- ---- the two ways of `grow` and of `join`
pub grow-full : (t : List ℕ) (sc : List Float) (n : ℕ) (row : PathRecord) (most : ℕ) → most < row.edges → Grown t sc n row most (Err PathSize) t sc
unfolding grow
grow-full t sc n row most h = rw (lt-leb row.edges most h, grow)

pub grow-made : (t : List ℕ) (sc : List Float) (n : ℕ) (row : PathRecord) (most : ℕ) → row.edges ≤ most
    → Grown t sc n row most (Ok n) (put_cells t n row) (set sc n row.score)
unfolding grow
grow-made t sc n row most h = rw (le-leb row.edges most h, grow)

-- what was stored is the record, by the values that the code has read
pub grow-stored : (t : List ℕ) (sc : List Float) (n : ℕ) (row made : PathRecord) (most : ℕ) (t' : List ℕ) (sc' : List Float) → made ≡ row
    → row.edges ≤ most → Stored t sc n made t' sc' → Grown t sc n row most (Ok n) t' sc'
grow-stored t sc n row made most t' sc' e h S =
    let a : t' ≡ put_cells t n row = S.cells ∙ ap (λ (x : PathRecord). put_cells t n x) e in
    let b : sc' ≡ set sc n row.score = S.scores ∙ ap (λ (x : PathRecord). set sc n x.score) e in
    rw (a, b) (grow-made t sc n row most h)

pub join-full : (t : List ℕ) (sc : List Float) (r v most : ℕ) → most ≤ trees_of t r → Joined t sc r v most (Err PathSize) t sc
unfolding join
join-full t sc r v most h = rw (le-ltb (trees_of t r) most h, join)

pub join-stored : (t : List ℕ) (sc : List Float) (r v most : ℕ) (row : PathRecord) (t' : List ℕ) (sc' : List Float) → row ≡ path_at t sc r → row.trees < most
    → Stored t sc r (joined_row row v) t' sc' → Joined t sc r v most (Ok r) t' sc'
unfolding join
join-stored t sc r v most row t' sc' e h S =
    let a : t' ≡ put_cells t r (joined_row (path_at t sc r) v) = S.cells ∙ ap (λ (x : PathRecord). put_cells t r (joined_row x v)) e in
    let b : sc' ≡ set sc r (score_of sc r) = S.scores ∙ ap (λ (x : PathRecord). set sc r x.score) e in
    let l : trees_of t r < most = rw (ap (λ (x : PathRecord). x.trees) e) at h in
    rw (a, b, lt-ltb (trees_of t r) most l, join)
