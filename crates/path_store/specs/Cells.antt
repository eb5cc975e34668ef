-- The record of a path in two slices: nine numbers and a score. Cell 0 has the parent's number + 1, 1 the length of the chain, 2 the last edge + 1,
-- 3 the count of edges, 4 the last vertex, 5 the vertex that the chain leads to, 6 the decisions since guidance, 7 the joined tree's vertex + 1, 8 twice
-- the number of active trees, with 1 more for a recovered path.
use Rattle.std.specs.Prelude.{◌≡◌, ◌≢◌, Bool, true, false, cond, Option, Some, None, List, [], ◌∷◌, ℕ, zero, suc, ◌+◌, ◌-◌, ◌*◌, ◌/◌, ◌%◌, ◌<◌, ◌≤◌, eqb, length, get_or, set, Float}
use Rattle.std.proofs.Common.{refl, ap, ◌∙◌, arith, eq-eqb, ne_eqb, get_or-set_same}
use Rattle.std.specs.Float.{nan}
use Rattle.laws.specs.Records.{field, put_from, length-put_from, put_from-row, put_from-at}
use Rattle.tables.specs.Widths.{path_numbers}
use Rattle.path_store.specs.declared.records.PathRecord.{PathRecord}

-- ---- the cells

-- the table has the first n paths
abbrev pub HasPaths : List ℕ → ℕ → Type 0
HasPaths t n = path_numbers n ≤ length t

abbrev pub IsPathField : ℕ → Type 0
IsPathField j = j < 9

abbrev pub path_field : List ℕ → ℕ → ℕ → ℕ
path_field t r j = field t 9 r j

abbrev pub parent_of : List ℕ → ℕ → ℕ
parent_of t r = field t 9 r 0

abbrev pub chain_of : List ℕ → ℕ → ℕ
chain_of t r = field t 9 r 1

abbrev pub edge_of : List ℕ → ℕ → ℕ
edge_of t r = field t 9 r 2

abbrev pub count_of : List ℕ → ℕ → ℕ
count_of t r = field t 9 r 3

abbrev pub end_of : List ℕ → ℕ → ℕ
end_of t r = field t 9 r 4

abbrev pub fork_of : List ℕ → ℕ → ℕ
fork_of t r = field t 9 r 5

abbrev pub since_of : List ℕ → ℕ → ℕ
since_of t r = field t 9 r 6

abbrev pub joined_of : List ℕ → ℕ → ℕ
joined_of t r = field t 9 r 7

abbrev pub trees_of : List ℕ → ℕ → ℕ
trees_of t r = field t 9 r 8 / 2

abbrev pub recovered_of : List ℕ → ℕ → Bool
recovered_of t r = eqb (field t 9 r 8 % 2) 1

abbrev pub score_of : List Float → ℕ → Float
score_of sc r = get_or sc r nan

-- ---- what the functions say

-- the number that a number + 1 stands for; 0 stands for none
abbrev pub numbered : ℕ → Option ℕ
numbered zero = None
numbered (suc n) = Some n

pub numbered-none : (n : ℕ) → numbered n ≡ None → n ≡ 0
numbered-none zero h = refl
numbered-none (suc n) h = cc

pub numbered-some : (n p : ℕ) → numbered n ≡ Some p → n ≡ suc p
numbered-some zero p h = cc
numbered-some (suc n) p h = cc

pub numbered-less : (n p : ℕ) → numbered n ≡ Some p → p ≡ n - 1
numbered-less n p h = omega (arith, numbered-some n p h)

pub record Inside (t : List ℕ) (sc : List Float) (r : ℕ) : Type 0 where
  pub cells : r * 9 + 9 ≤ length t
  pub score : r < length sc

abbrev pub path_at : List ℕ → List Float → ℕ → PathRecord
path_at t sc r =
    record {
      score = score_of sc r;
      parent = parent_of t r;
      chain = chain_of t r;
      edge = edge_of t r;
      edges = count_of t r;
      end = end_of t r;
      fork = fork_of t r;
      since = since_of t r;
      joined = joined_of t r;
      trees = trees_of t r;
      recovered = recovered_of t r;
    }

abbrev pub cells_of : PathRecord → List ℕ
cells_of row =
    row.parent ∷ row.chain ∷ row.edge ∷ row.edges ∷ row.end ∷ row.fork ∷ row.since ∷ row.joined ∷ (row.trees * 2 + cond row.recovered 1 0) ∷ []

-- the record r becomes `row`
abbrev pub put_cells : List ℕ → ℕ → PathRecord → List ℕ
put_cells t r row = put_from t 9 r 0 (cells_of row)

pub record Stored (t : List ℕ) (sc : List Float) (r : ℕ) (row : PathRecord) (t' : List ℕ) (sc' : List Float) : Type 0 where
  pub cells : t' ≡ put_cells t r row
  pub scores : sc' ≡ set sc r row.score

-- ---- the record that was put is read, and any other stays
pub put-length : (t : List ℕ) (r : ℕ) (row : PathRecord) → length (put_cells t r row) ≡ length t
put-length t r row = length-put_from t 9 r 0 (cells_of row)

pub put_other : (t : List ℕ) (r : ℕ) (row : PathRecord) (q j : ℕ) → q ≢ r → j < 9 → field (put_cells t r row) 9 q j ≡ field t 9 q j
put_other t r row q j m l = put_from-row t 9 r 0 (cells_of row) q j (omega arith) l m

half : (a : ℕ) (b : Bool) → (a * 2 + cond b 1 0) / 2 ≡ a
half a true = omega arith
half a false = omega arith

odd : (a : ℕ) (b : Bool) → eqb ((a * 2 + cond b 1 0) % 2) 1 ≡ b
odd a true = eq-eqb ((a * 2 + 1) % 2) 1 (omega arith)
odd a false = ne_eqb ((a * 2 + 0) % 2) 1 (omega arith)

-- a record by its fields
abbrev again : PathRecord → PathRecord
again row =
    record {
      score = row.score;
      parent = row.parent;
      chain = row.chain;
      edge = row.edge;
      edges = row.edges;
      end = row.end;
      fork = row.fork;
      since = row.since;
      joined = row.joined;
      trees = row.trees;
      recovered = row.recovered;
    }

module _ (t : List ℕ) (r : ℕ) (row : PathRecord) (room : r * 9 + 9 ≤ length t) where
  pub put-at : (j : ℕ) → j < 9 → field (put_cells t r row) 9 r j ≡ get_or (cells_of row) j 0
  put-at j l = let z : j - 0 ≡ j = omega arith in put_from-at t 9 r 0 (cells_of row) j room (omega arith) (omega arith) l ∙ rw z

  pub put-trees : trees_of (put_cells t r row) r ≡ row.trees
  put-trees = ap (λ x. x / 2) (put-at 8 (omega arith)) ∙ half row.trees row.recovered

  pub put-recovered : recovered_of (put_cells t r row) r ≡ row.recovered
  put-recovered = ap (λ x. eqb (x % 2) 1) (put-at 8 (omega arith)) ∙ odd row.trees row.recovered

  pub put-read : (sc : List Float) → r < length sc → path_at (put_cells t r row) (set sc r row.score) r ≡ row
  put-read sc l =
      let e : path_at (put_cells t r row) (set sc r row.score) r ≡ again row =
      cc
      (get_or-set_same sc r row.score nan l, put-at 0 (omega arith), put-at 1 (omega arith), put-at 2 (omega arith), put-at 3 (omega arith), put-at 4 (omega arith), put-at 5 (omega arith), put-at 6 (omega arith), put-at 7 (omega arith), put-trees, put-recovered)
      in
      e
