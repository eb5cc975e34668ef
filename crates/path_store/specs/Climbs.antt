-- The way up from a path: what may be asked, and what a step gives. Assumes nothing.
use Rattle.std.specs.Prelude.{◌≡◌, Option, Some, MatchOption, List, ℕ, suc, ◌+◌, ◌*◌, ◌<◌, ◌≤◌, length, Float}
use Rattle.std.proofs.Common.{◌∙◌, arith}
use Rattle.path_store.specs.declared.records.Paths.{Paths}
use Rattle.path_store.specs.declared.upward.Link.{Link}
use Rattle.path_store.specs.declared.upward.Upward.{Upward}
use Rattle.path_store.specs.Cells.{parent_of, count_of}

-- the first n records are there, and the parent of each is one before it
pub record Climbs (t : List ℕ) (sc : List Float) (n : ℕ) : Type 0 where
  pub room : n * 9 ≤ length t
  pub scored : n ≤ length sc
  pub rises : (r : ℕ) → r < n → parent_of t r ≤ r

pub climbs-front : {t : List ℕ} {sc : List Float} {n m : ℕ} → Climbs t sc n → m ≤ n → Climbs t sc m
climbs-front C l = record { room = omega (arith, C.room); scored = omega (arith, C.scored); rises = λ r h. C.rises r (omega arith) }

-- the way up over these records from this path on
pub record Begun (p : Paths) (path : ℕ) (s : Upward) : Type 0 where
  pub paths : s.paths ≡ p
  pub from : s.path ≡ path

-- a step gave r and left t: the record where the walk stands, which tells its count of edges, and its parent, where the walk then stands; none at the start path
pub record Steps (s : Upward) (r : Option Link) (t : Upward) : Type 0 where
  pub paths : t.paths ≡ s.paths
  pub told : count_of s.paths.records.now s.path < 4294967296
  pub next : MatchOption r (parent_of s.paths.records.now s.path ≡ 0) (λ l. (l.path ≡ s.path) × (parent_of s.paths.records.now s.path ≡ suc l.parent) × (t.path ≡ l.parent))

-- the same of a walk over the records of p
pub record Stepped (p : Paths) (s : Upward) (r : Option Link) (t : Upward) : Type 0 where
  pub paths : t.paths ≡ p
  pub told : count_of p.records.now s.path < 4294967296
  pub next : MatchOption r (parent_of p.records.now s.path ≡ 0) (λ l. (l.path ≡ s.path) × (parent_of p.records.now s.path ≡ suc l.parent) × (t.path ≡ l.parent))

pub stepped : {p : Paths} {s t : Upward} {r : Option Link} → s.paths ≡ p → Steps s r t → Stepped p s r t
stepped e x = record { paths = x.paths ∙ e; told = rw e at x.told; next = rw e at x.next }

-- the walk that is left may go on
pub climbs-on : {p : Paths} {s t : Upward} {l : Link} {n : ℕ} → Climbs p.records.now p.scores.now n → s.path < n → Stepped p s (Some l) t
    → Climbs t.paths.records.now t.paths.scores.now (t.path + 1)
climbs-on {p} {s} C h x = rw (x.paths, x.next.2) (climbs-front C (let r = C.rises s.path h in let e = x.next.1 in omega arith))
