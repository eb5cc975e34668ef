-- A path at the sink closes where the active trees let it: what the code asks and says of the tables, before it is held to the definition.
use Rattle.std.specs.Prelude.{◌≡◌, refl, Bool, true, false, Result, Ok, Err, List, ℕ, ◌+◌, ◌*◌, ◌<◌, ◌≤◌, length, set, Float}
use Rattle.std.proofs.Common.{ap}
use Rattle.threading_node.specs.Ends.{ends}
use Rattle.path_store.specs.declared.records.PathRecord.{PathRecord}
use Rattle.refusals.specs.declared.Refusal.{Refusal}
use Rattle.refusals.specs.Numbers.{number}
use Rattle.path_growth.specs.declared.Taken.{Taken}
use Rattle.path_store.specs.Cells.{trees_of, score_of, Inside, path_at, put_cells}
use Rattle.path_growth.specs.Grow.{Grown, closed_row}
use Rattle.path_growth.specs.Held as held
use Rattle.fork_offers.specs.Actives.{Active}
use Rattle.fork_offers.specs.Stops.{Stops}
use Rattle.search_state.specs.Settings.{Setting}
use Rattle.search_state.specs.declared.Progress.{Progress}

-- one record more, which has closed
abbrev pub with_closed : Progress → Progress
with_closed p =
    record {
      records = p.records + 1;
      waiting = p.waiting;
      closed = p.closed + 1;
      next = p.next;
      pivotal = p.pivotal;
      pushes = p.pushes;
      mark = p.mark;
    }

pub record ClosesTaken (g : Setting) (x ac t : List ℕ) (sc : List Float) (closed : List ℕ) (taken : Taken) (p : Progress) : Type 0 where
  pub active : Active g.cap g.nodes x ac (taken.path * g.active) (taken.path * g.active + trees_of t taken.path)
  pub room : Inside t sc p.records
  pub known : taken.path < p.records
  pub more : p.closed < length closed
  pub few : p.records + 1 < 2147483648

-- it does not close
pub record Open (t : List ℕ) (sc : List Float) (closed : List ℕ) (p : Progress) (r : Result Progress Refusal) (t' : List ℕ) (sc' : List Float) (closed' : List ℕ) : Type 0 where
  pub answer : r ≡ Ok p
  pub cells : t' ≡ t
  pub scores : sc' ≡ sc
  pub numbers : closed' ≡ closed

-- it closes: it is the next record, whose number stands next among the closed
pub record ClosedTaken (g : Setting) (t : List ℕ) (sc : List Float) (closed : List ℕ) (taken : Taken) (p p' : Progress) (t' : List ℕ) (sc' : List Float) (closed' : List ℕ) : Type 0 where
  pub fits : (closed_row t sc taken).edges ≤ g.most
  pub progress : p' ≡ with_closed p
  pub cells : t' ≡ put_cells t p.records (closed_row t sc taken)
  pub scores : sc' ≡ set sc p.records (score_of sc taken.path)
  pub numbers : closed' ≡ set closed p.closed p.records

-- it would have too many edges
pub record Over (g : Setting) (t : List ℕ) (sc : List Float) (taken : Taken) (k : ℕ) : Type 0 where
  pub number : k ≡ 11
  pub over : g.most < (closed_row t sc taken).edges

-- by the evidence and the answer
abbrev pub ClosedTakenBy : Setting → List ℕ → List Float → List ℕ → Taken → Progress → Bool → Result Progress Refusal → List ℕ → List Float → List ℕ → Type 0
ClosedTakenBy g t sc closed taken p false r t' sc' closed' = Open t sc closed p r t' sc' closed'
ClosedTakenBy g t sc closed taken p true (Ok p') t' sc' closed' = ClosedTaken g t sc closed taken p p' t' sc' closed'
ClosedTakenBy g t sc closed taken p true (Err e) t' sc' closed' = Over g t sc taken (number e)

pub record ClosingTaken (g : Setting) (x ac t : List ℕ) (sc : List Float) (closed : List ℕ) (taken : Taken) (p : Progress) (r : Result Progress Refusal) (t' : List ℕ) (sc' : List Float) (closed' : List ℕ) : Type 0 where
  pub evidence : Bool
  pub stops : Stops g.cap g.nodes x ac (taken.path * g.active) (taken.path * g.active + trees_of t taken.path) (ends g.sink g.symbolic) g.least evidence
  pub by : ClosedTakenBy g t sc closed taken p evidence r t' sc' closed'

-- ---- what the code has read and made, where the active trees let it close
module _ (g : Setting) (x ac t : List ℕ) (sc : List Float) (closed : List ℕ) (taken : Taken) (p : Progress) (row : PathRecord) (re : row ≡ path_at t sc taken.path)
    (h : Stops g.cap g.nodes x ac (taken.path * g.active) (taken.path * g.active + row.trees) (ends g.sink g.symbolic) g.least true) where
  stopping : Stops g.cap g.nodes x ac (taken.path * g.active) (taken.path * g.active + trees_of t taken.path) (ends g.sink g.symbolic) g.least true
  stopping = rw (ap (λ (d : PathRecord). d.trees) re) at h

  module _ (t' : List ℕ) (sc' : List Float) where
    pub taken-over : (i : Refusal) → Grown t sc p.records (closed_row t sc taken) g.most (Err i) t' sc' → ClosingTaken g x ac t sc closed taken p (Err i) t' sc' closed
    taken-over i gr =
        let q = held.grown-refused t sc p.records (closed_row t sc taken) g.most t' sc' i gr in
        record { evidence = true; stops = stopping; by = record { number = q.0.number; over = q.1 } }

    pub taken_made : (i : ℕ) → Grown t sc p.records (closed_row t sc taken) g.most (Ok i) t' sc'
        → ClosingTaken g x ac t sc closed taken p (Ok (with_closed p)) t' sc' (set closed p.closed i)
    taken_made i gr =
        let q = held.grown-made t sc p.records (closed_row t sc taken) g.most t' sc' i gr in
        record {
          evidence = true;
          stops = stopping;
          by = record { fits = q.1; progress = refl; cells = q.0.cells; scores = q.0.scores; numbers = ap (λ (d : ℕ). set closed p.closed d) q.0.number };
        }
