-- The first of the waiting paths is taken.
use Rattle.std.specs.Prelude.{◌≡◌, refl, List, ◌∷◌, map, ℕ, ◌-◌, ◌<◌, Float}
use Rattle.std.proofs.Common.{sym, ap, ◌∙◌, arith}
use Rattle.laws.specs.ListLaws.{all-mono}
use Rattle.definition.specs.Search.{Path, State}
use Rattle.closed_paths.specs.Cross.{Distinct}
use Rattle.path_heap.specs.Heap.{Popped, waiting, popped-first, popped-all}
use Rattle.search_state.specs.Settings.{Setting}
use Rattle.search_state.specs.declared.Progress.{Progress}
use Rattle.search_state.specs.State.{Idle, Apart}
use Rattle.path_queue.specs.declared.Taking.{Taking}
use Rattle.path_queue.specs.Scene.{Scene, Stands, path_in}

pub record Takes (sc : List Float) (queue : List ℕ) (p : Progress) : Type 0 where
  pub scene : Scene
  pub setting : Setting
  pub state : State Float
  pub holds : Stands scene setting sc queue p state
  pub some : 0 < p.waiting

-- one path fewer waits
abbrev pub one_less : Progress → Progress
one_less p =
    record { records = p.records; waiting = p.waiting - 1; closed = p.closed; next = p.next; pivotal = p.pivotal; pushes = p.pushes; mark = p.mark }

abbrev pub with_waiting : State Float → List (Path Float) → State Float
with_waiting s ps = record { waiting = ps; closed = s.closed; pivotal = s.pivotal; pushes = s.pushes; longest = s.longest }

pub record First (G : Scene) (g : Setting) (sc : List Float) (p : Progress) (s : State Float) (path : ℕ) (queue' : List ℕ) : Type 0 where
  pub rest : List (Path Float)
  pub is : s.waiting ≡ path_in G sc path ∷ rest
  pub holds : Stands G g sc queue' (one_less p) (with_waiting s rest)
  pub idle : Idle G.t p.records path
  pub apart : Apart sc queue' (p.waiting - 1) path

pub record Taken (sc : List Float) (queue : List ℕ) (p : Progress) (r : Taking) (queue' : List ℕ) : Type 0 where
  pub left : r.left ≡ one_less p
  pub each : (G : Scene) (g : Setting) (s : State Float) → Stands G g sc queue p s → First G g sc p s r.path queue'

pub taken-first : (sc : List Float) (queue : List ℕ) (p : Progress) (path : ℕ) (queue' : List ℕ) → Popped sc queue p.waiting path queue'
    → Taken sc queue p (record { path = path; left = one_less p }) queue'
taken-first sc queue p path queue' P =
    record {
      left = refl;
      each =
          λ G g s H.
          (let d : Distinct (path ∷ waiting sc queue' (p.waiting - 1)) = rw P.is at H.once in
          record {
            rest = map (path_in G sc) (waiting sc queue' (p.waiting - 1));
            is = H.waiting ∙ ap (λ l. map (path_in G sc) l) P.is;
            holds =
                record {
                  records = H.records;
                  heap = P.heap;
                  idle = popped-all (λ q. Idle G.t p.records q) sc queue p.waiting path queue' P H.idle;
                  once = d.1;
                  waiting = refl;
                  closed-known = H.closed-known;
                  closed_is = H.closed_is;
                  closed-room = H.closed-room;
                  pivotal = H.pivotal;
                  pivotal-once = H.pivotal-once;
                  pivotal-known = H.pivotal-known;
                  pivotal-forks = H.pivotal-forks;
                  order-room = H.order-room;
                  marks-room = H.marks-room;
                  next_low = H.next_low;
                  pushes = H.pushes;
                  longest = H.longest;
                  mark-fits = H.mark-fits;
                  waiting-fits = omega (arith, H.waiting-fits);
                  pushes-fit = H.pushes-fit;
                };
            idle = popped-first (λ q. Idle G.t p.records q) sc queue p.waiting path queue' P H.idle;
            apart = all-mono (λ y n e. n (sym e)) d.0;
          });
    }
