-- Paths that were made join those that wait, as the definition's `push_all`: in the order of their records, as many as the maximum allows.
use Rattle.std.specs.Prelude.{◌≡◌, ◌≢◌, refl, Result, Ok, Err, List, [], ◌∷◌, map, ℕ, suc, ◌+◌, ◌-◌, ◌<◌, ◌≤◌, max, length, Float}
use Rattle.std.proofs.Common.{sym, ap, ◌∙◌, add-one, arith, lt-ltb, le-ltb}
use Rattle.std.proofs.Math.ListN.{length-map}
use Rattle.laws.specs.Heaps.{nth}
use Rattle.definition.specs.Score.{column_scoring}
use Rattle.definition.specs.Search.{Path, State, Turn, more, full, wait, push, push_all}
use Rattle.path_heap.specs.First.{Known}
use Rattle.path_heap.specs.Heap.{Pushable, Pushed, waiting, ahead_of, waiting-length, waiting-all, pushed-all}
use Rattle.path_heap.proofs.Link.{pushed-view}
use Rattle.search_state.specs.Settings.{Setting}
use Rattle.search_state.specs.declared.Progress.{Progress}
use Rattle.refusals.specs.declared.Refusal.{Refusal}
use Rattle.refusals.specs.Numbers.{number}
use Rattle.search_state.specs.State.{Idle, up_from}
use Rattle.path_queue.specs.Scene.{Scene, Stands, path_in, distinct-insert}

-- the records from `from` on may be pushed: nothing was made from them, and all that wait are earlier
pub record Ready (G : Scene) (g : Setting) (sc : List Float) (queue : List ℕ) (p : Progress) (from : ℕ) (s : State Float) : Type 0 where
  pub holds : Stands G g sc queue p s
  pub low : from ≤ p.records
  pub new : (q : ℕ) → from ≤ q → q < p.records → Idle G.t p.records q
  pub later : (i : ℕ) → i < p.waiting → nth queue i < from

pub record Pushes (sc : List Float) (queue : List ℕ) (g : Setting) (p : Progress) (from : ℕ) : Type 0 where
  pub scene : Scene
  pub state : State Float
  pub ready : Ready scene g sc queue p from state
  pub room : g.pushes ≤ length queue

-- the paths from a to the last record
abbrev pub paths_from : Scene → List Float → Progress → ℕ → List (Path Float)
paths_from G sc p a = map (path_in G sc) (up_from a (p.records - a))

abbrev pub pushes_from : List Float → Scene → Setting → List Float → Progress → ℕ → State Float → Turn Float
pushes_from column G g sc p a s = push_all (column_scoring column) g.pushes (paths_from G sc p a) s

-- ---- one path

pub record OnePushes (sc : List Float) (queue : List ℕ) (g : Setting) (p : Progress) (path : ℕ) : Type 0 where
  pub asks : Pushes sc queue g p path
  pub below : path < p.records

abbrev pub pushed_once : Progress → Progress
pushed_once p =
    record {
      records = p.records;
      waiting = p.waiting + 1;
      closed = p.closed;
      next = p.next;
      pivotal = p.pivotal;
      pushes = p.pushes + 1;
      mark = max p.mark (p.waiting + 1);
    }

pub record Joined (sc : List Float) (queue : List ℕ) (g : Setting) (p : Progress) (path : ℕ) (queue' : List ℕ) (p' : Progress) : Type 0 where
  pub free : p.pushes < g.pushes
  pub is : p' ≡ pushed_once p
  pub each : (G : Scene) (s : State Float) (column : List Float) → Ready G g sc queue p path s
      → Ready G g sc queue' (pushed_once p) (path + 1) (push (column_scoring column) (path_in G sc path) s)

abbrev pub OnePushed : List Float → List ℕ → Setting → Progress → ℕ → List ℕ → Result Progress Refusal → Type 0
OnePushed sc queue g p path queue' (Ok p') = Joined sc queue g p path queue' p'
OnePushed sc queue g p path queue' (Err r) = (number r ≡ 12) × (g.pushes ≤ p.pushes)

module _ {sc : List Float} {queue : List ℕ} {g : Setting} {p : Progress} {path : ℕ} (A : OnePushes sc queue g p path) where
  known : Known sc path
  known =
      let R = A.asks.ready.holds.records in
      record { there = omega (arith, R.held.table.scored, A.below); number = R.number path A.below }

  -- the heap takes the path
  pub one-heap : p.pushes < g.pushes → Pushable sc queue p.waiting path
  one-heap h =
      let H = A.asks.ready.holds in
      record { heap = H.heap; free = omega (arith, A.asks.room, H.waiting-fits, H.mark-fits); known = known; later = A.asks.ready.later }

  module _ (h : p.pushes < g.pushes) {queue' : List ℕ} (P : Pushed sc queue p.waiting path queue') where
    one_each : (G : Scene) (s : State Float) (column : List Float) → Ready G g sc queue p path s
        → Ready G g sc queue' (pushed_once p) (path + 1) (push (column_scoring column) (path_in G sc path) s)
    unfolding push
    one_each G s column R =
        let H = R.holds in
        let view = path_in G sc in
        let list : wait (column_scoring column) (view path) s.waiting ≡ map view (waiting sc queue' (p.waiting + 1)) =
        ap (λ l. wait (column_scoring column) (view path) l) H.waiting
        ∙ sym (pushed-view column sc view queue p.waiting path queue' P refl (λ i l. refl))
        in
        let size : length (wait (column_scoring column) (view path) s.waiting) ≡ p.waiting + 1 =
        ap (λ (l : List (Path Float)). length l) list ∙ length-map (waiting sc queue' (p.waiting + 1)) view ∙ waiting-length sc queue' (p.waiting + 1)
        in
        record {
          holds =
              record {
                records = H.records;
                heap = P.heap;
                idle = pushed-all (λ q. Idle G.t p.records q) sc queue p.waiting path queue' P (R.new path (omega arith) A.below) H.idle;
                once =
                    rw P.is
                    (distinct-insert (ahead_of sc) path (waiting sc queue p.waiting)
                    (waiting-all (λ q. q ≢ path) sc queue p.waiting (λ i l. omega (arith, R.later i l))) H.once);
                waiting = list;
                closed-known = H.closed-known;
                closed_is = H.closed_is;
                closed-room = H.closed-room;
                pivotal = H.pivotal;
                pivotal-once = H.pivotal-once;
                pivotal-known = H.pivotal-known;
                pivotal-forks = H.pivotal-forks;
                order-room = H.order-room;
                marks-room = H.marks-room;
                next_low = H.next_low;
                pushes = omega (arith, H.pushes);
                longest = omega (arith, H.longest, size);
                mark-fits = omega (arith, H.mark-fits, H.waiting-fits);
                waiting-fits = omega arith;
                pushes-fit = omega arith;
              };
          low = omega (arith, A.below);
          new = λ q l m. R.new q (omega arith) m;
          later = pushed-all (λ q. q < path + 1) sc queue p.waiting path queue' P (omega arith) (λ i l. omega (arith, R.later i l));
        }

    pub one-joined : (m : ℕ) → m ≡ max p.mark (p.waiting + 1)
        → OnePushed sc queue g p path queue'
        (Ok (record { records = p.records; waiting = p.waiting + 1; closed = p.closed; next = p.next; pivotal = p.pivotal; pushes = p.pushes + 1; mark = m }))
    one-joined m e = record { free = h; is = rw e; each = one_each }

-- ---- all of them

pub record Going (column : List Float) (G : Scene) (g : Setting) (sc : List Float) (p₀ : Progress) (from : ℕ) (s : State Float) (queue : List ℕ) (p : Progress) (path : ℕ)
    : Type 0 where
  pub state : State Float
  pub ready : Ready G g sc queue p path state
  pub left : pushes_from column G g sc p₀ path state ≡ pushes_from column G g sc p₀ from s

-- what a run of pushes leaves as it is, and how many there were
pub record Counted (p₀ p : Progress) (n : ℕ) : Type 0 where
  pub records : p.records ≡ p₀.records
  pub closed : p.closed ≡ p₀.closed
  pub next : p.next ≡ p₀.next
  pub pivotal : p.pivotal ≡ p₀.pivotal
  pub pushes : p.pushes ≡ p₀.pushes + n

pub record Pushing (sc : List Float) (queue₀ : List ℕ) (g : Setting) (p₀ : Progress) (from : ℕ) (queue : List ℕ) (p : Progress) (path : ℕ) : Type 0 where
  pub low : from ≤ path
  pub high : path ≤ p₀.records
  pub size : length queue ≡ length queue₀
  pub counted : Counted p₀ p (path - from)
  pub each : (G : Scene) (s : State Float) (column : List Float) → Ready G g sc queue₀ p₀ from s → Going column G g sc p₀ from s queue p path

-- the definition's `full`, with some state and some paths left
pub record Full (t : Turn Float) : Type 0 where
  pub state : State Float
  pub left : List (Path Float)
  pub is : t ≡ full state left

pub record More (t : Turn Float) (G : Scene) (g : Setting) (sc : List Float) (queue : List ℕ) (p : Progress) : Type 0 where
  pub state : State Float
  pub is : t ≡ more state
  pub holds : Stands G g sc queue p state

pub record Filled (sc : List Float) (queue : List ℕ) (g : Setting) (p : Progress) (from k : ℕ) : Type 0 where
  pub number : k ≡ 12
  pub each : (G : Scene) (s : State Float) (column : List Float) → Ready G g sc queue p from s → Full (pushes_from column G g sc p from s)

pub record Pushed-all (sc : List Float) (queue : List ℕ) (g : Setting) (p : Progress) (from : ℕ) (queue' : List ℕ) (p' : Progress) : Type 0 where
  pub counted : Counted p p' (p.records - from)
  pub each : (G : Scene) (s : State Float) (column : List Float) → Ready G g sc queue p from s → More (pushes_from column G g sc p from s) G g sc queue' p'

abbrev pub AllPushed : List Float → List ℕ → Setting → Progress → ℕ → List ℕ → Result Progress Refusal → Type 0
AllPushed sc queue g p from queue' (Ok p') = Pushed-all sc queue g p from queue' p'
AllPushed sc queue g p from queue' (Err r) = Filled sc queue g p from (number r)

-- ---- `push_all`, a path at a time

module _ (column : List Float) (G : Scene) (g : Setting) (sc : List Float) (p : Progress) (a : ℕ) (s : State Float) where
  split : a < p.records → paths_from G sc p a ≡ path_in G sc a ∷ paths_from G sc p (a + 1)
  unfolding up_from
  split h =
      let e : p.records - a ≡ suc (p.records - (a + 1)) = omega arith in
      let q : a + 1 ≡ suc a = add-one a in
      rw (e, q)

  all_end : p.records ≤ a → pushes_from column G g sc p a s ≡ more s
  unfolding up_from push_all
  all_end h = let e : p.records - a ≡ 0 = omega arith in rw e

  all-next : a < p.records → s.pushes < g.pushes → pushes_from column G g sc p a s ≡ pushes_from column G g sc p (a + 1) (push (column_scoring column) (path_in G sc a) s)
  unfolding push_all
  all-next h l = ap (λ (x : List (Path Float)). push_all (column_scoring column) g.pushes x s) (split h) ∙ (rw (lt-ltb s.pushes g.pushes l, push_all))

  all-full : a < p.records → g.pushes ≤ s.pushes → pushes_from column G g sc p a s ≡ full s (path_in G sc a ∷ paths_from G sc p (a + 1))
  unfolding push_all
  all-full h l = ap (λ (x : List (Path Float)). push_all (column_scoring column) g.pushes x s) (split h) ∙ (rw (le-ltb s.pushes g.pushes l, push_all))

-- ---- the loop

module _ {sc : List Float} {queue₀ : List ℕ} {g : Setting} {p₀ : Progress} {from : ℕ} (A : Pushes sc queue₀ g p₀ from) where
  pub pushing-start : Pushing sc queue₀ g p₀ from queue₀ p₀ from
  pushing-start =
      record {
        low = omega arith;
        high = A.ready.low;
        size = refl;
        counted = record { records = refl; closed = refl; next = refl; pivotal = refl; pushes = omega arith };
        each = λ G s column R. record { state = s; ready = R; left = refl };
      }

  module _ {queue : List ℕ} {p : Progress} {path : ℕ} (I : Pushing sc queue₀ g p₀ from queue p path) where
    pub pushing-one : path < p₀.records → OnePushes sc queue g p path
    pushing-one h =
        let E = I.each A.scene A.state [] A.ready in
        record {
          asks = record { scene = A.scene; state = E.state; ready = E.ready; room = omega (arith, A.room, I.size) };
          below = omega (arith, I.counted.records);
        }

    pub pushing-full : (k : ℕ) → path < p₀.records → (k ≡ 12) × (g.pushes ≤ p.pushes) → Filled sc queue₀ g p₀ from k
    pushing-full k h o =
        record {
          number = o.0;
          each =
              λ G s column R.
              (let E = I.each G s column R in
              record {
                state = E.state;
                left = path_in G sc path ∷ paths_from G sc p₀ (path + 1);
                is = sym E.left ∙ all-full column G g sc p₀ path E.state h (omega (arith, o.1, E.ready.holds.pushes));
              });
        }

    pub pushing-next : {queue' : List ℕ} {p' : Progress} → path < p₀.records → length queue' ≡ length queue → Joined sc queue g p path queue' p'
        → Pushing sc queue₀ g p₀ from queue' p' (path + 1)
    pushing-next {queue'} {p'} h l o =
        rw o.is
        (record {
          low = omega (arith, I.low);
          high = omega arith;
          size = l ∙ I.size;
          counted =
              record {
                records = I.counted.records;
                closed = I.counted.closed;
                next = I.counted.next;
                pivotal = I.counted.pivotal;
                pushes = omega (arith, I.counted.pushes, I.low);
              };
          each =
              λ G s column R.
              (let E = I.each G s column R in
              record {
                state = push (column_scoring column) (path_in G sc path) E.state;
                ready = o.each G E.state column E.ready;
                left = sym (all-next column G g sc p₀ path E.state h (omega (arith, o.free, E.ready.holds.pushes))) ∙ E.left;
              });
        })

    -- by the answer of the push
    pub pushing-refused : (r : Result Progress Refusal) (a : Refusal) (queue' : List ℕ) → r ≡ Err a → path < p₀.records → OnePushed sc queue g p path queue' r
        → AllPushed sc queue₀ g p₀ from queue' r
    pushing-refused r a queue' e h o = rw e (pushing-full (number a) h (rw e at o))

    pub pushing-on : (r : Result Progress Refusal) (p' : Progress) (queue' : List ℕ) → r ≡ Ok p' → path < p₀.records → length queue' ≡ length queue → OnePushed sc queue g p path queue' r
        → Pushing sc queue₀ g p₀ from queue' p' (path + 1)
    pushing-on r p' queue' e h l o = pushing-next h l (rw e at o)

    pub pushing-end : p₀.records ≤ path → Pushed-all sc queue₀ g p₀ from queue p
    pushing-end h =
        let z : path ≡ p₀.records = omega (arith, I.high) in
        record {
          counted =
              record {
                records = I.counted.records;
                closed = I.counted.closed;
                next = I.counted.next;
                pivotal = I.counted.pivotal;
                pushes = omega (arith, I.counted.pushes);
              };
          each =
              λ G s column R.
              (let E = I.each G s column R in
              record { state = E.state; is = sym E.left ∙ all_end column G g sc p₀ path E.state h; holds = E.ready.holds });
        }
