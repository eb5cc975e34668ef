-- A step that makes records or changes the one that was taken: what waits, what has closed, and what is pivotal stay as they are.
use Rattle.std.specs.Prelude.{◌≡◌, refl, ◌⊎◌, ◌≢◌, true, false, List, map, ℕ, suc, ◌<◌, ◌≤◌, ltb, get_or, take, Float}
use Rattle.std.proofs.Common.{sym, ap, subst, ◌∙◌, inl, inr, arith, ltb-true, ltb-false}
use Rattle.std.specs.Float.{nan}
use Rattle.laws.specs.BoolLaws.{Bool-cases}
use Rattle.laws.specs.ListLaws.{All, nil, cons, all-mono}
use Rattle.laws.specs.Heaps.{nth, above}
use Rattle.definition.specs.Evidence.{Branches}
use Rattle.definition.specs.Search.{SearchInput, State}
use Rattle.path_store.specs.Cells.{parent_of}
use Rattle.path_growth.specs.Join.{Childless}
use Rattle.closed_paths.specs.Cross.{Distinct}
use Rattle.path_heap.specs.First.{leads-same}
use Rattle.path_heap.specs.Heap.{ScoreHeap, waiting, waiting-scores, waiting-all, all-waiting}
use Rattle.search_state.specs.Settings.{Setting}
use Rattle.search_state.specs.declared.Progress.{Progress}
use Rattle.search_state.specs.State.{path_of, closed_record, Records, Holds, Apart, Kept}

-- the same progress with n records
abbrev pub with_records : Progress → ℕ → Progress
with_records p n =
    record {
      records = n;
      waiting = p.waiting;
      closed = p.closed;
      next = p.next;
      pivotal = p.pivotal;
      pushes = p.pushes;
      mark = p.mark;
    }

-- functions that agree on a list's elements
pub map-agree : {A B : Type 0} (f g : A → B) {xs : List A} → All (λ x. f x ≡ g x) xs → map f xs ≡ map g xs
map-agree f g nil = refl
map-agree f g (cons h a) = rw (h, map-agree f g a)

module _ (f : SearchInput) (g : Setting) (es x index targets : List ℕ) (bs : ℕ → List Branches) (closing : ℕ → ℕ) (t : List ℕ) (sc : List Float) (ac queue closed order marks : List ℕ) (p : Progress) (s : State Float)
    (H : Holds f g es x index targets bs closing t sc ac queue closed order marks p s) (bs' : ℕ → List Branches) (t' : List ℕ) (sc' : List Float) (ac' : List ℕ) (n' r : ℕ)
    (R : Records f g es x index targets bs' t' sc' ac' n') (m : p.records ≤ n') (K : Kept f es index targets bs t sc bs' t' sc' p.records r) (A : Apart sc queue p.waiting r)
    (P : (q : ℕ) → p.records ≤ q → q < n' → parent_of t' q ≡ suc r) where
  apart : (i : ℕ) → i < p.waiting → nth queue i ≢ r
  apart = all-waiting (λ q. q ≢ r) sc queue p.waiting A

  score : (i : ℕ) → i < p.waiting → get_or sc' (nth queue i) nan ≡ get_or sc (nth queue i) nan
  score i l = K.score (nth queue i) (H.idle i l).known

  order_same : waiting sc' queue p.waiting ≡ waiting sc queue p.waiting
  order_same = waiting-scores sc sc' queue p.waiting score

  childless : (i : ℕ) → i < p.waiting → Childless t' n' (nth queue i)
  childless i l q b = go (Bool-cases (ltb q p.records))
    where
      go : (ltb q p.records ≡ true) ⊎ (ltb q p.records ≡ false) → parent_of t' q ≢ suc (nth queue i)
      go (inl k) = λ e. let h = ltb-true q p.records k in (H.idle i l).childless q h (sym (K.parent q h) ∙ e)
      go (inr k) = λ e. apart i l (let z = P q (ltb-false q p.records k) b in omega arith)

  heap : ScoreHeap sc' queue p.waiting
  heap =
      let k = H.heap in
      record {
        room = k.room;
        known = λ i l. record { there = omega (arith, (H.idle i l).known, R.held.table.scored); number = rw (score i l) (k.known i l).number };
        order = λ j a b. leads-same sc' sc (nth queue j) (nth queue (above j)) (score j b) (score (above j) (omega arith)) ∙ k.order j a b;
      }

  -- the waiting paths, as they are read from the new tables
  pub paths-kept : map (path_of f es index targets bs' t' sc') (waiting sc' queue p.waiting) ≡ map (path_of f es index targets bs t sc) (waiting sc queue p.waiting)
  paths-kept =
      ap (λ l. map (path_of f es index targets bs' t' sc') l) order_same
      ∙ map-agree (path_of f es index targets bs' t' sc') (path_of f es index targets bs t sc)
      (waiting-all (λ q. path_of f es index targets bs' t' sc' q ≡ path_of f es index targets bs t sc q) sc queue p.waiting (λ i l. K.path (nth queue i) (H.idle i l).known (apart i l)))

  pub closed-paths-kept : map (closed_record es index targets closing t' sc') (take p.closed closed) ≡ map (closed_record es index targets closing t sc) (take p.closed closed)
  closed-paths-kept =
      map-agree (closed_record es index targets closing t' sc') (closed_record es index targets closing t sc)
      (all-mono (λ q l. K.closed (closing q) q l) H.closed-known)

  pub apart-kept : Apart sc' queue p.waiting r
  apart-kept = subst (λ l. All (λ q. q ≢ r) l) (sym order_same) A

  pub holds_kept : Holds f g es x index targets bs' closing t' sc' ac' queue closed order marks (with_records p n') s
  holds_kept =
      record {
        records = R;
        heap = heap;
        idle = λ i l.
            record {
              known = omega (arith, (H.idle i l).known);
              unjoined = K.joined (nth queue i) (H.idle i l).known (apart i l) ∙ (H.idle i l).unjoined;
              childless = childless i l;
            };
        once = subst (λ l. Distinct l) (sym order_same) H.once;
        waiting = H.waiting ∙ sym paths-kept;
        closed-known = all-mono (λ q l. omega arith) H.closed-known;
        closed_is = H.closed_is ∙ sym closed-paths-kept;
        closed-room = H.closed-room;
        pivotal = H.pivotal;
        pivotal-once = H.pivotal-once;
        pivotal-known = H.pivotal-known;
        pivotal-forks = H.pivotal-forks;
        order-room = H.order-room;
        marks-room = H.marks-room;
        next_low = H.next_low;
        pushes = H.pushes;
        longest = H.longest;
        mark-fits = H.mark-fits;
        waiting-fits = H.waiting-fits;
        pushes-fit = H.pushes-fit;
      }
