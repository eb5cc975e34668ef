-- A run, a read and all reads: what each call asks, and the loops that keep "what is left of the threading from here is the whole". Assumes nothing.
use Rattle.std.specs.Prelude.{◌≡◌, refl, ◌⊎◌, Bool, true, false, Result, Ok, Err, List, [], ◌∷◌, ◌++◌, ℕ, zero, suc, ◌+◌, ◌-◌, ◌*◌, ◌<◌, ◌≤◌, length, get_or, take, drop}
use Rattle.std.proofs.Common.{sym, ap, ◌∙◌, inl, inr, arith, length-append, length-drop, length-take-le}
use Rattle.std.proofs.Math.Option.{Option, none, some}
use Rattle.std.proofs.Math.Seq.{drop-append-add, drop-length}
use Rattle.laws.specs.Lists.{last_or, sole}
use Rattle.usable_stretches.specs.Ahead.{from-nil, from_cons, NextEnd, next-end, later, run_inside, run-base}
use Rattle.definition.specs.Limits.{Sample, is_base, rising}
use Rattle.definition.specs.Stretch.{Stretch, usable, runs, stretches_from, kmers}
use Rattle.definition.specs.Threading.{Edge, Graph, entering, one_step, put, backward, number_of, start_at, steps, thread_kmers, thread, thread_all}
use Rattle.kmer_threading.specs.declared.Most.{Most}
use Rattle.kmer_threading.specs.declared.At.{At}
use Rattle.refusals.specs.declared.Refusal.{Refusal}
use Rattle.refusals.specs.Numbers.{number}
use Rattle.assembly.specs.Store.{graph_of}
use Rattle.assembly.specs.Kmers.{with-grows}
use Rattle.kmer_threading.specs.Steps.{Fine}
use Rattle.sequence_threading.specs.Stretches.{More, put-grows, steps-grow, CameG, OverG, Threaded, Threads, stretch_at}
use Rattle.usable_stretches.specs.Runs.{long_of, runs_at, runs_at-start, RunEnd}
use Rattle.read_threading.specs.ThreadRuns.{thread_run, run_long, run_short, all_none, all_append, thread-ahead, thread-end}

-- ---- graphs only grow
backward-grows : (n v : ℕ) (es : List Edge) → length es ≤ length (backward n v es)
unfolding backward
backward-grows zero v es = omega arith
backward-grows (suc n) v es = go (sole (entering es v)) refl (λ u l. backward-grows n u l)
  where
    go : (o : Option Edge) → sole (entering es v) ≡ o → ((u : ℕ) (l : List Edge) → length l ≤ length (backward n u l)) → length es ≤ length (backward (suc n) v es)
    go none c ih = rw (c, backward) (omega arith)
    go (some e) c ih =
        rw (c, backward)
        (let y = ih e.ends.from (put (one_step false e.origin e.ends) es) in let z = put-grows (one_step false e.origin e.ends) es in omega arith)

start-grows : (k : ℕ) (x : List ℕ) (g : Graph) → More g (start_at k x g).graph
unfolding start_at
start-grows k x g = (with-grows g.kmers x, backward-grows (k - 1) (number_of g.kmers x) g.edges)

more-trans : (f g h : Graph) → More f g → More g h → More f h
more-trans f g h a b = ((let p = a.0 in let q = b.0 in omega arith), (let p = a.1 in let q = b.1 in omega arith))

more-self : (g : Graph) → More g g
more-self g = (omega arith, omega arith)

kmers-grow : (ref : Bool) (k : ℕ) (r : Stretch) (xs : List (List ℕ)) (g : Graph) → More g (thread_kmers ref k r xs g)
unfolding thread_kmers
kmers-grow ref k r [] g = more-self g
kmers-grow ref k r (x ∷ xs) g = more-trans g (start_at k x g).graph (steps ref r.sequence r.place xs (start_at k x g)).graph (start-grows k x g) (steps-grow ref r.sequence r.place xs (start_at k x g))

pub thread-grows : (ref : Bool) (k : ℕ) (r : Stretch) (g : Graph) → More g (thread ref k r g)
unfolding thread
thread-grows ref k r g = kmers-grow ref k r (kmers k r.bytes) g

pub all-grow : (k : ℕ) (rs : List Stretch) (g : Graph) → More g (thread_all k rs g)
unfolding thread_all
all-grow k [] g = more-self g
all-grow k (r ∷ rs) g = more-trans g (thread false k r g) (thread_all k rs (thread false k r g)) (thread-grows false k r g) (all-grow k rs (thread false k r g))

pub over-on : (most : Most) (n : ℕ) (g h : Graph) → More g h → OverG most n g → OverG most n h
over-on most n g h m o = record { eight = o.eight; over = go o.over }
  where
    go : (most.vertices < length g.kmers) ⊎ (most.edges < length g.edges) → (most.vertices < length h.kmers) ⊎ (most.edges < length h.edges)
    go (inl p) = inl (let z = m.0 in omega arith)
    go (inr p) = inr (let z = m.1 in omega arith)

-- ---- a run: `steps` leaves room for all counts that the text allows, two for each byte
pub record RunThreads (k : ℕ) (text vs es : List ℕ) (most : Most) (s : At) (a len pl : ℕ) : Type 0 where
  pub fine : Fine k text vs es most s
  pub some : 0 < k
  pub inside : a + len ≤ length text
  pub small : length text ≤ 33792
  pub bases : (i : ℕ) → i < len → is_base (get_or text (a + i) 0) ≡ true
  pub place : pl ≤ a
  pub steps : s.steps + 2 * len ≤ 2 * length text

module _ {k : ℕ} {text vs es : List ℕ} {most : Most} {s : At} {a len pl : ℕ} (x : RunThreads k text vs es most s a len pl) where
  bytes : length (take len (drop a text)) ≡ len
  bytes = length-take-le len (drop a text) (rw (length-drop a text) (let z = x.inside in omega arith))

  pub run-threads : k ≤ len → Threads k text vs es most s a len pl
  run-threads l =
      let f = x.fine in
      let i = x.inside in
      let t = x.steps in
      let u = x.small in
      let p = x.place in
      let h = x.some in
      let e : a + k - 1 ≡ a + (k - 1) = omega arith in
      record {
        starts =
            record {
              good = f.good;
              vertices = f.vertices;
              edges = f.edges;
              room-v = f.room-v;
              room-e = f.room-e;
              few-v = f.few-v;
              few-e = f.few-e;
              supports = f.supports;
              some = h;
              inside = omega arith;
              small = omega arith;
              base = rw e (x.bases (k - 1) (omega arith));
              steps = omega arith;
            };
        long = l;
        inside = i;
        bases = x.bases;
        place = omega arith;
        steps = omega arith;
      }

  pub run-skip : (sq : ℕ) → len < k → Threaded k text vs es most (s.steps + 2 * len) (Ok s) (thread_run k (stretch_at text a len sq pl) (graph_of k text vs s.vertices es s.edges))
  run-skip sq l =
      record {
        counted = omega arith;
        is = sym (run_short k (stretch_at text a len sq pl) (graph_of k text vs s.vertices es s.edges) (rw bytes l));
        fine = x.fine;
      }

  pub run-done : (sq : ℕ) → k ≤ len → (vs' es' : List ℕ) (r : Result At Refusal)
      → Threaded k text vs' es' most (s.steps + k + len) r (thread false k (stretch_at text a len sq pl) (graph_of k text vs s.vertices es s.edges))
      → Threaded k text vs' es' most (s.steps + 2 * len) r (thread_run k (stretch_at text a len sq pl) (graph_of k text vs s.vertices es s.edges))
  run-done sq l vs' es' (Ok t) c =
      rw (run_long k (stretch_at text a len sq pl) (graph_of k text vs s.vertices es s.edges) (rw bytes l))
      (record { counted = (let z = c.counted in omega arith); is = c.is; fine = c.fine })
  run-done sq l vs' es' (Err n) c = rw (run_long k (stretch_at text a len sq pl) (graph_of k text vs s.vertices es s.edges) (rw bytes l)) c

-- ---- a read, from `start` to e of the bases
pub record ReadThreads (k : ℕ) (reference bases quals vs es : List ℕ) (most : Most) (s : At) (start e : ℕ) : Type 0 where
  pub fine : Fine k (reference ++ bases) vs es most s
  pub some : 0 < k
  pub order : start ≤ e
  pub in_b : e ≤ length bases
  pub in-q : e ≤ length quals
  pub small : length (reference ++ bases) ≤ 33792
  pub steps : s.steps ≤ 2 * (length reference + start)

-- what the definition makes of it
abbrev pub read_of : ℕ → ℕ → List ℕ → List ℕ → ℕ → ℕ → ℕ → List Stretch
read_of k least bases quals sq start e = long_of k (runs (usable least) sq 0 (take (e - start) (drop start bases)) (take (e - start) (drop start quals)))

pub record ReadLeft (k least : ℕ) (reference bases quals : List ℕ) (most : Most) (sq start e : ℕ) (vs₁ es₁ : List ℕ) (s₁ : At) (vs es : List ℕ) (s : At) (p : ℕ) : Type 0 where
  pub from : start ≤ p
  pub to : p ≤ e + 1
  pub counted : s.steps ≤ 2 * (length reference + p)
  pub capped : s.steps ≤ 2 * (length reference + e)
  pub same-v : length vs ≡ length vs₁
  pub same-e : length es ≡ length es₁
  pub fine : Fine k (reference ++ bases) vs es most s
  pub run :
      thread_all k (long_of k (runs_at (usable least) sq start e bases quals p)) (graph_of k (reference ++ bases) vs s.vertices es s.edges)
      ≡ thread_all k (read_of k least bases quals sq start e) (graph_of k (reference ++ bases) vs₁ s₁.vertices es₁ s₁.edges)

module _ {k : ℕ} {reference bases quals vs₁ es₁ : List ℕ} {most : Most} {s₁ : At} {start e : ℕ} (x : ReadThreads k reference bases quals vs₁ es₁ most s₁ start e) (least sq : ℕ) where
  abbrev text : List ℕ
  text = reference ++ bases

  abbrev whole : Graph
  whole = thread_all k (read_of k least bases quals sq start e) (graph_of k (reference ++ bases) vs₁ s₁.vertices es₁ s₁.edges)

  pub read-start : ReadLeft k least reference bases quals most sq start e vs₁ es₁ s₁ vs₁ es₁ s₁ start
  read-start =
      record {
        from = omega arith;
        to = (let z = x.order in omega arith);
        counted = x.steps;
        capped = (let z = x.order in let y = x.steps in omega arith);
        same-v = refl;
        same-e = refl;
        fine = x.fine;
        run = ap (λ (l : List Stretch). thread_all k (long_of k l) (graph_of k (reference ++ bases) vs₁ s₁.vertices es₁ s₁.edges)) (runs_at-start (usable least) sq start e bases quals);
      }

  module _ {vs es : List ℕ} {s : At} {p : ℕ} (b : ReadLeft k least reference bases quals most sq start e vs₁ es₁ s₁ vs es s p) where
    pub read-end : e ≤ p → Threaded k (reference ++ bases) vs es most (2 * (length reference + e)) (Ok s) whole
    read-end h =
        record {
          counted = b.capped;
          is = sym (thread-end (usable least) sq start e bases quals x.in_b x.in-q k p h (graph_of k (reference ++ bases) vs s.vertices es s.edges)) ∙ b.run;
          fine = b.fine;
        }

    module _ (l : p < e) {q : ℕ} (r : RunEnd (usable least) bases quals p e q) where
      pub read-run : RunThreads k (reference ++ bases) vs es most s (length reference + p) (q - p) (p - start)
      read-run =
          record {
            fine = b.fine;
            some = x.some;
            inside = run_inside least reference r x.in_b;
            small = x.small;
            bases = run-base least reference r;
            place = omega arith;
            steps = (let z = b.counted in let y = run_inside least reference r x.in_b in omega arith);
          }

      -- the run as the text has it is the run as the read has it
      same-run : stretch_at (reference ++ bases) (length reference + p) (q - p) sq (p - start) ≡ record { sequence = sq; place = p - start; bytes = take (q - p) (drop p bases) }
      same-run = rw (drop-append-add reference bases p)

      abbrev after : Graph
      after = thread_run k (stretch_at (reference ++ bases) (length reference + p) (q - p) sq (p - start)) (graph_of k (reference ++ bases) vs s.vertices es s.edges)

      turn : thread_all k (long_of k (runs_at (usable least) sq start e bases quals (q + 1))) after ≡ whole
      turn =
          ap (λ (t : Stretch). thread_all k (long_of k (runs_at (usable least) sq start e bases quals (q + 1))) (thread_run k t (graph_of k (reference ++ bases) vs s.vertices es s.edges))) same-run
          ∙ sym (thread-ahead (usable least) sq start e bases quals x.in_b x.in-q k p q x.some b.from l r (graph_of k (reference ++ bases) vs s.vertices es s.edges))
          ∙ b.run

      pub read_next : (vs' es' : List ℕ) (s' : At) (a : Result At Refusal) → Threaded k (reference ++ bases) vs' es' most (s.steps + 2 * (q - p)) a after → a ≡ Ok s' → length vs' ≡ length vs → length es' ≡ length es
          → ReadLeft k least reference bases quals most sq start e vs₁ es₁ s₁ vs' es' s' (q + 1)
      read_next vs' es' s' a c d lv le =
          let u : CameG k (reference ++ bases) vs' es' most s' (s.steps + 2 * (q - p)) after = rw d at c in
          let f = r.from in
          let t = r.to in
          let n = u.counted in
          let m = b.counted in
          record {
            from = (let z = b.from in omega arith);
            to = omega arith;
            counted = omega arith;
            capped = omega arith;
            same-v = lv ∙ b.same-v;
            same-e = le ∙ b.same-e;
            fine = u.fine;
            run = rw u.is turn;
          }

      pub read-stop : (vs' es' : List ℕ) (n : Refusal) (a : Result At Refusal) (c' : ℕ) → Threaded k (reference ++ bases) vs' es' most (s.steps + 2 * (q - p)) a after → a ≡ Err n → Threaded k (reference ++ bases) vs' es' most c' a whole
      read-stop vs' es' n a c' c d =
          let o : OverG most (number n) after = rw d at c in
          rw d (over-on most (number n) after whole (rw (← turn) (all-grow k (long_of k (runs_at (usable least) sq start e bases quals (q + 1))) after)) o)

-- ---- all reads
pub record ReadsThread (k : ℕ) (reference ends bases quals vs es : List ℕ) (most : Most) (s : At) : Type 0 where
  pub fine : Fine k (reference ++ bases) vs es most s
  pub some : 0 < k
  pub rises : rising 0 ends ≡ true
  pub last : last_or 0 ends ≡ length bases
  pub quals-b : length quals ≡ length bases
  pub few : length ends ≤ 512
  pub small : length (reference ++ bases) ≤ 33792
  pub steps : s.steps ≤ 2 * length reference

abbrev pub reads_of : ℕ → ℕ → List ℕ → List ℕ → List ℕ → List Stretch
reads_of k least ends bases quals = stretches_from (usable least) k 1 0 ends bases quals

pub record ReadsLeft (k least : ℕ) (reference ends bases quals : List ℕ) (most : Most) (vs₁ es₁ : List ℕ) (s₁ : At) (vs es : List ℕ) (s : At) (start j : ℕ) : Type 0 where
  pub within : j ≤ length ends
  pub rises : rising start (drop j ends) ≡ true
  pub last : last_or start (drop j ends) ≡ length bases
  pub counted : s.steps ≤ 2 * (length reference + start)
  pub same-v : length vs ≡ length vs₁
  pub same-e : length es ≡ length es₁
  pub fine : Fine k (reference ++ bases) vs es most s
  pub run :
      thread_all k (stretches_from (usable least) k (j + 1) start (drop j ends) (drop start bases) (drop start quals)) (graph_of k (reference ++ bases) vs s.vertices es s.edges)
      ≡ thread_all k (reads_of k least ends bases quals) (graph_of k (reference ++ bases) vs₁ s₁.vertices es₁ s₁.edges)

module _ {k : ℕ} {reference ends bases quals vs₁ es₁ : List ℕ} {most : Most} {s₁ : At} (x : ReadsThread k reference ends bases quals vs₁ es₁ most s₁) (least : ℕ) where
  abbrev all_of : Graph
  all_of = thread_all k (reads_of k least ends bases quals) (graph_of k (reference ++ bases) vs₁ s₁.vertices es₁ s₁.edges)

  pub reads-start : ReadsLeft k least reference ends bases quals most vs₁ es₁ s₁ vs₁ es₁ s₁ 0 0
  reads-start =
      record { within = omega arith; rises = x.rises; last = x.last; counted = (let z = x.steps in omega arith); same-v = refl; same-e = refl; fine = x.fine; run = refl }

  module _ {vs es : List ℕ} {s : At} {start j : ℕ} (b : ReadsLeft k least reference ends bases quals most vs₁ es₁ s₁ vs es s start j) where
    pub reads_end : length ends ≤ j → Threaded k (reference ++ bases) vs es most (2 * length (reference ++ bases)) (Ok s) all_of
    reads_end h =
        let e : drop j ends ≡ [] = (let z : j ≡ length ends = (let y = b.within in omega arith) in rw z (drop-length ends)) in
        record {
          counted = (let z : start ≡ length bases = rw e at b.last in let y = b.counted in let u = length-append reference bases in omega arith);
          is =
              sym (all_none k (graph_of k (reference ++ bases) vs s.vertices es s.edges))
              ∙ ap (λ (l : List Stretch). thread_all k l (graph_of k (reference ++ bases) vs s.vertices es s.edges)) (sym (from-nil (usable least) k (j + 1) start (drop start bases) (drop start quals)))
              ∙ (rw e at b.run);
          fine = b.fine;
        }

    module _ (l : j < length ends) (e : ℕ) (he : e ≡ get_or ends j 0) where
      next : NextEnd ends (length bases) start j e
      next = next-end ends (length bases) start j e b.rises b.last l he

      pub reads-read : ReadThreads k reference bases quals vs es most s start e
      reads-read =
          record {
            fine = b.fine;
            some = x.some;
            order = next.order;
            in_b = next.inside;
            in-q = (let z = x.quals-b in let y = next.inside in omega arith);
            small = x.small;
            steps = b.counted;
          }

      abbrev read : Graph
      read = thread_all k (read_of k least bases quals (j + 1) start e) (graph_of k (reference ++ bases) vs s.vertices es s.edges)

      onward : thread_all k (stretches_from (usable least) k (j + 1 + 1) e (drop (j + 1) ends) (drop e bases) (drop e quals)) read ≡ all_of
      onward =
          let n : j + 1 + 1 ≡ suc (j + 1) = omega arith in
          rw (n, ← later start e bases next.order, ← later start e quals next.order)
          (sym (all_append k (read_of k least bases quals (j + 1) start e) (stretches_from (usable least) k (suc (j + 1)) e (drop (j + 1) ends) (drop (e - start) (drop start bases)) (drop (e - start) (drop start quals))) (graph_of k (reference ++ bases) vs s.vertices es s.edges))
          ∙ ap (λ (l : List Stretch). thread_all k l (graph_of k (reference ++ bases) vs s.vertices es s.edges)) (sym (from_cons (usable least) k (j + 1) start e (drop (j + 1) ends) (drop start bases) (drop start quals)))
          ∙ (rw next.split at b.run))

      pub reads-next : (vs' es' : List ℕ) (s' : At) (a : Result At Refusal) → Threaded k (reference ++ bases) vs' es' most (2 * (length reference + e)) a read → a ≡ Ok s' → length vs' ≡ length vs → length es' ≡ length es
          → ReadsLeft k least reference ends bases quals most vs₁ es₁ s₁ vs' es' s' e (j + 1)
      reads-next vs' es' s' a c d lv le =
          let u : CameG k (reference ++ bases) vs' es' most s' (2 * (length reference + e)) read = rw d at c in
          record {
            within = omega arith;
            rises = next.rises;
            last = next.last;
            counted = u.counted;
            same-v = lv ∙ b.same-v;
            same-e = le ∙ b.same-e;
            fine = u.fine;
            run = rw u.is onward;
          }

      pub reads-stop : (vs' es' : List ℕ) (n : Refusal) (a : Result At Refusal) (c' : ℕ) → Threaded k (reference ++ bases) vs' es' most (2 * (length reference + e)) a read → a ≡ Err n
          → Threaded k (reference ++ bases) vs' es' most c' a all_of
      reads-stop vs' es' n a c' c d =
          let o : OverG most (number n) read = rw d at c in
          rw d (over-on most (number n) read all_of (rw (← onward) (all-grow k (stretches_from (usable least) k (j + 1 + 1) e (drop (j + 1) ends) (drop e bases) (drop e quals)) read)) o)

-- ---- the same of a whole sample
abbrev pub read_in : Sample → ℕ → ℕ → ℕ → List Stretch
read_in i sq start e = read_of i.k i.quality i.bases i.qualities sq start e

abbrev pub reads_in : Sample → List Stretch
reads_in i = reads_of i.k i.quality i.ends i.bases i.qualities

abbrev pub ReadOf : Sample → List ℕ → List ℕ → Most → At → ℕ → ℕ → Type 0
ReadOf i vs es most s start e = ReadThreads i.k i.reference i.bases i.qualities vs es most s start e

abbrev pub ReadsOf : Sample → List ℕ → List ℕ → Most → At → Type 0
ReadsOf i vs es most s = ReadsThread i.k i.reference i.ends i.bases i.qualities vs es most s
