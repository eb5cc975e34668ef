-- A whole stretch: its kmers as parts of the text, and the loop that keeps "what is left of the run from here is the whole run". Assumes nothing.
use Rattle.std.specs.Prelude.{◌≡◌, refl, ◌⊎◌, Bool, true, Result, Ok, Err, List, [], ◌∷◌, length, get_or, take, drop}
use Rattle.std.proofs.Math.Path.{sym}
use Rattle.std.proofs.Common.{ap, ◌∙◌, inl, inr, length-drop, take-take, drop-drop, length-take-le, le-leb, ℕ, zero, suc, ◌+◌, ◌-◌, ◌^◌, ◌<◌, ◌≤◌, arith}
use Rattle.std.proofs.Math.Option.{Option, none, some}
use Prim.Native.Nat.{Ordering}
use Rattle.std.proofs.lemmas.Bool.{lt-leb}
use Rattle.laws.specs.Lists.{last_or}
use Rattle.definition.specs.Limits.{is_base}
use Rattle.definition.specs.Stretch.{Stretch, kmers}
use Rattle.definition.specs.Threading.{Origin, Edge, Graph, Threading, compare_ends, put, follow, step_to, step, steps, start_at, thread_kmers, thread}
use Rattle.kmer_threading.specs.declared.Most.{Most}
use Rattle.kmer_threading.specs.declared.At.{At}
use Rattle.refusals.specs.declared.Refusal.{Refusal}
use Rattle.refusals.specs.Numbers.{number}
use Rattle.assembly.specs.Puts.{put-lt, put-eq, put-gt}
use Rattle.assembly.specs.Store.{graph_of}
use Rattle.assembly.specs.Kmers.{part, with-grows}
use Rattle.kmer_threading.specs.Steps.{threading_of, Fine, Came, Over, Stepped, Extends}
use Rattle.sequence_threading.specs.Starts.{Starts}

-- ---- kmers
-- n kmers of a run from its front
wins : ℕ → List ℕ → ℕ → List (List ℕ)
wins k l zero = []
wins k l (suc n) = take k l ∷ wins k (drop 1 l) n

kmers-yes : (k b : ℕ) (bs : List ℕ) → k ≤ suc (length bs) → kmers k (b ∷ bs) ≡ take k (b ∷ bs) ∷ kmers k bs
unfolding kmers
kmers-yes k b bs h = rw (le-leb k (suc (length bs)) h, kmers)

kmers-no : (k b : ℕ) (bs : List ℕ) → suc (length bs) < k → kmers k (b ∷ bs) ≡ []
unfolding kmers
kmers-no k b bs h = rw (lt-leb k (suc (length bs)) h, kmers)

kmers-wins : (k : ℕ) (l : List ℕ) (n : ℕ) → 0 < k → n ≡ length l + 1 - k → kmers k l ≡ wins k l n
unfolding kmers wins
kmers-wins k [] zero h e = refl
kmers-wins k [] (suc n) h e = absurd (omega arith)
kmers-wins k (b ∷ bs) zero h e = kmers-no k b bs (omega arith)
kmers-wins k (b ∷ bs) (suc n) h e = kmers-yes k b bs (omega arith) ∙ ap (λ (r : List (List ℕ)). take k (b ∷ bs) ∷ r) (kmers-wins k bs n h (omega arith))

-- n kmers of the text from place a on
pub pieces : ℕ → List ℕ → ℕ → ℕ → List (List ℕ)
pieces k text a zero = []
pieces k text a (suc n) = part k text a ∷ pieces k text (a + 1) n

drop-one : (l : List ℕ) (n : ℕ) → drop 1 (take (suc n) l) ≡ take n (drop 1 l)
drop-one [] zero = refl
drop-one [] (suc n) = refl
drop-one (x ∷ l) n = refl

wins-pieces : (k : ℕ) (text : List ℕ) (n a len : ℕ) → n ≡ 0 ⊎ (k + n ≤ len + 1) → wins k (take len (drop a text)) n ≡ pieces k text a n
unfolding wins pieces
wins-pieces k text zero a len h = refl
wins-pieces k text (suc n) a zero (inl h) = absurd (omega arith)
wins-pieces k text (suc n) a (suc len) (inl h) = absurd (omega arith)
wins-pieces k text (suc n) a zero (inr h) =
    let z : n ≡ 0 = omega arith in
    let y : k ≡ 0 = omega arith in
    rw (z, y)
wins-pieces k text (suc n) a (suc len) (inr h) =
    let e : drop 1 (take (suc len) (drop a text)) ≡ take len (drop (a + 1) text) = drop-one (drop a text) len ∙ ap (λ (l : List ℕ). take len l) (drop-drop 1 a text) in
    rw (e, wins-pieces k text n (a + 1) len (inr (omega arith)), take-take k (suc len) (drop a text) (omega arith))

abbrev pub origin_at : ℕ → ℕ → Origin
origin_at s p = record { sequence = s; place = p }

-- ---- the definition's thread of a stretch that lies at place a of the text
abbrev pub stretch_at : List ℕ → ℕ → ℕ → ℕ → ℕ → Stretch
stretch_at text a len sq pl = record { sequence = sq; place = pl; bytes = take len (drop a text) }

pub steps-cons : (ref : Bool) (sq i : ℕ) (x : List ℕ) (xs : List (List ℕ)) (t : Threading) → steps ref sq i (x ∷ xs) t ≡ steps ref sq (suc i) xs (step ref (origin_at sq i) x t)
unfolding steps
steps-cons ref sq i x xs t = refl

pub steps-nil : (ref : Bool) (sq i : ℕ) (t : Threading) → steps ref sq i [] t ≡ t
unfolding steps
steps-nil ref sq i t = refl

pub kmers-is : (k : ℕ) (text : List ℕ) (a len : ℕ) → 0 < k → k ≤ len → a + len ≤ length text → kmers k (take len (drop a text)) ≡ part k text a ∷ pieces k text (a + 1) (len - k)
unfolding pieces
kmers-is k text a len h l m =
    let n : length (take len (drop a text)) ≡ len = length-take-le len (drop a text) (rw (length-drop a text) (omega arith)) in
    kmers-wins k (take len (drop a text)) (suc (len - k)) h (omega arith) ∙ wins-pieces k text (suc (len - k)) a len (inr (omega arith))

pub pieces-0 : (k : ℕ) (text : List ℕ) (a : ℕ) → pieces k text a 0 ≡ []
unfolding pieces
pieces-0 k text a = refl

pub pieces-suc : (k : ℕ) (text : List ℕ) (a n : ℕ) → pieces k text a (suc n) ≡ part k text a ∷ pieces k text (a + 1) n
unfolding pieces
pieces-suc k text a n = refl

pub thread-is : (ref : Bool) (k : ℕ) (text : List ℕ) (a len sq pl : ℕ) (g : Graph) → 0 < k → k ≤ len → a + len ≤ length text
    → thread ref k (stretch_at text a len sq pl) g ≡ (steps ref sq pl (pieces k text (a + 1) (len - k)) (start_at k (part k text a) g)).graph
unfolding thread thread_kmers
thread-is ref k text a len sq pl g h l m = ap (λ (ks : List (List ℕ)). thread_kmers ref k (stretch_at text a len sq pl) ks g) (kmers-is k text a len h l m)

-- ---- graphs only grow
pub put-grows : (x : Edge) (es : List Edge) → length es ≤ length (put x es)
put-grows x [] = omega arith
put-grows x (e ∷ es) = go (compare_ends x.ends e.ends) refl (put-grows x es)
  where
    go : (o : Ordering) → compare_ends x.ends e.ends ≡ o → length es ≤ length (put x es) → suc (length es) ≤ length (put x (e ∷ es))
    go Ordering.lt c ih = rw (put-lt x e es c) (omega arith)
    go Ordering.eq c ih = rw (put-eq x e es c) (omega arith)
    go Ordering.gt c ih = rw (put-gt x e es c) (omega arith)

abbrev pub More : Graph → Graph → Type 0
More g h = (length g.kmers ≤ length h.kmers) × (length g.edges ≤ length h.edges)

step-grows : (ref : Bool) (o : Origin) (x : List ℕ) (t : Threading) → More t.graph (step ref o x t).graph
unfolding step step_to
step-grows ref o x t = go (follow t.graph t.here (last_or 0 x)) refl
  where
    go : (f : Option Edge) → follow t.graph t.here (last_or 0 x) ≡ f → More t.graph (step ref o x t).graph
    go none e = rw (e, step) (with-grows t.graph.kmers x, put-grows _ t.graph.edges)
    go (some y) e = rw (e, step) (omega arith, put-grows _ t.graph.edges)

pub steps-grow : (ref : Bool) (sq i : ℕ) (xs : List (List ℕ)) (t : Threading) → More t.graph (steps ref sq i xs t).graph
steps-grow ref sq i [] t = rw (steps-nil ref sq i t) (omega arith, omega arith)
steps-grow ref sq i (x ∷ xs) t =
    let a = step-grows ref (origin_at sq i) x t in
    let b = steps-grow ref sq (suc i) xs (step ref (origin_at sq i) x t) in
    rw (steps-cons ref sq i x xs t) ((let p = a.0 in let q = b.0 in omega arith), (let p = a.1 in let q = b.1 in omega arith))

-- ---- contracts
pub record CameG (k : ℕ) (text vs es : List ℕ) (most : Most) (s : At) (c : ℕ) (g : Graph) : Type 0 where
  pub counted : s.steps ≤ c
  pub is : graph_of k text vs s.vertices es s.edges ≡ g
  pub fine : Fine k text vs es most s

pub record OverG (most : Most) (n : ℕ) (g : Graph) : Type 0 where
  pub eight : n ≡ 8
  pub over : (most.vertices < length g.kmers) ⊎ (most.edges < length g.edges)

abbrev pub Threaded : ℕ → List ℕ → List ℕ → List ℕ → Most → ℕ → Result At Refusal → Graph → Type 0
Threaded k text vs es most c (Ok s) g = CameG k text vs es most s c g
Threaded k text vs es most c (Err e) g = OverG most (number e) g

pub over-more : (most : Most) (n : ℕ) (t : Threading) (g : Graph) → More t.graph g → Over most n t → OverG most n g
over-more most n t g m o = record { eight = o.eight; over = go o.over }
  where
    go : (most.vertices < length t.graph.kmers) ⊎ (most.edges < length t.graph.edges) → (most.vertices < length g.kmers) ⊎ (most.edges < length g.edges)
    go (inl h) = inl (let z = m.0 in omega arith)
    go (inr h) = inr (let z = m.1 in omega arith)

-- what a stretch asks: it starts as a stretch does, all its bytes are bases, and the counts that it may make fit
pub record Threads (k : ℕ) (text vs es : List ℕ) (most : Most) (s : At) (a len pl : ℕ) : Type 0 where
  pub starts : Starts k text vs es most s a
  pub long : k ≤ len
  pub inside : a + len ≤ length text
  pub bases : (i : ℕ) → i < len → is_base (get_or text (a + i) 0) ≡ true
  pub place : pl + len < 2 ^ 32
  pub steps : s.steps + k + len + 1 < 2 ^ 32

-- ---- the loop, from the tables and the state (vs₁, es₁, s₁) that the start left
abbrev pub onward : Bool → ℕ → List ℕ → ℕ → ℕ → ℕ → ℕ → List ℕ → List ℕ → At → Graph
onward ref k text a sq pl last vs es s = (steps ref sq pl (pieces k text (a + 1) last) (threading_of k text vs es s)).graph

pub record Left (ref : Bool) (k : ℕ) (text : List ℕ) (most : Most) (a sq pl last : ℕ) (vs₁ es₁ : List ℕ) (s₁ : At) (vs es : List ℕ) (s : At) (j : ℕ) : Type 0 where
  pub within : j ≤ last
  pub counted : s.steps ≤ s₁.steps + j
  pub same-v : length vs ≡ length vs₁
  pub same-e : length es ≡ length es₁
  pub fine : Fine k text vs es most s
  pub run : (steps ref sq (pl + j) (pieces k text (a + j + 1) (last - j)) (threading_of k text vs es s)).graph ≡ onward ref k text a sq pl last vs₁ es₁ s₁

pub left-start : (ref : Bool) (k : ℕ) (text : List ℕ) (most : Most) (a sq pl last : ℕ) (vs es : List ℕ) (s : At) → Fine k text vs es most s → Left ref k text most a sq pl last vs es s vs es s 0
left-start ref k text most a sq pl last vs es s f =
    let p : pl + 0 ≡ pl = omega arith in
    let q : a + 0 + 1 ≡ a + 1 = omega arith in
    let n : last - 0 ≡ last = omega arith in
    record { within = omega arith; counted = omega arith; same-v = refl; same-e = refl; fine = f; run = rw (p, q, n) }

module _ {k : ℕ} {text : List ℕ} {most : Most} {s₀ : At} {a len pl : ℕ} {vs₀ es₀ : List ℕ} (x : Threads k text vs₀ es₀ most s₀ a len pl) (ref : Bool) (sq : ℕ) where
  abbrev whole : Graph
  whole = thread ref k (stretch_at text a len sq pl) (graph_of k text vs₀ s₀.vertices es₀ s₀.edges)

  abbrev begun : Threading
  begun = start_at k (part k text a) (graph_of k text vs₀ s₀.vertices es₀ s₀.edges)

  threads-is : whole ≡ (steps ref sq pl (pieces k text (a + 1) (len - k)) begun).graph
  threads-is = thread-is ref k text a len sq pl (graph_of k text vs₀ s₀.vertices es₀ s₀.edges) x.starts.some x.long x.inside

  -- the start refuses
  pub start-stop : (vs es : List ℕ) (n : Refusal) (r : Result At Refusal) (c : ℕ) → Stepped k text vs es most (s₀.steps + k) r begun → r ≡ Err n → Threaded k text vs es most c r whole
  start-stop vs es n r c w e =
      let o : Over most (number n) begun = rw e at w in
      rw e (over-more most (number n) begun whole (rw threads-is (steps-grow ref sq pl (pieces k text (a + 1) (len - k)) begun)) o)

  -- it goes on
  pub start-next : (vs es : List ℕ) (s : At) (r : Result At Refusal) → Stepped k text vs es most (s₀.steps + k) r begun → r ≡ Ok s → Came k text vs es most s (s₀.steps + k) begun
  start-next vs es s r c e = rw e at c

  module _ {vs₁ es₁ : List ℕ} {s₁ : At} (w : Came k text vs₁ es₁ most s₁ (s₀.steps + k) begun) where
    onward-is : onward ref k text a sq pl (len - k) vs₁ es₁ s₁ ≡ whole
    onward-is = ap (λ (t : Threading). (steps ref sq pl (pieces k text (a + 1) (len - k)) t).graph) w.is ∙ sym threads-is

    module _ {vs es : List ℕ} {s : At} {j : ℕ} (b : Left ref k text most a sq pl (len - k) vs₁ es₁ s₁ vs es s j) where
      pub left_end : len - k ≤ j → Threaded k text vs es most (s₀.steps + k + len) (Ok s) whole
      unfolding pieces threading_of
      left_end h =
          let n : len - k - j ≡ 0 = omega arith in
          record {
            counted = (let z = b.counted in let y = b.within in let u = x.long in let v = w.counted in omega arith);
            is = sym (ap (λ (t : Threading). t.graph) (steps-nil ref sq (pl + j) (threading_of k text vs es s))) ∙ (rw n at b.run) ∙ onward-is;
            fine = b.fine;
          }

      module _ (l : j < len - k) where
        pub left-extends : Extends k text vs es most s (a + j + 1)
        left-extends =
            let u = x.long in
            let m = x.inside in
            let e : a + j + 1 + k - 1 ≡ a + (j + k) = omega arith in
            record {
              fine = b.fine;
              some = x.starts.some;
              inside = omega arith;
              small = x.starts.small;
              base = rw e (x.bases (j + k) (omega arith));
              steps = (let z = b.counted in let y = x.steps in let v = w.counted in omega arith);
            }

        abbrev next : Threading
        next = step ref (origin_at sq (pl + j)) (part k text (a + j + 1)) (threading_of k text vs es s)

        turn : (steps ref sq (pl + (j + 1)) (pieces k text (a + (j + 1) + 1) (len - k - (j + 1))) next).graph ≡ onward ref k text a sq pl (len - k) vs₁ es₁ s₁
        unfolding pieces
        turn =
            let n : len - k - j ≡ suc (len - k - (j + 1)) = omega arith in
            let p : pl + (j + 1) ≡ suc (pl + j) = omega arith in
            let q : a + (j + 1) + 1 ≡ a + j + 1 + 1 = omega arith in
            rw (p, q) (sym (ap (λ (t : Threading). t.graph) (steps-cons ref sq (pl + j) (part k text (a + j + 1)) (pieces k text (a + j + 1 + 1) (len - k - (j + 1))) (threading_of k text vs es s))) ∙ (rw n at b.run))

        pub left-next : (vs' es' : List ℕ) (s' : At) (r : Result At Refusal) → Stepped k text vs' es' most (s.steps + 1) r next → r ≡ Ok s' → length vs' ≡ length vs → length es' ≡ length es
            → Left ref k text most a sq pl (len - k) vs₁ es₁ s₁ vs' es' s' (j + 1)
        left-next vs' es' s' r c e lv le =
            let u : Came k text vs' es' most s' (s.steps + 1) next = rw e at c in
            record { within = omega arith; counted = (let z = u.counted in let y = b.counted in omega arith); same-v = lv ∙ b.same-v; same-e = le ∙ b.same-e; fine = u.fine; run = rw u.is turn }

        pub left-stop : (vs' es' : List ℕ) (n : Refusal) (r : Result At Refusal) (c : ℕ) → Stepped k text vs' es' most (s.steps + 1) r next → r ≡ Err n → Threaded k text vs' es' most c r whole
        left-stop vs' es' n r c u e =
            let o : Over most (number n) next = rw e at u in
            rw e (over-more most (number n) next whole (rw (← onward-is, ← turn) (steps-grow ref sq (pl + (j + 1)) (pieces k text (a + (j + 1) + 1) (len - k - (j + 1))) next)) o)
