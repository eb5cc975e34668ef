-- Threading: every edge joins two neighbouring kmers of the run at its origin; kmers are only added at the end.
use mathlib.Core.Path.{◌≡◌, refl, sym, ap, subst, ◌∙◌}
use mathlib.Core.Logic.{◌⊎◌, inl, inr}
use Prim.Native.Nat.{ℕ, zero, suc, ◌+◌, ◌-◌, ◌≤◌, ◌<◌, Ordering}
use native.Mathlib.Omega.{arith}
use mathlib.Core.Bool.{Bool, true, false}
use mathlib.Core.List.{List, [], ◌∷◌, ◌++◌, append-nil, append_assoc}
use mathlib.Core.Option.{Option, none, some}
use lib.Dec.{leb, eqb}
use lib.ListN.{length, take, drop, get_or, length-append, length-drop, get_or-append}
use lib.Seq.{drop-cons, drop-drop}
use borrow.Author.Tests.{leb-true, leb-false, eqb-true}
use Rattle.laws.specs.Lists.{sole, last_or}
use Rattle.laws.specs.ListLaws.{All, nil, cons, Mem, all_head, all_tail, all-mono, all-zip, all_keep, all-passed, all-self, all-find, all-sole}
use Rattle.definition.specs.Limits.{Sample}
use Rattle.definition.specs.Stretch.{Stretch, kmers, stretches}
use Rattle.definition.specs.Threading.{Ends, compare_ends, Origin, Edge, Graph, Threading, leaving, entering, last_base, one_step, merge, put, number_of, with_kmer, follow, step_to, step, steps, backward, start_at, thread_kmers, thread, thread_all, threaded}
use Rattle.theorems.proofs.Kmers.{kmer-next, kmers-short, kmers-cons, placed}

-- An edge of these ends and this origin spells: the runs are those that `Src` holds of, the left kmer stands at the origin in one of them, and the
-- right kmer one place on.
pub record Spells (Src : Stretch → Type 0) (k : ℕ) (ks : List (List ℕ)) (d : Ends) (o : Origin) : Type 0 where
  pub from_in : d.from < length ks
  pub to_in : d.to < length ks
  pub run : Stretch
  pub source : Src run
  pub off : ℕ
  pub fits : off + suc k ≤ length run.bytes
  pub sequence : o.sequence ≡ run.sequence
  pub place : o.place ≡ run.place + off
  pub left : get_or ks d.from [] ≡ take k (drop off run.bytes)
  pub right : get_or ks d.to [] ≡ take k (drop (suc off) run.bytes)

-- kmers added at the end change nothing
spells-on : (Src : Stretch → Type 0) (k : ℕ) (ks more : List (List ℕ)) (d : Ends) (o : Origin) → Spells Src k ks d o → Spells Src k (ks ++ more) d o
spells-on Src k ks more d o s =
    let e : length (ks ++ more) ≡ length ks + length more = length-append ks more in
    let a : d.from < length ks = s.from_in in
    let b : d.to < length ks = s.to_in in
    record {
      from_in = omega arith;
      to_in = omega arith;
      run = s.run;
      source = s.source;
      off = s.off;
      fits = s.fits;
      sequence = s.sequence;
      place = s.place;
      left = get_or-append ks more [] d.from a ∙ s.left;
      right = get_or-append ks more [] d.to b ∙ s.right;
    }

-- the part of a run at the place of a spelling edge: a base a, and at least k more
pub record Opened (k : ℕ) (x y B : List ℕ) (off : ℕ) : Type 0 where
  pub first : ℕ
  pub rest : List ℕ
  pub long : k ≤ length rest
  pub whole : drop off B ≡ first ∷ rest
  pub left : x ≡ take k (first ∷ rest)
  pub right : y ≡ take k rest

pub opened : (k off : ℕ) (x y B : List ℕ) → off + suc k ≤ length B → x ≡ take k (drop off B) → y ≡ take k (drop (suc off) B) → Opened k x y B off
opened k off x y B h ex ey =
    let e : drop off B ≡ get_or B off 0 ∷ drop (suc off) B = drop-cons B off 0 (omega arith) in
    record {
      first = get_or B off 0;
      rest = drop (suc off) B;
      long = rw length-drop (omega arith);
      whole = e;
      left = ex ∙ ap (take k) e;
      right = ey;
    }

-- the bytes of two neighbouring kmers: the left one with the last base of the right one, or the first base with the right one
pub opened-next : {k off : ℕ} {x y B : List ℕ} → 1 ≤ k → (o : Opened k x y B off) → x ++ (last_or 0 y ∷ []) ≡ o.first ∷ y
opened-next {k} p o = rw (o.left, o.right) (kmer-next o.first k o.rest p o.long)

-- so the left kmer and the last base of the right one tell the right one
pub same_next : {k off : ℕ} {x y B : List ℕ} (a : ℕ) (M : List ℕ) → 1 ≤ k → k ≤ length M → Opened k x y B off → x ≡ take k (a ∷ M) → last_or 0 y ≡ last_or 0 (take k M) → y ≡ take k M
same_next {k} {y = y} a M p h o ex el =
    let both : o.first ∷ y ≡ a ∷ take k M = sym (opened-next p o) ∙ (rw (ex, el) (kmer-next a k M p h)) in
    cc

-- ---- counting

module _ {P : Edge → Type 0} (n : Edge) where
  pub all-put : {es : List Edge} → P n → ((e : Edge) → P e → P (merge e n)) → All P es → All P (put n es)
  unfolding put
  all-put pn pm nil = cons pn nil
  all-put pn pm (cons {x = e} {xs = es} pe ps) = go (compare_ends n.ends e.ends) refl (all-put pn pm ps)
    where
      go : (o : Ordering) → compare_ends n.ends e.ends ≡ o → All P (put n es) → All P (put n (e ∷ es))
      go Ordering.lt c ih = rw (c, put) (cons pn (cons pe ps))
      go Ordering.eq c ih = rw (c, put) (cons (pm e pe) ps)
      go Ordering.gt c ih = rw (c, put) (cons pe ih)

-- the kmers of the later graph are those of the earlier and perhaps more
pub record Growing (g h : Graph) : Type 0 where
  pub extra : List (List ℕ)
  pub grows : h.kmers ≡ g.kmers ++ extra

pub growing-self : (g : Graph) → Growing g g
growing-self g = record { extra = []; grows = sym (append-nil g.kmers) }

pub growing-on : {g h j : Graph} → Growing g h → Growing h j → Growing g j
growing-on {g} a b = record { extra = a.extra ++ b.extra; grows = b.grows ∙ (rw a.grows (append_assoc g.kmers a.extra b.extra)) }

module _ (Src : Stretch → Type 0) (k : ℕ) where
  -- an edge spells over the kmers ks
  abbrev pub SpellsOn : List (List ℕ) → Edge → Type 0
  SpellsOn ks e = Spells Src k ks e.ends e.origin

  -- What threading a run of at least k bytes does: every edge spells still, kmers are added at the end, the first kmer's first, and the last kmer has
  -- its vertex.
  pub record Run (bytes : List ℕ) (g h : Graph) : Type 0 where
    pub spelled : All (SpellsOn h.kmers) h.edges
    pub start : Growing g (start_at k (take k bytes) g).graph
    pub growing : Growing (start_at k (take k bytes) g).graph h
    pub last : ℕ
    pub inside : last < length h.kmers
    pub is : get_or h.kmers last [] ≡ last_or [] (kmers k bytes)

  put-spells : (ks : List (List ℕ)) (ref : Bool) (o : Origin) (d : Ends) {es : List Edge} → Spells Src k ks d o → All (SpellsOn ks) es
      → All (SpellsOn ks) (put (one_step ref o d) es)
  unfolding one_step merge
  put-spells ks ref o d s a = all-put (one_step ref o d) s (λ e p. p) a

  backward-spells : (ks : List (List ℕ)) (n v : ℕ) (es : List Edge) → All (SpellsOn ks) es → All (SpellsOn ks) (backward n v es)
  unfolding backward entering
  backward-spells ks zero v es a = a
  backward-spells ks (suc n) v es a = go (sole (entering es v)) refl (λ w x b. backward-spells ks n w x b)
    where
      go : (o : Option Edge) → sole (entering es v) ≡ o → ((w : ℕ) (x : List Edge) → All (SpellsOn ks) x → All (SpellsOn ks) (backward n w x))
          → All (SpellsOn ks) (backward (suc n) v es)
      go none e ih = rw (e, backward) a
      go (some x) e ih = rw (e, backward) (ih x.ends.from _ (put-spells ks false x.origin x.ends (all-sole (all_keep _ a) e) a))

  -- ---- one step

  -- threading has reached a vertex whose kmer is x, and every edge spells
  pub record Standing (t : Threading) (x : List ℕ) : Type 0 where
    pub spelled : All (SpellsOn t.graph.kmers) t.graph.edges
    pub inside : t.here < length t.graph.kmers
    pub is : get_or t.graph.kmers t.here [] ≡ x

  -- the run r, from the offset j on: a base a, then M
  module _ (1≤k : 1 ≤ k) (r : Stretch) (src : Src r) where
    step-spells : (j i a : ℕ) (M : List ℕ) → drop j r.bytes ≡ a ∷ M → i ≡ r.place + j → k ≤ length M
        → (ks : List (List ℕ)) (u v : ℕ) → u < length ks → v < length ks → get_or ks u [] ≡ take k (a ∷ M) → get_or ks v [] ≡ take k M
        → Spells Src k ks (record { from = u; to = v }) (record { sequence = r.sequence; place = i })
    step-spells j i a M w e h ks u v hu hv eu ev =
        let l : length r.bytes - j ≡ suc (length M) = sym (length-drop j r.bytes) ∙ ap length w in
        let d : drop (suc j) r.bytes ≡ M = (let n : suc j ≡ j + 1 = omega arith in rw n (sym (drop-drop 1 j r.bytes) ∙ ap (drop 1) w)) in
        record {
          from_in = hu;
          to_in = hv;
          run = r;
          source = src;
          off = j;
          fits = omega arith;
          sequence = refl;
          place = e;
          left = eu ∙ ap (take k) (sym w);
          right = ev ∙ ap (take k) (sym d);
        }

    -- the step to a vertex of the next kmer, over kmers that are those of the graph and perhaps more
    stand : (ref : Bool) (j i a : ℕ) (M : List ℕ) (t : Threading) → drop j r.bytes ≡ a ∷ M → i ≡ r.place + j → k ≤ length M → Standing t (take k (a ∷ M))
        → (ks extra : List (List ℕ)) (v : ℕ) → ks ≡ t.graph.kmers ++ extra → v < length ks → get_or ks v [] ≡ take k M
        → Standing (step_to ref (record { sequence = r.sequence; place = i }) t ks v) (take k M)
    unfolding step_to
    stand ref j i a M t w e h s ks extra v grows hv ev =
        let old : List (List ℕ) = t.graph.kmers in
        let n : length ks ≡ length old + length extra = ap length grows ∙ length-append old extra in
        let hu : t.here < length old = s.inside in
        let eu : get_or ks t.here [] ≡ take k (a ∷ M) = ap (λ (l : List (List ℕ)). get_or l t.here []) grows ∙ get_or-append old extra [] t.here hu ∙ s.is in
        record {
          spelled =
              put-spells ks ref (record { sequence = r.sequence; place = i }) (record { from = t.here; to = v })
              (step-spells j i a M w e h ks t.here v (omega arith) hv eu ev)
              (rw grows (all-mono (λ x p. spells-on Src k old extra x.ends x.origin p) s.spelled));
          inside = hv;
          is = ev;
        }

    -- an out-edge whose target ends in the last base of the next kmer leads to that kmer
    pub follow-kmer : (a : ℕ) (M : List ℕ) (t : Threading) (x : Edge) → k ≤ length M → Standing t (take k (a ∷ M))
        → follow t.graph t.here (last_or 0 (take k M)) ≡ some x → (x.ends.to < length t.graph.kmers) × (get_or t.graph.kmers x.ends.to [] ≡ take k M)
    unfolding follow leaving last_base
    follow-kmer a M t x h s u =
        let ks : List (List ℕ) = t.graph.kmers in
        let q = all-find _ (all-zip (all_keep (λ (z : Edge). eqb z.ends.from t.here) s.spelled) (all-passed (λ (z : Edge). eqb z.ends.from t.here) t.graph.edges)) u in
        let sp : Spells Src k ks x.ends x.origin = q.0.0 in
        let same : x.ends.from ≡ t.here = eqb-true x.ends.from t.here q.0.1 in
        let last : last_or 0 (get_or ks x.ends.to []) ≡ last_or 0 (take k M) = eqb-true _ _ q.1 in (
          sp.to_in,
          same_next a M 1≤k h (opened k sp.off (get_or ks x.ends.from []) (get_or ks x.ends.to []) sp.run.bytes sp.fits sp.left sp.right)
              (ap (λ (v : ℕ). get_or ks v []) same ∙ s.is) last,
        )

    pub step-standing : (ref : Bool) (j i a : ℕ) (M : List ℕ) (t : Threading) → drop j r.bytes ≡ a ∷ M → i ≡ r.place + j → k ≤ length M
        → Standing t (take k (a ∷ M))
        → Standing (step ref (record { sequence = r.sequence; place = i }) (take k M) t) (take k M)
        × Growing t.graph (step ref (record { sequence = r.sequence; place = i }) (take k M) t).graph
    unfolding step step_to
    step-standing ref j i a M t w e h s = go (follow t.graph t.here (last_or 0 (take k M))) refl
      where
        o : Origin
        o = record { sequence = r.sequence; place = i }

        Goal : Type 0
        Goal = Standing (step ref o (take k M) t) (take k M) × Growing t.graph (step ref o (take k M) t).graph

        go : (f : Option Edge) → follow t.graph t.here (last_or 0 (take k M)) ≡ f → Goal
        go none u =
            let p = placed t.graph.kmers (take k M) in
            rw (u, step) (stand ref j i a M t w e h s _ p.extra _ p.grows p.inside p.is, record { extra = p.extra; grows = p.grows })
        go (some x) u =
            let p = follow-kmer a M t x h s u in
            rw (u, step) (
              stand ref j i a M t w e h s _ [] _ (sym (append-nil t.graph.kmers)) p.0 p.1,
              record { extra = []; grows = sym (append-nil t.graph.kmers) },
            )

    steps-standing : (ref : Bool) (M : List ℕ) (j i a : ℕ) (t : Threading) → drop j r.bytes ≡ a ∷ M → i ≡ r.place + j → Standing t (take k (a ∷ M))
        → Standing (steps ref r.sequence i (kmers k M) t) (last_or (take k (a ∷ M)) (kmers k M)) × Growing t.graph (steps ref r.sequence i (kmers k M) t).graph
    unfolding steps kmers
    steps-standing ref [] j i a t w e s = (s, growing-self t.graph)
    steps-standing ref (m ∷ M) j i a t w e s = go (leb k (suc (length M))) refl (λ u. steps-standing ref M (suc j) (suc i) m u)
      where
        Goal : Type 0
        Goal =
            Standing (steps ref r.sequence i (kmers k (m ∷ M)) t) (last_or (take k (a ∷ m ∷ M)) (kmers k (m ∷ M)))
            × Growing t.graph (steps ref r.sequence i (kmers k (m ∷ M)) t).graph

        next : drop (suc j) r.bytes ≡ m ∷ M
        next = let n : suc j ≡ j + 1 = omega arith in rw n (sym (drop-drop 1 j r.bytes) ∙ ap (drop 1) w)

        go : (b : Bool) → leb k (suc (length M)) ≡ b
            → ((u : Threading) → drop (suc j) r.bytes ≡ m ∷ M → suc i ≡ r.place + suc j → Standing u (take k (m ∷ M))
            → Standing (steps ref r.sequence (suc i) (kmers k M) u) (last_or (take k (m ∷ M)) (kmers k M))
            × Growing u.graph (steps ref r.sequence (suc i) (kmers k M) u).graph)
            → Goal
        go true b ih =
            let one = step-standing ref j i a (m ∷ M) t w e (leb-true k (suc (length M)) b) s in
            let rest = ih (step ref (record { sequence = r.sequence; place = i }) (take k (m ∷ M)) t) next (omega arith) one.0 in
            rw (kmers-cons k m M (leb-true k (suc (length M)) b)) (rest.0, growing-on one.1 rest.1)
        go false b ih = rw (kmers-short k (m ∷ M) (leb-false k (suc (length M)) b)) (s, growing-self t.graph)

    -- ---- a whole run

    pub start-standing : (x : List ℕ) (g : Graph) → All (SpellsOn g.kmers) g.edges → Standing (start_at k x g) x × Growing g (start_at k x g).graph
    unfolding start_at
    start-standing x g a =
        let p = placed g.kmers x in (
          record {
            spelled = backward-spells (with_kmer g.kmers x) (k - 1) (number_of g.kmers x) g.edges
                (rw p.grows (all-mono (λ e h. spells-on Src k g.kmers p.extra e.ends e.origin h) a));
            inside = p.inside;
            is = p.is;
          },
          record { extra = p.extra; grows = p.grows },
        )

    pub thread-is : (ref : Bool) (b : ℕ) (bs : List ℕ) (g : Graph) → r.bytes ≡ b ∷ bs → k ≤ suc (length bs)
        → thread ref k r g ≡ (steps ref r.sequence r.place (kmers k bs) (start_at k (take k (b ∷ bs)) g)).graph
    unfolding thread thread_kmers
    thread-is ref b bs g e h = ap (λ (xs : List (List ℕ)). thread_kmers ref k r xs g) (ap (kmers k) e ∙ kmers-cons k b bs h)

    pub thread-run : (ref : Bool) (bs : List ℕ) (g : Graph) → r.bytes ≡ bs → k ≤ length bs → All (SpellsOn g.kmers) g.edges → Run bs g (thread ref k r g)
    thread-run ref [] g e h a = absurd (omega arith)
    thread-run ref (b ∷ bs) g e h a =
        let st = start-standing (take k (b ∷ bs)) g a in
        let z : r.place ≡ r.place + 0 = omega arith in
        let q = steps-standing ref bs 0 r.place b (start_at k (take k (b ∷ bs)) g) e z st.0 in
        subst (Run (b ∷ bs) g) (sym (thread-is ref b bs g e h))
        (record {
          spelled = q.0.spelled;
          growing = q.1;
          start = st.1;
          last = _;
          inside = q.0.inside;
          is = q.0.is ∙ (rw (kmers-cons k b bs h));
        })

    pub thread-short : (ref : Bool) (g : Graph) → length r.bytes < k → thread ref k r g ≡ g
    unfolding thread thread_kmers
    thread-short ref g h = rw (kmers-short k r.bytes h)

    -- any run: every edge spells still, and kmers are added at the end
    pub thread-spells : (ref : Bool) (g : Graph) → All (SpellsOn g.kmers) g.edges
        → All (SpellsOn (thread ref k r g).kmers) (thread ref k r g).edges × Growing g (thread ref k r g)
    thread-spells ref g a = go (leb k (length r.bytes)) refl
      where
        go : (b : Bool) → leb k (length r.bytes) ≡ b → All (SpellsOn (thread ref k r g).kmers) (thread ref k r g).edges × Growing g (thread ref k r g)
        go true e = let q = thread-run ref r.bytes g refl (leb-true k (length r.bytes) e) a in (q.spelled, growing-on q.start q.growing)
        go false e = rw (thread-short ref g (leb-false k (length r.bytes) e)) (a, growing-self g)

  pub thread_all-spells : 1 ≤ k → (rs : List Stretch) (g : Graph) → All Src rs → All (SpellsOn g.kmers) g.edges
      → All (SpellsOn (thread_all k rs g).kmers) (thread_all k rs g).edges × Growing g (thread_all k rs g)
  unfolding thread_all
  thread_all-spells p [] g s a = (a, growing-self g)
  thread_all-spells p (r ∷ rs) g s a =
      let one = thread-spells p r (all_head s) false g a in
      let rest = thread_all-spells p rs (thread false k r g) (all_tail s) one.0 in
      (rest.0, growing-on one.1 rest.1)

-- ---- the whole build

-- the reference as a run, and the runs that are threaded
abbrev pub reference_run : Sample → Stretch
reference_run i = record { sequence = 0; place = 0; bytes = i.reference }

abbrev pub RunOf : Sample → Stretch → Type 0
RunOf i r = (r ≡ reference_run i) ⊎ Mem r (stretches i)

-- The graph before the symbolic edge: every edge spells, vertex 0 is the reference's first kmer, and its last kmer has a vertex.
pub record Sound (i : Sample) (g : Graph) : Type 0 where
  pub spelled : All (SpellsOn (RunOf i) i.k g.kmers) g.edges
  pub source_in : 0 < length g.kmers
  pub source_is : get_or g.kmers 0 [] ≡ take i.k i.reference
  pub sink : ℕ
  pub sink-in : sink < length g.kmers
  pub sink-is : get_or g.kmers sink [] ≡ last_or [] (kmers i.k i.reference)

-- a vertex and its kmer stay
pub kept : {g h : Graph} (v : ℕ) → Growing g h → v < length g.kmers → (v < length h.kmers) × (get_or h.kmers v [] ≡ get_or g.kmers v [])
kept {g} {h} v w l =
    let n : length h.kmers ≡ length g.kmers + length w.extra = ap length w.grows ∙ length-append g.kmers w.extra in
    (omega arith, ap (λ (ks : List (List ℕ)). get_or ks v []) w.grows ∙ get_or-append g.kmers w.extra [] v l)

-- the first kmer that is born is vertex 0
first-born : (k : ℕ) (x : List ℕ) → (start_at k x (record { kmers = []; edges = [] })).graph.kmers ≡ x ∷ []
unfolding start_at with_kmer number_of
first-born k x = refl

pub threaded-sound : (i : Sample) → 1 ≤ i.k → i.k ≤ length i.reference → Sound i (threaded i)
unfolding threaded
threaded-sound i p h =
    let empty : Graph = record { kmers = []; edges = [] } in
    let first : Graph = (start_at i.k (take i.k i.reference) empty).graph in
    let born : first.kmers ≡ take i.k i.reference ∷ [] = first-born i.k (take i.k i.reference) in
    let q = thread-run (RunOf i) i.k p (reference_run i) (inl refl) true i.reference empty refl h nil in
    let a = thread_all-spells (RunOf i) i.k p (stretches i) (thread true i.k (reference_run i) empty) (all-mono (λ r m. inr m) (all-self (stretches i))) q.spelled in
    let source = kept 0 (growing-on q.growing a.1) (rw born (omega arith)) in
    let sink = kept q.last a.1 q.inside in
    record {
      spelled = a.0;
      source_in = source.0;
      source_is = source.1 ∙ ap (λ (ks : List (List ℕ)). get_or ks 0 []) born;
      sink = q.last;
      sink-in = sink.0;
      sink-is = sink.1 ∙ q.is;
    }
