-- (C) Paths spell their origins: a row's bases begin and end as the reference does, and each edge's k + 1 bases are the bytes at its origin.
use mathlib.Core.Path.{◌≡◌, refl, sym, ap, ◌∙◌}
use mathlib.Core.Logic.{◌⊎◌, inl, inr}
use Prim.Native.Nat.{ℕ, zero, suc, ◌+◌, ◌-◌, ◌≤◌, ◌<◌, min}
use native.Mathlib.Omega.{arith}
use mathlib.Core.Bool.{Bool, true, false, ◌&&◌}
use mathlib.Core.List.{List, [], ◌∷◌, ◌++◌, map, append-nil, append_assoc}
use mathlib.Core.Option.{Option, none, some}
use lib.Dec.{leb}
use lib.ListN.{length, take, drop, get_or, length-append, length-map, length-take, length-drop}
use lib.Seq.{drop-drop, length-take-le, take_all, take_at}
use borrow.Author.Tests.{le-leb, leb-true}
use Rattle.laws.specs.Lists.{find, last_or}
use Rattle.laws.specs.ListLaws.{part-part, clash, and_left, and_right, All, nil, cons, Mem, here, there, all_head, all_tail, all-mono, all_map, all-mem, all-find}
use Rattle.definition.specs.Refusal.{ok}
use Rattle.definition.specs.Score.{Scoring}
use Rattle.definition.specs.Limits.{Sample, GraphMaxima, Input, is_base}
use Rattle.definition.specs.Stretch.{Stretch, usable, kmers}
use Rattle.definition.specs.Threading.{Ends, eq_ends, Origin, Edge, Graph, last_base, merge, threaded, sink_of, symbolic_of, with_symbolic}
use Rattle.definition.specs.Evidence.{nodes, evidence}
use Rattle.definition.specs.Search.{Closed, end_from}
use Rattle.definition.specs.Building.{Built, built_of, built}
use Rattle.definition.specs.Listing.{search_input, Row, path_bases, origin_at, row_of}
use Rattle.definition.specs.Origins.{read_at, sequence_in, bytes_in, bytes_at}
use Rattle.definition.specs.Promises.{UsableAt, InOneStretch, InReference}
use Rattle.theorems.proofs.Maximal.{Maximal}
use Rattle.theorems.proofs.Order.{Keeps}
use Rattle.theorems.proofs.Walks.{eq_ends-true, eq_ends-self, refused-ok, Has, Linked, GoodClosed}
use Rattle.theorems.proofs.Kmers.{kmers-last, number_in, number_is}
use Rattle.theorems.proofs.Stretches.{InRead, stretches-inside}
use Rattle.theorems.proofs.Spelling.{Spells, Opened, opened, opened-next, all-put, SpellsOn, RunOf, Sound, threaded-sound}
use Rattle.theorems.proofs.Found.{Listing, all_listed, found-good}

-- ---- the bytes at an origin

part_of : (m off at : ℕ) (read bytes : List ℕ) → take (length bytes) (drop at read) ≡ bytes → off + m ≤ length bytes
    → take m (drop (at + off) read) ≡ take m (drop off bytes)
part_of m off at read bytes e h =
    ap (take m) (sym (drop-drop off at read)) ∙ sym (part-part m (length bytes) off (drop at read) h) ∙ ap (λ (l : List ℕ). take m (drop off l)) e

-- "in the reference or inside one usable stretch of the read named"
abbrev pub Lies : Sample → Origin → Type 0
Lies i o = InReference i o ⊎ InOneStretch i o

-- each byte has a quality
abbrev Even : Sample → Type 0
Even i = length i.qualities ≡ length i.bases

bytes-found : (i : Sample) (o : Origin) (bs : List ℕ) → sequence_in i.reference i.ends i.bases o.sequence ≡ some bs → o.place + suc i.k ≤ length bs
    → bytes_at i o ≡ ok (take (suc i.k) (drop o.place bs))
unfolding bytes_in
bytes-found i o bs e h = rw (e, bytes_in, le-leb (o.place + suc i.k) (length bs) h)

-- a read has as many qualities as bytes
read-even : (n start : ℕ) (ends bs qs : List ℕ) {read quality : List ℕ} → length qs ≡ length bs → read_at n start ends bs ≡ some read → read_at n start ends qs ≡ some quality
    → length quality ≡ length read
unfolding read_at
read-even n start [] bs qs l e f = let z : ◌≡◌ {A = ℕ} 0 1 = cc in absurd (omega arith)
read-even zero start (x ∷ xs) bs qs {read} {quality} l e f =
    let r : take (x - start) bs ≡ read = cc in
    let q : take (x - start) qs ≡ quality = cc in
    ap length (sym q) ∙ length-take (x - start) qs ∙ ap (λ (n : ℕ). min (x - start) n) l ∙ sym (length-take (x - start) bs) ∙ ap length r
read-even (suc n) start (x ∷ xs) bs qs l e f = read-even n x xs (drop (x - start) bs) (drop (x - start) qs) (length-drop (x - start) qs ∙ ap (λ (m : ℕ). m - (x - start)) l ∙ sym (length-drop (x - start) bs)) e f

-- what the rule for a usable byte says
usable_at : (i : Sample) (read quality : List ℕ) (p : ℕ) → usable i.quality (get_or read p 0) (get_or quality p 0) ≡ true → UsableAt i read quality p
unfolding usable
usable_at i read quality p e =
    let b : is_base (get_or read p 0) ≡ true = and_left (is_base (get_or read p 0)) (leb i.quality (get_or quality p 0)) e in
    (b, leb-true i.quality (get_or quality p 0) (and_right (is_base (get_or read p 0)) (leb i.quality (get_or quality p 0)) e))

unusable-at : (i : Sample) (read quality : List ℕ) (p : ℕ) → usable i.quality (get_or read p 0) (get_or quality p 0) ≡ false → UsableAt i read quality p → ⊥
unfolding usable
unusable-at i read quality p e u = clash ((rw (u.0, le-leb i.quality (get_or quality p 0) u.1) at e))

-- a place inside a stretch lies inside one usable stretch of the read named
in-stretch : (i : Sample) (o : Origin) (r : Stretch) → Even i → InRead (usable i.quality) 1 0 i.ends i.bases i.qualities r → o.sequence ≡ r.sequence
    → r.place ≤ o.place → o.place + suc i.k ≤ r.place + length r.bytes → InOneStretch i o
in-stretch i o r even a s low high =
    let w = a.inside in
    let q : r.place ≡ 0 + w.off = w.place in
    let n : 1 + a.number ≡ suc a.number = omega arith in
    record {
      number = a.number;
      named = s ∙ a.sequence ∙ n;
      read = a.read;
      qualities = a.quality;
      is_read = a.is;
      is-qualities = a.qualities;
      first = r.place;
      past = r.place + length r.bytes;
      in-read = (let f : w.off + length r.bytes ≤ length a.read = w.fits in omega arith);
      usable = each;
      starts = starts m.starts;
      stops = stops (m.stops (r.place + length r.bytes) (omega arith));
      from = low;
      upto = high;
    }
  where
    m : Maximal (usable i.quality) 0 a.read a.quality r
    m = a.maximal (read-even a.number 0 i.ends i.bases i.qualities even a.is a.qualities)

    each : (p : ℕ) → r.place ≤ p → p < r.place + length r.bytes → UsableAt i a.read a.quality p
    each p l h =
        let q : r.place ≡ 0 + a.inside.off = a.inside.place in
        let e : a.inside.off + (p - a.inside.off) ≡ p = omega arith in
        usable_at i a.read a.quality p (rw e at (a.inside.passes (p - a.inside.off) (omega arith)))

    starts : (r.place ≡ 0) ⊎ ((p : ℕ) × (r.place ≡ 0 + suc p) × (usable i.quality (get_or a.read p 0) (get_or a.quality p 0) ≡ false))
        → (r.place ≡ 0) ⊎ ((p : ℕ) × (r.place ≡ suc p) × (UsableAt i a.read a.quality p → ⊥))
    starts (inl e) = inl e
    starts (inr (p, e, f)) = inr (p, omega arith, unusable-at i a.read a.quality p f)

    stops : (r.place + length r.bytes ≡ length a.read) ⊎ (usable i.quality (get_or a.read (r.place + length r.bytes) 0) (get_or a.quality (r.place + length r.bytes) 0) ≡ false)
        → (r.place + length r.bytes ≡ length a.read) ⊎ (UsableAt i a.read a.quality (r.place + length r.bytes) → ⊥)
    stops (inl e) = inl e
    stops (inr f) = inr (unusable-at i a.read a.quality (r.place + length r.bytes) f)

-- the bytes at the origin of a spelling edge are those of its run
run-bytes : (i : Sample) (o : Origin) (r : Stretch) (off : ℕ) → Even i → RunOf i r → off + suc i.k ≤ length r.bytes → o.sequence ≡ r.sequence → o.place ≡ r.place + off
    → (bytes_at i o ≡ ok (take (suc i.k) (drop off r.bytes))) × Lies i o
unfolding sequence_in
run-bytes i o r off even (inl e) h s p =
    let s0 : o.sequence ≡ 0 = s ∙ ap (λ (x : Stretch). x.sequence) e in
    let p0 : r.place ≡ 0 = ap (λ (x : Stretch). x.place) e in
    let q : o.place ≡ off = omega arith in
    let b : r.bytes ≡ i.reference = ap (λ (x : Stretch). x.bytes) e in
    let h' : off + suc i.k ≤ length i.reference = rw b at h in
    (rw (b, ← q) (bytes-found i o i.reference (rw s0) (omega arith)), inl (record { named = s0; upto = omega arith }))
run-bytes i o r off even (inr m) h s p =
    let a : InRead (usable i.quality) 1 0 i.ends i.bases i.qualities r = all-mem (stretches-inside i) m in
    let w = a.inside in
    let n : o.sequence ≡ suc a.number = (let z : 1 + a.number ≡ suc a.number = omega arith in s ∙ a.sequence ∙ z) in
    let pl : r.place ≡ 0 + w.off = w.place in
    let q : o.place ≡ w.off + off = omega arith in
    let f : w.off + length r.bytes ≤ length a.read = w.fits in (
      bytes-found i o a.read (rw n a.is) (omega arith)
          ∙ ap (λ (x : ℕ). ok (take (suc i.k) (drop x a.read))) q
          ∙ ap ok (part_of (suc i.k) off w.off a.read r.bytes w.bytes h),
      inr (in-stretch i o r even a s (omega arith) (omega arith)),
    )

-- ---- a path of spelling edges

module _ (i : Sample) (ks : List (List ℕ)) (es : List Edge) (1≤k : 1 ≤ i.k) where
  -- linked edges from v, each of which spells
  abbrev pub Spelt : ℕ → List Ends → Type 0
  Spelt v [] = Unit {0}
  Spelt v (d ∷ ds) = Spells (RunOf i) i.k ks d (origin_at es d) × (d.from ≡ v) × Spelt d.to ds

  -- the bases of such a path: the kmer of v, then the last base of each vertex reached
  abbrev bases_from : ℕ → List Ends → List ℕ
  bases_from v ds = get_or ks v [] ++ map (λ (e : Ends). last_base ks e.to) ds

  open-edge : (d : Ends) (o : Origin) → (s : Spells (RunOf i) i.k ks d o) → Opened i.k (get_or ks d.from []) (get_or ks d.to []) s.run.bytes s.off
  open-edge d o s = opened i.k s.off (get_or ks d.from []) (get_or ks d.to []) s.run.bytes s.fits s.left s.right

  -- the bases of a path are its first base and those of the path behind its first edge
  bases-step : (v : ℕ) (d : Ends) (ds : List Ends) (o : Origin) (s : Spells (RunOf i) i.k ks d o) → d.from ≡ v
      → bases_from v (d ∷ ds) ≡ (open-edge d o s).first ∷ bases_from d.to ds
  unfolding last_base
  bases-step v d ds o s e =
      let rest : List ℕ = map (λ (e : Ends). last_base ks e.to) ds in
      rw (← e)
      (sym (append_assoc (get_or ks d.from []) (last_or 0 (get_or ks d.to []) ∷ []) rest) ∙ ap (λ (l : List ℕ). l ++ rest) (opened-next 1≤k (open-edge d o s)))

  to-length : (d : Ends) (o : Origin) → Spells (RunOf i) i.k ks d o → length (get_or ks d.to []) ≡ i.k
  to-length d o s = let w = open-edge d o s in ap length w.right ∙ length-take-le i.k w.rest w.long

  -- the path ends with the kmer of its last vertex
  path-end : (v : ℕ) (ds : List Ends) → Spelt v ds → drop (length ds) (bases_from v ds) ≡ get_or ks (end_from v ds) []
  unfolding end_from
  path-end v [] p = append-nil (get_or ks v [])
  path-end v (d ∷ ds) p = rw (bases-step v d ds (origin_at es d) p.0 p.1) (path-end d.to ds p.2)

  -- the k + 1 bases of the first edge are the bytes at its origin
  first-bytes : Even i → (v : ℕ) (d : Ends) (ds : List Ends) (o : Origin) → Spells (RunOf i) i.k ks d o → d.from ≡ v
      → (bytes_at i o ≡ ok (take (suc i.k) (bases_from v (d ∷ ds)))) × Lies i o
  first-bytes even v d ds o s e =
      let w = open-edge d o s in
      let q = run-bytes i o s.run s.off even s.source s.fits s.sequence s.place in
      let a : take (suc i.k) (drop s.off s.run.bytes) ≡ w.first ∷ get_or ks d.to [] = ap (take (suc i.k)) w.whole ∙ ap (λ (l : List ℕ). w.first ∷ l) (sym w.right) in
      let b : take i.k (bases_from d.to ds) ≡ get_or ks d.to [] = take_at (get_or ks d.to []) _ i.k (to-length d o s) in
      let c : take (suc i.k) (bases_from v (d ∷ ds)) ≡ w.first ∷ get_or ks d.to [] =
      ap (take (suc i.k)) (bases-step v d ds o s e) ∙ ap (λ (l : List ℕ). w.first ∷ l) b in
      (q.0 ∙ ap ok (a ∙ sym c), q.1)

  edge-bytes : Even i → (o₀ : Origin) (v : ℕ) (ds : List Ends) (j : ℕ) → Spelt v ds → j < length ds
      → (bytes_at i (get_or (map (origin_at es) ds) j o₀) ≡ ok (take (suc i.k) (drop j (bases_from v ds)))) × Lies i (get_or (map (origin_at es) ds) j o₀)
  edge-bytes even o₀ v [] j p h = absurd (omega arith)
  edge-bytes even o₀ v (d ∷ ds) zero p h = first-bytes even v d ds (origin_at es d) p.0 p.1
  edge-bytes even o₀ v (d ∷ ds) (suc j) p h = rw (bases-step v d ds (origin_at es d) p.0 p.1) (edge-bytes even o₀ d.to ds j p.2 (omega arith))

-- ---- the edges of the table

-- an edge of the table spells, or is the symbolic one
abbrev Known : Sample → Graph → Edge → Type 0
Known i g e = SpellsOn (RunOf i) i.k g.kmers e ⊎ (e.ends ≡ symbolic_of i g)

table-known : (i : Sample) (g : Graph) → Sound i g → All (Known i g) (with_symbolic i g)
unfolding with_symbolic merge
table-known i g s = all-put _ (inr refl) (λ e p. p) (all-mono (λ e h. inl h) s.spelled)

-- the sink is a vertex before the symbolic one, and its kmer is the reference's last
pub sink-in : (i : Sample) (g : Graph) → Sound i g → sink_of i g < length g.kmers
unfolding sink_of
sink-in i g s = number_in g.kmers (last_or [] (kmers i.k i.reference)) s.sink s.sink-in s.sink-is

sink-is : (i : Sample) (g : Graph) → Sound i g → get_or g.kmers (sink_of i g) [] ≡ last_or [] (kmers i.k i.reference)
unfolding sink_of
sink-is i g s = number_is g.kmers (last_or [] (kmers i.k i.reference)) (sink-in i g s)

-- every edge of the table leaves a vertex before the symbolic one
leaves_in : (i : Sample) (g : Graph) (d : Ends) → Sound i g → Has (with_symbolic i g) d → d.from < length g.kmers
unfolding Has symbolic_of
leaves_in i g d s (x, m, e) = go (all-mem (table-known i g s) m)
  where
    go : Known i g x → d.from < length g.kmers
    go (inl h) = rw (← e) h.from_in
    go (inr h) = let f : d.from ≡ sink_of i g = ap (λ (z : Ends). z.from) (sym e ∙ h) in rw f (sink-in i g s)

-- so a path that ends before the symbolic vertex never enters it
pub enters-in : (i : Sample) (g : Graph) (v : ℕ) (ds : List Ends) → Sound i g → Linked (with_symbolic i g) v ds → end_from v ds < length g.kmers
    → All (λ d. d.to < length g.kmers) ds
unfolding end_from
enters-in i g v [] s l h = nil
enters-in i g v (d ∷ []) s l h = cons h nil
enters-in i g v (d ∷ e ∷ ds) s l h = cons {x = d} (rw (← l.2.1) (leaves_in i g e s l.2.0)) (enters-in i g d.to (e ∷ ds) s l.2 h)

-- Every edge but the symbolic one spells: the k + 1 bytes at its origin are its left kmer and the last base of its right one, and they lie in the
-- reference or inside one usable stretch of the read named.
pub edges-spelled : (i : Sample) → 1 ≤ i.k → i.k ≤ length i.reference → length i.qualities ≡ length i.bases
    → All (λ e. (bytes_at i e.origin ≡ ok (get_or (threaded i).kmers e.ends.from [] ++ (last_base (threaded i).kmers e.ends.to ∷ []))) × Lies i e.origin) (threaded i).edges
edges-spelled i p h even = all-mono one (threaded-sound i p h).spelled
  where
    ks : List (List ℕ)
    ks = (threaded i).kmers

    -- the left kmer has k bases
    long : (e : Edge) (s : SpellsOn (RunOf i) i.k ks e) → length (get_or ks e.ends.from [] ++ (last_base ks e.ends.to ∷ [])) ≡ suc i.k
    long e s =
        let w = open-edge i ks [] p e.ends e.origin s in
        let l : i.k ≤ length w.rest = w.long in
        let n : length (get_or ks e.ends.from []) ≡ i.k = ap length w.left ∙ length-take-le i.k (w.first ∷ w.rest) (omega arith) in
        length-append (get_or ks e.ends.from []) (last_base ks e.ends.to ∷ []) ∙ (omega arith)

    one : (e : Edge) → SpellsOn (RunOf i) i.k ks e
        → (bytes_at i e.origin ≡ ok (get_or ks e.ends.from [] ++ (last_base ks e.ends.to ∷ []))) × Lies i e.origin
    one e s =
        let q = first-bytes i ks [] p even e.ends.from e.ends [] e.origin s refl in
        (q.0 ∙ ap ok (take_all (suc i.k) (get_or ks e.ends.from [] ++ (last_base ks e.ends.to ∷ [])) (let z = long e s in omega arith)), q.1)

-- The edges of a closed path are no symbolic edge.
pub no-symbolic : (i : Sample) (g : Graph) (v : ℕ) (ds : List Ends) → Sound i g → Linked (with_symbolic i g) v ds → end_from v ds ≡ sink_of i g
    → All (λ d. d ≡ symbolic_of i g → ⊥) ds
unfolding symbolic_of
no-symbolic i g v ds s l e =
    all-mono (λ d h q. (let t : d.to ≡ length g.kmers = ap (λ (z : Ends). z.to) q in omega arith)) (enters-in i g v ds s l (rw e (sink-in i g s)))

-- an edge that the table has is found in it
find-has : (es : List Edge) (d : Ends) → Has es d → find (λ (x : Edge). eq_ends d x.ends) es ≡ none → ⊥
unfolding Has
find-has [] d (x, m, e) f = elim m [ ]
find-has (y ∷ ys) d (x, m, e) f = go (eq_ends d y.ends) refl m (λ k. find-has ys d (x, k, e))
  where
    go : (b : Bool) → eq_ends d y.ends ≡ b → Mem x (y ∷ ys) → (Mem x ys → find (λ (x : Edge). eq_ends d x.ends) ys ≡ none → ⊥) → ⊥
    go true u k ih = let h : some y ≡ none = rw (u, find) at f in let z : ◌≡◌ {A = ℕ} 0 1 = cc in omega arith
    go false u (here w) ih = clash (sym (eq_ends-self d) ∙ ap (eq_ends d) (sym e ∙ ap (λ (z : Edge). z.ends) w) ∙ u)
    go false u (there k) ih = ih k (rw (u, find) at f)

-- an edge of the table that enters no symbolic vertex spells, with the origin that the table gives it
edge-spells : (i : Sample) (g : Graph) (d : Ends) → Sound i g → Has (with_symbolic i g) d → d.to < length g.kmers
    → Spells (RunOf i) i.k g.kmers d (origin_at (with_symbolic i g) d)
unfolding origin_at symbolic_of
edge-spells i g d s m h = go (find (λ (x : Edge). eq_ends d x.ends) (with_symbolic i g)) refl
  where
    known : (x : Edge) → Known i g x → eq_ends d x.ends ≡ true → Spells (RunOf i) i.k g.kmers d x.origin
    known x (inl k) e = rw (eq_ends-true d x.ends e) k
    known x (inr k) e = let f : d.to ≡ length g.kmers = ap (λ (z : Ends). z.to) (eq_ends-true d x.ends e ∙ k) in absurd (omega arith)

    go : (o : Option Edge) → find (λ (x : Edge). eq_ends d x.ends) (with_symbolic i g) ≡ o → Spells (RunOf i) i.k g.kmers d (origin_at (with_symbolic i g) d)
    go none u = absurd (find-has (with_symbolic i g) d m u)
    go (some x) u = let q = all-find _ (table-known i g s) u in rw (u, origin_at) (known x q.0 q.1)

pub spelt-path : (i : Sample) (g : Graph) (p : 1 ≤ i.k) (v : ℕ) (ds : List Ends) → Sound i g → Linked (with_symbolic i g) v ds → All (λ d. d.to < length g.kmers) ds
    → Spelt i g.kmers (with_symbolic i g) p v ds
spelt-path i g p v [] s l a = tt
spelt-path i g p v (d ∷ ds) s l a = (edge-spells i g d s l.0 (all_head a), l.1, spelt-path i g p d.to ds s l.2 (all_tail a))

-- ---- rows

-- what Promises.Spelled says of a row, before the origin call's own checks
pub record SpelledRow {S : Type 0} (i : Sample) (r : Row S) : Type 0 where
  pub bases-length : length r.bases ≡ i.k + r.edges
  pub origins-length : length r.origins ≡ r.edges
  pub begins : take i.k r.bases ≡ take i.k i.reference
  pub finishes : drop r.edges r.bases ≡ drop (length i.reference - i.k) i.reference
  pub spells : (o₀ : Origin) (j : ℕ) → j < r.edges → bytes_at i (get_or r.origins j o₀) ≡ ok (take (suc i.k) (drop j r.bases))
  pub lies : (o₀ : Origin) (j : ℕ) → j < r.edges → Lies i (get_or r.origins j o₀)

row-spelled : {S : Type 0} (Fine : S → Type 0) (x : Input) (g : Graph) (b : Built) (c : Closed S) → 1 ≤ x.sample.k → x.sample.k ≤ length x.sample.reference
    → Even x.sample → Sound x.sample g → b.graph ≡ g → b.edges ≡ with_symbolic x.sample g → GoodClosed Fine (search_input x b) c → SpelledRow x.sample (row_of b c)
unfolding row_of path_bases search_input
row-spelled Fine x g b c p h even s eg ee gc =
    let i = x.sample in
    let l : Linked (with_symbolic i g) 0 c.edges = rw ee at gc.linked in
    let z : end_from 0 c.edges ≡ sink_of i g = rw eg at gc.at_sink in
    let n : length (get_or g.kmers 0 []) ≡ i.k = ap length s.source_is ∙ length-take-le i.k i.reference h in
    let q : Spelt i g.kmers (with_symbolic i g) p 0 c.edges = spelt-path i g p 0 c.edges s l (enters-in i g 0 c.edges s l (rw z (sink-in i g s))) in
    rw (eg, ee)
    (record {
      bases-length = rw (length-append, n, length-map);
      origins-length = length-map c.edges (origin_at (with_symbolic i g));
      begins = take_at (get_or g.kmers 0 []) _ i.k n ∙ s.source_is;
      finishes = path-end i g.kmers (with_symbolic i g) p 0 c.edges q ∙ (rw (z, sink-is i g s) (kmers-last i.k [] i.reference p h));
      spells = λ o₀ j w. (edge-bytes i g.kmers (with_symbolic i g) p even o₀ 0 c.edges j q w).0;
      lies = λ o₀ j w. (edge-bytes i g.kmers (with_symbolic i g) p even o₀ 0 c.edges j q w).1;
    })

-- what was built is the threaded graph with the symbolic edge, and its trees
pub built-is : (i : Sample) (m : GraphMaxima) (b : Built) → built i m ≡ ok b
    → (b.graph ≡ threaded i) × (b.edges ≡ with_symbolic i (threaded i)) × (b.trees ≡ evidence i (threaded i))
unfolding built built_of
built-is i m b e = go (leb (suc (length g.kmers)) m.vertices && leb (length (with_symbolic i g)) m.edges) (leb (length (nodes (evidence i g))) m.nodes) refl refl
  where
    g : Graph
    g = threaded i

    go : (x y : Bool) → (leb (suc (length g.kmers)) m.vertices && leb (length (with_symbolic i g)) m.edges) ≡ x
        → leb (length (nodes (evidence i g))) m.nodes ≡ y → (b.graph ≡ g) × (b.edges ≡ with_symbolic i g) × (b.trees ≡ evidence i g)
    go false y u w = refused-ok (rw (u, built_of) at e)
    go true false u w = refused-ok (rw (u, built_of, w) at e)
    go true true u w =
        let h : ok (record { graph = g; edges = with_symbolic i g; trees = evidence i g }) ≡ ok b = rw (u, built_of, w) at e in
        let same : b ≡ record { graph = g; edges = with_symbolic i g; trees = evidence i g } = cc in
        (ap (λ (x : Built). x.graph) same, ap (λ (x : Built). x.edges) same, ap (λ (x : Built). x.trees) same)

-- Every row of a list spells its origins.
pub spelled-listing : {S : Type 0} {𝓢 : Scoring S} {Fine : S → Type 0} → Keeps 𝓢 Fine → (i : Input) (rows : List (Row S)) (p q : ℕ) → 1 ≤ i.sample.k
    → i.sample.k ≤ length i.sample.reference → Even i.sample → Listing 𝓢 i rows p q → All (SpelledRow i.sample) rows
spelled-listing K i rows p q one long even (inl h) = rw h.1 nil
spelled-listing {𝓢 = 𝓢} {Fine = Fine} K i rows p q one long even (inr h) =
    let is = built-is i.sample i.graph_maxima h.graph h.is-built in
    rw h.are
    (all_listed 𝓢
    (all_map (row_of h.graph) (λ x gx. row-spelled Fine i (threaded i.sample) h.graph x one long even (threaded-sound i.sample one long) is.0 is.1 gx) (found-good K h).0.closed))
