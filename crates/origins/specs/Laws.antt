-- Laws for the functions' proofs: each return is one of them.
use Rattle.std.specs.Prelude.{◌≡◌, Bool, cond, length, take, drop, get_or}
use Rattle.std.proofs.Math.Path.{refl, ap}
use Rattle.std.proofs.Common.{sym, subst, ◌∙◌, arith, length-drop, length-take-le, Fits, leb-true, le-leb}
use Prim.Native.Nat.{ℕ, zero, suc, ◌+◌, ◌-◌, ◌≤◌, ◌<◌}
use Rattle.std.proofs.Math.Bool.{true, false}
use mathlib.Core.List.{List, []}
use Rattle.std.proofs.Math.Option.{none, some}
use Rattle.std.proofs.Math.Dec.{leb}
use Rattle.std.proofs.Math.Seq.{take-length}
use Rattle.std.specs.Int.{w64}
use Rattle.std.proofs.lemmas.Bool.{lt-leb}
use Rattle.definition.specs.Refusal.{ok, refused, first_broken}
use Rattle.definition.specs.Limits.{origin_rules}
use Rattle.definition.specs.Threading.{Origin}
use Rattle.definition.specs.Origins.{sequence_in, bytes_in}
use Rattle.definition.specs.Calls.{OriginOutcome, origin_of, after_origin_checks, origin_call}
use Rattle.origins.specs.Reads.{start_of, read_get, no_read, part_at, accepted-by, bounded}
use Rattle.origins.specs.Parts.{Part, Found, At, Refused, origin, fitted, is_read, start_in, lent, found_at, bytes_of, Inside, Tells, Located, slice_of, lent_by, answered, Names}
use Rattle.origins.specs.declared.OriginAnswer.{OriginAnswer}

-- ---- read_start

pub first-start : (ends : List ℕ) (read : ℕ) → read < 1 → 0 ≡ start_of ends read
first-start ends zero h = refl
first-start ends (suc read) h = absurd (omega arith)

pub later-start : (ends : List ℕ) (read : ℕ) → 1 ≤ read → get_or ends (read - 1) 0 ≡ start_of ends read
later-start ends zero h = absurd (omega arith)
later-start ends (suc read) h = let e : suc read - 1 ≡ read = omega arith in rw e

-- ---- fit

module _ (k : ℕ) (in_reads : Bool) (start size place : ℕ) where
  pub fits : place + k + 1 ≤ size → At (record { in_reads = in_reads; start = start + place }) ≡ fitted k in_reads start size place
  unfolding fitted
  fits h = rw (le-leb (place + suc k) size (omega arith), fitted)

  pub falls-short : size < place + k + 1 → Refused 13 ≡ fitted k in_reads start size place
  unfolding fitted
  falls-short h = rw (lt-leb (place + suc k) size (omega arith), fitted)

-- ---- find_origin

module _ (k : ℕ) (reference ends bases : List ℕ) (o : Origin) where
  -- n is what the code's check answered
  call-refused : (n : ℕ) → n ≡ first_broken (origin_rules k reference ends bases) → 0 < n → origin_call k reference ends bases o ≡ record { refusal = n; bytes = [] }
  unfolding origin_call after_origin_checks origin_of
  call-refused zero e h = absurd (omega arith)
  call-refused (suc n) e h = rw (← e)

  call-accepted : (n : ℕ) → n ≡ first_broken (origin_rules k reference ends bases) → n ≤ 0 → origin_call k reference ends bases o ≡ origin_of (bytes_in k reference ends bases o)
  unfolding origin_call after_origin_checks
  call-accepted zero e h = rw (← e)
  call-accepted (suc n) e h = absurd (omega arith)

  tells-refused : (n : ℕ) → 0 < n → Tells k reference ends bases o (record { refusal = n; bytes = [] }) (Refused n)
  tells-refused zero h = absurd (omega arith)
  tells-refused (suc n) h = record { is = refl; bytes = refl; inside = tt }

  pub refused-early : (n : ℕ) → n ≡ first_broken (origin_rules k reference ends bases) → 0 < n → Located k reference ends bases o (Refused n)
  refused-early n e h = rw (call-refused n e h) (tells-refused n h)

  -- no such sequence
  refused_none : sequence_in reference ends bases o.sequence ≡ none → Tells k reference ends bases o (origin_of (bytes_in k reference ends bases o)) (Refused 13)
  unfolding bytes_in origin_of
  refused_none e = rw (e, bytes_in, origin_of) (tells-refused 13 (omega arith))

  -- a sequence of bytes bs
  module _ (bs : List ℕ) (e : sequence_in reference ends bases o.sequence ≡ some bs) where
    bytes-there : leb (o.place + suc k) (length bs) ≡ true → bytes_in k reference ends bases o ≡ ok (take (suc k) (drop o.place bs))
    unfolding bytes_in
    bytes-there h = rw (e, h, bytes_in)

    bytes-short : leb (o.place + suc k) (length bs) ≡ false → bytes_in k reference ends bases o ≡ refused 13
    unfolding bytes_in
    bytes-short h = rw (e, h, bytes_in)

-- the sequence is a part of a lent slice
module _ (k : ℕ) (reference ends bases : List ℕ) (o : Origin) (small : k ≤ 128) (in_reads : Bool) (start size : ℕ) (e : sequence_in reference ends bases o.sequence ≡ some (take size (drop start (lent reference bases in_reads)))) (room : start + size ≤ length (lent reference bases in_reads)) (which : in_reads ≡ is_read o.sequence) (from : start ≡ start_in ends o.sequence) where
  size_is : length (take size (drop start (lent reference bases in_reads))) ≡ size
  size_is = length-take-le size (drop start (lent reference bases in_reads)) (simp length-drop (omega arith))

  tells_at : o.place + suc k ≤ size
      → Tells k reference ends bases o (record { refusal = 0; bytes = take (suc k) (drop (start + o.place) (lent reference bases in_reads)) }) (At (record { in_reads = in_reads; start = start + o.place }))
  tells_at h =
      record {
        is = ap (λ (b : Bool). At (record { in_reads = b; start = start + o.place })) which ∙ ap (λ (n : ℕ). At (record { in_reads = is_read o.sequence; start = n + o.place })) from;
        bytes = refl;
        inside = (small, omega arith);
      }

  call-there : leb (o.place + suc k) size ≡ true
      → origin_of (bytes_in k reference ends bases o) ≡ record { refusal = 0; bytes = take (suc k) (drop (start + o.place) (lent reference bases in_reads)) }
  unfolding origin_of
  call-there h =
      ap origin_of (bytes-there k reference ends bases o (take size (drop start (lent reference bases in_reads))) e (ap (leb (o.place + suc k)) size_is ∙ h))
      ∙ ap (λ (l : List ℕ). record { refusal = 0; bytes = l }) (part_at (suc k) size start o.place (lent reference bases in_reads) (leb-true (o.place + suc k) size h))

  call-short : leb (o.place + suc k) size ≡ false → origin_of (bytes_in k reference ends bases o) ≡ record { refusal = 13; bytes = [] }
  unfolding origin_of
  call-short h =
      ap origin_of (bytes-short k reference ends bases o (take size (drop start (lent reference bases in_reads))) e (ap (leb (o.place + suc k)) size_is ∙ h))

  in-slice : (r : Found) → r ≡ fitted k in_reads start size o.place → Tells k reference ends bases o (origin_of (bytes_in k reference ends bases o)) r
  unfolding fitted
  in-slice r f = go (leb (o.place + suc k) size) refl
    where
      go : (b : Bool) → leb (o.place + suc k) size ≡ b → Tells k reference ends bases o (origin_of (bytes_in k reference ends bases o)) r
      go true h =
          let g : r ≡ At (record { in_reads = in_reads; start = start + o.place }) = f ∙ (rw (h, fitted)) in
          rw (call-there h, g) (tells_at (leb-true (o.place + suc k) size h))
      go false h =
          let g : r ≡ Refused 13 = f ∙ (rw (h, fitted)) in
          rw (call-short h, g) (tells-refused k reference ends bases o 13 (omega arith))

-- n is what the code's check answered
module _ (k : ℕ) (reference ends bases : List ℕ) (n : ℕ) (e : n ≡ first_broken (origin_rules k reference ends bases)) (none-broken : n ≤ 0) where
  pub in-reference : (sequence place : ℕ) (r : Found) → sequence < 1 → r ≡ fitted k false 0 (length reference) place
      → Located k reference ends bases (origin sequence place) r
  unfolding sequence_in
  in-reference zero place r h f =
      rw (call-accepted k reference ends bases (origin 0 place) n e none-broken)
      (in-slice k reference ends bases (origin 0 place) (accepted-by k reference ends bases n e none-broken).small false 0 (length reference) (ap some (sym (take-length reference))) (omega arith) refl refl r f)
  in-reference (suc s) place r h f = absurd (omega arith)

  pub in-none : (sequence place : ℕ) → 1 ≤ sequence → length ends ≤ sequence - 1 → Located k reference ends bases (origin sequence place) (Refused 13)
  unfolding sequence_in
  in-none zero place h l = absurd (omega arith)
  in-none (suc s) place h l =
      rw (call-accepted k reference ends bases (origin (suc s) place) n e none-broken)
      (refused_none k reference ends bases (origin (suc s) place) (no_read s 0 ends bases (omega arith)))

  read-there : (s place : ℕ) (r : Found) → s < length ends → r ≡ fitted k true (start_of ends s) (get_or ends s 0 - start_of ends s) place
      → Located k reference ends bases (origin (suc s) place) r
  unfolding sequence_in
  read-there s place r l f =
      let a = accepted-by k reference ends bases n e none-broken in
      let b = bounded k s ends bases a l in
      rw (call-accepted k reference ends bases (origin (suc s) place) n e none-broken)
      (in-slice k reference ends bases (origin (suc s) place) a.small true (start_of ends s) (get_or ends s 0 - start_of ends s) (read_get s ends bases a.rise l) (omega arith) refl refl r f)

  -- `start` is what the code found for the read's start
  pub in-read : (sequence place start : ℕ) (r : Found) → 1 ≤ sequence → sequence - 1 < length ends → start ≡ start_of ends (sequence - 1)
      → r ≡ fitted k true start (get_or ends (sequence - 1) 0 - start) place
      → Located k reference ends bases (origin sequence place) r
  in-read zero place start r h l q f = absurd (omega arith)
  in-read (suc s) place start r h l q f =
      let m : suc s - 1 ≡ s = omega arith in
      let q' : start ≡ start_of ends s = rw m at q in
      let f' : r ≡ fitted k true start (get_or ends s 0 - start) place = rw m at f in
      read-there s place r (omega arith) (rw q' at f')

  -- what the code's sums and differences need
  pub starts-before : (read start : ℕ) → read < length ends → start ≡ start_of ends read → (start ≤ get_or ends read 0) × (start ≤ 32768)
  starts-before read start l q =
      let a = accepted-by k reference ends bases n e none-broken in
      let b = bounded k read ends bases a l in
      let o = b.order in
      let i = b.inside in
      let f = a.few in
      (omega arith, omega arith)

  pub k-within : k ≤ 128
  k-within = (accepted-by k reference ends bases n e none-broken).small

-- ---- the calls above it

slice_is : (s : ℕ) → cond (is_read s) 1 0 ≡ slice_of s
slice_is zero = refl
slice_is (suc s) = refl

at-parts : (p q : Part) → At p ≡ At q → (p.in_reads ≡ q.in_reads) × (p.start ≡ q.start)
at-parts p q e = let h : p ≡ q = cc in (ap (λ (x : Part). x.in_reads) h, ap (λ (x : Part). x.start) h)

same_answer : (i j s u m l : ℕ) → i ≡ j → s ≡ u → m ≡ l
    → ◌≡◌ {A = OriginAnswer} (record { refusal = 0; in_reads = i; start = s; length = m }) (record { refusal = 0; in_reads = j; start = u; length = l })
same_answer i j s u m l a b c = cc

lent_is : (reference bases : List ℕ) (b : Bool) → lent_by reference bases (cond b 1 0) ≡ lent reference bases b
lent_is reference bases true = refl
lent_is reference bases false = refl

module _ (k : ℕ) (reference ends bases : List ℕ) (o : Origin) (call : OriginOutcome) (r : Found) (t : Tells k reference ends bases o call r) where
  number_of : (n : ℕ) → r ≡ Refused n → (m : ℕ) → call.refusal ≡ m → (n ≡ m) × (0 < n)
  number_of n e zero f = let g : Refused n ≡ found_at ends o 0 = sym e ∙ t.is ∙ ap (found_at ends o) f in let z : ◌≡◌ {A = ℕ} 0 1 = cc in absurd (omega arith)
  number_of n e (suc m) f =
      let g : Refused n ≡ Refused (suc m) = sym e ∙ t.is ∙ ap (found_at ends o) f in let q : n ≡ suc m = cc in (q, omega arith)

  pub refused-number : (n : ℕ) → r ≡ Refused n → n ≡ call.refusal
  refused-number n e = (number_of n e call.refusal refl).0

  pub refused-bytes : (n : ℕ) → r ≡ Refused n → [] ≡ call.bytes
  refused-bytes n e = ap (bytes_of k reference bases) (sym e) ∙ t.bytes

  module _ (p : Part) (e : r ≡ At p) where
    at-number : (m : ℕ) → call.refusal ≡ m → ◌≡◌ {A = ℕ} 0 m
    at-number zero f = refl
    at-number (suc m) f = let g : At p ≡ Refused (suc m) = sym e ∙ t.is ∙ ap (found_at ends o) f in let z : ◌≡◌ {A = ℕ} 0 1 = cc in absurd (omega arith)

    pub found_number : 0 ≡ call.refusal
    found_number = at-number call.refusal refl

    pub found_inside : Inside k reference bases (At p)
    found_inside = subst (Inside k reference bases) e t.inside

    -- b is what the code's test found
    module _ (b : Bool) (h : p.in_reads ≡ b) where
      part_bytes : (m : ℕ) → m ≡ suc k → take m (drop p.start (lent reference bases b)) ≡ call.bytes
      part_bytes m q =
          ap (λ (i : ℕ). take i (drop p.start (lent reference bases b))) q
          ∙ ap (λ (c : Bool). take (suc k) (drop p.start (lent reference bases c))) (sym h)
          ∙ ap (bytes_of k reference bases) (sym e)
          ∙ t.bytes

      pub found-bytes : take (p.start + k + 1 - p.start) (drop p.start (lent reference bases b)) ≡ call.bytes
      found-bytes = part_bytes (p.start + k + 1 - p.start) (omega arith)

      pub found-room : p.start + k + 1 ≤ length (lent reference bases b)
      found-room = let g = subst (λ (c : Bool). p.start + suc k ≤ length (lent reference bases c)) h found_inside.1 in omega arith

    -- so the code's sum does not wrap
    pub found-fits : Fits w64 (length reference) → Fits w64 (length bases) → Fits w64 (p.start + k + 1)
    found-fits f g = go p.in_reads refl
      where
        go : (b : Bool) → p.in_reads ≡ b → Fits w64 (p.start + k + 1)
        go true h = let l = found-room true h in omega arith
        go false h = let l = found-room false h in omega arith

  -- ---- origin_part

  refused-fields : (n : ℕ) → r ≡ Refused n → (m : ℕ) → call.refusal ≡ m → record { refusal = n; in_reads = 0; start = 0; length = 0 } ≡ answered k ends o m
  refused-fields n e zero f = let q = number_of n e 0 f in absurd (omega arith)
  refused-fields n e (suc m) f = ap (λ (i : ℕ). record { refusal = i; in_reads = 0; start = 0; length = 0 }) (number_of n e (suc m) f).0

  pub names-none : (n : ℕ) → r ≡ Refused n → Names k reference ends bases o call (record { refusal = n; in_reads = 0; start = 0; length = 0 })
  names-none n e = record { refusal = refused-number n e; bytes = refused-bytes n e; fields = refused-fields n e call.refusal refl }

  -- i is what the code makes of its test b, m the length of its part
  module _ (p : Part) (e : r ≡ At p) (b : Bool) (h : p.in_reads ≡ b) (i m : ℕ) (f : i ≡ cond b 1 0) (q : m ≡ suc k) where
    abbrev answer : OriginAnswer
    answer = record { refusal = 0; in_reads = i; start = p.start; length = m }

    found-fields : (l : ℕ) → call.refusal ≡ l → ◌≡◌ {A = ℕ} 0 l → answer ≡ answered k ends o l
    found-fields (suc l) g z = absurd (omega arith)
    found-fields zero g z =
        let s = at-parts p (record { in_reads = is_read o.sequence; start = start_in ends o.sequence + o.place }) (sym e ∙ t.is ∙ ap (found_at ends o) g) in
        same_answer i (slice_of o.sequence) p.start (start_in ends o.sequence + o.place) m (suc k) (f ∙ ap (λ (c : Bool). cond c 1 0) (sym h ∙ s.0) ∙ slice_is o.sequence) s.1 q

    pub names-part : Names k reference ends bases o call answer
    names-part =
        record {
          refusal = found_number p e;
          bytes = ap (λ (l : List ℕ). take m (drop p.start l)) (ap (lent_by reference bases) f ∙ lent_is reference bases b) ∙ part_bytes p e b h m q;
          fields = found-fields call.refusal refl (found_number p e);
        }
