-- The first line as it is read: number by number, each with what is left behind it.
use Rattle.std.specs.Prelude.{◌≡◌, ◌⊎◌, Bool, ℕ, ◌+◌, ◌<◌, ◌≤◌, ℤ, List, [], ◌∷◌, ◌++◌, length, take, drop, refl, Option as Maybe, Some, None}
use Rattle.std.proofs.Common.{sym, ap, ◌∙◌, inl, inr, arith, length-append, length-drop}
use Rattle.std.proofs.Math.Option.{Option, none, some}
use Rattle.definition.specs.Text.{Header, parts, number, numbers, settings, header, byte_of, flag_of, size_of, with, in_front}
use Rattle.text_form.specs.Parts.{first_at, left_of, left-none, left-some, parts-some, field-first, first-most}
use Rattle.text_form.specs.Numbers.{asked_of}
use Rattle.text_form.specs.declared.header.Settings.{Settings}
use Rattle.text_form.specs.declared.header.Taken.{Taken}

-- ---- what the answers say

-- the settings as the calls take them
abbrev pub shown : Header → Settings
shown h =
    record {
      k = size_of h.k;
      quality = h.quality;
      asked = asked_of h.asked;
      threshold = h.threshold;
      recovery = h.recovery;
    }

abbrev pub HeaderSays : Maybe Settings → Option Header → Type 0
HeaderSays r none = r ≡ None
HeaderSays r (some h) = r ≡ Some (shown h)

-- the numbers from place `at` on
unfoldable pub numbers_from : List ℕ → ℕ → Option (List ℤ)
numbers_from line at = with (parts 32 (left_of 32 line at)) numbers

abbrev pub FieldSays : List ℕ → ℕ → Maybe Taken → Type 0
FieldSays line at (Some t) = (numbers_from line at ≡ in_front t.number (numbers_from line t.next)) × (t.next ≤ length line + 1)
FieldSays line at None = (numbers_from line at ≡ none) ⊎ (numbers_from line at ≡ some [])

-- ---- one number

-- a number, where it is one, in front of others
abbrev one_more : Option ℤ → Option (List ℤ) → Option (List ℤ)
one_more none l = none
one_more (some z) l = in_front z l

more-none : (n : Option ℤ) → none ≡ one_more n none
more-none none = refl
more-none (some z) = refl

more-some : (p : List ℕ) (ps : List (List ℕ)) (n : Option ℤ) → number p ≡ n → numbers (p ∷ ps) ≡ one_more n (numbers ps)
unfolding numbers
more-some p ps none e = rw (e, numbers)
more-some p ps (some z) e = rw (e, numbers)

with-front : (p : List ℕ) (o : Option (List (List ℕ))) → with (in_front p o) numbers ≡ one_more (number p) (with o numbers)
with-front p none = more-none (number p)
with-front p (some ps) = more-some p ps (number p) refl

module _ (line : List ℕ) where
  pub numbers-end : numbers_from line (length line + 1) ≡ some []
  unfolding numbers_from parts numbers
  numbers-end = let e = left-none 32 line in rw e

  pub past_end : (at : ℕ) → length line < at → at ≤ length line + 1 → FieldSays line at None
  past_end at h k = let e : at ≡ length line + 1 = omega arith in inr (ap (numbers_from line) e ∙ numbers-end)

  -- another number, or nothing of the form
  pub numbers_more : (at : ℕ) → at ≤ length line
      → (numbers_from line at ≡ none) ⊎ ((z : ℤ) × (zs : List ℤ) × (numbers_from line at ≡ some (z ∷ zs)))
  unfolding numbers_from numbers
  numbers_more at h = go (parts-some 32 (left_of 32 line at) (left-some 32 line at h))
    where
      tail : (p : List ℕ) (ps : List (List ℕ)) (o : Option ℤ) (l : Option (List ℤ)) → number p ≡ o → numbers ps ≡ l
          → (numbers (p ∷ ps) ≡ none) ⊎ ((z : ℤ) × (zs : List ℤ) × (numbers (p ∷ ps) ≡ some (z ∷ zs)))
      tail p ps none l e f = inl (rw (e, numbers))
      tail p ps (some z) none e f = inl (rw (e, numbers, f))
      tail p ps (some z) (some zs) e f = inr (z, zs, rw (e, numbers, f))

      go : (parts 32 (left_of 32 line at) ≡ none)
          ⊎ ((p : List ℕ) × (ps : List (List ℕ)) × (parts 32 (left_of 32 line at) ≡ some (p ∷ ps)))
          → (numbers_from line at ≡ none) ⊎ ((z : ℤ) × (zs : List ℤ) × (numbers_from line at ≡ some (z ∷ zs)))
      go (inl e) = inl (rw e)
      go (inr (p, ps, e)) = rw e (tail p ps (number p) (numbers ps) refl refl)

  module _ (at n : ℕ) (h : at ≤ length line) (e : n ≡ first_at 32 (drop at line)) where
    split : numbers_from line at ≡ one_more (number (take n (drop at line))) (numbers_from line (at + n + 1))
    unfolding numbers_from
    split =
        ap (λ (o : Option (List (List ℕ))). with o numbers) (field-first 32 line at n h e)
        ∙ with-front (take n (drop at line)) (parts 32 (left_of 32 line (at + n + 1)))

    pub field-bad : none ≡ number (take n (drop at line)) → FieldSays line at None
    field-bad q = let f = sym q in inl (rw f at split)

    within : at + n ≤ length line
    within = let f = first-most 32 (drop at line) in let l = length-drop at line in omega arith

    pub field-good : (z : ℤ) → some z ≡ number (take n (drop at line)) → FieldSays line at (Some (record { number = z; next = at + n + 1 }))
    field-good z q = let f = sym q in let w = within in ((rw f at split), omega arith)

-- ---- five numbers

settings-few : (zs : List ℤ) → length zs < 5 → settings zs ≡ none
unfolding settings
settings-few [] h = refl
settings-few (a ∷ []) h = refl
settings-few (a ∷ b ∷ []) h = refl
settings-few (a ∷ b ∷ c ∷ []) h = refl
settings-few (a ∷ b ∷ c ∷ d ∷ []) h = refl
settings-few (a ∷ b ∷ c ∷ d ∷ e ∷ es) h = absurd (omega arith)

-- numbers in front of those still to come
abbrev after : List ℤ → Option (List ℤ) → Option (List ℤ)
after [] o = o
after (z ∷ zs) o = in_front z (after zs o)

after_none : (zs : List ℤ) → after zs none ≡ none
after_none [] = refl
after_none (z ∷ zs) = ap (in_front z) (after_none zs)

after-some : (zs l : List ℤ) → after zs (some l) ≡ some (zs ++ l)
after-some [] l = refl
after-some (z ∷ zs) l = ap (in_front z) (after-some zs l)

few : (zs : List ℤ) (o : Option (List ℤ)) → length zs < 5 → (o ≡ none) ⊎ (o ≡ some []) → with (after zs o) settings ≡ none
few zs o h (inl e) = ap (λ (x : Option (List ℤ)). with (after zs x) settings) e ∙ ap (λ (x : Option (List ℤ)). with x settings) (after_none zs)
few zs o h (inr e) =
    ap (λ (x : Option (List ℤ)). with (after zs x) settings) e
    ∙ ap (λ (x : Option (List ℤ)). with x settings) (after-some zs [])
    ∙ settings-few (zs ++ []) (let l = length-append zs [] in omega arith)

-- the numbers of the whole line, taken from its start
header-numbers : (line : List ℕ) → header line ≡ with (numbers_from line 0) settings
unfolding header numbers_from
header-numbers line = go (parts 32 (line ++ 32 ∷ []))
  where
    go : (o : Option (List (List ℕ))) → with o (λ ps. with (numbers ps) settings) ≡ with (with o numbers) settings
    go none = refl
    go (some ps) = refl

module _ (line : List ℕ) where
  abbrev from : ℕ → Option (List ℤ)
  from at = numbers_from line at

  -- the line is malformed
  malformed : with (from 0) settings ≡ none → HeaderSays None (header line)
  malformed e = let f = header-numbers line ∙ e in rw f refl

  pub header-0 : FieldSays line 0 None → HeaderSays None (header line)
  header-0 q = malformed (few [] (from 0) (omega arith) q)

  module _ (k : Taken) (q1 : FieldSays line 0 (Some k)) where
    abbrev a : ℤ
    a = k.number

    pub said-1 : (from 0 ≡ after (a ∷ []) (from k.next)) × (k.next ≤ length line + 1)
    said-1 = q1

    pub header-1 : FieldSays line k.next None → HeaderSays None (header line)
    header-1 q =
        malformed (ap (λ (o : Option (List ℤ)). with o settings) said-1.0 ∙ few (a ∷ []) (from k.next) (omega arith) q)

    module _ (y : Taken) (q2 : FieldSays line k.next (Some y)) where
      abbrev b : ℤ
      b = y.number

      here-2 : (from k.next ≡ in_front b (from y.next)) × (y.next ≤ length line + 1)
      here-2 = q2

      pub said-2 : (from 0 ≡ after (a ∷ b ∷ []) (from y.next)) × (y.next ≤ length line + 1)
      said-2 = (said-1.0 ∙ ap (after (a ∷ [])) here-2.0, here-2.1)

      pub header-2 : FieldSays line y.next None → HeaderSays None (header line)
      header-2 q =
          malformed (ap (λ (o : Option (List ℤ)). with o settings) said-2.0 ∙ few (a ∷ b ∷ []) (from y.next) (omega arith) q)

      module _ (n : Taken) (q3 : FieldSays line y.next (Some n)) where
        abbrev c : ℤ
        c = n.number

        here-3 : (from y.next ≡ in_front c (from n.next)) × (n.next ≤ length line + 1)
        here-3 = q3

        pub said-3 : (from 0 ≡ after (a ∷ b ∷ c ∷ []) (from n.next)) × (n.next ≤ length line + 1)
        said-3 = (said-2.0 ∙ ap (after (a ∷ b ∷ [])) here-3.0, here-3.1)

        pub header-3 : FieldSays line n.next None → HeaderSays None (header line)
        header-3 q =
            malformed (ap (λ (o : Option (List ℤ)). with o settings) said-3.0 ∙ few (a ∷ b ∷ c ∷ []) (from n.next) (omega arith) q)

        module _ (t : Taken) (q4 : FieldSays line n.next (Some t)) where
          abbrev d : ℤ
          d = t.number

          here-4 : (from n.next ≡ in_front d (from t.next)) × (t.next ≤ length line + 1)
          here-4 = q4

          pub said-4 : (from 0 ≡ after (a ∷ b ∷ c ∷ d ∷ []) (from t.next)) × (t.next ≤ length line + 1)
          said-4 = (said-3.0 ∙ ap (after (a ∷ b ∷ c ∷ [])) here-4.0, here-4.1)

          pub header-4 : FieldSays line t.next None → HeaderSays None (header line)
          header-4 q =
              malformed (ap (λ (o : Option (List ℤ)). with o settings) said-4.0 ∙ few (a ∷ b ∷ c ∷ d ∷ []) (from t.next) (omega arith) q)

          module _ (w : Taken) (q5 : FieldSays line t.next (Some w)) where
            abbrev e : ℤ
            e = w.number

            here-5 : (from t.next ≡ in_front e (from w.next)) × (w.next ≤ length line + 1)
            here-5 = q5

            said-5 : from 0 ≡ after (a ∷ b ∷ c ∷ d ∷ e ∷ []) (from w.next)
            said-5 = said-4.0 ∙ ap (after (a ∷ b ∷ c ∷ d ∷ [])) here-5.0

            -- a sixth number
            pub header-5 : w.next ≤ length line → HeaderSays None (header line)
            unfolding settings
            header-5 h = malformed (ap (λ (o : Option (List ℤ)). with o settings) said-5 ∙ go (numbers_more line w.next h))
              where
                go : (from w.next ≡ none) ⊎ ((z : ℤ) × (zs : List ℤ) × (from w.next ≡ some (z ∷ zs)))
                    → with (after (a ∷ b ∷ c ∷ d ∷ e ∷ []) (from w.next)) settings ≡ none
                go (inl f) = rw f
                go (inr (z, zs, f)) = rw f

            pub header-end : (r : Maybe Settings) → length line < w.next → HeaderSays r (settings (a ∷ b ∷ c ∷ d ∷ e ∷ [])) → HeaderSays r (header line)
            header-end r h q =
                let f : w.next ≡ length line + 1 = (let g = here-5.1 in omega arith) in
                let g : from w.next ≡ some [] = ap from f ∙ numbers-end line in
                let i : with (from 0) settings ≡ settings (a ∷ b ∷ c ∷ d ∷ e ∷ []) = ap (λ (o : Option (List ℤ)). with o settings) said-5 ∙ rw g in
                let j = header-numbers line ∙ i in
                rw j q

-- ---- the settings

module _ (k q n t r : ℤ) where
  pub quality-bad : none ≡ byte_of q → HeaderSays None (settings (k ∷ q ∷ n ∷ t ∷ r ∷ []))
  unfolding settings
  quality-bad e = rw (← e) refl

  module _ (quality : ℕ) (e : some quality ≡ byte_of q) where
    pub recovery-bad : none ≡ flag_of r → HeaderSays None (settings (k ∷ q ∷ n ∷ t ∷ r ∷ []))
    unfolding settings
    recovery-bad f = rw (← e, ← f) refl

    pub settings-good : (recovery : Bool) → some recovery ≡ flag_of r → (x y : ℕ) → x ≡ size_of k → y ≡ asked_of n
        → HeaderSays (Some (record { k = x; quality = quality; asked = y; threshold = t; recovery = recovery })) (settings (k ∷ q ∷ n ∷ t ∷ r ∷ []))
    unfolding settings
    settings-good recovery f x y c d = rw (← e, ← f, c, d) refl
