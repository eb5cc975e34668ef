-- The lent lists, as the table's columns; what each function asks and ensures.
use Rattle.std.specs.Prelude.{◌≡◌, List, get_or, Option, Some, None, Result, Ok, Err, IfErr, [], ◌∷◌, refl, ℕ, zero, suc, ◌+◌, ◌-◌, ◌*◌, ◌<◌, ◌≤◌}
use Rattle.std.proofs.Common.{sym, ap, ◌∙◌, inl, inr, arith, mul-le-mul_right, suc-mul}
use Prim.Native.Nat.{Ordering}
use Rattle.definition.specs.Threading.{Ends, compare_ends}
use Rattle.threading_node.specs.Ends.{ends, Less, lt-less, less-lt, less-gt, eq_self, ends-path, compare-named}
use Rattle.threading_node.specs.Links.{slot_at, link_to, Linked, link_is, linked_at, some-link, none-link}
use Rattle.threading_node.specs.Nodes.{Nodes, nil, node, seek_n, Above, Rising, Place, Here, Between}
use Rattle.threading_node.specs.Rows.{seek_n-lt, seek_n-eq, seek_n-gt}
use Rattle.threading_node.specs.Slots.{cols, Slot, every-from, every-to}
use Rattle.threading_node.specs.declared.Gap.{Gap}

-- the place that an answer tells
abbrev pub place_of : Result ℕ Gap → Place
place_of (Ok j) = Here j
place_of (Err g) = Between (link_to g.after) (link_to g.before)

-- ---- a row of siblings

pub record Sibling (ns : List ℕ) (l i : ℕ) (e : Ends) : Type 0 where
  pub is : l ≡ i
  pub some : 0 < i
  pub slot : Slot i ns
  pub from_is : (cols ns).from i ≡ e.from
  pub to_is : (cols ns).to i ≡ e.to

unfoldable pub Row : List ℕ → ℕ → Nodes → Type 0
Row ns l nil = l ≡ 0
Row ns l (node i e c b x) = Sibling ns l i e × Row ns ((cols ns).next i) x

-- what the search asks: a row in rising order begins at the slot
pub record Rowed (ns : List ℕ) (start : Option ℕ) : Type 0 where
  pub row : Nodes
  pub leads : Row ns (link_to start) row
  pub rising : Rising row
  pub linked : Linked start

-- the place of the edge in that row
pub record Stands (ns : List ℕ) (l : ℕ) (e : Ends) (p : Place) : Type 0 where
  pub is : (t : Nodes) → Row ns l t → p ≡ seek_n e 0 t

-- what it ensures: it found the place
pub record Sought (ns : List ℕ) (start : Option ℕ) (e : Ends) (r : Result ℕ Gap) : Type 0 where
  pub stands : Stands ns (link_to start) e (place_of r)
  pub after : IfErr r (λ g. Linked g.after)

pub after-linked : (ns : List ℕ) (start : Option ℕ) (e : Ends) (r : Result ℕ Gap) → Sought ns start e r → (g : Gap) → r ≡ Err g → Linked g.after
after-linked ns start e r f g z = let h : IfErr {T = ℕ} (Err g) (λ (d : Gap). Linked d.after) = rw z at f.after in h

-- the search at a later sibling goes on as the whole would
pub record Seeking (ns : List ℕ) (start : ℕ) (e : Ends) (prev at : ℕ) : Type 0 where
  pub row : Nodes
  pub leads : Row ns at row
  pub rising : Rising row
  pub run : (t : Nodes) → Row ns start t → seek_n e prev row ≡ seek_n e 0 t

module _ (ns : List ℕ) where
  -- a link leads to one row only: a search in two rows of one link is the same
  seek-one : (e : Ends) (prev l : ℕ) (s t : Nodes) → Row ns l s → Row ns l t → seek_n e prev s ≡ seek_n e prev t
  unfolding Row
  seek-one e prev l nil nil p q = refl
  seek-one e prev l nil (node i d c b x) p q = let h = q.0.some in let k = q.0.is in absurd (omega arith)
  seek-one e prev l (node i d c b x) nil p q = let h = p.0.some in let k = p.0.is in absurd (omega arith)
  seek-one e prev l (node i d c b x) (node i' d' c' b' x') p q = go (compare_ends e d) refl (seek-one e i ((cols ns).next i) x x' p.1 (rw (sym ii) at q.1))
    where
      ii : i ≡ i'
      ii = sym p.0.is ∙ q.0.is

      dd : d ≡ d'
      dd = ends-path _ _ _ _ (sym p.0.from_is ∙ ap (λ (j : ℕ). (cols ns).from j) ii ∙ q.0.from_is) (sym p.0.to_is ∙ ap (λ (j : ℕ). (cols ns).to j) ii ∙ q.0.to_is)

      go : (o : Ordering) → compare_ends e d ≡ o → seek_n e i x ≡ seek_n e i x' → seek_n e prev (node i d c b x) ≡ seek_n e prev (node i' d' c' b' x')
      go Ordering.lt z ih = seek_n-lt e prev i d c b x z ∙ ap (λ (j : ℕ). Between prev j) ii ∙ sym (seek_n-lt e prev i' d' c' b' x' (rw dd at z))
      go Ordering.eq z ih = seek_n-eq e prev i d c b x z ∙ ap Here ii ∙ sym (seek_n-eq e prev i' d' c' b' x' (rw dd at z))
      go Ordering.gt z ih = seek_n-gt e prev i d c b x z ∙ ih ∙ ap (λ (j : ℕ). seek_n e j x') ii ∙ sym (seek_n-gt e prev i' d' c' b' x' (rw dd at z))

  module _ (start : ℕ) (e : Ends) where
    seeking-start : (row : Nodes) → Row ns start row → Rising row → Seeking ns start e 0 start
    seeking-start row h r = record { row = row; leads = h; rising = r; run = λ t k. seek-one e 0 start row t h k }

    seeking-end : (prev at : ℕ) → Seeking ns start e prev at → at ≡ 0 → Stands ns start e (Between prev 0)
    unfolding Row seek_n
    seeking-end prev at v h = record { is = λ t k. go v.row v.leads ∙ v.run t k }
      where
        go : (w : Nodes) → Row ns at w → Between prev 0 ≡ seek_n e prev w
        go nil l = refl
        go (node i d c b x) l = let y = l.0.some in let z = l.0.is in absurd (omega arith)

    -- the sibling that a link that is not 0 leads to
    record Met (prev at : ℕ) : Type 0 where
      pub slot : Slot at ns
      pub before : compare_ends e (ends ((cols ns).from at) ((cols ns).to at)) ≡ Ordering.lt → Stands ns start e (Between prev at)
      pub there : compare_ends e (ends ((cols ns).from at) ((cols ns).to at)) ≡ Ordering.eq → Stands ns start e (Here at)
      pub on : compare_ends e (ends ((cols ns).from at) ((cols ns).to at)) ≡ Ordering.gt → Seeking ns start e at ((cols ns).next at)
      -- the next sibling, if there is one, has a later edge
      pub later : 0 < (cols ns).next at → Less (ends ((cols ns).from at) ((cols ns).to at)) (ends ((cols ns).from ((cols ns).next at)) ((cols ns).to ((cols ns).next at)))

    seeking-met : (prev at : ℕ) → Seeking ns start e prev at → (at ≡ 0 → ⊥) → Met prev at
    unfolding Row Rising Above
    seeking-met prev at v ne = go v.row v.leads v.rising v.run
      where
        head_of : (i : ℕ) (d : Ends) (x : Nodes) → Above d x → Row ns ((cols ns).next i) x → (cols ns).from i ≡ d.from → (cols ns).to i ≡ d.to → 0 < (cols ns).next i
            → Less (ends ((cols ns).from i) ((cols ns).to i)) (ends ((cols ns).from ((cols ns).next i)) ((cols ns).to ((cols ns).next i)))
        head_of i d nil h l p q y = absurd (omega arith)
        head_of i d (node j f c b x) h l p q y =
            let z : Less d f = lt-less d f h.0 in
            let f1 : (cols ns).from ((cols ns).next i) ≡ f.from = ap (λ (w : ℕ). (cols ns).from w) l.0.is ∙ l.0.from_is in
            let f2 : (cols ns).to ((cols ns).next i) ≡ f.to = ap (λ (w : ℕ). (cols ns).to w) l.0.is ∙ l.0.to_is in
            rw (p, q, f1, f2) z

        go : (w : Nodes) → Row ns at w → Rising w → ((t : Nodes) → Row ns start t → seek_n e prev w ≡ seek_n e 0 t) → Met prev at
        go nil l r k = absurd (ne l)
        go (node i d c b x) l r k =
            rw l.0.is
            (record {
              slot = l.0.slot;
              before = λ z. record { is = λ t y. sym (seek_n-lt e prev i d c b x (compare-named e _ d Ordering.lt dd z)) ∙ k t y };
              there = λ z. record { is = λ t y. sym (seek_n-eq e prev i d c b x (compare-named e _ d Ordering.eq dd z)) ∙ k t y };
              on = λ z. record { row = x; leads = l.1; rising = r.2; run = λ t y. sym (seek_n-gt e prev i d c b x (compare-named e _ d Ordering.gt dd z)) ∙ k t y };
              later = head_of i d x r.0 l.1 l.0.from_is l.0.to_is;
            })
          where
            dd : ends ((cols ns).from i) ((cols ns).to i) ≡ d
            dd = ends-path _ _ _ _ l.0.from_is l.0.to_is

-- ---- the search ends: what is left falls as the edges rise

lex : (W a b c d : ℕ) → b < W → a < c → a * W + b < c * W + d
lex W a b c d h k = let p : suc a * W ≤ c * W = mul-le-mul_right W k in let q : suc a * W ≡ a * W + W = suc-mul a W in omega arith

within : (W c d : ℕ) → c < W → d < W → c * W + d ≤ W * W
within W c d h k = let p : suc c * W ≤ W * W = mul-le-mul_right W h in let q : suc c * W ≡ c * W + W = suc-mul c W in omega arith

falls : (M x y : ℕ) → x < y → y ≤ M → suc (M - y) < suc (M - x)
falls M x y h k = omega arith

less-lex : (W a b c d : ℕ) → b < W → Less (ends a b) (ends c d) → a * W + b < c * W + d
less-lex W a b c d h (inl k) = lex W a b c d h k
less-lex W a b c d h (inr k) = let p : a * W ≡ c * W = ap (λ (x : ℕ). x * W) k.0 in let q = k.1 in omega arith

-- more than any number of the table
unfoldable pub above-all : List ℕ → ℕ
above-all [] = 1
above-all (n ∷ ns) = n + above-all ns

under-all : (ns : List ℕ) (i : ℕ) → get_or ns i 0 < above-all ns
unfolding above-all
under-all [] i = omega arith
under-all (n ∷ ns) zero = let h = under-all ns 0 in omega arith
under-all (n ∷ ns) (suc i) = let h = under-all ns i in omega arith

unfoldable pub left : ℕ → List ℕ → ℕ → ℕ
left W ns zero = 0
left W ns (suc at) = suc (W * W - ((cols ns).from (suc at) * W + (cols ns).to (suc at)))

pub left-falls : (ns : List ℕ) (at x : ℕ) → (at ≡ 0 → ⊥) → (0 < x → Less (ends ((cols ns).from at) ((cols ns).to at)) (ends ((cols ns).from x) ((cols ns).to x)))
    → left (above-all ns) ns x < left (above-all ns) ns at
unfolding left
left-falls ns zero x ne d = absurd (ne refl)
left-falls ns (suc at) zero ne d = omega arith
left-falls ns (suc at) (suc x) ne d =
    let W = above-all ns in
    let h : (i : ℕ) → get_or ns i 0 < W = under-all ns in
    falls (W * W) _ _ (less-lex W ((cols ns).from (suc at)) ((cols ns).to (suc at)) ((cols ns).from (suc x)) ((cols ns).to (suc x)) (every-to ns (λ n. n < W) h (suc at)) (d (omega arith)))
    (within W ((cols ns).from (suc x)) ((cols ns).to (suc x)) (every-from ns (λ n. n < W) h (suc x)) (every-to ns (λ n. n < W) h (suc x)))

-- ---- the search, as the code makes it

-- where it stands: after the slot `after`, at the slot `at`
pub record Searching (ns : List ℕ) (start : Option ℕ) (e : Ends) (after at : Option ℕ) : Type 0 where
  pub seeking : Seeking ns (link_to start) e (link_to after) (link_to at)
  pub behind : Linked after
  pub ahead : Linked at

module _ (ns : List ℕ) (start : Option ℕ) (e : Ends) where
  pub searching-start : Rowed ns start → Searching ns start e None start
  searching-start h = record { seeking = seeking-start ns (link_to start) e h.row h.leads h.rising; behind = tt; ahead = h.linked }

  module _ (after at : Option ℕ) (v : Searching ns start e after at) where
    pub searching-end : ((s : ℕ) → at ≡ Some s → ⊥) → Sought ns start e (Err (record { after = after; before = None }))
    searching-end ne = record { stands = seeking-end ns (link_to start) e (link_to after) (link_to at) v.seeking (none-link at ne); after = v.behind }

    -- one turn, at the sibling in slot s with the edge f
    module _ (s : ℕ) (is : at ≡ Some s) where
      some : s ≡ 0 → ⊥
      some = some-link at s v.ahead is

      seeking : Seeking ns (link_to start) e (link_to after) s
      seeking = rw is at v.seeking

      met : Met ns (link_to start) e (link_to after) s
      met = seeking-met ns (link_to start) e (link_to after) s seeking some

      pub turn-slot : Slot s ns
      turn-slot = met.slot

      module _ (f : Ends) (hf : f ≡ ends ((cols ns).from s) ((cols ns).to s)) where
        told : (o : Ordering) → compare_ends e f ≡ o → compare_ends e (ends ((cols ns).from s) ((cols ns).to s)) ≡ o
        told o h = compare-named e f (ends ((cols ns).from s) ((cols ns).to s)) o hf h

        pub stops-before : Less e f → Sought ns start e (Err (record { after = after; before = Some s }))
        stops-before h = record { stands = met.before (told Ordering.lt (less-lt e f h)); after = v.behind }

        pub stops-there : e ≡ f → Sought ns start e (Ok s)
        stops-there h = record { stands = met.there (told Ordering.eq (rw h (eq_self f))); after = tt }

        module _ (nx : Option ℕ) (hn : nx ≡ slot_at ((cols ns).next s)) where
          link : link_to nx ≡ (cols ns).next s
          link = ap link_to hn ∙ link_is ((cols ns).next s)

          pub goes_on : Less f e → Searching ns start e (Some s) nx
          goes_on h =
              record {
                seeking = rw link (met.on (told Ordering.gt (less-gt e f h)));
                behind = rw is at v.ahead;
                ahead = rw hn (linked_at ((cols ns).next s));
              }

          pub gets-less : left (above-all ns) ns (link_to nx) < left (above-all ns) ns (link_to at)
          gets-less =
              rw (link, is) (left-falls ns s ((cols ns).next s) some met.later)
