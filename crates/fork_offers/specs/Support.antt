-- What a fork offers by support: its out-edges in vertex order, but for those of support 0 and reference edges of support 1, each edge once.
use Rattle.std.proofs.Math.Path.{◌≡◌, sym, ap}
use Rattle.std.specs.Prelude.{Some, None, refl, ℕ, ◌+◌, ◌*◌, ◌^◌, ◌<◌, ◌≤◌, Bool, true, not, ◌&&◌, leb, eqb, length}
use Rattle.std.proofs.Common.{subst, ◌∙◌, length-append, le-leb}
use Rattle.std.proofs.Math.Bool.{false}
use mathlib.Core.List.{List, [], ◌∷◌, ◌++◌, map, append_assoc}
use native.Mathlib.Omega.{arith}
use Rattle.laws.specs.Lists.{keep, total}
use Rattle.definition.specs.Threading.{Ends, Edge, support_of, leaving}
use Rattle.definition.specs.Search.{Offer, among, unseen, by_support}
use Rattle.assembly.specs.Fields.{HasEdge, edge_to, edge_support}
use Rattle.assembly.specs.Store.{edge_at, edges_of}
use Rattle.out_edges.specs.Outs.{Nexts, out_from, nexts-none, nexts-some}
use Rattle.fork_offers.specs.Fields.{HasOffer}
use Rattle.fork_offers.specs.Real.{Fork}
use Rattle.fork_offers.specs.Rows.{Few, seen_of, Offered, Grown, row_put, append-nil, grown-none, grown-one, grown-trans, grown-seen, grown-many, unseen-none, unseen-yes, unseen-no, unseen-split}

-- ---- one edge

abbrev pub worth : ℕ → Bool → Bool
worth c ref = not (eqb c 0) && not (ref && eqb c 1)

abbrev edge_offer : ℕ → Edge → Offer
edge_offer t e = record { ends = e.ends; count = support_of e; out_of = t; guided = false }

-- what the edges es offer with the total t, but for the edges seen
unfoldable pub support_offers : List Ends → ℕ → List Edge → List Offer
support_offers seen t es = unseen seen (map (edge_offer t) (keep (λ (e : Edge). worth (support_of e) e.is_ref) es))

pub support-is : (seen : List Ends) (es : List Edge) → support_offers seen (total support_of es) es ≡ unseen seen (by_support es)
unfolding support_offers by_support
support-is seen es = refl

support-none : (seen : List Ends) (t : ℕ) → support_offers seen t [] ≡ []
unfolding support_offers
support-none seen t = unseen-none seen

support-cons : (seen : List Ends) (t : ℕ) (e : Edge) (es : List Edge) → support_offers seen t (e ∷ es) ≡ support_offers seen t (e ∷ []) ++ support_offers seen t es
unfolding support_offers
support-cons seen t e es = go (worth (support_of e) e.is_ref) refl
  where
    go : (q : Bool) → worth (support_of e) e.is_ref ≡ q → support_offers seen t (e ∷ es) ≡ support_offers seen t (e ∷ []) ++ support_offers seen t es
    go true h = rw h (unseen-split seen true (edge_offer t e) (map (edge_offer t) (keep (λ (e : Edge). worth (support_of e) e.is_ref) es)))
    go false h = rw h (unseen-split seen false (edge_offer t e) (map (edge_offer t) (keep (λ (e : Edge). worth (support_of e) e.is_ref) es)))

offer-out : (seen : List Ends) (t : ℕ) (e : Edge) → worth (support_of e) e.is_ref ≡ false → support_offers seen t (e ∷ []) ≡ []
unfolding support_offers
offer-out seen t e h = rw h (unseen-none seen)

offer-in : (seen : List Ends) (t : ℕ) (e : Edge) → worth (support_of e) e.is_ref ≡ true → support_offers seen t (e ∷ []) ≡ unseen seen (edge_offer t e ∷ [])
unfolding support_offers
offer-in seen t e h = rw h

pub record EdgeAdds (es : List ℕ) (m i t : ℕ) (vs : List ℕ) (v : ℕ) (out : List ℕ) (seen k : ℕ) : Type 0 where
  pub fork : Fork vs es m v
  pub edge : i < m
  pub few : Few m out k
  pub old : seen ≤ k
  pub small : t < 2 ^ 32
  pub rows : k * 4 ≤ length out
  pub room : (k + length (support_offers (seen_of es out seen) t (edge_at es i ∷ []))) * 4 ≤ length out

module _ (es : List ℕ) (m i t : ℕ) (vs : List ℕ) (v : ℕ) (out : List ℕ) (seen k : ℕ) (p : EdgeAdds es m i t vs v out seen k) where
  abbrev seens : List Ends
  seens = seen_of es out seen

  pub edge-room : HasEdge es i
  edge-room = let a = p.edge in let b = p.fork.room-e in omega arith

  module _ (c : ℕ) (hc : c ≡ edge_support es i) (ref : Bool) (hr : ref ≡ (edge_at es i).is_ref) (q : Bool) (hq : q ≡ worth c ref) where
    passes : worth (support_of (edge_at es i)) (edge_at es i).is_ref ≡ q
    unfolding support_of
    passes = sym (hq ∙ ap (λ (n : ℕ). worth n ref) hc ∙ ap (λ (b : Bool). worth (edge_support es i) b) hr)

    pub edge-left : q ≡ false → Grown es m out out k k (support_offers seens t (edge_at es i ∷ []))
    edge-left z = subst (λ (os : List Offer). Grown es m out out k k os) (sym (offer-out seens t (edge_at es i) (passes ∙ z))) (grown-none es m out k p.few)

    module _ (z : q ≡ true) (s : Bool) (hs : Offered out seen i s) where
      one : support_offers seens t (edge_at es i ∷ []) ≡ unseen seens (edge_offer t (edge_at es i) ∷ [])
      one = offer-in seens t (edge_at es i) (passes ∙ z)

      mine : among (edge_at es i).ends seens ≡ s
      mine = sym (hs.is es m p.fork.distinct p.edge (λ j h. p.few j (let b = p.old in omega arith)))

      pub edge-seen : s ≡ true → Grown es m out out k k (support_offers seens t (edge_at es i ∷ []))
      edge-seen y = subst (λ (os : List Offer). Grown es m out out k k os) (sym (one ∙ unseen-yes seens (edge_offer t (edge_at es i)) (mine ∙ y))) (grown-none es m out k p.few)

      module _ (y : s ≡ false) where
        new : support_offers seens t (edge_at es i ∷ []) ≡ edge_offer t (edge_at es i) ∷ []
        new = one ∙ unseen-no seens (edge_offer t (edge_at es i)) (mine ∙ y)

        pub edge_row : HasOffer out k
        edge_row = rooms (length (support_offers seens t (edge_at es i ∷ []))) p.room (ap length new)
          where
            rooms : (l : ℕ) → (k + l) * 4 ≤ length out → l ≡ 1 → HasOffer out k
            rooms l a b = omega arith

        pub edge-new : (out' : List ℕ) (k' : ℕ) → (out' ≡ row_put out k i c t 0) × (k' ≡ k + 1) → Grown es m out out' k k' (support_offers seens t (edge_at es i ∷ []))
        unfolding support_of
        edge-new out' k' hp =
            let g = grown-one es m out k i c t 0 p.few edge_row p.edge in
            let o : ◌≡◌ {A = Offer} (record { ends = (edge_at es i).ends; count = c; out_of = t; guided = false }) (edge_offer t (edge_at es i))
            = ap (λ (n : ℕ). record { ends = (edge_at es i).ends; count = n; out_of = t; guided = false }) hc in
            rw (hp.0, hp.1) (subst (λ (os : List Offer). Grown es m out (row_put out k i c t 0) k (k + 1) os) (ap (λ (d : Offer). d ∷ []) o ∙ sym new) g)

-- ---- the out-edges in order

abbrev pub left_from : List ℕ → ℕ → ℕ → ℕ → List Edge
left_from es m v t = out_from (edges_of es m) v t

keep_all : (p : Edge → Bool) (es : List Edge) → ((e : Edge) → p e ≡ true) → keep p es ≡ es
keep_all p [] h = refl
keep_all p (e ∷ es) h = rw (h e, keep_all p es h)

from_start : (es : List ℕ) (m v : ℕ) → left_from es m v 0 ≡ leaving (edges_of es m) v
unfolding out_from
from_start es m v = keep_all (λ e. leb 0 e.ends.to) (leaving (edges_of es m) v) (λ e. le-leb 0 e.ends.to (omega arith))

module _ (vs es : List ℕ) (m v t : ℕ) (f : Fork vs es m v) where
  pub onward-end : Nexts es m v t None → left_from es m v t ≡ []
  onward-end n = nexts-none es m v t n

  module _ (i : ℕ) (n : Nexts es m v t (Some i)) where
    pub onward-edge : i < m
    onward-edge = n.there.0

    pub onward-split : left_from es m v t ≡ edge_at es i ∷ left_from es m v (edge_to es i + 1)
    onward-split = nexts-some es m v t i f.distinct n

-- ---- the total

abbrev pub all_support : List ℕ → ℕ → ℕ → ℕ
all_support es m v = total support_of (leaving (edges_of es m) v)

pub record Totalling (vs es : List ℕ) (m v t sum : ℕ) : Type 0 where
  pub fork : Fork vs es m v
  pub run : sum + total support_of (left_from es m v t) ≡ all_support es m v
  pub small : all_support es m v < 2 ^ 32

pub totalling-start : {vs es : List ℕ} {m v t : ℕ} → Fork vs es m v → all_support es m v < 2 ^ 32 → t ≡ 0 → Totalling vs es m v t 0
totalling-start {vs} {es} {m} {v} f s h =
    rw h (record { fork = f; run = let z = ap (total support_of) (from_start es m v) in zeroed (total support_of (left_from es m v 0)) z; small = s })
  where
    zeroed : (a : ℕ) → a ≡ all_support es m v → 0 + a ≡ all_support es m v
    zeroed a h = omega arith

module _ {vs es : List ℕ} {m v t sum : ℕ} (w : Totalling vs es m v t sum) where
  pub totalling-end : Nexts es m v t None → sum ≡ all_support es m v
  totalling-end n = ended (total support_of (left_from es m v t)) w.run (ap (total support_of) (onward-end vs es m v t w.fork n))
    where
      ended : (a : ℕ) → sum + a ≡ all_support es m v → a ≡ 0 → sum ≡ all_support es m v
      ended a h k = omega arith

  module _ {i : ℕ} (n : Nexts es m v t (Some i)) where
    module _ (c : ℕ) (hc : c ≡ edge_support es i) where
      more : (sum + c) + total support_of (left_from es m v (edge_to es i + 1)) ≡ all_support es m v
      unfolding support_of
      more = grows c (total support_of (left_from es m v t)) (total support_of (left_from es m v (edge_to es i + 1))) w.run (ap (total support_of) (onward-split vs es m v t w.fork i n)) hc
        where
          grows : (c a b : ℕ) → sum + a ≡ all_support es m v → a ≡ edge_support es i + b → c ≡ edge_support es i → (sum + c) + b ≡ all_support es m v
          grows c a b h k z = omega arith

      pub totalling-fits : sum + c < 2 ^ 64
      totalling-fits = fits (total support_of (left_from es m v (edge_to es i + 1))) more w.small
        where
          fits : (b : ℕ) → (sum + c) + b ≡ all_support es m v → all_support es m v < 2 ^ 32 → sum + c < 2 ^ 64
          fits b h k = omega arith

      pub totalling-next : (t' : ℕ) → t' ≡ edge_to es i + 1 → Totalling vs es m v t' (sum + c)
      totalling-next t' a = record { fork = w.fork; run = rw a more; small = w.small }

-- ---- all out-edges

-- The out-edges of v may be offered by support after the first k rows: there is room for theirs.
pub record EdgesOffering (vs es : List ℕ) (m v t : ℕ) (out : List ℕ) (k : ℕ) : Type 0 where
  pub fork : Fork vs es m v
  pub few : Few m out k
  pub small : t < 2 ^ 32
  pub room : (k + length (support_offers (seen_of es out k) t (leaving (edges_of es m) v))) * 4 ≤ length out

-- some have been offered, and those with a target from `from` on are left
pub record Edging (vs es : List ℕ) (m v t : ℕ) (out₀ out : List ℕ) (k₀ from k : ℕ) : Type 0 where
  pub fork : Fork vs es m v
  pub small : t < 2 ^ 32
  pub done : List Offer
  pub grown : Grown es m out₀ out k₀ k done
  pub run : done ++ support_offers (seen_of es out₀ k₀) t (left_from es m v from) ≡ support_offers (seen_of es out₀ k₀) t (leaving (edges_of es m) v)
  pub room : (k + length (support_offers (seen_of es out₀ k₀) t (left_from es m v from))) * 4 ≤ length out

module _ (vs es : List ℕ) (m v t : ℕ) (out₀ : List ℕ) (k₀ : ℕ) where
  pub edging-start : EdgesOffering vs es m v t out₀ k₀ → (from : ℕ) → from ≡ 0 → Edging vs es m v t out₀ out₀ k₀ from k₀
  edging-start p from h =
      rw h
      (record {
        fork = p.fork;
        small = p.small;
        done = [];
        grown = grown-none es m out₀ k₀ p.few;
        run = ap (support_offers (seen_of es out₀ k₀) t) (from_start es m v);
        room = subst (λ (l : List Edge). (k₀ + length (support_offers (seen_of es out₀ k₀) t l)) * 4 ≤ length out₀) (sym (from_start es m v)) p.room;
      })

  module _ (out : List ℕ) (from k : ℕ) (w : Edging vs es m v t out₀ out k₀ from k) where
    pub edging-end : Nexts es m v from None → Grown es m out₀ out k₀ k (support_offers (seen_of es out₀ k₀) t (leaving (edges_of es m) v))
    edging-end z =
        subst (λ (os : List Offer). Grown es m out₀ out k₀ k os)
        (sym (append-nil w.done) ∙ ap (λ (l : List Offer). w.done ++ l) (sym (support-none (seen_of es out₀ k₀) t))
        ∙ ap (λ (l : List Edge). w.done ++ support_offers (seen_of es out₀ k₀) t l) (sym (onward-end vs es m v from w.fork z)) ∙ w.run)
        w.grown

    module _ (i : ℕ) (ne : Nexts es m v from (Some i)) where
      seen_same : seen_of es out k₀ ≡ seen_of es out₀ k₀
      seen_same = grown-seen w.grown k₀ (omega arith)

      abbrev head-offer : List Offer
      head-offer = support_offers (seen_of es out₀ k₀) t (edge_at es i ∷ [])

      abbrev more_edges : List Offer
      more_edges = support_offers (seen_of es out₀ k₀) t (left_from es m v (edge_to es i + 1))

      parts : support_offers (seen_of es out₀ k₀) t (left_from es m v from) ≡ head-offer ++ more_edges
      parts =
          ap (support_offers (seen_of es out₀ k₀) t) (onward-split vs es m v from w.fork i ne)
          ∙ support-cons (seen_of es out₀ k₀) t (edge_at es i) (left_from es m v (edge_to es i + 1))

      sizes : length head-offer + length more_edges ≡ length (support_offers (seen_of es out₀ k₀) t (left_from es m v from))
      sizes = sym (ap length parts ∙ length-append head-offer more_edges)

      rooms : (a b c : ℕ) → a + b ≡ c → (k + c) * 4 ≤ length out → (k + a) * 4 ≤ length out
      rooms a b c h l = omega arith

      rowed : (a : ℕ) → (k + a) * 4 ≤ length out → k * 4 ≤ length out
      rowed a l = omega arith

      pub edging-adds : EdgeAdds es m i t vs v out k₀ k
      edging-adds =
          record {
            fork = w.fork;
            edge = onward-edge vs es m v from w.fork i ne;
            few = w.grown.few;
            old = w.grown.le;
            small = w.small;
            rows = rowed (length (support_offers (seen_of es out₀ k₀) t (left_from es m v from))) w.room;
            room =
                subst (λ (s : List Ends). (k + length (support_offers s t (edge_at es i ∷ []))) * 4 ≤ length out) (sym seen_same)
                (rooms (length head-offer) (length more_edges) _ sizes w.room);
          }

      pub edging-next : (out' : List ℕ) (k' : ℕ) → Grown es m out out' k k' (support_offers (seen_of es out k₀) t (edge_at es i ∷ [])) → (from' : ℕ) → from' ≡ edge_to es i + 1
          → Edging vs es m v t out₀ out' k₀ from' k'
      edging-next out' k' g from' a =
          let g' : Grown es m out out' k k' (support_offers (seen_of es out₀ k₀) t (edge_at es i ∷ []))
          = subst (λ (s : List Ends). Grown es m out out' k k' (support_offers s t (edge_at es i ∷ []))) seen_same g in
          rw a
          (record {
            fork = w.fork;
            small = w.small;
            done = w.done ++ head-offer;
            grown = grown-trans w.grown g';
            run = append_assoc w.done head-offer more_edges ∙ ap (λ (l : List Offer). w.done ++ l) (sym parts) ∙ w.run;
            room = after (length head-offer) (length more_edges) _ sizes w.room (grown-many g') g.long;
          })
        where
          after : (a b c : ℕ) → a + b ≡ c → (k + c) * 4 ≤ length out → k' ≡ k + a → length out' ≡ length out → (k' + b) * 4 ≤ length out'
          after a b c h l p q = omega arith
