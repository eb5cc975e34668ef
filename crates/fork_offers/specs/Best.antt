-- Of a node's real branches the best: that of greatest count, ties to the larger edge, which comes later.
use Rattle.std.specs.Prelude.{◌≡◌, refl, ◌⊎◌, ℕ, ◌<◌, ◌≤◌, Bool, true, cond, Option, Some, None, IfSome}
use Rattle.std.proofs.Math.Path.{sym, ap, subst}
use Rattle.std.proofs.Common.{◌∙◌, inl, inr}
use mathlib.Core.List.{List, [], ◌∷◌, ◌++◌}
use native.Mathlib.Omega.{arith}
use Rattle.std.proofs.Math.Decide.{dec_lt}
use borrow.Author.Tests.{le-leb, lt-leb}
use Rattle.definition.specs.Threading.{Ends}
use Rattle.definition.specs.Evidence.{Branches, bare, branch}
use Rattle.definition.specs.Search.{SearchInput, Offer, real_branches, best}
use Rattle.threading_node.specs.Slots.{cols, Slot}
use Rattle.threading_node.specs.Links.{slot_at, link_to, Linked, link_is, linked_at, some-link, none-link}
use Rattle.threading_node.specs.Take.{Wide, wide-slot}
use Rattle.threading_tree.specs.Read.{Leads, Readable, BranchAt, leads_one, leads-none, leads-branch}
use Rattle.fork_offers.specs.Real.{node_edge, is_real}

-- ---- the best of a list

best_none : best [] ≡ []
unfolding best
best_none = refl

module _ (o : Offer) (os : List Offer) where
  best-only : best os ≡ [] → best (o ∷ os) ≡ o ∷ []
  unfolding best
  best-only h = rw (h, best)

  module _ (p : Offer) (ps : List Offer) (h : best os ≡ p ∷ ps) where
    best-le : o.count ≤ p.count → best (o ∷ os) ≡ p ∷ ps
    unfolding best
    best-le k = rw (h, best, le-leb o.count p.count k)

    best-gt : p.count < o.count → best (o ∷ os) ≡ o ∷ []
    unfolding best
    best-gt k = rw (h, best, lt-leb o.count p.count k)

module _ (p o : Offer) (os : List Offer) where
  best-later : p.count ≤ o.count → best (p ∷ o ∷ os) ≡ best (o ∷ os)
  best-later h = go (best os) refl
    where
      at : (q : Offer) (qs : List Offer) → best os ≡ q ∷ qs → Dec (q.count < o.count) → best (p ∷ o ∷ os) ≡ best (o ∷ os)
      at q qs z (yes k) = let y = best-gt o os q qs z k in best-le p (o ∷ os) o [] y h ∙ sym y
      at q qs z (no k) = let y = best-le o os q qs z (omega arith) in best-le p (o ∷ os) q qs y (omega arith) ∙ sym y

      go : (qs : List Offer) → best os ≡ qs → best (p ∷ o ∷ os) ≡ best (o ∷ os)
      go [] z = let y = best-only o os z in best-le p (o ∷ os) o [] y h ∙ sym y
      go (q ∷ qs) z = at q qs z (dec_lt q.count o.count)

  best-former : o.count < p.count → best (p ∷ o ∷ os) ≡ best (p ∷ os)
  best-former h = go (best os) refl
    where
      at : (q : Offer) (qs : List Offer) → best os ≡ q ∷ qs → Dec (q.count < o.count) → Dec (q.count < p.count) → best (p ∷ o ∷ os) ≡ best (p ∷ os)
      at q qs z (yes k) (yes l) = let y = best-gt o os q qs z k in best-gt p (o ∷ os) o [] y h ∙ sym (best-gt p os q qs z l)
      at q qs z (yes k) (no l) = absurd (omega arith)
      at q qs z (no k) (yes l) = let y = best-le o os q qs z (omega arith) in best-gt p (o ∷ os) q qs y l ∙ sym (best-gt p os q qs z l)
      at q qs z (no k) (no l) = let y = best-le o os q qs z (omega arith) in best-le p (o ∷ os) q qs y (omega arith) ∙ sym (best-le p os q qs z (omega arith))

      go : (qs : List Offer) → best os ≡ qs → best (p ∷ o ∷ os) ≡ best (p ∷ os)
      go [] z = let y = best-only o os z in best-gt p (o ∷ os) o [] y h ∙ sym (best-only p os z)
      go (q ∷ qs) z = at q qs z (dec_lt q.count o.count) (dec_lt q.count p.count)

-- ---- the offer of a node's slot

abbrev pub offer_of : List ℕ → ℕ → ℕ → Offer
offer_of x t s = record { ends = node_edge x s; count = (cols x).count s; out_of = t; guided = true }

abbrev pub one_of : List ℕ → ℕ → Option ℕ → List Offer
one_of x t None = []
one_of x t (Some s) = offer_of x t s ∷ []

one-best : (x : List ℕ) (t : ℕ) (o : Option ℕ) → best (one_of x t o ++ []) ≡ one_of x t o
one-best x t None = best_none
one-best x t (Some s) = best-only (offer_of x t s) [] best_none

-- ---- the better of the best so far and the next sibling

pub record Better (x : List ℕ) (outs : List Ends) (e : Ends) (old : Option ℕ) (at : ℕ) (r : Option ℕ) : Type 0 where
  pub is : (t : ℕ) (os : List Offer) → best (one_of x t old ++ cond (is_real outs e (node_edge x at)) (offer_of x t at ∷ os) os) ≡ best (one_of x t r ++ os)
  pub from : (r ≡ old) ⊎ ((r ≡ Some at) × (is_real outs e (node_edge x at) ≡ true))

module _ (x : List ℕ) (outs : List Ends) (e : Ends) (at : ℕ) where
  module _ (real : is_real outs e (node_edge x at) ≡ true) where
    on : (old : Option ℕ) (t : ℕ) (os : List Offer) → best (one_of x t old ++ cond (is_real outs e (node_edge x at)) (offer_of x t at ∷ os) os) ≡ best (one_of x t old ++ offer_of x t at ∷ os)
    on old t os = ap (λ (d : Bool). best (one_of x t old ++ cond d (offer_of x t at ∷ os) os)) real

    module _ (old : ℕ) where
      pub better-less : (cols x).count at < (cols x).count old → Better x outs e (Some old) at (Some old)
      better-less l =
          record { is = λ t os. on (Some old) t os ∙ best-former (offer_of x t old) (offer_of x t at) os l; from = inl refl }

      pub better-more : (cols x).count old ≤ (cols x).count at → Better x outs e (Some old) at (Some at)
      better-more l =
          record { is = λ t os. on (Some old) t os ∙ best-later (offer_of x t old) (offer_of x t at) os l; from = inr (refl, real) }

-- ---- the row of siblings

pub real-bare : (f : SearchInput) (outs : List Ends) (t : ℕ) → real_branches f outs t bare ≡ []
unfolding real_branches
real-bare f outs t = refl

-- the real branches at a link
pub real-at : (f : SearchInput) (outs : List Ends) (t : ℕ) (x : List ℕ) (l : ℕ) (b below next : Branches) (e : Ends) → f.symbolic ≡ e → b ≡ branch (node_edge x l) ((cols x).count l) below next
    → real_branches f outs t b ≡ cond (is_real outs e (node_edge x l)) (offer_of x t l ∷ real_branches f outs t next) (real_branches f outs t next)
unfolding real_branches
real-at f outs t x l b below next e y z =
    ap (real_branches f outs t) z
    ∙ ap (λ (d : Ends). cond (is_real outs d (node_edge x l)) (offer_of x t l ∷ real_branches f outs t next) (real_branches f outs t next)) y

-- by the answer, the slot of the best real branch of the row at `link`
pub record Chosen (n : ℕ) (x : List ℕ) (outs : List Ends) (link : ℕ) (e : Ends) (r : Option ℕ) : Type 0 where
  pub is : (f : SearchInput) (t : ℕ) (b : Branches) → f.symbolic ≡ e → Leads n x link b → best (real_branches f outs t b) ≡ one_of x t r
  pub live : IfSome r (λ s. s ≤ n)
  pub real : IfSome r (λ s. is_real outs e (node_edge x s) ≡ true)

pub record Choosing (cap n : ℕ) (x : List ℕ) (outs : List Ends) (link : ℕ) (e : Ends) (at old : Option ℕ) : Type 0 where
  pub rest : Branches
  pub leads : Leads n x (link_to at) rest
  pub linked : Linked at
  pub room : n ≤ cap
  pub wide : Wide cap x
  pub run : (f : SearchInput) (t : ℕ) (b : Branches) → f.symbolic ≡ e → Leads n x link b
      → best (one_of x t old ++ real_branches f outs t rest) ≡ best (real_branches f outs t b)
  pub live : IfSome old (λ s. s ≤ n)
  pub real : IfSome old (λ s. is_real outs e (node_edge x s) ≡ true)

-- the next link of the row
pub next-link : (x : List ℕ) (s : ℕ) (nx : Option ℕ) → nx ≡ slot_at ((cols x).next s) → (link_to nx ≡ (cols x).next s) × Linked nx
next-link x s nx h = (ap link_to h ∙ link_is ((cols x).next s), rw h (linked_at ((cols x).next s)))

pub choosing-start : (cap n : ℕ) (x : List ℕ) (outs : List Ends) (start : Option ℕ) (e : Ends) → Readable cap n x (link_to start) × Linked start → Choosing cap n x outs (link_to start) e start None
choosing-start cap n x outs start e p =
    record {
      rest = p.0.branches;
      leads = p.0.leads;
      linked = p.1;
      room = p.0.room;
      wide = p.0.wide;
      run = λ f t b y h. ap (λ (d : Branches). best (real_branches f outs t d)) (leads_one n x (link_to start) p.0.branches b p.0.leads h);
      live = tt;
      real = tt;
    }

module _ (cap n : ℕ) (x : List ℕ) (outs : List Ends) (link : ℕ) (e : Ends) where
  module _ (at old : Option ℕ) (k : Choosing cap n x outs link e at old) where
    pub choosing-end : ((s : ℕ) → at ≡ Some s → ⊥) → Chosen n x outs link e old
    choosing-end ne =
        record {
          is = λ f t b y h.
              sym
              (sym (one-best x t old) ∙ ap (λ (d : List Offer). best (one_of x t old ++ d)) (sym (real-bare f outs t))
              ∙ ap (λ (d : Branches). best (one_of x t old ++ real_branches f outs t d)) (sym (leads-none n x (link_to at) k.rest k.leads (none-link at ne))) ∙ k.run f t b y h);
          live = k.live;
          real = k.real;
        }

    pub choosing-old : IfSome old (λ s. Slot s x)
    choosing-old = go old k.live
      where
        go : (old : Option ℕ) → IfSome old (λ s. s ≤ n) → IfSome old (λ s. Slot s x)
        go None q = tt
        go (Some s) q = let r = k.room in wide-slot k.wide s (omega arith)

    module _ (s : ℕ) (is : at ≡ Some s) where
      leads-at : Leads n x s k.rest
      leads-at = rw is at k.leads

      here : BranchAt n x s k.rest
      here = leads-branch n x s k.rest leads-at (some-link at s k.linked is)

      pub choosing-slot : Slot s x
      choosing-slot = let q = here.live in let r = k.room in wide-slot k.wide s (omega arith)

      module _ (new : Option ℕ) (h : Better x outs e old s new) (nx : Option ℕ) (hn : nx ≡ slot_at ((cols x).next s)) where
        pub choosing-next : Choosing cap n x outs link e nx new
        choosing-next =
            let l = next-link x s nx hn in
            record {
              rest = here.next;
              leads = subst (λ (d : ℕ). Leads n x d here.next) (sym l.0) here.rest;
              linked = l.1;
              room = k.room;
              wide = k.wide;
              run = λ f t b y l.
                  sym (h.is t (real_branches f outs t here.next))
                  ∙ ap (λ (d : List Offer). best (one_of x t old ++ d)) (sym (real-at f outs t x s k.rest here.below here.next e y here.is)) ∙ k.run f t b y l;
              live = lives h.from;
              real = reals h.from;
            }
          where
            lives : (new ≡ old) ⊎ ((new ≡ Some s) × (is_real outs e (node_edge x s) ≡ true)) → IfSome new (λ s. s ≤ n)
            lives (inl z) = rw z k.live
            lives (inr z) = rw z.0 here.live

            reals : (new ≡ old) ⊎ ((new ≡ Some s) × (is_real outs e (node_edge x s) ≡ true)) → IfSome new (λ s. is_real outs e (node_edge x s) ≡ true)
            reals (inl z) = rw z k.real
            reals (inr z) = rw z.0 z.1

-- counts by the names that the code has for them
pub less-named : {a b c d : ℕ} → a ≡ c → b ≡ d → a < b → c < d
less-named p q h = omega arith

pub more-named : {a b c d : ℕ} → a ≡ c → b ≡ d → a ≤ b → c ≤ d
more-named p q h = omega arith
