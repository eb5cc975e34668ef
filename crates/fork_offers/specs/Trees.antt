-- What one active tree offers: all its real branches, or only the best of them, each edge once.
use Rattle.std.specs.Prelude.{◌≡◌, refl, ℕ, ◌+◌, ◌*◌, ◌^◌, ◌<◌, ◌≤◌, Bool, true, false, cond, Option, Some, None}
use Rattle.std.proofs.Math.Path.{sym, ap, subst}
use Rattle.std.proofs.Common.{◌∙◌, length-append}
use mathlib.Core.List.{List, [], ◌∷◌, ◌++◌, append_assoc}
use native.Mathlib.Omega.{arith}
use Rattle.std.proofs.Math.ListN.{length}
use Rattle.definition.specs.Threading.{Ends}
use Rattle.definition.specs.Evidence.{Branches, bare, branch}
use Rattle.definition.specs.Search.{SearchInput, Offer, among, unseen, real_branches, best}
use Rattle.assembly.specs.Store.{edge_at}
use Rattle.threading_node.specs.Slots.{cols, Slot}
use Rattle.threading_node.specs.Links.{slot_at, link_to, Linked, some-link, none-link}
use Rattle.threading_node.specs.Take.{Wide, wide-slot}
use Rattle.threading_tree.specs.Read.{Leads, Readable, BranchAt, leads_one, leads-none, leads-branch}
use Rattle.fork_offers.specs.Fields.{HasOffer}
use Rattle.fork_offers.specs.Real.{Fork, node_edge, is_real, outs_of, RealEdge}
use Rattle.fork_offers.specs.Best.{offer_of, Chosen, real-bare, real-at, next-link}
use Rattle.fork_offers.specs.Rows.{Few, seen_of, Offered, Grown, row_put, append-nil, grown-none, grown-one, grown-trans, grown-seen, grown-many, unseen-none, unseen-yes, unseen-no, unseen-split}

-- ---- one branch

-- the offer of the branch in slot s, where it is real and not among the edges seen
unfoldable pub branch_offer : List Ends → List Ends → Ends → List ℕ → ℕ → ℕ → List Offer
branch_offer seen outs e x t s = unseen seen (cond (is_real outs e (node_edge x s)) (offer_of x t s ∷ []) [])

-- there is room for its row after the first k rows of `out`
pub record Adds (vs es : List ℕ) (m : ℕ) (x : List ℕ) (s t v : ℕ) (e : Ends) (out : List ℕ) (seen k : ℕ) : Type 0 where
  pub fork : Fork vs es m v
  pub slot : Slot s x
  pub few : Few m out k
  pub old : seen ≤ k
  pub small : t < 2 ^ 32
  pub rows : k * 4 ≤ length out
  pub room : (k + length (branch_offer (seen_of es out seen) (outs_of es m v) e x t s)) * 4 ≤ length out

module _ (vs es : List ℕ) (m : ℕ) (x : List ℕ) (s t v : ℕ) (e : Ends) (out : List ℕ) (seen k : ℕ) (p : Adds vs es m x s t v e out seen k) where
  abbrev seens : List Ends
  seens = seen_of es out seen

  abbrev outs_here : List Ends
  outs_here = outs_of es m v

  pub adds-unreal : RealEdge es m v x s e None → Grown es m out out k k (branch_offer seens outs_here e x t s)
  unfolding branch_offer
  adds-unreal hr =
      subst (λ (os : List Offer). Grown es m out out k k os)
      (sym (ap (λ (d : Bool). unseen seens (cond d (offer_of x t s ∷ []) [])) hr.is ∙ unseen-none seens)) (grown-none es m out k p.few)

  module _ (i : ℕ) (hr : RealEdge es m v x s e (Some i)) where
    real : branch_offer seens outs_here e x t s ≡ unseen seens (offer_of x t s ∷ [])
    unfolding branch_offer
    real = ap (λ (d : Bool). unseen seens (cond d (offer_of x t s ∷ []) [])) hr.is

    module _ (q : Bool) (hq : Offered out seen i q) where
      mine : among (node_edge x s) seens ≡ q
      mine =
          let w = hr.there in
          ap (λ (d : Ends). among d seens) (sym w.1)
          ∙ sym (hq.is es m p.fork.distinct (let a = w.0 in omega arith) (λ j h. p.few j (let b = p.old in omega arith)))

      pub adds-seen : q ≡ true → Grown es m out out k k (branch_offer seens outs_here e x t s)
      adds-seen z = subst (λ (os : List Offer). Grown es m out out k k os) (sym (real ∙ unseen-yes seens (offer_of x t s) (mine ∙ z))) (grown-none es m out k p.few)

      module _ (z : q ≡ false) where
        new : branch_offer seens outs_here e x t s ≡ offer_of x t s ∷ []
        new = real ∙ unseen-no seens (offer_of x t s) (mine ∙ z)

        pub adds-room : HasOffer out k
        adds-room = let a = p.room in let b : length (branch_offer seens outs_here e x t s) ≡ 1 = ap length new in rooms (length (branch_offer seens outs_here e x t s)) a b
          where
            rooms : (l : ℕ) → (k + l) * 4 ≤ length out → l ≡ 1 → HasOffer out k
            rooms l a b = omega arith

        module _ (c : ℕ) (hc : c ≡ (cols x).count s) (out' : List ℕ) (k' : ℕ) (hp : (out' ≡ row_put out k i c t 1) × (k' ≡ k + 1)) where
          pub adds-new : Grown es m out out' k k' (branch_offer seens outs_here e x t s)
          adds-new =
              let w = hr.there in
              let g = grown-one es m out k i c t 1 p.few adds-room (let a = w.0 in omega arith) in
              let o : ◌≡◌ {A = Offer} (record { ends = (edge_at es i).ends; count = c; out_of = t; guided = true }) (offer_of x t s) = same-offer w.1 hc in
              rw (hp.0, hp.1) (subst (λ (os : List Offer). Grown es m out (row_put out k i c t 1) k (k + 1) os) (ap (λ (d : Offer). d ∷ []) o ∙ sym new) g)
            where
              same-offer : {a b : Ends} {n l : ℕ} → a ≡ b → n ≡ l
                  → ◌≡◌ {A = Offer} (record { ends = a; count = n; out_of = t; guided = true }) (record { ends = b; count = l; out_of = t; guided = true })
              same-offer h k = rw (h, k)

-- ---- all branches of a node

-- the offers of the branches b that are not among the edges seen
unfoldable pub tree_offers : SearchInput → List Ends → List Ends → ℕ → Branches → List Offer
tree_offers f seen outs t b = unseen seen (real_branches f outs t b)

pub tree_is : (f : SearchInput) (seen outs : List Ends) (t : ℕ) (b : Branches) → unseen seen (real_branches f outs t b) ≡ tree_offers f seen outs t b
unfolding tree_offers
tree_is f seen outs t b = refl

tree-bare : (f : SearchInput) (seen outs : List Ends) (t : ℕ) → tree_offers f seen outs t bare ≡ []
unfolding tree_offers
tree-bare f seen outs t = ap (unseen seen) (real-bare f outs t) ∙ unseen-none seen

tree-at : (f : SearchInput) (seen outs : List Ends) (t : ℕ) (x : List ℕ) (l : ℕ) (b below next : Branches) (e : Ends) → f.symbolic ≡ e
    → b ≡ branch (node_edge x l) ((cols x).count l) below next → tree_offers f seen outs t b ≡ branch_offer seen outs e x t l ++ tree_offers f seen outs t next
unfolding tree_offers branch_offer
tree-at f seen outs t x l b below next e y z =
    ap (unseen seen) (real-at f outs t x l b below next e y z) ∙ unseen-split seen (is_real outs e (node_edge x l)) (offer_of x t l) (real_branches f outs t next)

-- The branches at the link may be offered after the first k rows: there is room for theirs.
pub record Offering (vs es : List ℕ) (m cap n : ℕ) (x : List ℕ) (link t v : ℕ) (e : Ends) (out : List ℕ) (k : ℕ) : Type 0 where
  pub fork : Fork vs es m v
  pub readable : Readable cap n x link
  pub few : Few m out k
  pub small : t < 2 ^ 32
  pub input : SearchInput
  pub same : input.symbolic ≡ e
  pub room : (k + length (tree_offers input (seen_of es out k) (outs_of es m v) t readable.branches)) * 4 ≤ length out

pub record TreeOffered (es : List ℕ) (m n : ℕ) (x : List ℕ) (link t v : ℕ) (e : Ends) (out out' : List ℕ) (k r : ℕ) : Type 0 where
  pub is : (f : SearchInput) (b : Branches) → f.symbolic ≡ e → Leads n x link b → Grown es m out out' k r (tree_offers f (seen_of es out k) (outs_of es m v) t b)

-- some branches have been offered, and the rest is the row at the link
pub record Branching (vs es : List ℕ) (m cap n : ℕ) (x : List ℕ) (link t v : ℕ) (e : Ends) (out₀ out : List ℕ) (k₀ : ℕ) (at : Option ℕ) (k : ℕ) : Type 0 where
  pub fork : Fork vs es m v
  pub rest : Branches
  pub leads : Leads n x (link_to at) rest
  pub linked : Linked at
  pub few : n ≤ cap
  pub wide : Wide cap x
  pub small : t < 2 ^ 32
  pub input : SearchInput
  pub same : input.symbolic ≡ e
  pub done : List Offer
  pub grown : Grown es m out₀ out k₀ k done
  pub run : (f : SearchInput) (b : Branches) → f.symbolic ≡ e → Leads n x link b
      → done ++ tree_offers f (seen_of es out₀ k₀) (outs_of es m v) t rest ≡ tree_offers f (seen_of es out₀ k₀) (outs_of es m v) t b
  pub room : (k + length (tree_offers input (seen_of es out₀ k₀) (outs_of es m v) t rest)) * 4 ≤ length out

pub branching-start : (vs es : List ℕ) (m cap n : ℕ) (x : List ℕ) (start : Option ℕ) (t v : ℕ) (e : Ends) (out₀ : List ℕ) (k₀ : ℕ) → Offering vs es m cap n x (link_to start) t v e out₀ k₀ → Linked start → Branching vs es m cap n x (link_to start) t v e out₀ out₀ k₀ start k₀
branching-start vs es m cap n x start t v e out₀ k₀ p l =
    record {
      fork = p.fork;
      rest = p.readable.branches;
      leads = p.readable.leads;
      linked = l;
      few = p.readable.room;
      wide = p.readable.wide;
      small = p.small;
      input = p.input;
      same = p.same;
      done = [];
      grown = grown-none es m out₀ k₀ p.few;
      run = λ f b y h. ap (tree_offers f (seen_of es out₀ k₀) (outs_of es m v) t) (leads_one n x (link_to start) p.readable.branches b p.readable.leads h);
      room = p.room;
    }

module _ (vs es : List ℕ) (m cap n : ℕ) (x : List ℕ) (link t v : ℕ) (e : Ends) (out₀ : List ℕ) (k₀ : ℕ) where
  module _ (out : List ℕ) (at : Option ℕ) (k : ℕ) (w : Branching vs es m cap n x link t v e out₀ out k₀ at k) where
    pub branching-end : ((s : ℕ) → at ≡ Some s → ⊥) → TreeOffered es m n x link t v e out₀ out k₀ k
    branching-end z =
        record {
          is = λ f b y h.
              subst (λ (os : List Offer). Grown es m out₀ out k₀ k os)
              (sym (append-nil w.done) ∙ ap (λ (l : List Offer). w.done ++ l) (sym (tree-bare f (seen_of es out₀ k₀) (outs_of es m v) t))
              ∙ ap (λ (d : Branches). w.done ++ tree_offers f (seen_of es out₀ k₀) (outs_of es m v) t d) (sym (leads-none n x (link_to at) w.rest w.leads (none-link at z))) ∙ w.run f b y h)
              w.grown;
        }

    module _ (s : ℕ) (is : at ≡ Some s) where
      leads-at : Leads n x s w.rest
      leads-at = rw is at w.leads

      here : BranchAt n x s w.rest
      here = leads-branch n x s w.rest leads-at (some-link at s w.linked is)

      branching-slot : Slot s x
      unfolding here
      branching-slot = let q = here.live in let r = w.few in wide-slot w.wide s (omega arith)

      seen_same : seen_of es out k₀ ≡ seen_of es out₀ k₀
      seen_same = grown-seen w.grown k₀ (omega arith)

      parts : (f : SearchInput) → f.symbolic ≡ e
          → tree_offers f (seen_of es out₀ k₀) (outs_of es m v) t w.rest
          ≡ branch_offer (seen_of es out₀ k₀) (outs_of es m v) e x t s ++ tree_offers f (seen_of es out₀ k₀) (outs_of es m v) t here.next
      unfolding here
      parts f y = tree-at f (seen_of es out₀ k₀) (outs_of es m v) t x s w.rest here.below here.next e y here.is

      sizes : length (branch_offer (seen_of es out₀ k₀) (outs_of es m v) e x t s) + length (tree_offers w.input (seen_of es out₀ k₀) (outs_of es m v) t here.next)
          ≡ length (tree_offers w.input (seen_of es out₀ k₀) (outs_of es m v) t w.rest)
      sizes =
          sym
          (ap length (parts w.input w.same)
          ∙ length-append (branch_offer (seen_of es out₀ k₀) (outs_of es m v) e x t s) (tree_offers w.input (seen_of es out₀ k₀) (outs_of es m v) t here.next))

      rooms : (a b c : ℕ) → a + b ≡ c → (k + c) * 4 ≤ length out → (k + a) * 4 ≤ length out
      rooms a b c h l = omega arith

      pub branching-adds : Adds vs es m x s t v e out k₀ k
      branching-adds =
          let ro = w.room in
          record {
            fork = w.fork;
            slot = branching-slot;
            few = w.grown.few;
            old = w.grown.le;
            small = w.small;
            rows = rowed (length (tree_offers w.input (seen_of es out₀ k₀) (outs_of es m v) t w.rest)) ro;
            room =
                subst (λ (l : List Ends). (k + length (branch_offer l (outs_of es m v) e x t s)) * 4 ≤ length out) (sym seen_same)
                (rooms (length (branch_offer (seen_of es out₀ k₀) (outs_of es m v) e x t s))
                (length (tree_offers w.input (seen_of es out₀ k₀) (outs_of es m v) t here.next)) _ sizes ro);
          }
        where
          rowed : (a : ℕ) → (k + a) * 4 ≤ length out → k * 4 ≤ length out
          rowed a l = omega arith

      module _ (out' : List ℕ) (k' : ℕ) (g : Grown es m out out' k k' (branch_offer (seen_of es out k₀) (outs_of es m v) e x t s)) (nx : Option ℕ) (hn : nx ≡ slot_at ((cols x).next s)) where
        pub branching-next : Branching vs es m cap n x link t v e out₀ out' k₀ nx k'
        unfolding here
        branching-next =
            let l = next-link x s nx hn in
            let g' : Grown es m out out' k k' (branch_offer (seen_of es out₀ k₀) (outs_of es m v) e x t s)
            = subst (λ (l : List Ends). Grown es m out out' k k' (branch_offer l (outs_of es m v) e x t s)) seen_same g in
            record {
              fork = w.fork;
              rest = here.next;
              leads = subst (λ (d : ℕ). Leads n x d here.next) (sym l.0) here.rest;
              linked = l.1;
              few = w.few;
              wide = w.wide;
              small = w.small;
              input = w.input;
              same = w.same;
              done = w.done ++ branch_offer (seen_of es out₀ k₀) (outs_of es m v) e x t s;
              grown = grown-trans w.grown g';
              run = λ f b y h.
                  append_assoc w.done (branch_offer (seen_of es out₀ k₀) (outs_of es m v) e x t s) (tree_offers f (seen_of es out₀ k₀) (outs_of es m v) t here.next)
                  ∙ ap (λ (l : List Offer). w.done ++ l) (sym (parts f y)) ∙ w.run f b y h;
              room = after (length (branch_offer (seen_of es out₀ k₀) (outs_of es m v) e x t s)) (length (tree_offers w.input (seen_of es out₀ k₀) (outs_of es m v) t here.next)) _ sizes w.room (grown-many g') g.long;
            }
          where
            after : (a b c : ℕ) → a + b ≡ c → (k + c) * 4 ≤ length out → k' ≡ k + a → length out' ≡ length out → (k' + b) * 4 ≤ length out'
            after a b c h l p q = omega arith

-- ---- only the best branch

unfoldable pub best_offers : SearchInput → List Ends → List Ends → ℕ → Branches → List Offer
best_offers f seen outs t b = unseen seen (best (real_branches f outs t b))

pub best-is : (f : SearchInput) (seen outs : List Ends) (t : ℕ) (b : Branches) → unseen seen (best (real_branches f outs t b)) ≡ best_offers f seen outs t b
unfolding best_offers
best-is f seen outs t b = refl

pub record BestOffering (vs es : List ℕ) (m cap n : ℕ) (x : List ℕ) (link t v : ℕ) (e : Ends) (out : List ℕ) (k : ℕ) : Type 0 where
  pub fork : Fork vs es m v
  pub readable : Readable cap n x link
  pub few : Few m out k
  pub small : t < 2 ^ 32
  pub input : SearchInput
  pub same : input.symbolic ≡ e
  pub room : (k + length (best_offers input (seen_of es out k) (outs_of es m v) t readable.branches)) * 4 ≤ length out

pub record BestOffered (es : List ℕ) (m n : ℕ) (x : List ℕ) (link t v : ℕ) (e : Ends) (out out' : List ℕ) (k r : ℕ) : Type 0 where
  pub is : (f : SearchInput) (b : Branches) → f.symbolic ≡ e → Leads n x link b → Grown es m out out' k r (best_offers f (seen_of es out k) (outs_of es m v) t b)

module _ (vs es : List ℕ) (m cap n : ℕ) (x : List ℕ) (link t v : ℕ) (e : Ends) (out : List ℕ) (k : ℕ) (p : BestOffering vs es m cap n x link t v e out k) where
  pub best-offers-none : Chosen n x (outs_of es m v) link e None → BestOffered es m n x link t v e out out k k
  unfolding best_offers
  best-offers-none h =
      record {
        is = λ f b y l.
            subst (λ (os : List Offer). Grown es m out out k k os)
            (sym (ap (unseen (seen_of es out k)) (h.is f t b y l) ∙ unseen-none (seen_of es out k))) (grown-none es m out k p.few);
      }

  module _ (s : ℕ) (h : Chosen n x (outs_of es m v) link e (Some s)) where
    only : (f : SearchInput) (b : Branches) → f.symbolic ≡ e → Leads n x link b
        → branch_offer (seen_of es out k) (outs_of es m v) e x t s ≡ best_offers f (seen_of es out k) (outs_of es m v) t b
    unfolding best_offers branch_offer
    only f b y l =
        ap (λ (q : Bool). unseen (seen_of es out k) (cond q (offer_of x t s ∷ []) [])) h.real
        ∙ sym (ap (unseen (seen_of es out k)) (h.is f t b y l))

    pub best-adds : Adds vs es m x s t v e out k k
    best-adds =
        let a = h.live in
        let b = p.readable.room in
        record {
          fork = p.fork;
          slot = wide-slot p.readable.wide s (omega arith);
          few = p.few;
          old = omega arith;
          small = p.small;
          rows = rowed (length (best_offers p.input (seen_of es out k) (outs_of es m v) t p.readable.branches)) p.room;
          room =
              subst (λ (os : List Offer). (k + length os) * 4 ≤ length out) (sym (only p.input p.readable.branches p.same p.readable.leads)) p.room;
        }
      where
        rowed : (a : ℕ) → (k + a) * 4 ≤ length out → k * 4 ≤ length out
        rowed a l = omega arith

    pub best-offers-one : (out' : List ℕ) (k' : ℕ) → Grown es m out out' k k' (branch_offer (seen_of es out k) (outs_of es m v) e x t s) → BestOffered es m n x link t v e out out' k k'
    best-offers-one out' k' g = record { is = λ f b y l. subst (λ (os : List Offer). Grown es m out out' k k' os) (only f b y l) g }
