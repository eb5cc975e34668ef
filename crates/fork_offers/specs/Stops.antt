-- At the sink: whether the active trees let a path close.
use Rattle.std.specs.Prelude.{Option, Some, None, is_some, ◌≡◌, refl, ℕ, ◌+◌, ◌<◌, ◌≤◌, Bool, true, false, List, [], ◌∷◌, get_or}
use Rattle.std.proofs.Math.Path.{sym, ap}
use Rattle.std.proofs.Common.{arith, subst, ◌∙◌}
use Rattle.std.proofs.Math.Dec.{leb}
use borrow.Author.Tests.{le-leb, lt-leb}
use Rattle.laws.specs.Numbers.{reaches}
use Rattle.definition.specs.Threading.{Ends}
use Rattle.definition.specs.Evidence.{Branches}
use Rattle.definition.specs.Search.{SearchInput, offers_edge, sum_of, has_stopping_evidence}
use Rattle.threading_node.specs.Slots.{cols}
use Rattle.threading_node.specs.Links.{slot_at, link_to, link_is}
use Rattle.threading_tree.specs.Read.{Leads, ChildSlot, Summed}
use Rattle.fork_offers.specs.Actives.{Least, Actives, Active, First, actives-one, actives-end, actives-first}

-- ---- at the sink (Rust: has_stopping_evidence)

-- by the answer, for the settings f that have the symbolic edge e and a threshold that t is the least total for
pub record Stops (cap n : ℕ) (x a : List ℕ) (at end : ℕ) (e : Ends) (t : ℕ) (r : Bool) : Type 0 where
  pub is : (f : SearchInput) (bs : List Branches) → f.symbolic ≡ e → Least f.threshold t → Actives cap n x a at end bs → r ≡ has_stopping_evidence f bs

-- what is left is the answer of the whole
pub record Stopping (cap n : ℕ) (x a : List ℕ) (at end : ℕ) (e : Ends) (t : ℕ) (i : ℕ) : Type 0 where
  pub rest : Active cap n x a i end
  pub run : (f : SearchInput) (bs : List Branches) → f.symbolic ≡ e → Least f.threshold t → Actives cap n x a at end bs
      → has_stopping_evidence f rest.branches ≡ has_stopping_evidence f bs

module _ (f : SearchInput) (b : Branches) (bs : List Branches) where
  evidence-yes : offers_edge f.symbolic b ≡ true → has_stopping_evidence f (b ∷ bs) ≡ true
  unfolding has_stopping_evidence
  evidence-yes h = rw h

  evidence-no : offers_edge f.symbolic b ≡ false → reaches (sum_of b) f.threshold ≡ true → has_stopping_evidence f (b ∷ bs) ≡ false
  unfolding has_stopping_evidence
  evidence-no h k = rw (h, k)

  evidence-on : offers_edge f.symbolic b ≡ false → reaches (sum_of b) f.threshold ≡ false → has_stopping_evidence f (b ∷ bs) ≡ has_stopping_evidence f bs
  unfolding has_stopping_evidence
  evidence-on h k = rw (h, k)

evidence-none : (f : SearchInput) → has_stopping_evidence f [] ≡ true
unfolding has_stopping_evidence
evidence-none f = refl

module _ (cap n : ℕ) (x a : List ℕ) (at end : ℕ) (e : Ends) (t : ℕ) where
  pub stopping-start : Active cap n x a at end → Stopping cap n x a at end e t at
  stopping-start p = record { rest = p; run = λ f bs y z h. ap (has_stopping_evidence f) (actives-one cap n x a at end p.branches bs p.stands h) }

  module _ (i : ℕ) (k : Stopping cap n x a at end e t i) where
    abbrev left : List Branches
    left = k.rest.branches

    pub stopping-end : end ≤ i → Stops cap n x a at end e t true
    stopping-end l =
        record {
          is = λ f bs y z h. sym (evidence-none f) ∙ ap (has_stopping_evidence f) (sym (actives-end cap n x a i end k.rest.branches k.rest.stands l)) ∙ k.run f bs y z h;
        }

    module _ (l : i < end) (s : ℕ) (hs : s ≡ get_or a i 0) (start : Option ℕ) (hl : start ≡ slot_at ((cols x).kid s)) (c : Option ℕ) (hc : ChildSlot n x (link_to start) e c) where
      first : First cap n x a i end k.rest.branches
      first = actives-first cap n x a i end k.rest.branches k.rest.stands l

      leads : Leads n x (link_to start) first.head
      leads =
          let z : link_to start ≡ (cols x).kid (get_or a i 0) = ap link_to hl ∙ link_is ((cols x).kid s) ∙ ap (λ (d : ℕ). (cols x).kid d) hs in
          subst (λ (d : ℕ). Leads n x d first.head) (sym z) first.leads

      offers : is_some c ≡ true → offers_edge e first.head ≡ true
      unfolding first leads
      offers = go c refl
        where
          go : (o : Option ℕ) → c ≡ o → is_some o ≡ true → offers_edge e first.head ≡ true
          go None z h = absurd (let y : ◌≡◌ {A = ℕ} 0 1 = cc in omega arith)
          go (Some j) z h = (hc.there first.head leads j z).offers

      offers-not : is_some c ≡ false → offers_edge e first.head ≡ false
      unfolding first leads
      offers-not = go c refl
        where
          go : (o : Option ℕ) → c ≡ o → is_some o ≡ false → offers_edge e first.head ≡ false
          go None z h = (hc.missing first.head leads z).offers
          go (Some j) z h = absurd (let y : ◌≡◌ {A = ℕ} 0 1 = cc in omega arith)

      pub stopping-yes : is_some c ≡ true → Stops cap n x a at end e t true
      unfolding first leads
      stopping-yes ne =
          record {
            is = λ f bs y z h.
                sym (evidence-yes f first.head first.tail (ap (λ (d : Ends). offers_edge d first.head) y ∙ offers ne))
                ∙ ap (has_stopping_evidence f) (sym first.is) ∙ k.run f bs y z h;
          }

      module _ (none : is_some c ≡ false) (sum : ℕ) (hm : Summed n x (link_to start) sum) where
        no-offer : (f : SearchInput) → f.symbolic ≡ e → offers_edge f.symbolic first.head ≡ false
        unfolding first leads
        no-offer f y = ap (λ (d : Ends). offers_edge d first.head) y ∙ offers-not none

        same-reach : (f : SearchInput) → Least f.threshold t → reaches (sum_of first.head) f.threshold ≡ leb t sum
        unfolding first leads
        same-reach f z = z.is (sum_of first.head) ∙ ap (λ (m : ℕ). leb t m) (sym (hm.is first.head leads))

        pub stopping-no : t ≤ sum → Stops cap n x a at end e t false
        unfolding first leads
        stopping-no w =
            record {
              is = λ f bs y z h.
                  sym (evidence-no f first.head first.tail (no-offer f y) (same-reach f z ∙ le-leb t sum w)) ∙ ap (has_stopping_evidence f) (sym first.is) ∙ k.run f bs y z h;
            }

        pub stopping-next : sum < t → Stopping cap n x a at end e t (i + 1)
        unfolding first leads
        stopping-next w =
            record {
              rest = record { branches = first.tail; stands = first.rest };
              run = λ f bs y z h.
                  sym (evidence-on f first.head first.tail (no-offer f y) (same-reach f z ∙ lt-leb t sum w)) ∙ ap (has_stopping_evidence f) (sym first.is) ∙ k.run f bs y z h;
            }
