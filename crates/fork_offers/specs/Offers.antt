-- What a fork offers a path (Rust: applicable_next_edges).
use Rattle.std.specs.Prelude.{Option, ◌≡◌, refl, ℕ, ◌+◌, ◌*◌, ◌^◌, ◌<◌, ◌≤◌, true, leb, get_or}
use Rattle.std.proofs.Math.Path.{sym, ap, subst}
use Rattle.std.proofs.Common.{◌∙◌, arith, length-append, le-leb}
use Rattle.std.proofs.Math.Bool.{false}
use mathlib.Core.List.{List, [], ◌∷◌, ◌++◌, map, append_assoc}
use Rattle.std.proofs.Math.ListN.{length}
use Rattle.std.proofs.lemmas.Bool.{lt-leb}
use Rattle.laws.specs.Numbers.{reaches}
use Rattle.definition.specs.Threading.{Ends, Edge, leaving}
use Rattle.laws.specs.ListLaws.{All, nil, cons}
use Rattle.theorems.proofs.Counts.{Small, small-sum}
use Rattle.definition.specs.Evidence.{Branches}
use Rattle.definition.specs.Search.{SearchInput, Offer, sum_of, unseen, real_branches, best, offers}
use Rattle.assembly.specs.Store.{edges_of}
use Rattle.threading_node.specs.Slots.{cols}
use Rattle.threading_node.specs.Links.{slot_at, link_to, link_is}
use Rattle.threading_tree.specs.Read.{Leads, Readable, Summed}
use Rattle.fork_offers.specs.Actives.{Least, Actives, Active, First, actives-one, actives-end, actives-first}
use Rattle.fork_offers.specs.Real.{Fork, outs_of, outs-is}
use Rattle.fork_offers.specs.Rows.{Few, offers_of, seen_of, Grown, map-append, seen-is, offers-none, seen_none, grown-many}
use Rattle.fork_offers.specs.Trees.{tree_offers, tree_is, Offering, TreeOffered, best_offers, best-is, BestOffering, BestOffered}
use Rattle.fork_offers.specs.Support.{support_offers, support-is, all_support, EdgesOffering}

-- the settings that a search has over the stores: the edges, the symbolic edge, and the least total that reaches the threshold
pub record Settings (f : SearchInput) (es : List ℕ) (m : ℕ) (e : Ends) (least : ℕ) : Type 0 where
  pub edges : f.edges ≡ edges_of es m
  pub symbolic : f.symbolic ≡ e
  pub threshold : Least f.threshold least

abbrev pub Smalls : List Branches → Type 0
Smalls [] = Unit {0}
Smalls (b ∷ bs) = (sum_of b < 2 ^ 32) × Smalls bs

-- sums that the definition bounds (Counts) fit
pub smalls-of : (n : ℕ) (bs : List Branches) → n < 2 ^ 32 → All (Small n) bs → Smalls bs
smalls-of n [] h nil = tt
smalls-of n (b ∷ bs) h (cons k ks) = let q = small-sum n b k in (omega arith, smalls-of n bs h ks)

-- a fork's offers with the edges seen
unfoldable pub fork_offers : SearchInput → List ℕ → ℕ → ℕ → List Ends → List Branches → List Offer
fork_offers f es m v seen bs = offers f (leaving (edges_of es m) v) seen bs

pub fork-is : (f : SearchInput) (es : List ℕ) (m v : ℕ) (bs : List Branches) → f.edges ≡ edges_of es m → fork_offers f es m v [] bs ≡ offers f (leaving f.edges v) [] bs
unfolding fork_offers
fork-is f es m v bs z = ap (λ (l : List Edge). offers f (leaving l v) [] bs) (sym z)

module _ (f : SearchInput) (es : List ℕ) (m v : ℕ) (seen : List Ends) where
  fork-end : fork_offers f es m v seen [] ≡ support_offers seen (all_support es m v) (leaving (edges_of es m) v)
  unfolding fork_offers offers
  fork-end = sym (support-is seen (leaving (edges_of es m) v))

  module _ (b : Branches) (bs : List Branches) where
    fork-closed : reaches (sum_of b) f.threshold ≡ true → fork_offers f es m v seen (b ∷ bs) ≡ best_offers f seen (outs_of es m v) (sum_of b) b
    unfolding fork_offers offers
    fork-closed h =
        (rw (h, offers)) ∙ ap (λ (o : List Ends). unseen seen (best (real_branches f o (sum_of b) b))) (outs-is es m v) ∙ best-is f seen (outs_of es m v) (sum_of b) b

    fork-open : reaches (sum_of b) f.threshold ≡ false
        → fork_offers f es m v seen (b ∷ bs)
        ≡ tree_offers f seen (outs_of es m v) (sum_of b) b ++ fork_offers f es m v (seen ++ map (λ (o : Offer). o.ends) (tree_offers f seen (outs_of es m v) (sum_of b) b)) bs
    unfolding fork_offers offers
    fork-open h =
        open_step h
        ∙ ap (λ (l : List Offer). l ++ offers f (leaving (edges_of es m) v) (seen ++ map (λ (o : Offer). o.ends) l) bs)
        (ap (λ (o : List Ends). unseen seen (real_branches f o (sum_of b) b)) (outs-is es m v) ∙ tree_is f seen (outs_of es m v) (sum_of b) b)
      where
        open_step : reaches (sum_of b) f.threshold ≡ false
            → offers f (leaving (edges_of es m) v) seen (b ∷ bs)
            ≡ unseen seen (real_branches f (map (λ (e : Edge). e.ends) (leaving (edges_of es m) v)) (sum_of b) b)
            ++ offers f (leaving (edges_of es m) v) (seen ++ map (λ (o : Offer). o.ends) (unseen seen (real_branches f (map (λ (e : Edge). e.ends) (leaving (edges_of es m) v)) (sum_of b) b))) bs
        open_step k = rw (k, offers)

-- what the code asks: there is room for the rows, and the totals fit a number of a row
pub record Forks (vs es : List ℕ) (m cap n : ℕ) (x a : List ℕ) (at end v : ℕ) (e : Ends) (least : ℕ) (out : List ℕ) : Type 0 where
  pub fork : Fork vs es m v
  pub active : Active cap n x a at end
  pub input : SearchInput
  pub settings : Settings input es m e least
  pub small : Smalls active.branches
  pub support : all_support es m v < 2 ^ 32
  pub room : length (offers input (leaving input.edges v) [] active.branches) * 4 ≤ length out

-- the first r rows are the definition's offers, and name edges
pub record Offers (es : List ℕ) (m cap n : ℕ) (x a : List ℕ) (at end v : ℕ) (e : Ends) (least : ℕ) (out : List ℕ) (r : ℕ) : Type 0 where
  pub is : (f : SearchInput) (bs : List Branches) → Settings f es m e least → Actives cap n x a at end bs → offers_of es out r ≡ offers f (leaving f.edges v) [] bs
  pub few : Few m out r

pub record Forking (vs es : List ℕ) (m cap n : ℕ) (x a : List ℕ) (at end v : ℕ) (e : Ends) (least : ℕ) (out₀ out : List ℕ) (i k : ℕ) : Type 0 where
  pub fork : Fork vs es m v
  pub rest : Active cap n x a i end
  pub input : SearchInput
  pub settings : Settings input es m e least
  pub small : Smalls rest.branches
  pub support : all_support es m v < 2 ^ 32
  pub few : Few m out k
  pub run : (f : SearchInput) (bs : List Branches) → Settings f es m e least → Actives cap n x a at end bs
      → offers_of es out k ++ fork_offers f es m v (seen_of es out k) rest.branches ≡ fork_offers f es m v [] bs
  pub room : (k + length (fork_offers input es m v (seen_of es out k) rest.branches)) * 4 ≤ length out
  pub long : length out ≡ length out₀

module _ (vs es : List ℕ) (m cap n : ℕ) (x a : List ℕ) (at end v : ℕ) (e : Ends) (least : ℕ) (out₀ : List ℕ) where
  pub forking-start : Forks vs es m cap n x a at end v e least out₀ → Forking vs es m cap n x a at end v e least out₀ out₀ at 0
  forking-start p =
      record {
        fork = p.fork;
        rest = p.active;
        input = p.input;
        settings = p.settings;
        small = p.small;
        support = p.support;
        few = λ j h. absurd (omega arith);
        run = λ f bs s h.
            ap (λ (l : List Offer). l ++ fork_offers f es m v (seen_of es out₀ 0) p.active.branches) (offers-none es out₀)
            ∙ ap (λ (l : List Ends). fork_offers f es m v l p.active.branches) (seen_none es out₀)
            ∙ ap (fork_offers f es m v []) (actives-one cap n x a at end p.active.branches bs p.active.stands h);
        room =
            zeroed _
            (subst (λ (l : List Offer). length l * 4 ≤ length out₀)
            (sym (ap (λ (l : List Ends). fork_offers p.input es m v l p.active.branches) (seen_none es out₀) ∙ fork-is p.input es m v p.active.branches p.settings.edges)) p.room);
        long = refl;
      }
    where
      zeroed : (l : ℕ) → l * 4 ≤ length out₀ → (0 + l) * 4 ≤ length out₀
      zeroed l h = omega arith

  module _ (out : List ℕ) (i k : ℕ) (w : Forking vs es m cap n x a at end v e least out₀ out i k) where
    abbrev seen : List Ends
    seen = seen_of es out k

    module _ (l : end ≤ i) where
      nothing : w.rest.branches ≡ []
      nothing = actives-end cap n x a i end w.rest.branches w.rest.stands l

      by-support : (f : SearchInput) → fork_offers f es m v seen w.rest.branches ≡ support_offers seen (all_support es m v) (leaving (edges_of es m) v)
      by-support f = ap (fork_offers f es m v seen) nothing ∙ fork-end f es m v seen

      module _ (t : ℕ) (ht : t ≡ all_support es m v) where
        pub forking-edges : EdgesOffering vs es m v t out k
        forking-edges =
            let s = w.support in
            record {
              fork = w.fork;
              few = w.few;
              small = omega arith;
              room =
                  subst (λ (u : ℕ). (k + length (support_offers seen u (leaving (edges_of es m) v))) * 4 ≤ length out) (sym ht)
                  (subst (λ (os : List Offer). (k + length os) * 4 ≤ length out) (by-support w.input) w.room);
            }

        pub forking-end : (out' : List ℕ) (r : ℕ) → Grown es m out out' k r (support_offers seen t (leaving (edges_of es m) v)) → Offers es m cap n x a at end v e least out' r
        forking-end out' r g =
            record {
              is = λ f bs s h.
                  g.is ∙ ap (λ (u : ℕ). offers_of es out k ++ support_offers seen u (leaving (edges_of es m) v)) ht
                  ∙ ap (λ (os : List Offer). offers_of es out k ++ os) (sym (by-support f)) ∙ w.run f bs s h ∙ fork-is f es m v bs s.edges;
              few = g.few;
            }

    module _ (l : i < end) (s : ℕ) (hs : s ≡ get_or a i 0) (start : Option ℕ) (hl : start ≡ slot_at ((cols x).kid s)) (t : ℕ) (ht : Summed n x (link_to start) t) where
      abbrev link : ℕ
      link = link_to start

      first : First cap n x a i end w.rest.branches
      first = actives-first cap n x a i end w.rest.branches w.rest.stands l

      leads : Leads n x link first.head
      leads = subst (λ (d : ℕ). Leads n x d first.head) (sym (ap link_to hl ∙ link_is ((cols x).kid s) ∙ ap (λ (d : ℕ). (cols x).kid d) hs)) first.leads

      readable : Readable cap n x link
      readable = record { branches = first.head; leads = leads; room = w.rest.stands.room; wide = w.rest.stands.wide }

      sum : t ≡ sum_of first.head
      sum = ht.is first.head leads

      smalls : Smalls (first.head ∷ first.tail)
      smalls = subst (λ (bs : List Branches). Smalls bs) first.is w.small

      low : t < 2 ^ 32
      low = let h = smalls.0 in let z = sum in omega arith

      meets : (f : SearchInput) → Least f.threshold least → reaches (sum_of first.head) f.threshold ≡ leb least t
      meets f h = h.is (sum_of first.head) ∙ ap (leb least) (sym sum)

      module _ (ge : least ≤ t) where
        closed : (f : SearchInput) → Settings f es m e least → fork_offers f es m v seen w.rest.branches ≡ best_offers f seen (outs_of es m v) t first.head
        closed f h =
            ap (fork_offers f es m v seen) first.is ∙ fork-closed f es m v seen first.head first.tail (meets f h.threshold ∙ le-leb least t ge)
            ∙ ap (λ (u : ℕ). best_offers f seen (outs_of es m v) u first.head) (sym sum)

        pub forking-best : BestOffering vs es m cap n x link t v e out k
        unfolding readable
        forking-best =
            record {
              fork = w.fork;
              readable = readable;
              few = w.few;
              small = low;
              input = w.input;
              same = w.settings.symbolic;
              room = subst (λ (os : List Offer). (k + length os) * 4 ≤ length out) (closed w.input w.settings) w.room;
            }

        pub forking-closed : (out' : List ℕ) (r : ℕ) → BestOffered es m n x link t v e out out' k r → Offers es m cap n x a at end v e least out' r
        forking-closed out' r g =
            record {
              is = λ f bs h q.
                  (g.is f first.head h.symbolic leads).is ∙ ap (λ (os : List Offer). offers_of es out k ++ os) (sym (closed f h)) ∙ w.run f bs h q ∙ fork-is f es m v bs h.edges;
              few = (g.is w.input first.head w.settings.symbolic leads).few;
            }

      module _ (lt : t < least) where
        opened : (f : SearchInput) → Settings f es m e least
            → fork_offers f es m v seen w.rest.branches
            ≡ tree_offers f seen (outs_of es m v) t first.head
            ++ fork_offers f es m v (seen ++ map (λ (o : Offer). o.ends) (tree_offers f seen (outs_of es m v) t first.head)) first.tail
        opened f h =
            ap (fork_offers f es m v seen) first.is ∙ fork-open f es m v seen first.head first.tail (meets f h.threshold ∙ lt-leb least t lt)
            ∙ ap (λ (u : ℕ). tree_offers f seen (outs_of es m v) u first.head ++ fork_offers f es m v (seen ++ map (λ (o : Offer). o.ends) (tree_offers f seen (outs_of es m v) u first.head)) first.tail) (sym sum)

        sizes : length (tree_offers w.input seen (outs_of es m v) t first.head)
            + length (fork_offers w.input es m v (seen ++ map (λ (o : Offer). o.ends) (tree_offers w.input seen (outs_of es m v) t first.head)) first.tail)
            ≡ length (fork_offers w.input es m v seen w.rest.branches)
        sizes = sym (ap length (opened w.input w.settings) ∙ length-append (tree_offers w.input seen (outs_of es m v) t first.head) _)

        rooms : (a b c : ℕ) → a + b ≡ c → (k + c) * 4 ≤ length out → (k + a) * 4 ≤ length out
        rooms a b c h q = omega arith

        pub forking-tree : Offering vs es m cap n x link t v e out k
        unfolding readable
        forking-tree =
            record {
              fork = w.fork;
              readable = readable;
              few = w.few;
              small = low;
              input = w.input;
              same = w.settings.symbolic;
              room = rooms (length (tree_offers w.input seen (outs_of es m v) t first.head)) _ _ sizes w.room;
            }

        module _ (out' : List ℕ) (k' : ℕ) (g : TreeOffered es m n x link t v e out out' k k') where
          grown : (f : SearchInput) → Settings f es m e least → Grown es m out out' k k' (tree_offers f seen (outs_of es m v) t first.head)
          grown f h = g.is f first.head h.symbolic leads

          seen_more : (f : SearchInput) → Settings f es m e least → seen ++ map (λ (o : Offer). o.ends) (tree_offers f seen (outs_of es m v) t first.head) ≡ seen_of es out' k'
          seen_more f h =
              ap (λ (l : List Ends). l ++ map (λ (o : Offer). o.ends) (tree_offers f seen (outs_of es m v) t first.head)) (sym (seen-is es out k))
              ∙ sym (map-append (λ (o : Offer). o.ends) (offers_of es out k) (tree_offers f seen (outs_of es m v) t first.head))
              ∙ ap (map (λ (o : Offer). o.ends)) (sym (grown f h).is) ∙ seen-is es out' k'

          pub forking-next : Forking vs es m cap n x a at end v e least out₀ out' (i + 1) k'
          forking-next =
              let g0 = grown w.input w.settings in
              record {
                fork = w.fork;
                rest = record { branches = first.tail; stands = first.rest };
                input = w.input;
                settings = w.settings;
                small = smalls.1;
                support = w.support;
                few = g0.few;
                run = λ f bs h q.
                    ap (λ (os : List Offer). os ++ fork_offers f es m v (seen_of es out' k') first.tail) (grown f h).is
                    ∙ append_assoc (offers_of es out k) (tree_offers f seen (outs_of es m v) t first.head) (fork_offers f es m v (seen_of es out' k') first.tail)
                    ∙ ap (λ (l : List Ends). offers_of es out k ++ (tree_offers f seen (outs_of es m v) t first.head ++ fork_offers f es m v l first.tail)) (sym (seen_more f h))
                    ∙ ap (λ (os : List Offer). offers_of es out k ++ os) (sym (opened f h)) ∙ w.run f bs h q;
                room =
                    subst (λ (l : List Ends). (k' + length (fork_offers w.input es m v l first.tail)) * 4 ≤ length out') (seen_more w.input w.settings)
                    (after (length (tree_offers w.input seen (outs_of es m v) t first.head)) _ _ sizes w.room (grown-many g0) g0.long);
                long = g0.long ∙ w.long;
              }
            where
              after : (a b c : ℕ) → a + b ≡ c → (k + c) * 4 ≤ length out → k' ≡ k + a → length out' ≡ length out → (k' + b) * 4 ≤ length out'
              after a b c h q p z = omega arith
