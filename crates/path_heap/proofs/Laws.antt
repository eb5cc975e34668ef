-- The heap goes with the definition's insertion: a push inserts the new path behind its equals, and what is popped is the first.
use Rattle.std.specs.Prelude.{◌≡◌, ◌⊎◌, true, false, not, List, ℕ, ◌<◌, get_or, Float}
use Rattle.std.proofs.Common.{sym, ap, ◌∙◌, inl, inr, lt-ltb}
use Rattle.std.specs.Float.{nan}
use Rattle.std.specs.Float.Ieee.{lt}
use Rattle.laws.specs.ListLaws.{All}
use Rattle.laws.specs.BoolLaws.{Bool-cases}
use Rattle.laws.specs.Sorting.{insert-agree}
use Rattle.laws.specs.Heaps.{nth, Put, Taken}
use Rattle.path_heap.specs.First.{Known, leads, leads-more, leads-less, leads-tie}
use Rattle.path_heap.specs.Heap.{waiting, ahead_of, Pushable, Pushed, Popped, waiting-all}

-- ---- the definition's insertion is insertion by the order, where the path is later than all
ahead-leads : (sc : List Float) (r q : ℕ) → Known sc r → Known sc q → q < r → leads sc q r ≡ ahead_of sc q r
ahead-leads sc r q k p l = go (Bool-cases (lt (get_or sc q nan) (get_or sc r nan))) (Bool-cases (lt (get_or sc r nan) (get_or sc q nan)))
  where
    go : (lt (get_or sc q nan) (get_or sc r nan) ≡ true) ⊎ (lt (get_or sc q nan) (get_or sc r nan) ≡ false)
        → (lt (get_or sc r nan) (get_or sc q nan) ≡ true) ⊎ (lt (get_or sc r nan) (get_or sc q nan) ≡ false) → leads sc q r ≡ ahead_of sc q r
    go (inl t) y = leads-less sc q r p k t ∙ sym (ap not t)
    go (inr f) (inl t) = leads-more sc q r p k t ∙ sym (ap not f)
    go (inr f) (inr g) = leads-tie sc q r p k g f ∙ lt-ltb q r l ∙ sym (ap not f)

-- ---- the laws of the heap, at these scores
pub pushed : (sc : List Float) (h : List ℕ) (n r : ℕ) (h' : List ℕ) → Pushable sc h n r → Put (leads sc) (Known sc) h n r h' → Pushed sc h n r h'
unfolding waiting
pushed sc h n r h' P p =
    let a : All (λ q. leads sc q r ≡ ahead_of sc q r) (waiting sc h n) =
    waiting-all (λ q. leads sc q r ≡ ahead_of sc q r) sc h n (λ i l. ahead-leads sc r (nth h i) P.known (P.heap.known i l) (P.later i l))
    in
    record { is = p.is ∙ insert-agree (leads sc) (ahead_of sc) r a; heap = p.heap; rest = p.rest }

pub popped : (sc : List Float) (h : List ℕ) (n r : ℕ) (h' : List ℕ) → Taken (leads sc) (Known sc) h n r h' → Popped sc h n r h'
unfolding waiting
popped sc h n r h' p = record { is = p.is; heap = p.heap; rest = p.rest }
