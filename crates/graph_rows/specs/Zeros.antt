-- A part of a slice from its front that is set to zero, whatever stands for zero. Assumes nothing.
use Rattle.std.specs.Prelude.{◌≡◌, List, [], ◌∷◌, ◌++◌, ℕ, ◌+◌, ◌<◌, ◌≤◌, length, set, take, drop, replicate}
use Rattle.std.proofs.Common.{sym, ap, ◌∙◌, add-one, arith, length-take-le}
use Rattle.std.proofs.lemmas.List.{length-replicate, replicate-append-replicate}
use Rattle.std.proofs.Math.Seq.{drop-append_seam, take-suc-set, take_all}
use Rattle.definition.specs.Calls.{written_at}
use Rattle.threading_node.specs.Front.{written-front}

pub written-zeros : {A : Type 0} (z : A) (n : ℕ) (w : List A) → written_at 0 (replicate n z) w ≡ replicate n z ++ drop n w
written-zeros {A} z n w = written-front (replicate n z) w ∙ ap (λ (k : ℕ). replicate n z ++ drop k w) (length-replicate n z)

-- whatever the first n elements became, once they are zero it is as if they alone had been set
pub cleared-over : {A : Type 0} (z : A) (n : ℕ) (w p : List A) → length p ≡ n → written_at 0 (replicate n z) (p ++ drop n w) ≡ written_at 0 (replicate n z) w
cleared-over {A} z n w p e =
    written-zeros z n (p ++ drop n w) ∙ ap (λ (l : List A). replicate n z ++ l) (ap (λ (k : ℕ). drop k (p ++ drop n w)) (sym e) ∙ drop-append_seam p (drop n w)) ∙ sym (written-zeros z n w)

-- ---- elements set to zero one after the other

pub zeros-more : {A : Type 0} (z : A) (l : List A) (i : ℕ) → i < length l → take i l ≡ replicate i z → take (i + 1) (set l i z) ≡ replicate (i + 1) z
zeros-more {A} z l i h e = rw (add-one i) (take-suc-set l i z h) ∙ ap (λ (p : List A). p ++ z ∷ []) e ∙ replicate-append-replicate i 1 z

-- all of the first n, which are p now
pub zeros-all : {A : Type 0} (z : A) (n : ℕ) (w p : List A) (i : ℕ) → n ≤ length w → length p ≡ length (take n w) → i ≤ length p → length p ≤ i → take i p ≡ replicate i z
    → p ++ drop n w ≡ written_at 0 (replicate n z) w
zeros-all {A} z n w p i h k a b e =
    let j : i ≡ n = (let y = length-take-le n w h in omega arith) in
    ap (λ (l : List A). l ++ drop n w) (sym (take_all i p b) ∙ e ∙ ap (λ (m : ℕ). replicate m z) j) ∙ sym (written-zeros z n w)
