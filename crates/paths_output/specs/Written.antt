-- Text written into a slice, one piece behind the other.
use Rattle.std.specs.Prelude.{◌≡◌, refl, List, [], ◌∷◌, ◌++◌, ℕ, ◌+◌, ◌-◌, ◌<◌, ◌≤◌, length, set, take, drop}
use Rattle.std.proofs.Common.{sym, ap, ◌∙◌, arith, append_assoc, length-append, drop-drop}
use Rattle.std.proofs.lemmas.List.Edits.{sets, sets-eq}
use Rattle.std.proofs.Math.Seq.{length-sets}
use Rattle.laws.specs.Stores.{sets-append}
use Rattle.definition.specs.Calls.{written_at}

module _ {A : Type 0} where
  pub written-sets : (at : ℕ) (xs old : List A) → at + length xs ≤ length old → written_at at xs old ≡ sets old at xs
  unfolding written_at
  written-sets at xs old h = sym (sets-eq xs old at h ∙ append_assoc (take at old) xs (drop (at + length xs) old))

  pub length-written : (at : ℕ) (xs old : List A) → at + length xs ≤ length old → length (written_at at xs old) ≡ length old
  length-written at xs old h = ap length (written-sets at xs old h) ∙ length-sets old at xs

  pub written-more : (at : ℕ) (a b old : List A) → (at + length a) + length b ≤ length old
      → written_at (at + length a) b (written_at at a old) ≡ written_at at (a ++ b) old
  written-more at a b old h =
      let l = length-written at a old (omega arith) in
      let m = length-append a b in
      written-sets (at + length a) b (written_at at a old) (omega arith)
      ∙ ap (λ (o : List A). sets o (at + length a) b) (written-sets at a old (omega arith))
      ∙ sym (sets-append old at a b)
      ∙ sym (written-sets at (a ++ b) old (omega arith))

  -- one element
  pub written_one : (at : ℕ) (x : A) (old : List A) → at < length old → set old at x ≡ written_at at (x ∷ []) old
  written_one at x old h = sym (written-sets at (x ∷ []) old (omega arith))

-- ---- what a writer promises: the text stands from `at` on, all else is unchanged, and r is the place behind it

pub record Wrote (old new : List ℕ) (at : ℕ) (text : List ℕ) (r : ℕ) : Type 0 where
  pub is : new ≡ written_at at text old
  pub next : r ≡ at + length text

pub wrote_one : (old : List ℕ) (at x : ℕ) → at < length old → Wrote old (set old at x) at (x ∷ []) (at + 1)
wrote_one old at x h = record { is = written_one at x old h; next = refl }

pub wrote_then : {old mid new : List ℕ} {at p r : ℕ} {a b : List ℕ} → (at + length a) + length b ≤ length old
    → Wrote old mid at a p → Wrote mid new p b r → Wrote old new at (a ++ b) r
wrote_then {old} {mid} {new} {at} {p} {r} {a} {b} h v w =
    let m = length-append a b in
    let n = v.next in
    let k = w.next in
    record {
      is =
          w.is
          ∙ ap (λ (q : ℕ). written_at q b mid) n
          ∙ ap (λ (o : List ℕ). written_at (at + length a) b o) v.is
          ∙ written-more at a b old h;
      next = omega arith;
    }

-- ---- a text of several pieces: `rest` is still to come, from place p on

pub record Begun (old now : List ℕ) (at p : ℕ) (text rest : List ℕ) : Type 0 where
  pub done : List ℕ
  pub whole : done ++ rest ≡ text
  pub wrote : Wrote old now at done p
  pub same : length now ≡ length old
  pub room : at + length text ≤ length old

pub begin : (old : List ℕ) (at : ℕ) (text : List ℕ) → at + length text ≤ length old → Begun old old at at text text
unfolding written_at
begin old at text h =
    record { done = []; whole = refl; wrote = record { is = sym (written-sets at [] old (omega arith)); next = omega arith }; same = refl; room = h }

module _ {old mid : List ℕ} {at p : ℕ} {text : List ℕ} where
  -- the next piece fits
  pub piece-room : (piece rest : List ℕ) → Begun old mid at p text (piece ++ rest) → p + length piece ≤ length mid
  piece-room piece rest b =
      let a = length-append b.done (piece ++ rest) in
      let c = length-append piece rest in
      let d = ap length b.whole in
      let e = b.wrote.next in
      let f = b.same in
      let g = b.room in
      omega arith

  pub piece-done : {new : List ℕ} {r : ℕ} (piece rest : List ℕ) → Begun old mid at p text (piece ++ rest) → Wrote mid new p piece r → length new ≡ length mid
      → Begun old new at r text rest
  piece-done piece rest b w k =
      record {
        done = b.done ++ piece;
        whole = append_assoc b.done piece rest ∙ b.whole;
        wrote =
            wrote_then
            (let a = length-append b.done (piece ++ rest) in
            let c = length-append piece rest in
            let d = ap length b.whole in
            let g = b.room in
            omega arith)
            b.wrote
            w;
        same = k ∙ b.same;
        room = b.room;
      }

  pub last-room : (piece : List ℕ) → Begun old mid at p text piece → p + length piece ≤ length mid
  last-room piece b =
      let a = length-append b.done piece in
      let d = ap length b.whole in
      let e = b.wrote.next in
      let f = b.same in
      let g = b.room in
      omega arith

  pub piece-last : {new : List ℕ} {r : ℕ} (piece : List ℕ) → Begun old mid at p text piece → Wrote mid new p piece r → Wrote old new at text r
  piece-last piece b w =
      rw (← b.whole)
      (wrote_then
      (let a = length-append b.done piece in
      let d = ap length b.whole in
      let g = b.room in
      omega arith)
      b.wrote
      w)

-- ---- bytes copied into a part of a slice

pub copied : (at : ℕ) (text part old : List ℕ) → part ≡ text
    → take at old ++ (part ++ drop (at + length text - at) (drop at old)) ≡ written_at at text old
unfolding written_at
copied at text part old e = let n : at + length text - at ≡ length text = omega arith in rw (e, n, drop-drop (length text) at old)
