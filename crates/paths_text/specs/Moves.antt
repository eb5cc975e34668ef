-- Bytes moved within one slice: to a place before them, and two parts side by side that change places.
use Rattle.std.specs.Prelude.{◌≡◌, refl, true, ◌&&◌, ℕ, zero, suc, ◌+◌, ◌-◌, ◌<◌, ◌≤◌, leb, set, get_or}
use Rattle.std.proofs.Common.{sym, ap, ◌∙◌, add-one, length-set, take-append-drop, take-suc, take_all, length-take-le, get_or-set_other, drop-drop, get_or-drop, get_or-take, leb-true, List, [], ◌∷◌, ◌++◌, map, append_assoc, reverse, arith, length, take, drop, length-append, drop_at, take-take}
use Rattle.std.proofs.Math.ListN.{get_or-map}
use Rattle.std.proofs.lemmas.List.{length-map, length-reverse, reverse-append, reverse-reverse, take_at}
use Rattle.std.proofs.Math.Seq.{slice, length-slice, take-append-le, drop-append-add, take-append_seam, drop-append_seam}
use Rattle.std.proofs.lemmas.List.Edits.{sets}
use Rattle.laws.specs.Lists.{all}
use Rattle.laws.specs.ListLaws.{and_left, and_right}
use Rattle.laws.specs.Stores.{sets_more}
use Rattle.definition.specs.Text.{is_quality, values}
use Rattle.definition.specs.Calls.{written_at}
use borrow.Rule.Slice.PartMut.{put_mid}
use Rattle.paths_output.specs.Written.{written-sets, length-written, written-more}
use Rattle.text_form.specs.Parts.{take-slice, part_slice}

-- ---- bytes moved to a place before them

abbrev pub lessened : ℕ → List ℕ → List ℕ
lessened less xs = map (λ (b : ℕ). b - less) xs

pub record Moves (text : List ℕ) (from to dest less : ℕ) : Type 0 where
  pub back : dest ≤ from
  pub rising : from ≤ to
  pub inside : to ≤ length text
  pub large : (i : ℕ) → from ≤ i → i < to → less ≤ get_or text i 0

get_or-sets-after : (l : List ℕ) (i : ℕ) (vs : List ℕ) (j : ℕ) → i + length vs ≤ j → get_or (sets l i vs) j 0 ≡ get_or l j 0
get_or-sets-after l i [] j h = refl
get_or-sets-after l i (v ∷ vs) j h =
    get_or-sets-after (set l i v) (suc i) vs j (omega arith) ∙ get_or-set_other l i j v 0 (λ e. (omega arith))

length-lessened : (less : ℕ) (xs : List ℕ) → length (lessened less xs) ≡ length xs
length-lessened less xs = length-map xs (λ (b : ℕ). b - less)

get_or-lessened : (less : ℕ) (xs : List ℕ) (i : ℕ) → get_or (lessened less xs) i 0 ≡ get_or xs i 0 - less
get_or-lessened less xs i =
    let e : 0 - less ≡ 0 = omega arith in
    rw e at (get_or-map (λ (b : ℕ). b - less) xs i 0)

get_d_part : (from to : ℕ) (xs : List ℕ) (i : ℕ) → from + i < to → get_or (slice from to xs) i 0 ≡ get_or xs (from + i) 0
get_d_part from to xs i h = get_or-drop from (take to xs) i 0 ∙ get_or-take to xs (from + i) 0 h

-- i bytes are moved
pub record Moving (old now : List ℕ) (from to dest less i : ℕ) : Type 0 where
  pub is : now ≡ sets old dest (take i (lessened less (slice from to old)))
  pub inside : i ≤ to - from
  pub same : length now ≡ length old

module _ (old : List ℕ) (from to dest less : ℕ) (m : Moves old from to dest less) where
  long : length (lessened less (slice from to old)) ≡ to - from
  long = length-lessened less (slice from to old) ∙ length-slice from to old m.inside

  pub move_start : Moving old old from to dest less 0
  move_start = record { is = refl; inside = omega arith; same = refl }

  module _ (now : List ℕ) (i : ℕ) (g : Moving old now from to dest less i) where
    pub move-reads : i < to - from → get_or now (from + i) 0 ≡ get_or old (from + i) 0
    move-reads h =
        let l = long in
        let k = length-take-le i (lessened less (slice from to old)) (omega arith) in
        let b = m.back in
        ap (λ (x : List ℕ). get_or x (from + i) 0) g.is
        ∙ get_or-sets-after old dest (take i (lessened less (slice from to old))) (from + i) (omega arith)

    pub move-large : i < to - from → less ≤ get_or now (from + i) 0
    move-large h = let e = move-reads h in let k = m.large (from + i) (omega arith) (omega arith) in omega arith

    pub move-next : i < to - from → Moving old (set now (dest + i) (get_or now (from + i) 0 - less)) from to dest less (i + 1)
    move-next h =
        let L : List ℕ = lessened less (slice from to old) in
        let l = long in
        let k = length-take-le i L (omega arith) in
        let x : get_or now (from + i) 0 - less ≡ get_or L i 0 =
        ap (λ (n : ℕ). n - less) (move-reads h ∙ sym (get_d_part from to old i (omega arith))) ∙ sym (get_or-lessened less (slice from to old) i)
        in
        let e : dest + length (take i L) ≡ dest + i = omega arith in
        record {
          is =
              ap (λ (y : List ℕ). set y (dest + i) (get_or now (from + i) 0 - less)) g.is
              ∙ ap (λ (n : ℕ). set (sets old dest (take i L)) (dest + i) n) x
              ∙ sym (rw e at (sets_more old dest (take i L) (get_or L i 0)))
              ∙ ap (λ (y : List ℕ). sets old dest y) (sym (take-suc L i 0 (omega arith)))
              ∙ ap (λ (n : ℕ). sets old dest (take n L)) (sym (add-one i));
          inside = omega arith;
          same = length-set now (dest + i) (get_or now (from + i) 0 - less) ∙ g.same;
        }

    pub move-end : to - from ≤ i → now ≡ written_at dest (lessened less (slice from to old)) old
    move-end h =
        let l = long in
        let b = m.back in
        let r = m.rising in
        let n = m.inside in
        g.is
        ∙ ap (λ (y : List ℕ). sets old dest y) (take_all i (lessened less (slice from to old)) (omega arith))
        ∙ sym (written-sets dest (lessened less (slice from to old)) old (omega arith))

    pub move-room : i < to - from → (from + i < length now) × (dest + i < length now)
    move-room h = let s = g.same in let b = m.back in let n = m.inside in (omega arith, omega arith)

-- ---- two parts side by side

-- a part in the middle, reversed
turned : (A X Z : List ℕ) (a t : ℕ) → length A ≡ a → length A + length X ≡ t
    → take a (A ++ (X ++ Z)) ++ (reverse (slice a t (A ++ (X ++ Z))) ++ drop t (A ++ (X ++ Z))) ≡ A ++ (reverse X ++ Z)
turned A X Z a t e f =
    let p : take a (A ++ (X ++ Z)) ≡ A = take_at A (X ++ Z) a e in
    let w : A ++ (X ++ Z) ≡ (A ++ X) ++ Z = sym (append_assoc A X Z) in
    let l = length-append A X in
    let q : drop t (A ++ (X ++ Z)) ≡ Z = ap (drop t) w ∙ drop_at (A ++ X) Z t (omega arith) in
    let r : drop a (take t (A ++ (X ++ Z))) ≡ X = ap (λ (y : List ℕ). drop a (take t y)) w ∙ ap (drop a) (take_at (A ++ X) Z t (omega arith)) ∙ drop_at A X a e in
    rw (p, q, r)

-- the same of a part that was lent and is put back
pub part_turned : (a t : ℕ) (T ys : List ℕ) → a ≤ t → ys ≡ reverse (take (t - a) (drop a T)) → put_mid a (t - a) T ys ≡ take a T ++ (reverse (slice a t T) ++ drop t T)
part_turned a t T ys h e =
    let z : a + (t - a) ≡ t = omega arith in
    let w : take (t - a) (drop a T) ≡ slice a t T = part_slice a t T h in
    let v : drop (t - a) (drop a T) ≡ drop t T = drop-drop (t - a) a T ∙ ap (λ (n : ℕ). drop n T) z in
    ap (λ (l : List ℕ). take a T ++ (l ++ drop (t - a) (drop a T))) (e ∙ ap reverse w) ∙ ap (λ (l : List ℕ). take a T ++ (reverse (slice a t T) ++ l)) v

rev-parts : (X Y : List ℕ) → reverse (reverse X ++ reverse Y) ≡ Y ++ X
rev-parts X Y = reverse-append (reverse X) (reverse Y) ∙ rw (reverse-reverse X, reverse-reverse Y)

length-rev : (X : List ℕ) → length (reverse X) ≡ length X
length-rev X = length-reverse X

module _ (T : List ℕ) (a m e : ℕ) (h : a ≤ m) (k : m ≤ e) (l : e ≤ length T) where
  abbrev X : List ℕ
  X = slice a m T

  abbrev Y : List ℕ
  Y = slice m e T

  four : T ≡ take a T ++ (X ++ (Y ++ drop e T))
  four =
      let x : X ++ drop m T ≡ drop a T =
      (let w : slice a m T ≡ take (m - a) (drop a T) = sym (part_slice a m T h) in
      let v : drop m T ≡ drop (m - a) (drop a T) = (let z : a + (m - a) ≡ m = omega arith in sym (drop-drop (m - a) a T ∙ ap (λ (n : ℕ). drop n T) z)) in
      rw (w, v) (take-append-drop (m - a) (drop a T)))
      in
      let y : Y ++ drop e T ≡ drop m T =
      (let w : slice m e T ≡ take (e - m) (drop m T) = sym (part_slice m e T k) in
      let v : drop e T ≡ drop (e - m) (drop m T) = (let z : m + (e - m) ≡ e = omega arith in sym (drop-drop (e - m) m T ∙ ap (λ (n : ℕ). drop n T) z)) in
      rw (w, v) (take-append-drop (e - m) (drop m T)))
      in
      sym (ap (λ (z : List ℕ). take a T ++ (X ++ z)) y ∙ ap (λ (z : List ℕ). take a T ++ z) x ∙ take-append-drop a T)

  pub rotated : (T1 T2 T3 : List ℕ)
      → T1 ≡ take a T ++ (reverse (slice a m T) ++ drop m T)
      → T2 ≡ take m T1 ++ (reverse (slice m e T1) ++ drop e T1)
      → T3 ≡ take a T2 ++ (reverse (slice a e T2) ++ drop e T2)
      → T3 ≡ take a T ++ (Y ++ (X ++ drop e T))
  rotated T1 T2 T3 p q r =
      let A : List ℕ = take a T in
      let Z : List ℕ = drop e T in
      let la : length A ≡ a = length-take-le a T (omega arith) in
      let lx : length X ≡ m - a = length-slice a m T (omega arith) in
      let ly : length Y ≡ e - m = length-slice m e T l in
      let lr = length-rev X in
      let ls = length-rev Y in
      let p' : T1 ≡ A ++ (reverse X ++ (Y ++ Z)) =
      p ∙ ap (λ (t : List ℕ). take a t ++ (reverse (slice a m t) ++ drop m t)) four ∙ turned A X (Y ++ Z) a m la (omega arith)
      in
      let lb = length-append A (reverse X) in
      let q' : T2 ≡ (A ++ reverse X) ++ (reverse Y ++ Z) =
      q
      ∙ ap (λ (t : List ℕ). take m t ++ (reverse (slice m e t) ++ drop e t)) (p' ∙ sym (append_assoc A (reverse X) (Y ++ Z)))
      ∙ turned (A ++ reverse X) Y Z m e (omega arith) (omega arith)
      in
      let lc = length-append (reverse X) (reverse Y) in
      let w : (A ++ reverse X) ++ (reverse Y ++ Z) ≡ A ++ ((reverse X ++ reverse Y) ++ Z) =
      append_assoc A (reverse X) (reverse Y ++ Z) ∙ ap (λ (t : List ℕ). A ++ t) (sym (append_assoc (reverse X) (reverse Y) Z))
      in
      r
      ∙ ap (λ (t : List ℕ). take a t ++ (reverse (slice a e t) ++ drop e t)) (q' ∙ w)
      ∙ turned A (reverse X ++ reverse Y) Z a e la (omega arith)
      ∙ ap (λ (t : List ℕ). A ++ (t ++ Z)) (rev-parts X Y)
      ∙ ap (λ (t : List ℕ). A ++ t) (append_assoc Y X Z)

-- ---- what a run of stores leaves alone, and what it holds

module _ (p : ℕ) (xs T : List ℕ) (h : p + length xs ≤ length T) where
  take-p : length (take p T) ≡ p
  take-p = length-take-le p T (omega arith)

  pub take-written : (n : ℕ) → n ≤ p → take n (written_at p xs T) ≡ take n T
  unfolding written_at
  take-written n k =
      let l = take-p in
      take-append-le n (take p T) (xs ++ drop (p + length xs) T) (omega arith) ∙ take-take n p T k

  pub drop_here : drop p (written_at p xs T) ≡ xs ++ drop (p + length xs) T
  unfolding written_at
  drop_here = drop_at (take p T) (xs ++ drop (p + length xs) T) p take-p

  pub drop-written : (n : ℕ) → p + length xs ≤ n → drop n (written_at p xs T) ≡ drop n T
  drop-written n k =
      let z : p + (n - p) ≡ n = omega arith in
      let y : length xs + (n - (p + length xs)) ≡ n - p = omega arith in
      let x : (p + length xs) + (n - (p + length xs)) ≡ n = omega arith in
      ap (λ (i : ℕ). drop i (written_at p xs T)) (sym z)
      ∙ sym (drop-drop (n - p) p (written_at p xs T))
      ∙ ap (drop (n - p)) drop_here
      ∙ ap (λ (i : ℕ). drop i (xs ++ drop (p + length xs) T)) (sym y)
      ∙ drop-append-add xs (drop (p + length xs) T) (n - (p + length xs))
      ∙ drop-drop (n - (p + length xs)) (p + length xs) T
      ∙ ap (λ (i : ℕ). drop i T) x

  -- parts before and behind
  pub slice-before : (f t : ℕ) → t ≤ p → slice f t (written_at p xs T) ≡ slice f t T
  slice-before f t k = ap (drop f) (take-written t k)

  pub slice-behind : (f t : ℕ) → f ≤ t → p + length xs ≤ f → slice f t (written_at p xs T) ≡ slice f t T
  slice-behind f t i k =
      let z : f + (t - f) ≡ t = omega arith in
      ap (λ (n : ℕ). slice f n (written_at p xs T)) (sym z)
      ∙ sym (take-slice (t - f) f (written_at p xs T))
      ∙ ap (take (t - f)) (drop-written f k)
      ∙ take-slice (t - f) f T
      ∙ ap (λ (n : ℕ). slice f n T) z

  pub slice-here : slice p (p + length xs) (written_at p xs T) ≡ xs
  slice-here =
      sym (take-slice (length xs) p (written_at p xs T))
      ∙ ap (take (length xs)) drop_here
      ∙ take-append_seam xs (drop (p + length xs) T)

  -- a longer run from the same place on hides it
  pub written_over : (ys : List ℕ) → length xs ≤ length ys → p + length ys ≤ length T → written_at p ys (written_at p xs T) ≡ written_at p ys T
  unfolding written_at
  written_over ys k l =
      let a = take-written p (omega arith) in
      let b = drop-written (p + length ys) (omega arith) in
      rw (a, b)

-- ---- a read joins those before it

pub record Joins (T : List ℕ) (end size at bases qualities : ℕ) : Type 0 where
  pub room : end + size ≤ at
  pub rising : at ≤ bases
  pub behind : bases < qualities
  pub inside : qualities < length T
  pub good : all is_quality (slice (bases + 1) qualities T) ≡ true

-- each quality is at least 33
quality-large : (xs : List ℕ) → all is_quality xs ≡ true → (i : ℕ) → i < length xs → 33 ≤ get_or xs i 0
unfolding is_quality
quality-large [] e i h = absurd (omega arith)
quality-large (x ∷ xs) e zero h =
    let a = and_left (leb 33 x) (leb x 126) (and_left (leb 33 x && leb x 126) (all is_quality xs) e) in
    leb-true 33 x a
quality-large (x ∷ xs) e (suc i) h = quality-large xs (and_right (leb 33 x && leb x 126) (all is_quality xs) e) i (omega arith)

same-less : (xs : List ℕ) → lessened 0 xs ≡ xs
same-less [] = refl
same-less (x ∷ xs) = let e : x - 0 ≡ x = omega arith in rw (e, same-less xs)

module _ (T : List ℕ) (end size at b q : ℕ) (j : Joins T end size at b q) where
  abbrev m : ℕ
  m = end + size

  abbrev new : List ℕ
  new = slice at b T

  abbrev vals : List ℕ
  vals = values (slice (b + 1) q T)

  pub bases-move : Moves T at b m 0
  bases-move =
      let x = j.room in
      let y = j.rising in
      let z = j.behind in
      let w = j.inside in
      record { back = x; rising = y; inside = omega arith; large = λ i h k. (omega arith) }

  long-new : length new ≡ b - at
  long-new = let z = j.behind in let w = j.inside in length-slice at b T (omega arith)

  module _ (T1 : List ℕ) (e1 : T1 ≡ written_at m (lessened 0 (slice at b T)) T) where
    first-is : T1 ≡ written_at m new T
    first-is = e1 ∙ ap (λ (x : List ℕ). written_at m x T) (same-less new)

    fits-1 : m + length new ≤ length T
    fits-1 =
        let l = long-new in
        let x = j.room in
        let y = j.rising in
        let z = j.behind in
        let w = j.inside in
        omega arith

    quals-same : slice (b + 1) q T1 ≡ slice (b + 1) q T
    quals-same =
        let l = long-new in
        let x = j.room in
        let y = j.rising in
        let z = j.behind in
        ap (slice (b + 1) q) first-is ∙ slice-behind m new T fits-1 (b + 1) q (omega arith) (omega arith)

    pub quals-move : Moves T1 (b + 1) q (m + (b - at)) 33
    quals-move =
        let x = j.room in
        let y = j.rising in
        let z = j.behind in
        let w = j.inside in
        let l : length T1 ≡ length T = ap length first-is ∙ length-written m new T fits-1 in
        record {
          back = omega arith;
          rising = omega arith;
          inside = omega arith;
          large =
              λ i h k.
              (let u : (b + 1) + (i - (b + 1)) ≡ i = omega arith in
              let v : get_or (slice (b + 1) q T1) (i - (b + 1)) 0 ≡ get_or T1 i 0 =
              get_d_part (b + 1) q T1 (i - (b + 1)) (omega arith) ∙ ap (λ (n : ℕ). get_or T1 n 0) u
              in
              let s : length (slice (b + 1) q T1) ≡ q - (b + 1) = length-slice (b + 1) q T1 (omega arith) in
              let t = quality-large (slice (b + 1) q T1) (ap (all is_quality) quals-same ∙ j.good) (i - (b + 1)) (omega arith) in
              omega arith);
        }

    module _ (T2 : List ℕ) (e2 : T2 ≡ written_at (m + (b - at)) (lessened 33 (slice (b + 1) q T1)) T1) where
      fits-2 : m + length (new ++ vals) ≤ length T
      unfolding values
      fits-2 =
          let l = long-new in
          let a = length-append new vals in
          let v = length-lessened 33 (slice (b + 1) q T) in
          let u = length-slice (b + 1) q T (let w = j.inside in omega arith) in
          let x = j.room in
          let y = j.rising in
          let z = j.behind in
          let w = j.inside in
          omega arith

      second_is : T2 ≡ written_at m (new ++ vals) T
      unfolding values
      second_is =
          let l = long-new in
          let f = fits-2 in
          let a = length-append new vals in
          let z : m + (b - at) ≡ m + length new = omega arith in
          e2
          ∙ ap (λ (x : List ℕ). written_at (m + (b - at)) (lessened 33 x) T1) quals-same
          ∙ ap (λ (n : ℕ). written_at n vals T1) z
          ∙ ap (λ (x : List ℕ). written_at (m + length new) vals x) first-is
          ∙ written-more m new vals T (omega arith)

      pub second-long : length T2 ≡ length T
      second-long = ap length second_is ∙ length-written m (new ++ vals) T fits-2

      pub rotate-asks : (end ≤ m) × (m ≤ m + (b - at)) × (m + (b - at) ≤ length T2)
      rotate-asks =
          let l = second-long in
          let x = j.room in
          let y = j.rising in
          let z = j.behind in
          let w = j.inside in
          (omega arith, omega arith, omega arith)

      pub joined : (T3 : List ℕ) → T3 ≡ take end T2 ++ (slice m (m + (b - at)) T2 ++ (slice end m T2 ++ drop (m + (b - at)) T2))
          → T3 ≡ written_at end (new ++ (slice end m T ++ vals)) T
      unfolding written_at
      joined T3 e =
          let l = long-new in
          let f = fits-2 in
          let la = length-append new vals in
          let lb = length-append new (slice end m T ++ vals) in
          let lc = length-append (slice end m T) vals in
          let x = j.room in
          let y = j.rising in
          let z = j.behind in
          let w = j.inside in
          let ls = length-slice end m T (omega arith) in
          let i : m + (b - at) ≡ m + length new = omega arith in
          let p1 : take end T2 ≡ take end T = ap (take end) second_is ∙ take-written m (new ++ vals) T fits-2 end (omega arith) in
          let p2 : drop m T2 ≡ new ++ (vals ++ drop (m + length (new ++ vals)) T) =
          ap (drop m) second_is ∙ drop_here m (new ++ vals) T fits-2 ∙ append_assoc new vals (drop (m + length (new ++ vals)) T)
          in
          let p3 : slice m (m + (b - at)) T2 ≡ new =
          ap (λ (n : ℕ). slice m n T2) i
          ∙ sym (take-slice (length new) m T2)
          ∙ ap (take (length new)) p2
          ∙ take-append_seam new (vals ++ drop (m + length (new ++ vals)) T)
          in
          let p4 : slice end m T2 ≡ slice end m T = ap (slice end m) second_is ∙ slice-before m (new ++ vals) T fits-2 end m (omega arith) in
          let p5 : drop (m + (b - at)) T2 ≡ vals ++ drop (m + length (new ++ vals)) T =
          ap (λ (n : ℕ). drop n T2) i
          ∙ sym (drop-drop (length new) m T2)
          ∙ ap (drop (length new)) p2
          ∙ drop-append_seam new (vals ++ drop (m + length (new ++ vals)) T)
          in
          let k : m + length (new ++ vals) ≡ end + length (new ++ (slice end m T ++ vals)) = omega arith in
          e
          ∙ rw (p1, p3, p4, p5)
          (ap (λ (n : ℕ). take end T ++ (new ++ (slice end m T ++ (vals ++ drop n T)))) k
          ∙ ap (λ (u : List ℕ). take end T ++ (new ++ u)) (sym (append_assoc (slice end m T) vals (drop (end + length (new ++ (slice end m T ++ vals))) T)))
          ∙ ap (λ (u : List ℕ). take end T ++ u) (sym (append_assoc new (slice end m T ++ vals) (drop (end + length (new ++ (slice end m T ++ vals))) T))))
