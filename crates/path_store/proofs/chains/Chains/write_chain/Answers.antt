use Rattle.std.proofs.Common.{◌≡◌, ◌+◌, ◌-◌, ◌≤◌, ℕ, List, length, take, drop, refl, sym, ap, ◌∙◌, ◌++◌, arith, length-take, length-drop, take_all}
use Rattle.std.proofs.lemmas.Slice.{put_mid-paste}
use Rattle.std.proofs.lemmas.List.Edits.{sets, sets-eq}
use Rattle.std.proofs.Math.Seq.{length-sets}
use borrow.Rule.Slice.PartMut.{put_mid}
use Rattle.laws.specs.Stores.{take-sets}
use Rattle.path_store.specs.Walk.{run, run_length, runs-now}
use Rattle.path_store.specs.Steps.{writing-next, writing-end}
use Rattle.path_store.proofs.chains.Chains.write_chain.Goals as goal

-- a list that is written from its start to its end
whole : (l vs : List ℕ) → length l ≡ length vs → sets l 0 vs ≡ vs
whole l vs e = sym (take_all (length vs) (sets l 0 vs) (omega (arith, length-sets l 0 vs))) ∙ take-sets l vs (omega arith)

-- a part that holds the written numbers, put back
back : (out part vs : List ℕ) (at k : ℕ) → k ≡ length vs → at + k ≤ length out → part ≡ vs → put_mid at k out part ≡ sets out at vs
back out part vs at k e l h =
    put_mid-paste at k out part vs (length vs) h (sym e) refl
    ∙ ap (λ (x : List ℕ). take at out ++ x ++ drop (at + length vs) out) (take_all (length vs) vs (omega arith))
    ∙ sym (sets-eq vs out at (omega arith))

pub sole-requires : goal.sole-requires
sole-requires c = (c.loop-place.invariant.fits, runs-now _ _ _ _ (omega arith) c.loop-place.invariant.runs)

pub next-u-requires : goal.next-u-requires
next-u-requires c = (c.requires.0, c.loop-place.invariant.fits, runs-now _ _ _ _ (omega arith) c.loop-place.invariant.runs)

pub loop-place-preserved : goal.loop-place-preserved
loop-place-preserved c =
    let e : c.args.c - (c.loop-place.place-index + 1) ≡ c.args.c - c.loop-place.place-index - 1 = omega arith in
    rw (e, c.next-u.ensures) (writing-next _ _ _ _ _ _ _ _ _ _ c.loop-place.invariant _ c.requires.0 (omega arith) c.sole.ensures)

pub returns : goal.returns
returns c =
    let k = c.args.at + c.args.c - c.args.at in
    let part = take k (drop c.args.at c.args.out.now) in
    let vs = run c.args.self.index.now c.args.self.targets.now c.args.start c.args.c in
    let n : length vs ≡ c.args.c = run_length c.args.self.index.now c.args.self.targets.now c.args.start c.args.c in
    back c.args.out.now c.loop-place.place-items vs c.args.at k (omega arith) (omega arith)
    (writing-end _ _ _ _ _ _ _ _ _ _ c.loop-place.invariant (omega arith)
    ∙ whole part vs (omega (arith, length-take k (drop c.args.at c.args.out.now), length-drop c.args.at c.args.out.now)))
