-- Demand 3 over the call for the list itself: what holds of the rows that a caller reads off the output slices of an accepted call. Assumes nothing.
use Rattle.std.specs.Prelude.{◌≡◌, refl, ℕ, ◌≤◌, true, List, leb, Float}
use Rattle.std.proofs.Common.{sym, ◌∙◌}
use Rattle.laws.specs.Lists.{keep}
use Rattle.definition.specs.Limits.{Input, is_long_enough, list_told}
use Rattle.definition.specs.Listing.{Answer, refusal, listed, answer}
use Rattle.definition.specs.Calls.{ListSlices, list_outcome, list_lent, list_call}
use Rattle.definition.specs.Promises.{AllElseEqual}
use Rattle.theorems.proofs.Fewer.{IsList}
use Rattle.theorems.proofs.Demand.{demand-3a, demand-3b, fewer-accepted}
use Rattle.promises.specs.Reading.{read_rows, read_list}
use Rattle.promises.specs.Demand.{Promised, ToldWithin, Meets}
use Rattle.promises.proofs.Accepted.{made, bounded, outcome, rows-read}

-- ---- the promises

-- It holds of the rows read off the slices.
pub promise-3a : (i : Input) (workspace lent : List ℕ) (old : ListSlices) → (list_call i workspace lent old).answer.refusal ≡ 0
    → Promised i (read_list i (list_call i workspace lent old))
promise-3a i workspace lent old e =
    let m = made i workspace lent old e in
    rw (rows-read i workspace lent old m) (demand-3a i (list_told i workspace) (list_lent old lent) m.rows m.pushes m.longest m.is)

-- Demand 3, second half: of two accepted calls between which all else is equal, the list read for fewer paths asked is the longer list read with every path
-- left out whose closing number is above the smaller number. The slices and the workspaces may differ in length and in what they held.
pub promise-3b : (a b : Input) (workspace lent workspace' lent' : List ℕ) (old old' : ListSlices) → AllElseEqual a b → a.asked ≤ b.asked
    → (list_call a workspace lent old).answer.refusal ≡ 0 → (list_call b workspace' lent' old').answer.refusal ≡ 0
    → read_list a (list_call a workspace lent old) ≡ keep (λ r. leb r.closing a.asked) (read_list b (list_call b workspace' lent' old'))
promise-3b a b workspace lent workspace' lent' old old' same few e f =
    let m = made a workspace lent old e in
    let n = made b workspace' lent' old' f in
    rw (rows-read a workspace lent old m, rows-read b workspace' lent' old' n)
    (demand-3b a b (list_told a workspace) (list_lent old lent) (list_told b workspace') (list_lent old' lent') m.rows n.rows m.pushes m.longest
    n.pushes n.longest same few m.is n.is)

-- Where the call for more paths is accepted, so is the call for fewer, if it is lent what it is told.
pub promise-fewer : (a b : Input) (workspace lent workspace' lent' : List ℕ) (old old' : ListSlices) → AllElseEqual a b → a.asked ≤ b.asked
    → is_long_enough (list_told a workspace) (list_lent old lent) ≡ true → (list_call b workspace' lent' old').answer.refusal ≡ 0
    → (list_call a workspace lent old).answer.refusal ≡ 0
unfolding list_call list_outcome
promise-fewer a b workspace lent workspace' lent' old old' same few long e =
    let n = made b workspace' lent' old' e in
    go (answer a (list_told a workspace) (list_lent old lent))
    (fewer-accepted a b (list_told a workspace) (list_lent old lent) (list_told b workspace') (list_lent old' lent') n.rows n.pushes n.longest same few n.is long)
  where
    go : (x : Answer Float) → IsList x → (list_outcome a x old).answer.refusal ≡ 0
    go (refusal n) h = absurd h
    go (listed rs p q) h = refl

pub rows_told : (i : Input) (workspace lent : List ℕ) (old : ListSlices) → (list_call i workspace lent old).answer.refusal ≡ 0
    → ToldWithin i (list_call i workspace lent old).answer
unfolding list_outcome
rows_told i workspace lent old e =
    let m = made i workspace lent old e in
    let b = bounded i workspace lent old m in
    rw (outcome i workspace lent old m) (record { paths-fit = b.rows_fit; pushes-fit = b.pushes-fit; waiting-fit = b.waiting-fit })

-- ---- a program

read-met : {i : Input} {workspace lent : List ℕ} {old : ListSlices} {number paths : ℕ} {new : ListSlices} → Meets i workspace lent old number paths new
    → read_rows i new paths ≡ read_list i (list_call i workspace lent old)
read-met {i} h = λ t. read_rows i (h.slices-are t) (h.paths-are t)

-- The first half, of the rows read off a program's slices.
pub called-3a : {i : Input} {workspace lent : List ℕ} {old : ListSlices} {number paths : ℕ} {new : ListSlices} → Meets i workspace lent old number paths new
    → number ≡ 0 → Promised i (read_rows i new paths)
called-3a {i} {workspace} {lent} {old} h e = rw (read-met h) (promise-3a i workspace lent old (sym h.refusal_is ∙ e))

-- The second half, of the rows read off the slices of two calls, of one program or of two.
pub called-3b : {a b : Input} {workspace lent workspace' lent' : List ℕ} {old old' : ListSlices} {number paths number' paths' : ℕ} {new new' : ListSlices}
    → AllElseEqual a b → a.asked ≤ b.asked → Meets a workspace lent old number paths new → Meets b workspace' lent' old' number' paths' new' → number ≡ 0
    → number' ≡ 0 → read_rows a new paths ≡ keep (λ r. leb r.closing a.asked) (read_rows b new' paths')
called-3b {a} {b} {workspace} {lent} {workspace'} {lent'} {old} {old'} same few h k e f =
    rw (read-met h, read-met k) (promise-3b a b workspace lent workspace' lent' old old' same few (sym h.refusal_is ∙ e) (sym k.refusal_is ∙ f))

-- The call for fewer is accepted, of one program or of two.
pub called-fewer : {a b : Input} {workspace lent workspace' lent' : List ℕ} {old old' : ListSlices} {number paths number' paths' : ℕ} {new new' : ListSlices}
    → AllElseEqual a b → a.asked ≤ b.asked → Meets a workspace lent old number paths new → Meets b workspace' lent' old' number' paths' new'
    → is_long_enough (list_told a workspace) (list_lent old lent) ≡ true → number' ≡ 0 → number ≡ 0
called-fewer {a} {b} {workspace} {lent} {workspace'} {lent'} {old} {old'} same few h k long f =
    h.refusal_is ∙ promise-fewer a b workspace lent workspace' lent' old old' same few long (sym k.refusal_is ∙ f)
