-- `read_header` meets its contract: five numbers, each with what is left behind it. Assumes nothing.
use Rattle.std.proofs.Common.{◌≡◌, to_z, of_z, w32, rules}
use Rattle.text_form.specs.Headers.{header-0, header-1, header-2, header-3, header-4, header-5, header-end}
use Rattle.text_form.proofs.header.read_header.Goals as goal

pub returns-in_err-k : goal.returns-in_err-k
returns-in_err-k c =
    rw c.from_residual.ensures (
    header-0 c.args.line.now c.in_err-k.ensures
    )

pub returns-in_err-q : goal.returns-in_err-q
returns-in_err-q c =
    rw c.from_residual-in_err-q.ensures (
    header-1 c.args.line.now _ c.in_ok-k.ensures c.in_err-q.ensures
    )

pub returns-in_err-n : goal.returns-in_err-n
returns-in_err-n c =
    rw c.from_residual-in_err-n.ensures (
    header-2 c.args.line.now _ c.in_ok-k.ensures _ c.in_ok-q.ensures c.in_err-n.ensures
    )

pub returns-in_err-t : goal.returns-in_err-t
returns-in_err-t c =
    rw c.from_residual-in_err-t.ensures (
    header-3 c.args.line.now _ c.in_ok-k.ensures _ c.in_ok-q.ensures _ c.in_ok-n.ensures c.in_err-t.ensures
    )

pub returns-in_err-r : goal.returns-in_err-r
returns-in_err-r c =
    rw c.from_residual-in_err-r.ensures (
    header-4 c.args.line.now _ c.in_ok-k.ensures _ c.in_ok-q.ensures _ c.in_ok-n.ensures _ c.in_ok-t.ensures c.in_err-r.ensures
    )

pub returns-then-r-line : goal.returns-then-r-line
returns-then-r-line c =
    header-5 c.args.line.now _ c.in_ok-k.ensures _ c.in_ok-q.ensures _ c.in_ok-n.ensures _ c.in_ok-t.ensures _ c.in_ok-r.ensures
    c.if-r-line.true

pub returns : goal.returns
returns c =
    let a : to_z w32 (of_z w32 c.in_ok-k.k.number) ≡ c.in_ok-k.k.number = search rules in
    let b : to_z w32 (of_z w32 c.in_ok-q.q.number) ≡ c.in_ok-q.q.number = search rules in
    let d : to_z w32 (of_z w32 c.in_ok-n.n.number) ≡ c.in_ok-n.n.number = search rules in
    let e : to_z w32 (of_z w32 c.in_ok-t.t.number) ≡ c.in_ok-t.t.number = search rules in
    let f : to_z w32 (of_z w32 c.in_ok-r.r.number) ≡ c.in_ok-r.r.number = search rules in
    header-end c.args.line.now _ c.in_ok-k.ensures _ c.in_ok-q.ensures _ c.in_ok-n.ensures _ c.in_ok-t.ensures _ c.in_ok-r.ensures
    _ c.if-r-line.false (rw (a, b, d, e, f) at c.make_settings.ensures)
