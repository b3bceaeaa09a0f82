-- `write` meets its contract: the offset that the checks leave is how many bytes there are. Every number of the code's
-- ticket fits its type, so reading its bytes answers as the checks do.
-- Assumes nothing.
use mathlib.Core.Path.{sym, ◌∙◌}
use native.Mathlib.Omega.{arith}
use Rattle.std.proofs.lemmas.Result.{err_from_is_err_and}
use Rattle.ticket.specs.Fields.{fields_of}
use Rattle.ticket.proofs.ReadWritten.{read_checked}
use Rattle.ticket.proofs.Checks.{checked_at, write_refused, write_short, write_whole}
use Rattle.ticket.proofs.write.Goals as goal

pub returns-in_err-n : goal.returns-in_err-n
returns-in_err-n c =
    let a = c.args in
    let p = err_from_is_err_and c.from_residual.result c.from_residual.ensures.1 in
    let w = write_refused (fields_of a.t.now) a.out.now _ (sym c.check.ensures.0 ∙ c.in_err-n.was) in
    rw (p.1, p.2) (w.0, w.1, read_checked _ c.check.ensures.1)

pub returns-then-out-n : goal.returns-then-out-n
returns-then-out-n c =
    let a = c.args in
    let checked = sym c.check.ensures.0 ∙ c.in_ok-n.was in
    let w = write_short (fields_of a.t.now) a.out.now c.in_ok-n.field-0 checked c.if-out-n.true in
    (rw c.refuse.ensures w.0, w.1, read_checked _ c.check.ensures.1)

pub put-requires : goal.put-requires
put-requires c = omega (arith, checked_at _ _ (sym c.check.ensures.0 ∙ c.in_ok-n.was), c.if-out-n.false)

pub returns : goal.returns
returns c =
    let a = c.args in
    let checked = sym c.check.ensures.0 ∙ c.in_ok-n.was in
    let w = write_whole (fields_of a.t.now) a.out.now c.in_ok-n.field-0 checked c.if-out-n.false in
    (w.0, c.put.ensures ∙ w.1, read_checked _ c.check.ensures.1)
