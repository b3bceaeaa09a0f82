-- `monitor::slot::certify_into` meets its contract: by the length, and then by the certification.
-- Assumes nothing.
use borrow.Author.Tests.{eq-eqb, ne_eqb}
use Rattle.std.proofs.lemmas.Result.{err_from_is_err_and}
use Rattle.monitor.specs.RoutineCalls.{certify_bytes_of}
use Rattle.monitor.proofs.slot.certify_into.Goals as goal

pub returns-in_default : goal.returns-in_default
unfolding certify_bytes_of
returns-in_default c p = simp (ne_eqb _ _ c.in_default.ensures.cases, c.refuse.ensures)

pub returns-in_err-c : goal.returns-in_err-c
unfolding certify_bytes_of
returns-in_err-c c p =
    let whole = c.in-Some.ensures.cases in
    let q = err_from_is_err_and c.from_residual.result c.from_residual.ensures.1 in
    rw (q.1, q.2, whole.same, eq-eqb _ _ whole.long, ← c.certify.ensures.0, c.in_err-c.was)

pub returns : goal.returns
unfolding certify_bytes_of
returns c p = rw (
  eq-eqb _ _ c.in-Some.ensures.cases.long,
  ← c.certify.ensures.0,
  c.in_ok-c.was,
  c.put_slot.ensures,
)
