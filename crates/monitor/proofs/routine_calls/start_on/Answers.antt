-- `monitor::routine_calls::start_on` meets its contract: by the length, and then by what the verdict's start answers.
-- Assumes nothing.
use borrow.Author.Tests.{eq-eqb, ne_eqb}
use Rattle.std.proofs.Common.{◌∙◌}
use Rattle.monitor.specs.RoutineCalls.{start_bytes_of}
use Rattle.monitor.proofs.routine_calls.start_on.Goals as goal

pub returns-in_default : goal.returns-in_default
unfolding start_bytes_of
returns-in_default c h p = simp (ne_eqb _ _ c.in_default.ensures.cases, c.refuse.ensures)

pub returns : goal.returns
unfolding start_bytes_of
returns c h p =
    let whole = c.in-Some.ensures.cases in
    c.stored.ensures h p _
    ∙ rw (eq-eqb _ _ whole.long, ← whole.same, ← c.data_in-d.ensures, ← c.start_routine.ensures.0)
