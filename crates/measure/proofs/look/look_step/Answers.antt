-- `look_step` meets its contract: the step's own answer and memory, and what the flow makes of them.
-- Assumes nothing.
use Rattle.std.proofs.Common.{ap, arith}
use Rattle.stepper.specs.Answer.{answer_of}
use Rattle.measure.specs.Look.{look_step_of}
use Rattle.measure.proofs.look.look_step.Goals as goal

pub returns-in-Ok : goal.returns-in-Ok
unfolding look_step_of
returns-in-Ok c = let e = ap answer_of c.in-Ok.is in (
  simp (← c.step.ensures.0, e, ← c.step.ensures.1, c.look_after.ensures.0, ← c.flow_at-d.ensures),
  c.look_after.ensures.1,
  c.look_after.ensures.2,
)

pub returns-in-Err : goal.returns-in-Err
unfolding look_step_of
returns-in-Err c = let e = ap answer_of c.in-Err.is in (
  simp (← c.step.ensures.0, e, ← c.step.ensures.1, ← c.flow_at-d.ensures),
  omega arith,
  omega arith,
)
