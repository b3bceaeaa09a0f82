-- `monitor::stepper_calls::step_on` meets its contract: by the length, and then by what the stepper answers.
-- Assumes nothing.
use Rattle.std.proofs.Common.{◌≡◌, ◌<◌, sym, ap, subst, ◌∙◌, arith}
use Rattle.stepper.specs.Answer.{Answer, answer_of}
use Rattle.stepper.proofs.Refusals.{StepPlaced, step_placed}
use Rattle.monitor.specs.StepperCalls.{step_bytes_of}
use Rattle.monitor.proofs.Sized.{bad_registers, steps}
use Rattle.monitor.proofs.stepper_calls.step_on.Goals as goal

pub returns-in_default : goal.returns-in_default
unfolding step_bytes_of
returns-in_default c k p = bad_registers _ _ _ _ c.in_default.ensures.cases

pub returns-in-Ok : goal.returns-in-Ok
returns-in-Ok c k p =
    let whole = c.in-Some.ensures.cases in
    let answered =
    steps _ _ _ whole.long whole.same c.unpack-r.ensures k p (ap answer_of (sym c.in-Ok.is) ∙ c.step.ensures.0)
    c.step.ensures.1 in
    simp (c.reached.ensures.0, c.reached.ensures.1) answered

-- the place of a step's refusal is PC or 0
pub address_of-requires : goal.address_of-requires
address_of-requires c =
    let r = c.unpack-r.result in
    let e = ap answer_of (sym c.in-Err.is) ∙ c.step.ensures.0 in
    let p = subst (λ (a : Answer). StepPlaced a r.pc) (sym e) (step_placed r _) in
    let low : r.pc < 65536 = omega (arith, c.unpack-r.type_inv) in
    let small : c.in-Err.x.place < 65536 = omega (arith, p.2, low) in
    small

pub returns-in-Err : goal.returns-in-Err
returns-in-Err c k p =
    let whole = c.in-Some.ensures.cases in
    let answered =
    steps _ _ _ whole.long whole.same c.unpack-r.ensures k p (ap answer_of (sym c.in-Err.is) ∙ c.step.ensures.0)
    c.step.ensures.1 in
    simp (c.number.ensures, c.address_of.ensures) answered
