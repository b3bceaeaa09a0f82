-- `monitor::stepper_calls::run_on` meets its contract: by the lengths, and then by what the stepper answers.
-- Assumes nothing.
use Rattle.std.proofs.Common.{◌≡◌, ◌<◌, sym, ap, subst, ◌∙◌, arith}
use Rattle.stepper.specs.Answer.{ran_of}
use Rattle.stepper.proofs.Refusals.{RunPlaced, run_placed}
use Rattle.monitor.specs.StepperCalls.{run_bytes_of}
use Rattle.monitor.proofs.Sized.{bad_registers, bad_memory, runs}
use Rattle.monitor.proofs.stepper_calls.run_on.Goals as goal

pub returns-in_default : goal.returns-in_default
unfolding run_bytes_of
returns-in_default c k p = bad_registers _ _ _ _ c.in_default.ensures.cases

pub returns-then-mem-ne65536 : goal.returns-then-mem-ne65536
unfolding run_bytes_of
returns-then-mem-ne65536 c k p =
    let whole = c.in-Some.ensures.cases in
    simp whole.same (bad_memory _ _ _ _ whole.long c.if-mem-ne65536.true)

pub returns-in-Home : goal.returns-in-Home
returns-in-Home c k p =
    let whole = c.in-Some.ensures.cases in
    let answered =
    runs _ _ _ whole.long whole.same c.unpack-r.ensures k p c.if-mem-ne65536.false c.args.home c.args.budget
    (ap ran_of (sym c.in-Home.is) ∙ c.run.ensures.0) c.run.ensures.1 in
    simp (c.reached.ensures.0, c.reached.ensures.1) answered

pub returns-in-Spent : goal.returns-in-Spent
returns-in-Spent c k p =
    let whole = c.in-Some.ensures.cases in
    let answered =
    runs _ _ _ whole.long whole.same c.unpack-r.ensures k p c.if-mem-ne65536.false c.args.home c.args.budget
    (ap ran_of (sym c.in-Spent.is) ∙ c.run.ensures.0) c.run.ensures.1 in
    simp (c.reached-in-Spent.ensures.0, c.reached-in-Spent.ensures.1) answered

-- the place of a run's refusal is PC or 0
pub address_of-requires : goal.address_of-requires
address_of-requires c =
    let e = ap ran_of (sym c.in-Refused.is) ∙ c.run.ensures.0 in
    let p = subst RunPlaced (sym e) (run_placed _ _ _ _) in
    let low : c.in-Refused.q.registers.pc < 65536 = omega arith in
    omega (arith, p.2, low)

pub returns-in-Refused : goal.returns-in-Refused
returns-in-Refused c k p =
    let whole = c.in-Some.ensures.cases in
    let answered =
    runs _ _ _ whole.long whole.same c.unpack-r.ensures k p c.if-mem-ne65536.false c.args.home c.args.budget
    (ap ran_of (sym c.in-Refused.is) ∙ c.run.ensures.0) c.run.ensures.1 in
    simp (c.reached-in-Refused.ensures.0, c.reached-in-Refused.ensures.1, c.address_of.ensures) answered
