-- What a mark claims, measured along a run: the cycles and the stack bytes that a routine takes from an instruction to
-- its own return (document 01, "The ticket": cost, depth, need).
-- Assumes nothing.
use Rattle.std.specs.Prelude.{ℕ, zero, suc, ◌+◌, ◌-◌, Bool, true, false, cond, List, eqb, ltb}
use Rattle.registers.specs.Word.{wrapping_sub}
use Rattle.registers.specs.Registers.{with_lowest}
use Rattle.registers.specs.declared.Registers.{Registers}
use Rattle.stepper.specs.Answer.{Answer, done, refused}
use Rattle.stepper.specs.Step.{step_of}
use Rattle.commands.specs.declared.command.Claim.{Claim}
use Rattle.stepper.specs.Flow.{Flow, calls, returns, plain, flow_of}
use Rattle.measure.specs.declared.look.Look.{Look}

-- the lowest SP begins with SP
abbrev pub begin_of : Registers → ℕ → Look
begin_of r b = record { regs = with_lowest r r.sp; pending = 0; left = b; over = false }

abbrev pub over_of : Look → Look
over_of l = record { regs = l.regs; pending = l.pending; left = l.left; over = true }

-- the calls that have not returned after an instruction of a flow
abbrev pub pending_after : Flow → ℕ → ℕ
pending_after calls n = n + 1
pending_after returns n = n - 1
pending_after plain n = n

-- a return while no call is pending is the routine's own
abbrev pub own_return : Flow → ℕ → Bool
own_return calls n = false
own_return returns n = eqb n 0
own_return plain n = false

-- an instruction of this flow led to the registers q in k cycles
abbrev pub on_of : Flow → Look → Registers → ℕ → Look
on_of d l q k =
    record {
      regs = q;
      pending = pending_after d l.pending;
      left = l.left - k;
      over = own_return d l.pending;
    }

-- one that the budget does not cover, or that is refused, ends the look
abbrev pub look_after : Flow → Look → Answer → Look
look_after d l (done q k) = cond (ltb l.left k.0) (over_of l) (on_of d l q k.0)
look_after d l (refused n p) = over_of l

pub record LookStep : Type 0 where
  pub look : Look
  pub memory : List ℕ

abbrev pub look_step : Look → List ℕ → LookStep
look_step l m = record { look = l; memory = m }

unfoldable pub look_step_of : Look → List ℕ → LookStep
look_step_of l m = let s = step_of l.regs m in look_step (look_after (flow_of m l.regs.pc) l s.answer) s.memory

-- at most n instructions
unfoldable pub look_from : ℕ → Look → List ℕ → Look
look_from zero l m = l
look_from (suc n) l m = cond l.over l (let t = look_step_of l m in look_from n t.look t.memory)

-- every instruction takes a cycle or more, so as many turns as there are cycles in the budget are enough
abbrev pub look_of : Registers → List ℕ → ℕ → Look
look_of r m b = look_from b (begin_of r b) m

-- from the registers r and the memory m: the cycles until the return; the bytes pushed before, which the return finds
-- below its address; the bytes taken below SP
abbrev pub measured_of : Registers → List ℕ → ℕ → Claim
measured_of r m b =
    let l = look_of r m b in
    record {
      cost = record { 0 = b - l.left };
      depth = record
          { 0 = wrapping_sub (wrapping_sub l.regs.sp 2) r.sp };
      need =
          record { 0 = wrapping_sub r.sp l.regs.lowest };
    }
