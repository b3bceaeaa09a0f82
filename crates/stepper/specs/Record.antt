-- One step on a lent register record (document 01, "The machine": "Inside the library the monitor lends its register
-- record, and one thin call advances it by a step").
-- Assumes nothing.
use Rattle.std.specs.Prelude.{ℕ, List, Result, Ok, Err}
use Rattle.registers.specs.declared.Cycles.{Cycles}
use Rattle.registers.specs.declared.Registers.{Registers}
use Rattle.answers.specs.declared.Refusal.{Refusal}
use Rattle.stepper.specs.Answer.{Answer, done as step_done, refused as step_refused}
use Rattle.stepper.specs.Step.{step_of}
use Rattle.answers.specs.Cause.{number_of}

-- the cycles, or a refusal's number and place
pub data AdvanceAnswer : Type 0 where
  done : Cycles → AdvanceAnswer
  refused : (number place : ℕ) → AdvanceAnswer

-- the answer, and the lent record and memory as they then are
pub record AfterAdvance : Type 0 where
  pub answer : AdvanceAnswer
  pub registers : Registers
  pub memory : List ℕ

-- a refused step leaves the record as it was
abbrev pub after_step : Answer → Registers → List ℕ → AfterAdvance
after_step (step_done q k) r m = record { answer = done k; registers = q; memory = m }
after_step (step_refused n p) r m = record { answer = refused n p; registers = r; memory = m }

unfoldable pub advance_of : Registers → List ℕ → AfterAdvance
advance_of r m = let d = step_of r m in after_step d.answer r d.memory

-- what the code's answer says
abbrev pub advanced_of : Result Cycles Refusal → AdvanceAnswer
advanced_of (Ok k) = done k
advanced_of (Err x) = refused (number_of x.cause) x.place

abbrev pub afterwards : Result Cycles Refusal → Registers → List ℕ → AfterAdvance
afterwards a r m = record { answer = advanced_of a; registers = r; memory = m }
