-- What a step and a run answer, with document 01's numbers and places ("Where a ticket stops", step and run), and what
-- the code's enums say of it.
-- Assumes nothing.
use Rattle.std.specs.Prelude.{ℕ, Result, Ok, Err}
use Rattle.registers.specs.declared.Cycles.{Cycles}
use Rattle.registers.specs.declared.Registers.{Registers}
use Rattle.answers.specs.declared.Refusal.{Refusal}
use Rattle.stepper.specs.declared.answer.Reached.{Reached}
use Rattle.stepper.specs.declared.answer.Ran.{Ran}
use Rattle.answers.specs.Cause.{number_of}

-- of a step: the registers and the cycles, or a refusal's number and place
pub data Answer : Type 0 where
  done : Registers → Cycles → Answer
  refused : (number place : ℕ) → Answer

-- of a run: each holds the registers reached and the cycles spent
pub data RunAnswer : Type 0 where
  home : Registers → Cycles → RunAnswer
  spent : Registers → Cycles → RunAnswer
  refused : (number place : ℕ) → Registers → Cycles → RunAnswer

abbrev pub registers_reached : RunAnswer → Registers
registers_reached (home r k) = r
registers_reached (spent r k) = r
registers_reached (refused n p r k) = r

abbrev pub cycles_spent : RunAnswer → ℕ
cycles_spent (home r k) = k.0
cycles_spent (spent r k) = k.0
cycles_spent (refused n p r k) = k.0

abbrev pub answer_of : Result Reached Refusal → Answer
answer_of (Ok q) = done q.registers q.cycles
answer_of (Err x) = refused (number_of x.cause) x.place

abbrev pub ran_of : Ran → RunAnswer
ran_of (Ran.Home q) = home q.registers q.cycles
ran_of (Ran.Spent q) = spent q.registers q.cycles
ran_of (Ran.Refused q x) = refused (number_of x.cause) x.place q.registers q.cycles
