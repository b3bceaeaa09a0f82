-- A run until home, or of one instruction alone, the first wherever it stands: what the loop that a step and a run
-- share comes to. An inner matter of the code.
-- Assumes nothing.
use Rattle.std.specs.Prelude.{ℕ, zero, suc, Bool, true, false, List, Option, Some, None, eqb}
use Rattle.registers.specs.declared.Registers.{Registers}
use Rattle.stepper.specs.declared.until.Ended.{Ended}
use Rattle.stepper.specs.Answer.{Answer, done, refused}
use Rattle.stepper.specs.Answer.{RunAnswer, home as run_home, spent, refused as run_refused}
use Rattle.stepper.specs.Step.{After}
use Rattle.stepper.specs.Run.{AfterRun, turn}
use Rattle.answers.specs.Cause.{number_of}

-- a step that is done
abbrev pub after_done : Registers → ℕ → List ℕ → After
after_done q k m = record { answer = done q (record { 0 = k }); memory = m }

-- whether PC ends the loop: home does, and with none every address, as the loop then does one instruction alone
abbrev pub ends_loop : (home : Option ℕ) (pc : ℕ) → Bool
ends_loop None pc = true
ends_loop (Some home) pc = eqb pc home

-- at most n turns, s cycles of the budget b being spent
unfoldable pub until_from : (home : Option ℕ) (n b s : ℕ) → Registers → List ℕ → AfterRun
until_from home zero b s r m = record { answer = spent r (record { 0 = s }); memory = m }
until_from home (suc n) b s r m =
    turn (ends_loop home r.pc) b s r m (λ t q m'. until_from home n b t q m')

-- the next instruction, also where PC ends the loop, and then at most n turns
unfoldable pub next_from : (home : Option ℕ) (n b s : ℕ) → Registers → List ℕ → AfterRun
next_from home n b s r m = turn false b s r m (λ t q m'. until_from home n b t q m')

abbrev pub until_of : (home : Option ℕ) → Registers → List ℕ → (budget : ℕ) → AfterRun
until_of home r m b = next_from home b b 0 r m

-- what the code says of how the loop ends: a refusal's place is PC
abbrev pub ended_of : Ended → RunAnswer
ended_of (Ended.Arrived q) = run_home q.registers q.cycles
ended_of (Ended.Spent q) = spent q.registers q.cycles
ended_of (Ended.Refused q c) = run_refused (number_of c) q.registers.pc q.registers q.cycles

-- the answer of a step by that of the loop
abbrev pub as_step : RunAnswer → Answer
as_step (run_home r k) = done r k
as_step (spent r k) = done r k
as_step (run_refused n p r k) = refused n p
