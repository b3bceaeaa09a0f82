-- A run within a budget of cycles (document 01, "The machine"; document 02, e): home, a refusal, spent, or a step, in
-- that order. Home is the environment's: PC $0000 is an ordinary address unless it is home.
-- Assumes nothing.
use Rattle.std.specs.Prelude.{ℕ, zero, suc, ◌+◌, Bool, true, false, List, eqb, leb, length}
use Rattle.registers.specs.declared.Registers.{Registers}
use Rattle.stepper.specs.declared.environment.Environment.{Environment}
use Rattle.stepper.specs.Answer.{Answer, done, refused, RunAnswer, home, spent, refused as run_refused}
use Rattle.stepper.specs.Step.{step_of}

pub record AfterRun : Type 0 where
  pub answer : RunAnswer
  pub memory : List ℕ

-- what is left to do, from the cycles spent, the registers and the memory
abbrev pub Rest : Type 0
Rest = ℕ → Registers → List ℕ → AfterRun

-- the step's cycles are covered or not: s cycles are spent, the step takes k, to the registers q and the memory m'
abbrev pub if_covered : Bool → ℕ → Registers → List ℕ → ℕ → Registers → List ℕ → Rest → AfterRun
if_covered true s r m k q m' f = f (s + k) q m'
if_covered false s r m k q m' f = record { answer = spent r (record { 0 = s }); memory = m }

-- a refused step ends the run
abbrev pub if_done : Answer → List ℕ → ℕ → ℕ → Registers → List ℕ → Rest → AfterRun
if_done (refused n p) m' b s r m f = record { answer = run_refused n p r (record { 0 = s }); memory = m' }
if_done (done q k) m' b s r m f = if_covered (leb (s + k.0) b) s r m k.0 q m' f

-- one turn, at home or not
abbrev pub turn : Bool → ℕ → ℕ → Registers → List ℕ → Rest → AfterRun
turn true b s r m f = record { answer = home r (record { 0 = s }); memory = m }
turn false b s r m f = let d = step_of r m in if_done d.answer d.memory b s r m f

-- at most n turns
unfoldable pub run_from : Environment → ℕ → ℕ → ℕ → Registers → List ℕ → AfterRun
run_from env zero b s r m = record { answer = spent r (record { 0 = s }); memory = m }
run_from env (suc n) b s r m = turn (eqb r.pc env.home) b s r m (λ t q m'. run_from env n b t q m')

abbrev pub run_if : Bool → Environment → Registers → List ℕ → ℕ → AfterRun
run_if true env r m b = run_from env (suc b) b 0 r m
run_if false env r m b = record { answer = run_refused 21 0 r (record { 0 = 0 }); memory = m }

-- a memory of another length is refused first, home or not. Every instruction takes a cycle or more, so one turn more
-- than the budget is enough
unfoldable pub run_of : Environment → Registers → List ℕ → ℕ → AfterRun
run_of env r m b = run_if (eqb (length m) 65536) env r m b
