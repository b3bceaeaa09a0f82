-- What a C call comes to: its outcome number, what it answers beside it, and the lent bytes afterwards, all by the
-- stepper's own definitions (document 01, "The machine": the press monitor is written in C; document 02, e: a run is
-- given home).
-- Assumes nothing.
use Rattle.std.specs.Prelude.{ℕ, Bool, cond, ◌&&◌, List, eqb, length}
use Rattle.registers.specs.Registers.{reset_of}
use Rattle.stepper.specs.Answer.{Answer, done, refused, RunAnswer, home as run_home, spent, refused as run_refused}
use Rattle.stepper.specs.Step.{step_of}
use Rattle.stepper.specs.Run.{run_of}
use Rattle.monitor.specs.RegisterBytes.{register_size, packed, unpacked}

-- a call's outcome, and every number and byte that it was lent, afterwards
pub record StepperCall : Type 0 where
  pub outcome : ℕ
  pub cycles : ℕ
  pub place : ℕ
  pub registers : List ℕ
  pub memory : List ℕ

abbrev pub stepper_call : (outcome cycles place : ℕ) (registers memory : List ℕ) → StepperCall
stepper_call n k p rs m = record { outcome = n; cycles = k; place = p; registers = rs; memory = m }

-- what a call does not answer stays as it was lent: c, p and rs are the cycles, the place and the register bytes before
-- it, m the memory after it. Of a step: its cycles and registers, or the place of its refusal
abbrev pub of_step : Answer → (c p : ℕ) (rs m : List ℕ) → StepperCall
of_step (done q k) c p rs m = stepper_call 0 k.0 p (packed q) m
of_step (refused n at) c p rs m = stepper_call n c at rs m

-- of a run: each answer holds the cycles and the registers reached, a refusal on the way too. Document 01 has no number
-- for spent; 100 lies past its refusals
abbrev pub of_run : RunAnswer → (p : ℕ) (m : List ℕ) → StepperCall
of_run (run_home q k) p m = stepper_call 0 k.0 p (packed q) m
of_run (spent q k) p m = stepper_call 100 k.0 p (packed q) m
of_run (run_refused n at q k) p m = stepper_call n k.0 at (packed q) m

-- the lengths that a step and a run ask for
abbrev pub sized : List ℕ → List ℕ → Bool
sized rs m = eqb (length rs) register_size && eqb (length m) 65536

-- refusal 21, looked at first, changes nothing but the place, which is 0
abbrev pub if_sized : (c : ℕ) (rs m : List ℕ) → StepperCall → StepperCall
if_sized c rs m a = cond (sized rs m) a (stepper_call 21 c 0 rs m)

unfoldable pub step_bytes_of : (cycles place : ℕ) (registers memory : List ℕ) → StepperCall
step_bytes_of c p rs m = let d = step_of (unpacked rs) m in if_sized c rs m (of_step d.answer c p rs d.memory)

-- the environment of a run: in C its parts are numbers
unfoldable pub run_bytes_of : (cycles place : ℕ) (registers memory : List ℕ) (home budget : ℕ) → StepperCall
run_bytes_of c p rs m home budget =
    let d = run_of (record { home = home }) (unpacked rs) m budget in if_sized c rs m (of_run d.answer p d.memory)

-- a reset is lent no memory
pub record ResetCall : Type 0 where
  pub outcome : ℕ
  pub registers : List ℕ

unfoldable pub reset_bytes_of : List ℕ → ResetCall
reset_bytes_of rs =
    cond (eqb (length rs) register_size) (record { outcome = 0; registers = packed reset_of })
    (record { outcome = 21; registers = rs })
