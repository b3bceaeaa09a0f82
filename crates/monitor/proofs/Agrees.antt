-- On as many register bytes as are asked for a call says what the stepper says, of a memory of another length too: the
-- monitor adds no rule of its own.
-- Assumes nothing.
use mathlib.Core.Path.{◌≡◌, refl}
use mathlib.Core.Bool.{Bool, true, false}
use mathlib.Core.List.{List}
use Prim.Native.Nat.{ℕ, ◌<◌}
use lib.Dec.{eqb}
use lib.ListN.{length, get_or}
use borrow.Author.Tests.{eq-eqb}
use Rattle.stepper.specs.Step.{did_of, step_of}
use Rattle.stepper.specs.Run.{AfterRun, run_of}
use Rattle.monitor.specs.RegisterBytes.{register_size, unpacked}
use Rattle.monitor.specs.StepperCalls.{StepperCall, stepper_call, of_step, of_run, step_bytes_of, run_bytes_of}
use Rattle.monitor.proofs.RegisterRoundTrip.{packed_unpacked}

module _ (c p : ℕ) (rs m : List ℕ) (h : length rs ≡ register_size) where
  step_by : (b : Bool) → eqb (length m) 65536 ≡ b
      → step_bytes_of c p rs m ≡ of_step (step_of (unpacked rs) m).answer c p rs (step_of (unpacked rs) m).memory
  unfolding step_bytes_of step_of did_of
  step_by true e = simp (eq-eqb _ _ h, e)
  step_by false e = simp (eq-eqb _ _ h, e)

  pub step_agrees : step_bytes_of c p rs m
      ≡ of_step (step_of (unpacked rs) m).answer c p rs (step_of (unpacked rs) m).memory
  step_agrees = step_by (eqb (length m) 65536) refl

-- but for the cycles: of a memory of another length the stepper's run answers 0, and the call leaves them as they were
-- lent
abbrev pub uncounted : StepperCall → StepperCall
uncounted a = stepper_call a.outcome 0 a.place a.registers a.memory

module _ (c p : ℕ) (rs m : List ℕ) (home budget : ℕ) (h : length rs ≡ register_size) where
  -- what the stepper's run comes to
  abbrev w : AfterRun
  w = run_of (record { home = home }) (unpacked rs) m budget

  pub run_agrees : length m ≡ 65536
      → run_bytes_of c p rs m home budget
      ≡ of_run w.answer p w.memory
  unfolding run_bytes_of
  run_agrees g = simp (eq-eqb _ _ h, eq-eqb _ _ g)

  run_by : ((i : ℕ) → get_or rs i 0 < 256) → (b : Bool) → eqb (length m) 65536 ≡ b
      → uncounted (run_bytes_of c p rs m home budget)
      ≡ uncounted (of_run w.answer p w.memory)
  unfolding run_bytes_of run_of
  run_by bytes true e = simp (eq-eqb _ _ h, e)
  run_by bytes false e = simp (eq-eqb _ _ h, e, packed_unpacked rs bytes h)

  pub run_agrees_uncounted : ((i : ℕ) → get_or rs i 0 < 256)
      → uncounted (run_bytes_of c p rs m home budget)
      ≡ uncounted (of_run w.answer p w.memory)
  run_agrees_uncounted bytes = run_by bytes (eqb (length m) 65536) refl
