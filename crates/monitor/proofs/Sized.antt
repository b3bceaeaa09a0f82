-- What a call comes to by the lengths of what is lent, and then by what the stepper answers.
-- Assumes nothing.
use mathlib.Core.Path.{◌≡◌}
use mathlib.Core.List.{List}
use Prim.Native.Nat.{ℕ}
use lib.ListN.{length}
use borrow.Author.Tests.{eq-eqb, ne_eqb}
use Rattle.registers.specs.declared.Registers.{Registers}
use Rattle.stepper.specs.Answer.{Answer, RunAnswer}
use Rattle.stepper.specs.Step.{step_of}
use Rattle.stepper.specs.Run.{run_of}
use Rattle.monitor.specs.RegisterBytes.{register_size, unpacked}
use Rattle.monitor.specs.StepperCalls.{StepperCall, stepper_call, of_step, of_run, if_sized, step_bytes_of}
use Rattle.monitor.specs.StepperCalls.{run_bytes_of}
use Rattle.monitor.proofs.Agrees.{step_agrees}

module _ (c : ℕ) (rs m : List ℕ) (a : StepperCall) where
  pub bad_registers : (length rs ≡ register_size → ⊥) → stepper_call 21 c 0 rs m ≡ if_sized c rs m a
  bad_registers h = simp (ne_eqb _ _ h)

  pub bad_memory : length rs ≡ register_size → (length m ≡ 65536 → ⊥) → stepper_call 21 c 0 rs m ≡ if_sized c rs m a
  bad_memory h g = simp (eq-eqb _ _ h, ne_eqb _ _ g)

-- bs: the register bytes, as an array
module _ (rs bs m : List ℕ) (h : length rs ≡ register_size) (s : bs ≡ rs) {r : Registers} (e : r ≡ unpacked bs)
    {m' : List ℕ} (c p : ℕ) where
  pub steps : {a : Answer} → a ≡ (step_of r m).answer → m' ≡ (step_of r m).memory
      → of_step a c p bs m' ≡ step_bytes_of c p rs m
  steps a n = simp (step_agrees c p rs m h, a, n, e, s)

  pub runs : length m ≡ 65536 → (home b : ℕ) {a : RunAnswer} → let w = run_of (record { home = home }) r m b in
      a ≡ w.answer → m' ≡ w.memory → of_run a p m' ≡ run_bytes_of c p rs m home b
  unfolding run_bytes_of
  runs g home b a n = simp (eq-eqb _ _ h, eq-eqb _ _ g, a, n, e, s)
