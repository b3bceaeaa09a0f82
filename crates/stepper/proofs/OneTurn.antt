-- The loop without a home, which does one instruction, is a step.
-- Assumes nothing.
use Rattle.std.specs.Prelude.{None}
use mathlib.Core.Path.{◌≡◌, refl, ap, ◌∙◌}
use mathlib.Core.List.{List}
use Prim.Native.Nat.{ℕ, ◌+◌, ◌≤◌}
use native.Mathlib.Omega.{arith}
use Rattle.registers.specs.declared.Registers.{Registers}
use Rattle.stepper.specs.Answer.{Answer, done, refused}
use Rattle.stepper.specs.Step.{After, step_of}
use Rattle.stepper.specs.Run.{AfterRun}
use Rattle.stepper.specs.inner.Until.{until_of, as_step}
use Rattle.stepper.proofs.Costs.{step_most}
use Rattle.stepper.proofs.LoopTurn.{refuses, steps, ended}

module _ (r : Registers) (m : List ℕ) where
  -- an answer of the loop that is a step's answer, and its memory
  abbrev Is : AfterRun → Answer → List ℕ → Type 0
  Is w a m' = (as_step w.answer ≡ a) × (w.memory ≡ m')

  by_answer : (a : Answer) (m' : List ℕ) → step_of r m ≡ record { answer = a; memory = m' }
      → Is (until_of None r m 255) a m'
  by_answer (refused n p) m' e = let g = refuses None 255 255 0 r m e in (rw g, rw g)
  by_answer (done q c) m' e =
      let most : c.0 ≤ 255 = step_most r m q c (ap (λ (x : After). x.answer) e) in
      let g = steps None 255 255 0 r m e (omega (arith, most)) ∙ ended None 254 255 (0 + c.0) q m' refl in
      let sum : 0 + c.0 ≡ c.0 = omega arith in
      (rw (g, sum), rw g)

  pub one_turn : Is (until_of None r m 255) (step_of r m).answer (step_of r m).memory
  one_turn = by_answer (step_of r m).answer (step_of r m).memory refl
