-- More turns than cycles left are enough: however many more, a run answers the same.
-- Assumes nothing.
use mathlib.Core.Path.{◌≡◌}
use mathlib.Core.List.{List}
use Prim.Native.Nat.{ℕ, zero, suc, ◌+◌, ◌≤◌, ◌<◌}
use native.Mathlib.Omega.{arith}
use lib.Dec.{eqb}
use Rattle.registers.specs.declared.Registers.{Registers}
use Rattle.stepper.specs.declared.environment.Environment.{Environment}
use Rattle.stepper.specs.Step.{step_of}
use Rattle.stepper.specs.Run.{run_from}
use Rattle.stepper.proofs.Costs.{step_cost}
use Rattle.stepper.proofs.SameRest.{same_turn}

pub enough : (env : Environment) (n n' b s : ℕ) (r : Registers) (m : List ℕ) → s ≤ b → b < s + n → b < s + n'
    → run_from env n b s r m ≡ run_from env n' b s r m
unfolding run_from
enough env zero n' b s r m l h h' = absurd (omega arith)
enough env (suc n) zero b s r m l h h' = absurd (omega arith)
enough env (suc n) (suc n') b s r m l h h' =
    same_turn b (λ t q m'. run_from env n b t q m') (λ t q m'. run_from env n' b t q m') s r m
    (λ q c a w.
    let two = step_cost r m q c a in
    enough env n n' b (s + c.0) q (step_of r m).memory w (omega (arith, two)) (omega (arith, two)))
    (eqb r.pc env.home)
