-- One turn of a run, by where it stands and by what the next instruction does.
-- Assumes nothing.
use mathlib.Core.Path.{◌≡◌}
use mathlib.Core.List.{List}
use Prim.Native.Nat.{ℕ, suc, ◌+◌, ◌≤◌, ◌<◌}
use borrow.Author.Tests.{eq-eqb, ne_eqb, le-leb, lt-leb}
use Rattle.registers.specs.declared.Registers.{Registers}
use Rattle.memory.specs.Memory.{Store, applied}
use Rattle.stepper.specs.declared.environment.Environment.{Environment}
use Rattle.stepper.specs.Answer.{home, spent}
use Rattle.stepper.specs.Step.{did, did_of, step_of}
use Rattle.stepper.specs.Run.{run_from}

module _ (env : Environment) (n b s : ℕ) (r : Registers) (m : List ℕ) where
  pub at_home : r.pc ≡ env.home
      → run_from env (suc n) b s r m ≡ record { answer = home r (record { 0 = s }); memory = m }
  unfolding run_from
  at_home z = simp (eq-eqb _ _ z)

  module _ {q : Registers} {ws : List Store} {k : ℕ} (away : r.pc ≡ env.home → ⊥)
      (does : did_of r m ≡ did q ws k) where
    pub covered : s + k ≤ b → run_from env (suc n) b s r m ≡ run_from env n b (s + k) q (applied ws m)
    unfolding run_from step_of
    covered l = simp (ne_eqb _ _ away, does, le-leb _ _ l)

    pub uncovered : b < s + k
        → run_from env (suc n) b s r m ≡ record { answer = spent r (record { 0 = s }); memory = m }
    unfolding run_from step_of
    uncovered l = simp (ne_eqb _ _ away, does, lt-leb _ _ l)
