-- One turn of the loop, by what the next instruction comes to and where it leads.
-- Assumes nothing.
use Rattle.std.specs.Prelude.{Option}
use mathlib.Core.Path.{◌≡◌, sym, ap}
use mathlib.Core.Bool.{true, false}
use mathlib.Core.List.{List}
use Prim.Native.Nat.{ℕ, suc, ◌+◌, ◌≤◌, ◌<◌}
use borrow.Author.Tests.{le-leb, lt-leb}
use Rattle.registers.specs.declared.Cycles.{Cycles}
use Rattle.registers.specs.declared.Registers.{Registers}
use Rattle.stepper.specs.Answer.{done, refused, home as run_home, spent, refused as run_refused}
use Rattle.stepper.specs.Step.{step_of}
use Rattle.stepper.specs.Run.{AfterRun}
use Rattle.stepper.specs.inner.Until.{ends_loop, until_from, next_from, after_done}

module _ (home : Option ℕ) (n b s : ℕ) (r : Registers) (m : List ℕ) where
  pub refuses : {number place : ℕ} {m' : List ℕ} → step_of r m ≡ record { answer = refused number place; memory = m' }
      → next_from home n b s r m ≡ record { answer = run_refused number place r (record { 0 = s }); memory = m' }
  unfolding next_from
  refuses e = simp e

  pub over : {q : Registers} {k : Cycles} → (step_of r m).answer ≡ done q k → b < s + k.0
      → next_from home n b s r m ≡ record { answer = spent r (record { 0 = s }); memory = m }
  unfolding next_from
  over e l = simp (e, lt-leb _ _ l)

  pub steps : {q : Registers} {k : ℕ} {m' : List ℕ} → step_of r m ≡ after_done q k m' → s + k ≤ b
      → next_from home n b s r m ≡ until_from home n b (s + k) q m'
  unfolding next_from
  steps e l = simp (e, le-leb _ _ l)

  pub ended : ends_loop home r.pc ≡ true
      → until_from home (suc n) b s r m ≡ record { answer = run_home r (record { 0 = s }); memory = m }
  unfolding until_from
  ended t = simp t

  pub goes_on : ends_loop home r.pc ≡ false → until_from home (suc n) b s r m ≡ next_from home n b s r m
  unfolding until_from next_from
  goes_on f = simp f

-- an equation of what a run leaves, as a contract has it
pub told : {x y : AfterRun} → x ≡ y → (y.answer ≡ x.answer) × (y.memory ≡ x.memory)
told e = (sym (ap (λ (w : AfterRun). w.answer) e), sym (ap (λ (w : AfterRun). w.memory) e))
