-- A refused step changes nothing.
-- Assumes nothing.
use mathlib.Core.Path.{◌≡◌, refl}
use mathlib.Core.List.{List}
use Prim.Native.Nat.{ℕ}
use Rattle.registers.specs.declared.Registers.{Registers}
use Rattle.stepper.specs.Answer.{refused}
use Rattle.stepper.specs.Step.{Did, did, stopped, did_of, after, step_of}

by_what : (d : Did) (m : List ℕ) {n p : ℕ} → (after d m).answer ≡ refused n p → (after d m).memory ≡ m
by_what (did q ws k) m s = absurd cc
by_what (stopped n p) m s = refl

pub unchanged : (r : Registers) (m : List ℕ) {n p : ℕ} → (step_of r m).answer ≡ refused n p → (step_of r m).memory ≡ m
unfolding step_of
unchanged r m s = by_what (did_of r m) m s
