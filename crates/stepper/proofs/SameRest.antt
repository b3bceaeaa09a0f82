-- Two ways to go on that agree after a step that is covered make the same turn.
-- Assumes nothing.
use mathlib.Core.Path.{◌≡◌, refl}
use mathlib.Core.Bool.{Bool, true, false}
use mathlib.Core.List.{List}
use Prim.Native.Nat.{ℕ, ◌+◌, ◌≤◌}
use lib.Dec.{leb}
use borrow.Author.Tests.{leb-true}
use Rattle.registers.specs.declared.Cycles.{Cycles}
use Rattle.registers.specs.declared.Registers.{Registers}
use Rattle.stepper.specs.Answer.{Answer, done, refused}
use Rattle.stepper.specs.Step.{step_of}
use Rattle.stepper.specs.Run.{Rest, if_covered, if_done, turn}

module _ (b : ℕ) (f g : Rest) (s : ℕ) (r : Registers) (m : List ℕ)
    (same : (q : Registers) (k : Cycles) → (step_of r m).answer ≡ done q k → s + k.0 ≤ b
    → f (s + k.0) q (step_of r m).memory ≡ g (s + k.0) q (step_of r m).memory) where
  by_cover : (c : Bool) (q : Registers) (k : Cycles) → leb (s + k.0) b ≡ c → (step_of r m).answer ≡ done q k
      → if_covered c s r m k.0 q (step_of r m).memory f ≡ if_covered c s r m k.0 q (step_of r m).memory g
  by_cover true q k e a = same q k a (leb-true (s + k.0) b e)
  by_cover false q k e a = refl

  by_answer : (a : Answer) → (step_of r m).answer ≡ a
      → if_done a (step_of r m).memory b s r m f ≡ if_done a (step_of r m).memory b s r m g
  by_answer (refused n p) e = refl
  by_answer (done q k) e = by_cover (leb (s + k.0) b) q k refl e

  pub same_turn : (h : Bool) → turn h b s r m f ≡ turn h b s r m g
  same_turn true = refl
  same_turn false = by_answer (step_of r m).answer refl
