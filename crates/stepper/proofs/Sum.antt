-- The cycles that a run answers are the sum over the instructions that it executed: those of a trace from its registers
-- and memory to the ones that it answers.
-- Assumes nothing.
use mathlib.Core.Path.{◌≡◌, refl}
use mathlib.Core.Bool.{Bool, true, false}
use mathlib.Core.List.{List, [], ◌∷◌}
use Prim.Native.Nat.{ℕ, zero, suc, ◌+◌}
use native.Mathlib.Omega.{arith}
use lib.Dec.{eqb, leb}
use lib.ListN.{length}
use borrow.Author.Tests.{eqb-false}
use Rattle.registers.specs.declared.Registers.{Registers}
use Rattle.memory.specs.Memory.{Store, applied}
use Rattle.stepper.specs.declared.environment.Environment.{Environment}
use Rattle.stepper.specs.Answer.{registers_reached, cycles_spent}
use Rattle.stepper.specs.Step.{Did, did, stopped, did_of, after, step_of}
use Rattle.stepper.specs.Run.{AfterRun, Rest, if_covered, if_done, turn, run_from, run_if, run_of}
use Rattle.stepper.specs.Trace.{Event, event_at, total, Along, stay, then}

-- from r and m a trace leads to what a run answers, and s and its cycles together are the cycles that the run answers
abbrev SumsFrom : Environment → Registers → List ℕ → ℕ → AfterRun → Type 0
SumsFrom env r m s w =
    (events : List Event) × Along env r m events (registers_reached w.answer) w.memory
    × (cycles_spent w.answer ≡ s + total events)

module _ (env : Environment) (b : ℕ) (f : Rest)
    (sums : (t : ℕ) (q : Registers) (n : List ℕ) → SumsFrom env q n t (f t q n))
    (s : ℕ) (r : Registers) (m : List ℕ) where
  module _ (away : r.pc ≡ env.home → ⊥) where
    by_cover : (c : Bool) {q : Registers} {ws : List Store} {k : ℕ} → did_of r m ≡ did q ws k
        → SumsFrom env r m s (if_covered c s r m k q (applied ws m) f)
    by_cover true {q} {ws} {k} e =
        let w = sums (s + k) q (applied ws m) in
        (event_at r m q ws k ∷ w.0, then away e w.1, omega (arith, w.2))
    by_cover false e = ([], stay, omega arith)

    by_did : (d : Did) → did_of r m ≡ d → SumsFrom env r m s (if_done (after d m).answer (after d m).memory b s r m f)
    by_did (stopped n p) e = ([], stay, omega arith)
    by_did (did q ws k) e = by_cover (leb (s + k) b) e

  by_home : (h : Bool) → eqb r.pc env.home ≡ h → SumsFrom env r m s (turn h b s r m f)
  unfolding step_of
  by_home true e = ([], stay, omega arith)
  by_home false e = by_did (eqb-false r.pc env.home e) (did_of r m) refl

from : (env : Environment) (n b s : ℕ) (r : Registers) (m : List ℕ) → SumsFrom env r m s (run_from env n b s r m)
unfolding run_from
from env zero b s r m = ([], stay, omega arith)
from env (suc n) b s r m =
    by_home env b (λ t q m'. run_from env n b t q m') (from env n b) s r m (eqb r.pc env.home) refl

by_length : (env : Environment) (c : Bool) (r : Registers) (m : List ℕ) (b : ℕ)
    → SumsFrom env r m 0 (run_if c env r m b)
by_length env true r m b = from env (suc b) b 0 r m
by_length env false r m b = ([], stay, omega arith)

pub run_sums : (env : Environment) (r : Registers) (m : List ℕ) (b : ℕ)
    → let w = run_of env r m b in
    (events : List Event) × Along env r m events (registers_reached w.answer) w.memory
    × (cycles_spent w.answer ≡ total events)
unfolding run_of
run_sums env r m b = let s = by_length env (eqb (length m) 65536) r m b in (s.0, s.1, omega (arith, s.2))
