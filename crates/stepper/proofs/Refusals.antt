-- The numbers and places of a step's and of a run's refusals: 21 to 23, and 0 or PC, so no place passes PC.
-- Assumes nothing.
use Rattle.std.specs.Prelude.{Option, Some, None}
use mathlib.Core.Bool.{Bool, true, false}
use mathlib.Core.List.{List}
use Prim.Native.Nat.{ℕ, zero, suc, ◌+◌, ◌≤◌}
use native.Mathlib.Omega.{arith}
use lib.Dec.{eqb, leb}
use lib.ListN.{length}
use Rattle.registers.specs.declared.Registers.{Registers}
use Rattle.registers.specs.Word.{wrapping_add}
use Rattle.registers.specs.Registers.{with_pc}
use Rattle.opcodes.specs.Tables.{length_at, cycles_at}
use Rattle.opcodes.specs.Decode.{place_in, decode_at}
use Rattle.instructions.specs.Entry.{form_of}
use Rattle.instructions.specs.Form.{waits}
use Rattle.opcodes.specs.declared.instruction.Decoded.{Decoded}
use Rattle.instructions.specs.Effect.{Effect, effect_of}
use Rattle.stepper.specs.declared.environment.Environment.{Environment}
use Rattle.stepper.specs.Answer.{Answer, done, refused, RunAnswer, home, spent, refused as run_refused}
use Rattle.stepper.specs.Step.{fetched, executed, carried_out, did_if, did_of, after, step_of}
use Rattle.stepper.specs.Run.{Rest, if_covered, if_done, turn, run_from, run_if, run_of}

abbrev pub Placed : (number place pc : ℕ) → Type 0
Placed n p pc = (21 ≤ n) × (n ≤ 23) × (p ≤ pc)

abbrev pub StepPlaced : Answer → ℕ → Type 0
StepPlaced (done q k) pc = Unit
StepPlaced (refused n p) pc = Placed n p pc

module _ (r : Registers) (m : List ℕ) where
  by_wait : (b : Bool) (e : Effect) (c : ℕ) → StepPlaced (after (executed b r e c) m).answer r.pc
  by_wait true e c = (omega arith, omega arith, omega arith)
  by_wait false e c = tt

  carried : (p : ℕ) (d : Option Decoded) → StepPlaced (after (carried_out p d r m) m).answer r.pc
  unfolding carried_out
  carried p None = (omega arith, omega arith, omega arith)
  carried p (Some d) =
      let next = with_pc r (wrapping_add r.pc (length_at p)) in
      by_wait (waits (form_of d.action d.operand next.pc)) (effect_of d.action d.operand next m) (cycles_at p)

  by_length : (b : Bool) → StepPlaced (after (did_if b r m) m).answer r.pc
  by_length true = let f = fetched m r.pc in carried (place_in f) (decode_at (place_in f) f)
  by_length false = (omega arith, omega arith, omega arith)

  pub step_placed : StepPlaced (step_of r m).answer r.pc
  unfolding step_of did_of
  step_placed = by_length (eqb (length m) 65536)

abbrev pub RunPlaced : RunAnswer → Type 0
RunPlaced (home r k) = Unit
RunPlaced (spent r k) = Unit
RunPlaced (run_refused n p r k) = Placed n p r.pc

module _ (b : ℕ) (f : Rest) (rest : (t : ℕ) (q : Registers) (n : List ℕ) → RunPlaced (f t q n).answer)
    (s : ℕ) (r : Registers) (m : List ℕ) where
  by_cover : (c : Bool) (k : ℕ) (q : Registers) (m' : List ℕ) → RunPlaced (if_covered c s r m k q m' f).answer
  by_cover true k q m' = rest (s + k) q m'
  by_cover false k q m' = tt

  by_answer : (a : Answer) (m' : List ℕ) → StepPlaced a r.pc → RunPlaced (if_done a m' b s r m f).answer
  by_answer (refused n p) m' e = e
  by_answer (done q k) m' e = by_cover (leb (s + k.0) b) k.0 q m'

  by_home : (h : Bool) → RunPlaced (turn h b s r m f).answer
  by_home true = tt
  by_home false = by_answer (step_of r m).answer (step_of r m).memory (step_placed r m)

from : (env : Environment) (n b s : ℕ) (r : Registers) (m : List ℕ) → RunPlaced (run_from env n b s r m).answer
unfolding run_from
from env zero b s r m = tt
from env (suc n) b s r m =
    by_home b (λ t q m'. run_from env n b t q m') (from env n b) s r m (eqb r.pc env.home)

run_by_length : (env : Environment) (c : Bool) (r : Registers) (m : List ℕ) (b : ℕ)
    → RunPlaced (run_if c env r m b).answer
run_by_length env true r m b = from env (suc b) b 0 r m
run_by_length env false r m b = (omega arith, omega arith, omega arith)

pub run_placed : (env : Environment) (r : Registers) (m : List ℕ) (b : ℕ) → RunPlaced (run_of env r m b).answer
unfolding run_of
run_placed env r m b = run_by_length env (eqb (length m) 65536) r m b
