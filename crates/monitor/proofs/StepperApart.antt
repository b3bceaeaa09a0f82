-- Two different answers of the stepper leave something different in C: from what a call leaves the answer is found
-- again, since causes are numbered from 1 to 29.
-- Assumes nothing.
use Rattle.std.specs.Prelude.{Result, Ok, Err}
use Prim.Native.Nat.{ℕ}
use mathlib.Core.Path.{◌≡◌, sym, ap, ◌∙◌}
use mathlib.Core.Bool.{cond}
use mathlib.Core.List.{List}
use native.Mathlib.Omega.{arith}
use borrow.Author.Tests.{ne_eqb}
use lib.Dec.{eqb}
use Rattle.registers.specs.declared.Registers.{Registers}
use Rattle.answers.specs.Cause.{number_of}
use Rattle.answers.specs.declared.Refusal.{Refusal}
use Rattle.answers.proofs.Causes.{cause_from, cause_back, not_zero, number_small}
use Rattle.stepper.specs.declared.answer.Reached.{Reached}
use Rattle.stepper.specs.declared.answer.Ran.{Ran}
use Rattle.stepper.specs.declared.answer.Ran.TheVariants as Ran
use Rattle.stepper.specs.Answer.{answer_of, ran_of}
use Rattle.monitor.specs.RegisterBytes.{unpacked}
use Rattle.monitor.specs.StepperCalls.{StepperCall, of_step, of_run}
use Rattle.monitor.proofs.RegisterRoundTrip.{unpacked_packed}

abbrev Stepped : Type 0
Stepped = Result Reached Refusal

abbrev refusal_from : StepperCall → Refusal
refusal_from a = record { cause = cause_from a.outcome; place = a.place }

abbrev reached_from : StepperCall → Reached
reached_from a = record { registers = unpacked a.registers; cycles = record { 0 = a.cycles } }

abbrev step_from : StepperCall → Stepped
step_from a =
    cond
    (eqb a.outcome 0)
    (Ok (reached_from a))
    (Err (refusal_from a))

abbrev ran_from : StepperCall → Ran
ran_from a =
    cond
    (eqb a.outcome 0)
    (Ran.Home (reached_from a))
    (cond (eqb a.outcome 100) (Ran.Spent (reached_from a)) (Ran.Refused (reached_from a) (refusal_from a)))

module _ (c p : ℕ) (rs m : List ℕ) where
  step_back : (a : Stepped) → step_from (of_step (answer_of a) c p rs m) ≡ a
  step_back (Ok q) = rw (unpacked_packed q.registers)
  step_back (Err x) = simp (not_zero x.cause, cause_back x.cause)

  ran_back : (a : Ran) → ran_from (of_run (ran_of a) p m) ≡ a
  ran_back (Ran.Home q) = rw (unpacked_packed q.registers)
  ran_back (Ran.Spent q) = rw (unpacked_packed q.registers)
  ran_back (Ran.Refused q x) =
      let not_spent = ne_eqb (number_of x.cause) 100 (λ z. omega (arith, z, number_small x.cause)) in
      simp (not_zero x.cause, not_spent, cause_back x.cause) (rw (unpacked_packed q.registers))

  pub steps_apart : (a b : Stepped) → of_step (answer_of a) c p rs m ≡ of_step (answer_of b) c p rs m → a ≡ b
  steps_apart a b e = sym (step_back a) ∙ ap step_from e ∙ step_back b

  pub runs_apart : (a b : Ran) → of_run (ran_of a) p m ≡ of_run (ran_of b) p m → a ≡ b
  runs_apart a b e = sym (ran_back a) ∙ ap ran_from e ∙ ran_back b
