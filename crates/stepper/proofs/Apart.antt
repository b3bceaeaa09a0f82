-- Two different answers have different readings: from what `answer_of`, `ran_of` and `advanced_of` say the answer is
-- found again.
-- Assumes nothing.
use Rattle.std.specs.Prelude.{Result, Ok, Err}
use mathlib.Core.Path.{◌≡◌, refl, sym, ap, ◌∙◌}
use Rattle.registers.specs.declared.Cycles.{Cycles}
use Rattle.answers.specs.declared.Refusal.{Refusal}
use Rattle.answers.proofs.Causes.{cause_from, cause_back}
use Rattle.stepper.specs.declared.answer.Reached.{Reached}
use Rattle.stepper.specs.declared.answer.Ran.{Ran}
use Rattle.stepper.specs.Answer.{Answer, done, refused, RunAnswer, home, spent, answer_of, ran_of}
use Rattle.stepper.specs.Record.{AdvanceAnswer, done as advanced, refused as not_advanced, advanced_of}

abbrev answer_from : Answer → Result Reached Refusal
answer_from (done r k) = Ok (record { registers = r; cycles = k })
answer_from (refused n p) = Err (record { cause = cause_from n; place = p })

answer_back : (a : Result Reached Refusal) → answer_from (answer_of a) ≡ a
answer_back (Ok q) = refl
answer_back (Err x) = simp (cause_back x.cause)

pub answers_apart : (a b : Result Reached Refusal) → answer_of a ≡ answer_of b → a ≡ b
answers_apart a b e = sym (answer_back a) ∙ ap answer_from e ∙ answer_back b

abbrev ran_from : RunAnswer → Ran
ran_from (home r k) = Ran.Home (record { registers = r; cycles = k })
ran_from (spent r k) = Ran.Spent (record { registers = r; cycles = k })
ran_from (refused n p r k) =
    Ran.Refused (record { registers = r; cycles = k }) (record { cause = cause_from n; place = p })

ran_back : (a : Ran) → ran_from (ran_of a) ≡ a
ran_back (Ran.Home q) = refl
ran_back (Ran.Spent q) = refl
ran_back (Ran.Refused q x) = simp (cause_back x.cause)

pub run_answers_apart : (a b : Ran) → ran_of a ≡ ran_of b → a ≡ b
run_answers_apart a b e = sym (ran_back a) ∙ ap ran_from e ∙ ran_back b

abbrev advanced_from : AdvanceAnswer → Result Cycles Refusal
advanced_from (advanced k) = Ok k
advanced_from (not_advanced n p) = Err (record { cause = cause_from n; place = p })

advanced_back : (a : Result Cycles Refusal) → advanced_from (advanced_of a) ≡ a
advanced_back (Ok k) = refl
advanced_back (Err x) = simp (cause_back x.cause)

pub advances_apart : (a b : Result Cycles Refusal) → advanced_of a ≡ advanced_of b → a ≡ b
advances_apart a b e = sym (advanced_back a) ∙ ap advanced_from e ∙ advanced_back b
