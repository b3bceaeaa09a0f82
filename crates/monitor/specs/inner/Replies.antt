-- What the code's replies come to: the outcome's number, the numbers answered beside it, the place of a refusal.
-- Assumes nothing.
use Rattle.std.specs.Prelude.{ℕ, List, Result, Ok, Err}
use Rattle.answers.specs.declared.Refusal.{Refusal}
use Rattle.monitor.specs.declared.stepper_calls.StepperReply.{StepperReply}
use Rattle.monitor.specs.declared.stepper_calls.StepperReply.TheVariants as Stepper
use Rattle.monitor.specs.StepperCalls.{StepperCall, stepper_call}
use Rattle.monitor.specs.RoutineCalls.{StartCall, start_call}
use Rattle.answers.specs.Cause.{number_of}

-- what a reply does not answer is as it was lent
abbrev pub stepper_replied : StepperReply → (cycles place : ℕ) (registers memory : List ℕ) → StepperCall
stepper_replied (Stepper.Done n k) c p rs m = stepper_call n k.0 p rs m
stepper_replied (Stepper.Stopped s) c p rs m = stepper_call (number_of s.cause) s.cycles.0 s.place rs m
stepper_replied (Stepper.Refused n at) c p rs m = stepper_call n c at rs m

-- of a start, which answers home: h and p are home and the place as they were lent
abbrev pub start_replied : Result ℕ Refusal → (home place : ℕ) (registers memory : List ℕ) → StartCall
start_replied (Ok home) h p rs m = start_call 0 home p rs m
start_replied (Err r) h p rs m = start_call (number_of r.cause) h r.place rs m

-- of a call that answers nothing beside a refusal
abbrev pub reply_number : Result Unit Refusal → ℕ
reply_number (Ok t) = 0
reply_number (Err r) = number_of r.cause

-- p is the place as it was lent
abbrev pub reply_place : Result Unit Refusal → (p : ℕ) → ℕ
reply_place (Ok t) p = p
reply_place (Err r) p = r.place
