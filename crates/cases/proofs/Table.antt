-- Document 01's twelve proved cases, and those of the lowest SP, hold: the definitions compute to what the documents
-- say.
-- Assumes nothing.
use Rattle.std.proofs.Common.{refl}
use Rattle.stepper.specs.Step.{step_of}
use Rattle.stepper.specs.Run.{run_of}
use Rattle.stepper.specs.inner.Computed.{step_now, run_now}
use Rattle.commands.specs.Admit.{admit_of}
use Rattle.commands.specs.Bytes.{width_of, command_of, parse_of}
use Rattle.commands.specs.Cause.{ranges_hold, command_cause_of}
use Rattle.commands.specs.Progress.{after_of}
use Rattle.ticket.specs.Read.{next_command_of, read_from, read_of}
use Rattle.rules.specs.Shape.{shape_of, instruction_size}
use Rattle.rules.specs.Checks.{checks_at, verdict_on, verdict_of}
use Rattle.cases.specs.Table.{memory_with, AllHold, routine_p, ticket_p, cases, lowest_cases}

pub proved : AllHold cases
unfolding cases routine_p ticket_p memory_with step_of step_now run_of run_now verdict_of read_of read_from
    next_command_of admit_of
    width_of command_of parse_of ranges_hold command_cause_of after_of verdict_on checks_at shape_of instruction_size
proved = (
  refl,
  (
    refl,
    (
      refl,
      (
        (refl, refl),
        (
          (refl, refl),
          (
            (refl, refl),
            (
              (refl, refl),
              (refl, (refl, (refl, (refl, (refl, tt))))),
            ),
          ),
        ),
      ),
    ),
  ),
)

pub lowest_proved : AllHold lowest_cases
unfolding lowest_cases memory_with step_of step_now
lowest_proved = (refl, (refl, (refl, (refl, (refl, (refl, tt))))))
