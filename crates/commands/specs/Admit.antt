-- A command after those before it: refused with its cause at its offset, or read, with what it leaves for the next
-- (document 01, "Where a ticket stops": commands in file order, the first failure is the answer).
-- Assumes nothing.
use Rattle.std.specs.Prelude.{Result, Ok, Err}
use Rattle.answers.specs.declared.Cause.{Cause}
use Rattle.answers.specs.declared.Refusal.{Refusal}
use Rattle.commands.specs.Cause.{command_cause_of}
use Rattle.commands.specs.Progress.{after_of}
use Rattle.commands.specs.declared.command.Command.{Command}
use Rattle.commands.specs.declared.progress.Progress.{Progress}

abbrev pub admit_by : Result Unit Cause → Progress → Command → Result Progress Refusal
admit_by (Ok u) p c = Ok (after_of p c)
admit_by (Err x) p c = Err (record { cause = x; place = p.at })

unfoldable pub admit_of : Progress → Command → Result Progress Refusal
admit_of p c = admit_by (command_cause_of p c) p c

-- what comes after a refused command is not read
abbrev pub then_of : Result Progress Refusal → Command → Result Progress Refusal
then_of (Err r) c = Err r
then_of (Ok p) c = admit_of p c
