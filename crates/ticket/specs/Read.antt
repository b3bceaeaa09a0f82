-- The reading of bytes: commands in file order, of each the causes in document 01's order; the first failure is the
-- answer ("Where a ticket stops", reading).
-- Assumes nothing.
use Rattle.std.specs.Prelude.{ℕ, zero, suc, Bool, true, false, List, [], ◌∷◌, length, drop, Result}
use Rattle.std.specs.Prelude.{Ok, Err}
use Rattle.commands.specs.declared.command.Command.{Command}
use Rattle.answers.specs.declared.Refusal.{Refusal}
use Rattle.commands.specs.declared.parse.ParseError.{ParseError}
use Rattle.commands.specs.declared.parse.ParseError.TheVariants.{Unknown, Cut}
use Rattle.commands.specs.declared.progress.Progress.{Progress}
use Rattle.commands.specs.Bytes.{parse_of, width_of}
use Rattle.commands.specs.Progress.{initial_progress, ended}
use Rattle.commands.specs.Admit.{admit_of}
use Rattle.ticket.specs.declared.fields.Mark.{Mark}
use Rattle.ticket.specs.Fields.{ReadOutcome, read, refused, marks_with, in_file_order}
use Rattle.answers.specs.declared.Cause.{Cause}
use Rattle.answers.specs.declared.Cause.TheVariants.{UnknownCommand, TicketCut, AfterEnd}

abbrev pub refusal : Cause → ℕ → Refusal
refusal c p = record { cause = c; place = p }

-- a command that is read, with what it leaves for the next, or why none is
abbrev pub NextCommand : Type 0
NextCommand = Result (Progress × Command) Refusal

abbrev pub admitted_as : Result Progress Refusal → Command → NextCommand
admitted_as (Err r) c = Err r
admitted_as (Ok q) c = Ok (q, c)

-- 1: unknown command byte; 2: no command byte left, or operands cut short; then 3 to 7 and 29
abbrev pub parsed_as : Result Command ParseError → Progress → NextCommand
parsed_as (Err Unknown) p = Err (refusal UnknownCommand p.at)
parsed_as (Err Cut) p = Err (refusal TicketCut p.at)
parsed_as (Ok c) p = admitted_as (admit_of p c) c

-- the command that the bytes left begin with
unfoldable pub next_command_of : List ℕ → Progress → NextCommand
next_command_of s p = parsed_as (parse_of s) p

-- after the end. 8: bytes after the end
abbrev pub end_of : Progress → List Mark → List ℕ → ReadOutcome
end_of p ms [] = read (record { header = p.header; marks = in_file_order ms })
end_of p ms (b ∷ s) = refused (refusal AfterEnd p.at)

-- what is left to do, from what the commands so far leave, their marks, the latest first, and the bytes left
abbrev pub ReadRest : Type 0
ReadRest = Progress → List Mark → List ℕ → ReadOutcome

abbrev pub read_onward : NextCommand → List Mark → List ℕ → ReadRest → ReadOutcome
read_onward (Err r) ms s f = refused r
read_onward (Ok (q, c)) ms s f = f q (marks_with ms c) (drop (width_of c) s)

abbrev pub if_ended : Bool → Progress → List Mark → List ℕ → ReadRest → ReadOutcome
if_ended true p ms s f = end_of p ms s
if_ended false p ms s f = read_onward (next_command_of s p) ms s f

-- at most n turns
unfoldable pub read_from : ℕ → Progress → List Mark → List ℕ → ReadOutcome
read_from zero p ms s = refused (refusal TicketCut p.at)
read_from (suc n) p ms s = if_ended (ended p) p ms s (λ q ks t. read_from n q ks t)

-- every command has a byte or more, so one turn more than there are bytes is enough
unfoldable pub read_of : List ℕ → ReadOutcome
read_of s = read_from (suc (length s)) initial_progress [] s
