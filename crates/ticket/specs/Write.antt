-- The bytes of a ticket, and what the writer answers: 3 to 7 and 29 on the fields first, with the offset that the
-- command would have, then 24 with the bytes needed (document 01, "The ticket", "Where a ticket stops"). The writer
-- always writes home (document 02, e), and no name (document 02, i).
-- Assumes nothing.
use Rattle.std.specs.Prelude.{ℕ, cond, List, [], ◌∷◌, ◌++◌, leb, length, drop, Result, Ok, Err}
use Rattle.commands.specs.declared.command.Command.{Command}
use Rattle.commands.specs.declared.progress.Progress.{Progress}
use Rattle.answers.specs.declared.Refusal.{Refusal}
use Rattle.commands.specs.Header.{header_commands}
use Rattle.commands.specs.Bytes.{encode_of}
use Rattle.commands.specs.Progress.{initial_progress}
use Rattle.commands.specs.Admit.{then_of}
use Rattle.ticket.specs.declared.fields.Mark.{Mark}
use Rattle.ticket.specs.Fields.{Fields}
use Rattle.answers.specs.declared.Cause.TheVariants.{OutputTooSmall}

abbrev pub mark_command : Mark → Command
mark_command m = Command.Mark m.address m.claim

abbrev pub mark_commands : List Mark → List Command
mark_commands [] = []
mark_commands (m ∷ ms) = mark_command m ∷ mark_commands ms

-- the header's commands, the marks', the end
unfoldable pub commands_of : Fields → List Command
commands_of f = header_commands f.header ++ (mark_commands f.marks ++ (Command.End ∷ []))

abbrev pub encode_all : List Command → List ℕ
encode_all [] = []
encode_all (c ∷ cs) = encode_of c ++ encode_all cs

unfoldable pub bytes_of : Fields → List ℕ
bytes_of f = encode_all (commands_of f)

-- some commands one after another; what comes after a refused one is not looked at
abbrev pub all_then : Result Progress Refusal → List Command → Result Progress Refusal
all_then a [] = a
all_then a (c ∷ cs) = all_then (then_of a c) cs

unfoldable pub check_of : Fields → Result Progress Refusal
check_of f = all_then (Ok initial_progress) (commands_of f)

-- n bytes are needed
abbrev pub written_if : Result Progress Refusal → ℕ → ℕ → Result ℕ Refusal
written_if (Err r) n room = Err r
written_if (Ok p) n room = cond (leb n room) (Ok n) (Err (record { cause = OutputTooSmall; place = n }))

unfoldable pub write_of : Fields → ℕ → Result ℕ Refusal
write_of f room = written_if (check_of f) (length (bytes_of f)) room

abbrev pub output_if : Result ℕ Refusal → Fields → List ℕ → List ℕ
output_if (Ok n) f out = bytes_of f ++ drop n out
output_if (Err r) f out = out

-- the output afterwards: the ticket's bytes and then what was there, or all as before
unfoldable pub output_of : Fields → List ℕ → List ℕ
output_of f out = output_if (write_of f (length out)) f out
