-- What the laws between reading and writing say (demand 2: a ticket read and written again has the same bytes; document
-- 02, e and i: this is required of tickets that carry home and no name).
-- Assumes nothing.
use Rattle.std.specs.Prelude.{ℕ, ◌≤◌, ◌≡◌, ◌↔◌, true, List, ◌++◌, length, drop, Result}
use Rattle.std.specs.Prelude.{Ok, Err, IfOk}
use Rattle.commands.specs.declared.command.Command.{Command}
use Rattle.commands.specs.declared.progress.Progress.{Progress}
use Rattle.commands.specs.Every.{Every}
use Rattle.commands.specs.Fits.{Fits}
use Rattle.answers.specs.declared.Refusal.{Refusal}
use Rattle.ticket.specs.declared.fields.Ticket.{Ticket}
use Rattle.ticket.specs.Fields.{Fields, ReadOutcome, read, refused, fields_of}
use Rattle.ticket.specs.Write.{commands_of, write_of, output_of}
use Rattle.ticket.specs.Names.{as_written}

-- every operand fits its width, as in every value of the code's types
abbrev pub AllFit : List Command → Type 0
AllFit cs = Every Fits cs

abbrev pub FitsFields : Fields → Type 0
FitsFields f = AllFit (commands_of f)

-- what reading a ticket's bytes answers, by the writer's checks: the same fields, or the same number and place
abbrev pub answered : Result Progress Refusal → Fields → ReadOutcome
answered (Err r) f = refused r
answered (Ok p) f = read f

-- The fields are written as these bytes: in every output with room they stand at its beginning, what was there stands
-- after them, and the answer is their length.
abbrev pub WrittenAs : Fields → List ℕ → Type 0
WrittenAs f s =
    (out : List ℕ) → length s ≤ length out
    → (write_of f (length out) ≡ Ok (length s)) × (output_of f out ≡ s ++ drop (length s) out)

-- A ticket that was read from some bytes and is written again has the same bytes exactly where they carry home and no
-- name.
abbrev pub SameBytes : List ℕ → Result Ticket Refusal → Type 0
SameBytes s r = IfOk r (λ t. (as_written s ≡ true) ↔ WrittenAs (fields_of t) s)
