-- The fields' own commands, which the writer writes, state the fields.
-- Assumes nothing.
use mathlib.Core.List.{List, [], ◌∷◌}
use Rattle.ticket.specs.declared.fields.Mark.{Mark}
use Rattle.ticket.specs.Fields.{Fields}
use Rattle.ticket.specs.Write.{mark_commands, commands_of}
use Rattle.ticket.specs.Spells.{StatesMarks, States, stated}
use Rattle.ticket.specs.Spells.StatesHeader.{whole}
use Rattle.ticket.specs.Spells.StatesMarks.{none, unnamed}

pub own_marks : (ms : List Mark) → StatesMarks ms (mark_commands ms)
own_marks [] = none
own_marks (m ∷ ms) = unnamed (own_marks ms)

pub own : (f : Fields) → States f (commands_of f)
unfolding commands_of
own f = stated whole (own_marks f.marks)
