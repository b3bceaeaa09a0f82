-- The fields of a ticket as a header and a list of marks, and as the code's array holds them (document 01, "The
-- ticket").
-- Assumes nothing.
use Rattle.std.specs.Prelude.{ℕ, zero, suc, ◌-◌, cond, List, [], ◌∷◌, ◌++◌, ltb, length, get_or, replicate, Result}
use Rattle.std.specs.Prelude.{Ok, Err}
use Rattle.commands.specs.declared.command.Command.{Command}
use Rattle.answers.specs.declared.Refusal.{Refusal}
use Rattle.commands.specs.declared.header.Header.{Header}
use Rattle.ticket.specs.declared.fields.Mark.{Mark}
use Rattle.ticket.specs.declared.fields.Ticket.{Ticket}

pub record Fields : Type 0 where
  pub header : Header
  pub marks : List Mark

-- of reading: the fields, or a refusal's number and place
pub data ReadOutcome : Type 0 where
  read : Fields → ReadOutcome
  refused : Refusal → ReadOutcome

-- the marks, the latest first, with one command more: a mark is the latest; a name is dropped (document 02, i)
abbrev pub marks_with : List Mark → Command → List Mark
marks_with ms (Command.Header c) = ms
marks_with ms (Command.Mark a k) = record { address = a; claim = k } ∷ ms
marks_with ms (Command.Name a t) = ms
marks_with ms Command.End = ms

abbrev pub in_file_order : List Mark → List Mark
in_file_order [] = []
in_file_order (m ∷ ms) = in_file_order ms ++ (m ∷ [])

abbrev pub blank_mark : Mark
blank_mark =
    record {
      address = 0;
      claim = record { cost = record { 0 = 0 }; depth = record { 0 = 0 }; need = record { 0 = 0 } };
    }

-- the code's ticket: the marks at the beginning of the array, blank ones after them
unfoldable pub ticket_of : Fields → Ticket
ticket_of f =
    record {
      header = f.header;
      count = length f.marks;
      marks = f.marks ++ replicate (4096 - length f.marks) blank_mark;
    }

abbrev pub reading_of : ReadOutcome → Result Ticket Refusal
reading_of (read f) = Ok (ticket_of f)
reading_of (refused r) = Err r

-- Where entry i of the marks stands. Document 01 leaves a count above 4,096 free: past the array's end its last entry
-- stands again, so that the writer refuses the 4,097th mark with 3, as one that does not rise.
abbrev pub mark_index : ℕ → ℕ
mark_index i = cond (ltb i 4096) i 4095

abbrev pub listed : List Mark → ℕ → List Mark
listed ms zero = []
listed ms (suc n) = listed ms n ++ (get_or ms (mark_index n) blank_mark ∷ [])

-- the fields that the code's ticket holds
unfoldable pub fields_of : Ticket → Fields
fields_of t = record { header = t.header; marks = listed t.marks t.count }
