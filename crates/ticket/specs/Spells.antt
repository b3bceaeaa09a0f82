-- Which bytes state some fields: those of the fields' commands, as the writer writes them; the same with a name at once
-- after any of the marks (document 02, i: a name is read and dropped); and, where home is $0000, both without the
-- command $07 (document 02, e: tickets without it mean $0000).
-- Assumes nothing.
use Rattle.std.specs.Prelude.{ℕ, ◌^◌, ◌≤◌, ◌<◌, ◌≡◌, Bool, List, [], ◌∷◌, ◌++◌, eqb, get_or}
use Rattle.commands.specs.declared.header.Header.{Header}
use Rattle.commands.specs.declared.command.Command.{Command}
use Rattle.commands.specs.Every.{Every}
use Rattle.commands.specs.Number.{digits}
use Rattle.commands.specs.Header.{required_commands, header_commands}
use Rattle.ticket.specs.declared.fields.Mark.{Mark}
use Rattle.ticket.specs.Fields.{Fields}
use Rattle.ticket.specs.Write.{mark_command, encode_all}

-- the header's commands: all of them, or all but home's where home is $0000
pub data StatesHeader (h : Header) : List Command → Type 0 where
  whole : StatesHeader h (header_commands h)
  homeless : h.home ≡ 0 → StatesHeader h (required_commands h)

-- a name's text: eight bytes, here as one number, the first byte highest, each of them $20 to $7E
pub record NameText (t : ℕ) : Type 0 where
  pub eight : t < 256 ^ 8
  pub printable : Every (λ b. (0x20 ≤ b) × (b ≤ 0x7e)) (digits 8 t)

-- the marks' commands in their order, after each of them one name at most: at once, and with the mark's address
pub data StatesMarks : List Mark → List Command → Type 0 where
  none : StatesMarks [] []
  unnamed : {m : Mark} {ms : List Mark} {cs : List Command} → StatesMarks ms cs
      → StatesMarks (m ∷ ms) (mark_command m ∷ cs)
  named : {m : Mark} {ms : List Mark} {cs : List Command} (t : ℕ) → NameText t → StatesMarks ms cs
      → StatesMarks (m ∷ ms) (mark_command m ∷ Command.Name m.address t ∷ cs)

-- the header's commands, the marks', the end
pub data States (f : Fields) : List Command → Type 0 where
  stated : {hs cs : List Command} → StatesHeader f.header hs → StatesMarks f.marks cs
      → States f (hs ++ (cs ++ (Command.End ∷ [])))

pub record Spells (f : Fields) (s : List ℕ) : Type 0 where
  pub commands : List Command
  pub states : States f commands
  pub bytes : encode_all commands ≡ s

-- how many bytes the commands have that every header has: three windows of five, and an entry of seven
abbrev pub required_size : ℕ
required_size = 22

-- whether a ticket carries home: the command after the entry is $07
abbrev pub carries_home : List ℕ → Bool
carries_home s = eqb (get_or s required_size 0) 0x07
