-- A command as bytes: its byte, then its operands by their widths (document 01, "The ticket"); and the command that
-- some bytes begin with.
-- Assumes nothing.
use Rattle.std.specs.Prelude.{ℕ, ◌+◌, cond, List, [], ◌∷◌, ◌++◌, leb, length, take, drop, Result, Ok, Err}
use Rattle.commands.specs.Number.{number, digits}
use Rattle.commands.specs.Rows.{CommandOperand, width_in, size_of, layout_of, known}
use Rattle.commands.specs.Command.{command_byte_of, operands_of, command_with}
use Rattle.commands.specs.declared.command.Command.{Command}
use Rattle.commands.specs.declared.parse.ParseError.{ParseError}
use Rattle.commands.specs.declared.parse.ParseError.TheVariants.{Unknown, Cut}

-- some operands by the widths of a layout
abbrev pub joined : List CommandOperand → List ℕ → List ℕ
joined [] vs = []
joined (o ∷ os) [] = []
joined (o ∷ os) (v ∷ vs) = digits (width_in o) v ++ joined os vs

unfoldable pub encode_of : Command → List ℕ
encode_of c = command_byte_of c ∷ joined (layout_of (command_byte_of c)) (operands_of c)

unfoldable pub width_of : Command → ℕ
width_of c = 1 + size_of (layout_of (command_byte_of c))

-- the operands of a layout that some bytes begin with
abbrev pub operands_in : List CommandOperand → List ℕ → List ℕ
operands_in [] s = []
operands_in (o ∷ os) s = number (take (width_in o) s) ∷ operands_in os (drop (width_in o) s)

unfoldable pub command_of : ℕ → List ℕ → Command
command_of b s = command_with b (operands_in (layout_of b) s)

-- an unknown byte comes before operands cut short (document 01's causes 1 and 2)
unfoldable pub parse_of : List ℕ → Result Command ParseError
parse_of [] = Err Cut
parse_of (b ∷ s) =
    cond (known b) (cond (leb (size_of (layout_of b)) (length s)) (Ok (command_of b s)) (Err Cut)) (Err Unknown)
