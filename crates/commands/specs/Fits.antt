-- A command whose operands fit their widths, as those of every value of the code's types do (document 01, "The ticket":
-- how many bytes an operand has).
-- Assumes nothing.
use Rattle.std.specs.Prelude.{ℕ, ◌^◌, ◌<◌, List, [], ◌∷◌}
use Rattle.commands.specs.Rows.{CommandOperand, width_in, layout_of}
use Rattle.commands.specs.Command.{command_byte_of, operands_of}
use Rattle.commands.specs.declared.command.Command.{Command}

pub data FitsLayout : List CommandOperand → List ℕ → Type 0 where
  none : FitsLayout [] []
  more : {o : CommandOperand} {os : List CommandOperand} {v : ℕ} {vs : List ℕ} → v < 256 ^ width_in o →
      FitsLayout os vs → FitsLayout (o ∷ os) (v ∷ vs)

abbrev pub Fits : Command → Type 0
Fits c = FitsLayout (layout_of (command_byte_of c)) (operands_of c)
