-- What a command says: its byte and its operands, and the command of a byte and operands (document 01, "The ticket";
-- document 02, e, of $07); and its place in the order.
-- Assumes nothing.
use Rattle.std.specs.Prelude.{ℕ, List, [], ◌∷◌, get_or}
use Rattle.commands.specs.Rows.{row_of}
use Rattle.commands.specs.declared.header.Window.{Window}
use Rattle.commands.specs.declared.command.Claim.{Claim}
use Rattle.commands.specs.declared.command.HeaderCommand.{HeaderCommand}
use Rattle.commands.specs.declared.command.HeaderCommand.TheVariants.{Code, Data, Stack, Entry, Home}
use Rattle.commands.specs.declared.command.Command.{Command}

abbrev pub header_byte_of : HeaderCommand → ℕ
header_byte_of (Code w) = 0x01
header_byte_of (Data w) = 0x02
header_byte_of (Stack w) = 0x03
header_byte_of (Entry a l) = 0x04
header_byte_of (Home a) = 0x07

abbrev pub command_byte_of : Command → ℕ
command_byte_of Command.End = 0x00
command_byte_of (Command.Header c) = header_byte_of c
command_byte_of (Command.Mark a c) = 0x05
command_byte_of (Command.Name a t) = 0x06

-- its place in the sequence of the header's commands
abbrev pub stage_of : Command → ℕ
stage_of c = (row_of (command_byte_of c)).stage

abbrev pub window_operands_of : Window → List ℕ
window_operands_of w = w.start ∷ w.length ∷ []

abbrev pub header_operands_of : HeaderCommand → List ℕ
header_operands_of (Code w) = window_operands_of w
header_operands_of (Data w) = window_operands_of w
header_operands_of (Stack w) = window_operands_of w
header_operands_of (Entry a l) = a ∷ l.0 ∷ []
header_operands_of (Home a) = a ∷ []

abbrev pub operands_of : Command → List ℕ
operands_of Command.End = []
operands_of (Command.Header c) = header_operands_of c
operands_of (Command.Mark a c) = a ∷ c.cost.0 ∷ c.depth.0 ∷ c.need.0 ∷ []
operands_of (Command.Name a t) = a ∷ t ∷ []

abbrev pub window_of : List ℕ → Window
window_of v = record { start = get_or v 0 0; length = get_or v 1 0 }

abbrev pub claim_of : List ℕ → Claim
claim_of v =
    record
    { cost = record { 0 = get_or v 1 0 }; depth = record { 0 = get_or v 2 0 }; need = record { 0 = get_or v 3 0 } }

-- the commands with some operands, by their byte
abbrev pub commands_with : List ℕ → List Command
commands_with v =
    Command.End
    ∷ Command.Header (Code (window_of v))
    ∷ Command.Header (Data (window_of v))
    ∷ Command.Header (Stack (window_of v))
    ∷ Command.Header (Entry (get_or v 0 0) (record { 0 = get_or v 1 0 }))
    ∷ Command.Mark (get_or v 0 0) (claim_of v)
    ∷ Command.Name (get_or v 0 0) (get_or v 1 0)
    ∷ Command.Header (Home (get_or v 0 0))
    ∷ []

abbrev pub command_with : ℕ → List ℕ → Command
command_with b v = get_or (commands_with v) b Command.End
