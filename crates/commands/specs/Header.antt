-- The header of a ticket: its three windows, its entry and its cycle limit (document 01, "The ticket", $01 to $04), and
-- home, the address at which the routine ends (document 02, e, $07).
-- Assumes nothing.
use Rattle.std.specs.Prelude.{ℕ, ◌+◌, Bool, ◌&&◌, List, [], ◌∷◌, ◌++◌, ltb, leb}
use Rattle.commands.specs.declared.header.Window.{Window}
use Rattle.commands.specs.declared.command.HeaderCommand.{HeaderCommand}
use Rattle.commands.specs.declared.command.HeaderCommand.TheVariants.{Code, Data, Stack, Entry, Home}
use Rattle.commands.specs.declared.command.Command.{Command}
use Rattle.commands.specs.declared.header.Header.{Header}

abbrev pub blank_window : Window
blank_window = record { start = 0; length = 0 }

-- the first address past a window; more than 65,536 where it runs past $FFFF
abbrev pub past_of : Window → ℕ
past_of w = w.start + w.length

-- an address lies in a window
abbrev pub holds : Window → ℕ → Bool
holds w a = leb w.start a && ltb a (past_of w)

-- a ticket that has no $07 means home $0000
abbrev pub blank_header : Header
blank_header =
    record {
      code = blank_window;
      «data» = blank_window;
      stack = blank_window;
      entry = 0;
      limit = record { 0 = 0 };
      home = 0;
    }

-- with one command more: it sets what it states, and leaves the rest
abbrev pub header_with : Header → HeaderCommand → Header
header_with h (Code w) =
    record { code = w; «data» = h.«data»; stack = h.stack; entry = h.entry; limit = h.limit; home = h.home }
header_with h (Data w) =
    record { code = h.code; «data» = w; stack = h.stack; entry = h.entry; limit = h.limit; home = h.home }
header_with h (Stack w) =
    record { code = h.code; «data» = h.«data»; stack = w; entry = h.entry; limit = h.limit; home = h.home }
header_with h (Entry a l) =
    record { code = h.code; «data» = h.«data»; stack = h.stack; entry = a; limit = l; home = h.home }
header_with h (Home a) =
    record { code = h.code; «data» = h.«data»; stack = h.stack; entry = h.entry; limit = h.limit; home = a }

-- the commands that every header has, in their order
abbrev pub required_commands : Header → List Command
required_commands h =
    Command.Header (Code h.code)
    ∷ Command.Header (Data h.«data»)
    ∷ Command.Header (Stack h.stack)
    ∷ Command.Header (Entry h.entry h.limit)
    ∷ []

-- those after them, which may be left out: home
abbrev pub optional_commands : Header → List Command
optional_commands h = Command.Header (Home h.home) ∷ []

-- the commands that state a header in full
abbrev pub header_commands : Header → List Command
header_commands h = required_commands h ++ optional_commands h
