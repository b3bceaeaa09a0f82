-- The name commands of a ticket ($06), and the ticket without them (document 02, i: the reader checks and then drops
-- them). What is said here of bytes is meant of tickets that are read, which are commands to the last byte.
-- Assumes nothing.
use Rattle.std.specs.Prelude.{ℕ, zero, suc, ◌≡◌, Bool, true, false, cond, not, ◌&&◌, List, [], ◌∷◌, length, drop}
use Rattle.std.specs.Prelude.{Result, Ok, Err}
use Rattle.commands.specs.declared.command.Command.{Command}
use Rattle.commands.specs.declared.parse.ParseError.{ParseError}
use Rattle.commands.specs.Bytes.{parse_of, width_of}
use Rattle.ticket.specs.Fields.{Fields, read}
use Rattle.ticket.specs.Read.{read_of}
use Rattle.ticket.specs.Write.{encode_all}
use Rattle.ticket.specs.Spells.{carries_home}

-- a command and those after it, as far as bytes begin with one
abbrev pub command_then : Result Command ParseError → List ℕ → (List ℕ → List Command) → List Command
command_then (Err e) s rest = []
command_then (Ok c) s rest = c ∷ rest (drop (width_of c) s)

-- at most n of them
abbrev pub commands_from : ℕ → List ℕ → List Command
commands_from zero s = []
commands_from (suc n) s = command_then (parse_of s) s (commands_from n)

-- the commands that some bytes are, one after another: each has a byte or more, so there are no more than bytes
unfoldable pub commands_in : List ℕ → List Command
commands_in s = commands_from (length s) s

abbrev pub is_name : Command → Bool
is_name (Command.Header c) = false
is_name (Command.Mark a k) = false
is_name (Command.Name a t) = true
is_name Command.End = false

abbrev pub names_dropped : List Command → List Command
names_dropped [] = []
names_dropped (c ∷ cs) = cond (is_name c) (names_dropped cs) (c ∷ names_dropped cs)

-- the ticket with its name commands taken out
unfoldable pub without_names : List ℕ → List ℕ
without_names s = encode_all (names_dropped (commands_in s))

abbrev pub no_name : List Command → Bool
no_name [] = true
no_name (c ∷ cs) = not (is_name c) && no_name cs

-- whether a ticket has no name
unfoldable pub nameless : List ℕ → Bool
nameless s = no_name (commands_in s)

-- whether a ticket is as the writer writes tickets: it carries home, and no name
unfoldable pub as_written : List ℕ → Bool
as_written s = carries_home s && nameless s

-- the names taken out of a ticket that is read: the same is read, no name is left, and home is said or not as before
pub record SameWithoutNames (s : List ℕ) (f : Fields) : Type 0 where
  pub same_fields : read_of (without_names s) ≡ read f
  pub no_name_left : nameless (without_names s) ≡ true
  pub same_home : carries_home (without_names s) ≡ carries_home s

abbrev pub NamesIgnored : List ℕ → Type 0
NamesIgnored s = (f : Fields) → read_of s ≡ read f → SameWithoutNames s f
