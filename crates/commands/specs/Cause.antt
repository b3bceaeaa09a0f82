-- Why a command is refused after those before it: document 01's causes 3 to 7, in its table's order ("The ticket",
-- "Where a ticket stops"), and document 02's 29, after the window checks (e).
-- Assumes nothing.
use Rattle.std.specs.Prelude.{ℕ, Bool, true, cond, not, ◌&&◌, ◌||◌, List, [], ◌∷◌, eqb, ltb, leb, Option}
use Rattle.std.specs.Prelude.{Some, None, Result, Ok, Err}
use Rattle.commands.specs.Rows.{CommandOperand, in_range, row_of, layout_of, required_length}
use Rattle.commands.specs.Command.{command_byte_of, stage_of, operands_of, window_of}
use Rattle.commands.specs.Header.{past_of, holds}
use Rattle.commands.specs.declared.header.Window.{Window}
use Rattle.commands.specs.declared.command.HeaderCommand.{HeaderCommand}
use Rattle.commands.specs.declared.command.HeaderCommand.TheVariants.{Code, Data, Stack, Entry, Home}
use Rattle.commands.specs.declared.command.Command.{Command}
use Rattle.commands.specs.declared.header.Header.{Header}
use Rattle.commands.specs.declared.progress.Progress.{Progress}
use Rattle.answers.specs.declared.Cause.{Cause}
use Rattle.answers.specs.declared.Cause.TheVariants.{OutOfOrder, OutOfRange, WindowEdge, WindowsShare, MarkOutside}
use Rattle.answers.specs.declared.Cause.TheVariants.{BadHome}

-- marks in rising address, none equal; a name at once after its mark, same address, at most one
abbrev pub follows : Progress → Command → Bool
follows p (Command.Header c) = true
follows p (Command.Mark a c) = eqb p.count 0 || ltb p.last a
follows p (Command.Name a t) = p.nameable && eqb a p.last
follows p Command.End = true

-- at a stage a command of stage n may come: the stage's own, or a later one where the commands that every header has
-- are there
abbrev pub may_come : (stage n : ℕ) → Bool
may_come stage n = eqb stage n || (leb required_length stage && ltb stage n)

-- 3: the header's commands in their order, before all others, $01 to $04 once each, home at most once; nothing is read
-- after the end
abbrev pub in_order : Progress → Command → Bool
in_order p c = may_come p.stage (stage_of c) && follows p c

-- 4: each operand is in its range
abbrev pub all_in_range : List CommandOperand → List ℕ → Bool
all_in_range [] vs = true
all_in_range (o ∷ os) [] = true
all_in_range (o ∷ os) (v ∷ vs) = in_range o v && all_in_range os vs

unfoldable pub ranges_hold : Command → Bool
ranges_hold c = all_in_range (layout_of (command_byte_of c)) (operands_of c)

-- 5: no window runs past $FFFF; code and stack do not start at $0000
abbrev pub edges_within : (least : ℕ) → Window → Bool
edges_within least w = leb (past_of w) 65536 && leb least w.start

abbrev pub edges_hold_for : Option ℕ → Window → Bool
edges_hold_for None w = true
edges_hold_for (Some least) w = edges_within least w

abbrev pub edges_hold : Command → Bool
edges_hold c = edges_hold_for (row_of (command_byte_of c)).window (window_of (operands_of c))

-- two windows share no address: one is empty, or one ends before the other starts
abbrev pub apart : Window → Window → Bool
apart v w =
    (eqb v.length 0 || eqb w.length 0) || (leb (past_of v) w.start || leb (past_of w) v.start)

-- 6: a window shares no address with an earlier one; those still to come have length 0
abbrev pub apart_from : Header → Window → Bool
apart_from h w = apart h.code w && (apart h.«data» w && apart h.stack w)

abbrev pub separate_for : Option ℕ → Header → Window → Bool
separate_for None h w = true
separate_for (Some least) h w = apart_from h w

abbrev pub separate : Header → Command → Bool
separate h c = separate_for (row_of (command_byte_of c)).window h (window_of (operands_of c))

-- 29: home lies outside the code window
abbrev pub header_home_outside : Window → HeaderCommand → Bool
header_home_outside code (Code w) = true
header_home_outside code (Data w) = true
header_home_outside code (Stack w) = true
header_home_outside code (Entry a l) = true
header_home_outside code (Home a) = not (holds code a)

abbrev pub home_outside : Header → Command → Bool
home_outside h (Command.Header c) = header_home_outside h.code c
home_outside h (Command.Mark a c) = true
home_outside h (Command.Name a t) = true
home_outside h Command.End = true

-- 7: a mark lies in the code window
abbrev pub inside : Header → Command → Bool
inside h (Command.Header c) = true
inside h (Command.Mark a c) = holds h.code a
inside h (Command.Name a t) = true
inside h Command.End = true

-- the first cause that applies
unfoldable pub command_cause_of : Progress → Command → Result Unit Cause
command_cause_of p c =
    cond (in_order p c)
    (cond (ranges_hold c)
    (cond (edges_hold c)
    (cond (separate p.header c)
    (cond (home_outside p.header c) (cond (inside p.header c) (Ok tt) (Err MarkOutside)) (Err BadHome))
    (Err WindowsShare))
    (Err WindowEdge))
    (Err OutOfRange))
    (Err OutOfOrder)
