-- What the commands so far leave for the next (document 01, "The ticket": the order of the commands).
-- Assumes nothing.
use Rattle.std.specs.Prelude.{ℕ, ◌+◌, Bool, true, false, eqb}
use Rattle.commands.specs.Rows.{header_length}
use Rattle.commands.specs.Bytes.{width_of}
use Rattle.commands.specs.Command.{stage_of}
use Rattle.commands.specs.Header.{blank_header, header_with}
use Rattle.commands.specs.declared.command.Command.{Command}
use Rattle.commands.specs.declared.header.Header.{Header}
use Rattle.commands.specs.declared.progress.Progress.{Progress}

-- before the first command
abbrev pub initial_progress : Progress
initial_progress = record { at = 0; stage = 0; header = blank_header; count = 0; last = 0; nameable = false }

-- after a command of some width: one of the header, or the end, after which its stage is passed
abbrev pub staged_of : Progress → (width stage : ℕ) → Header → Progress
staged_of p width n h =
    record { at = p.at + width; stage = n + 1; header = h; count = p.count; last = p.last; nameable = false }

-- a mark, after which no command of the header may come
abbrev pub marked_of : Progress → (width stage a : ℕ) → Progress
marked_of p width n a =
    record { at = p.at + width; stage = n; header = p.header; count = p.count + 1; last = a; nameable = true }

-- a name
abbrev pub named_of : Progress → (width stage : ℕ) → Progress
named_of p width n =
    record { at = p.at + width; stage = n; header = p.header; count = p.count; last = p.last; nameable = false }

abbrev pub after_width : (width stage : ℕ) → Progress → Command → Progress
after_width width n p (Command.Header c) = staged_of p width n (header_with p.header c)
after_width width n p (Command.Mark a c) = marked_of p width n a
after_width width n p (Command.Name a t) = named_of p width n
after_width width n p Command.End = staged_of p width n p.header

-- with one command more
unfoldable pub after_of : Progress → Command → Progress
after_of p c = after_width (width_of c) (stage_of c) p c

-- whether the latest command is the end
abbrev pub ended : Progress → Bool
ended p = eqb p.stage (header_length + 1)
