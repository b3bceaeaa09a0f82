-- A line's bytes in the buffer that they are decoded into, and the lines of a file one by one. An inner matter of the
-- code.
-- Assumes nothing.
use Rattle.std.specs.Prelude.{ℕ, suc, ◌≤◌, ◌<◌, Bool, true, false, cond, List, [], ◌∷◌, eqb, leb, length, take}
use Rattle.std.specs.Prelude.{Option, Some, None, Result, Ok, Err}
use Rattle.answers.specs.declared.Cause.{Cause}
use Rattle.answers.specs.declared.Refusal.{Refusal}
use Rattle.commands.specs.declared.header.Window.{Window}
use Rattle.records.specs.declared.progress.FileProgress.{FileProgress}
use Rattle.records.specs.Read.{LineOutcome, cause, next, FileOutcome, named, refused}

-- bytes at the beginning of a buffer
abbrev pub decoded : Option ℕ → List ℕ → Option (List ℕ)
decoded None buffer = None
decoded (Some n) buffer = Some (take n buffer)

-- as many as a count can say
abbrev pub countable : Option (List ℕ) → Option (List ℕ)
countable None = None
countable (Some bs) = cond (leb (length bs) 256) (Some bs) None

-- how many bytes the first line has, its LF included
unfoldable pub line_length : List ℕ → ℕ
line_length [] = 0
line_length (b ∷ s) = cond (eqb b 0x0a) 1 (suc (line_length s))

-- whether the bytes could be entered, and the cells afterwards
abbrev pub entered : Bool → List ℕ → Option (List ℕ)
entered true cs = Some cs
entered false cs = None

-- the answer on a line, and the cells afterwards
abbrev pub after_line : Result FileProgress Cause → List ℕ → LineOutcome
after_line (Err c) cs = cause c
after_line (Ok p) cs = next p cs

-- the answer on a file, and the cells afterwards
abbrev pub after_lines : Window → Result Unit Refusal → List ℕ → FileOutcome
after_lines w (Err r) cs = refused r
after_lines w (Ok done) cs = named (take w.length cs)

-- one line more can be counted
abbrev pub Counted : FileProgress → Type 0
Counted p = (p.lines < 18446744073709551615) × (p.s1 ≤ p.lines)
