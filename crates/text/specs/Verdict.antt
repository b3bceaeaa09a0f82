-- The checking program's line: ACCEPT with the entry in four hexadecimal digits, the cost and the stack bytes; REFUSE
-- with number and place (document 01, "One routine, read aloud").
-- Assumes nothing.
use Rattle.std.specs.Prelude.{ℕ, List, ◌++◌, Ok, Err}
use Rattle.answers.specs.Verdict.{Verdict}
use Rattle.lists.specs.Ascii.{ascii}
use Rattle.text.specs.Number.{hex_of, decimal_of}
use Rattle.answers.specs.Cause.{number_of}

abbrev pub accept : List ℕ
accept = ascii "ACCEPT "

abbrev pub refuse : List ℕ
refuse = ascii "REFUSE "

abbrev pub space : List ℕ
space = ascii " "

abbrev pub end : List ℕ
end = ascii "\n"

unfoldable pub accept_line : (entry cost stack : ℕ) → List ℕ
accept_line e c s = accept ++ (hex_of e ++ (space ++ (decimal_of c ++ (space ++ (decimal_of s ++ end)))))

unfoldable pub refuse_line : (number place : ℕ) → List ℕ
refuse_line n p = refuse ++ (decimal_of n ++ (space ++ (decimal_of p ++ end)))

abbrev pub line_of : Verdict → List ℕ
line_of (Ok a) = accept_line a.entry a.cost.0 a.stack.0
line_of (Err r) = refuse_line (number_of r.cause) r.place
