-- The line that ends a trace: at home, cycles and stack bytes as used of what is certified; spent, the cycles as used
-- of the budget; and the lowest SP and home, at which the trace ends or would have ended.
-- Assumes nothing.
use Rattle.std.specs.Prelude.{ℕ, List, ◌++◌}
use Rattle.lists.specs.Ascii.{ascii}
use Rattle.text.specs.declared.last.Totals.{Totals}
use Rattle.text.specs.Line.{pair_text}
use Rattle.text.specs.Columns.{word_field}

unfoldable pub totals_text : (label : List ℕ) → Totals → List ℕ
totals_text label t =
    pair_text label t.cycles.0 t.allowed.0 ++ (pair_text (ascii " stack=") t.stack.0 t.certified.0 ++
    (word_field " lowest=" t.lowest ++ (word_field " home=" t.home ++ ascii "\n")))

abbrev pub home_line : Totals → List ℕ
home_line t = totals_text (ascii "HOME cycles=") t

abbrev pub spent_line : Totals → List ℕ
spent_line t = totals_text (ascii "SPENT cycles=") t
