-- A label and a number; a label and what was used of what is allowed.
-- Assumes nothing.
use Rattle.std.specs.Prelude.{ℕ, List, ◌++◌}
use Rattle.lists.specs.Ascii.{ascii}
use Rattle.text.specs.Number.{decimal_of}

unfoldable pub field_text : (label : List ℕ) (n : ℕ) → List ℕ
field_text label n = label ++ decimal_of n

unfoldable pub pair_text : (label : List ℕ) (used allowed : ℕ) → List ℕ
pair_text label used allowed = field_text label used ++ field_text (ascii "/") allowed
