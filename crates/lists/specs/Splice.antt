-- A list written into another.
-- Assumes nothing.
use Rattle.std.specs.Prelude.{ℕ, ◌+◌, List, ◌++◌, length, take, drop}

-- a list with another in place of as many elements from an index on
unfoldable pub spliced : List ℕ → ℕ → List ℕ → List ℕ
spliced old at new = take at old ++ (new ++ drop (at + length new) old)
