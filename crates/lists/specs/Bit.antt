-- A Boolean as a number.
-- Assumes nothing.
use Rattle.std.specs.Prelude.{ℕ, Bool, true, false}

-- a bit as a number
abbrev pub one : Bool → ℕ
one true = 1
one false = 0
