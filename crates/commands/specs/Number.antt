-- Numbers of several bytes stand high byte first (document 01, its second line).
-- Assumes nothing.
use Rattle.std.specs.Prelude.{ℕ, zero, suc, ◌+◌, ◌*◌, ◌/◌, ◌%◌, ◌<◌, List, [], ◌∷◌, ◌++◌}
use Rattle.commands.specs.Every.{Every}

-- the number that some bytes stand for, with those already read before them
abbrev pub number_from : ℕ → List ℕ → ℕ
number_from v [] = v
number_from v (b ∷ s) = number_from (v * 256 + b) s

abbrev pub number : List ℕ → ℕ
number s = number_from 0 s

-- the w bytes of a number
abbrev pub digits : ℕ → ℕ → List ℕ
digits zero v = []
digits (suc w) v = digits w (v / 256) ++ (v % 256 ∷ [])

-- a list of bytes
abbrev pub AllBytes : List ℕ → Type 0
AllBytes s = Every (λ b. b < 256) s
