-- A text padded with spaces.
-- Assumes nothing.
use Rattle.std.specs.Prelude.{ℕ, zero, suc, List, [], ◌∷◌}

-- with spaces on the right, to n bytes
abbrev pub padded : (n : ℕ) → List ℕ → List ℕ
padded zero t = t
padded (suc n) [] = 32 ∷ padded n []
padded (suc n) (b ∷ t) = b ∷ padded n t
