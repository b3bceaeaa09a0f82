-- The lines of a file, put together again, are the file.
-- Assumes nothing.
use Prim.Native.Nat.{ℕ}
use mathlib.Core.Path.{◌≡◌, refl, ◌∙◌}
use mathlib.Core.Bool.{Bool, true, false, cond}
use mathlib.Core.List.{List, [], ◌∷◌, ◌++◌}
use lib.Dec.{eqb}
use Rattle.records.specs.Read.{onto, lines_of}

-- the lines of a file, put together again
abbrev pub joined : List (List ℕ) → List ℕ
joined [] = []
joined (l ∷ ls) = l ++ joined ls

joined_onto : (b : ℕ) (ls : List (List ℕ)) → joined (onto b ls) ≡ b ∷ joined ls
joined_onto b [] = refl
joined_onto b (l ∷ ls) = refl

pub joined_lines : (s : List ℕ) → joined (lines_of s) ≡ s
unfolding lines_of
joined_lines [] = refl
joined_lines (b ∷ s) = by_end (joined_lines s) (eqb b 0x0a)
  where
    by_end : joined (lines_of s) ≡ s → (t : Bool)
        → joined (cond t ((b ∷ []) ∷ lines_of s) (onto b (lines_of s))) ≡ b ∷ s
    by_end h true = rw h
    by_end h false = joined_onto b (lines_of s) ∙ (rw h)
