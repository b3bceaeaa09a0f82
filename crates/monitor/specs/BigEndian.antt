-- Numbers in bytes, high byte first, as the 68HC11 has its words (document 01, "The machine").
-- Assumes nothing.
use Rattle.std.specs.Prelude.{ℕ, ◌+◌, ◌*◌, ◌/◌, ◌%◌, List, [], ◌∷◌, ◌++◌, get_or}

-- a number's two bytes, and its four
abbrev pub word_bytes : ℕ → List ℕ
word_bytes v = v / 256 ∷ v % 256 ∷ []

abbrev pub long_bytes : ℕ → List ℕ
long_bytes v = word_bytes (v / 65536) ++ word_bytes (v % 65536)

-- the number whose two bytes, or four, stand at an index
abbrev pub word_in : List ℕ → ℕ → ℕ
word_in bs i = get_or bs i 0 * 256 + get_or bs (i + 1) 0

abbrev pub long_in : List ℕ → ℕ → ℕ
long_in bs i = word_in bs i * 65536 + word_in bs (i + 2)
