-- Numbers as text: a byte in two hexadecimal digits and a word in four, in upper case; decimal digits without leading
-- zeros (document 01, "One routine, read aloud").
-- Assumes nothing.
use Rattle.std.specs.Prelude.{ℕ, zero, suc, ◌+◌, ◌/◌, ◌%◌, cond, List, [], ◌∷◌, ltb}

-- 0 to 9 are $30 to $39, A to F are $41 to $46
abbrev pub glyph_of : ℕ → ℕ
glyph_of d = cond (ltb d 10) (48 + d) (55 + d)

abbrev pub byte_hex : ℕ → List ℕ
byte_hex n = glyph_of (n / 16) ∷ glyph_of (n % 16) ∷ []

unfoldable pub hex_of : ℕ → List ℕ
hex_of n = glyph_of (n / 4096) ∷ glyph_of (n / 256 % 16) ∷ glyph_of (n / 16 % 16) ∷ glyph_of (n % 16) ∷ []

-- the digits of n before those of l, at most `most` of them
abbrev pub decimal_before : (most n : ℕ) (l : List ℕ) → List ℕ
decimal_before zero n l = l
decimal_before (suc k) n l = cond (ltb n 10) ((48 + n) ∷ l) (decimal_before k (n / 10) ((48 + n % 10) ∷ l))

-- a number below 10,000,000,000, as all numbers of 32 bits are
unfoldable pub decimal_of : ℕ → List ℕ
decimal_of n = decimal_before 10 n []
