-- A memory is the list of its 65,536 bytes; every address sum wraps (document 01, "The machine"). What an instruction
-- writes is a list of stores.
-- Assumes nothing.
use Rattle.std.specs.Prelude.{ℕ, ◌+◌, ◌*◌, ◌/◌, ◌%◌, List, [], ◌∷◌, get_or, set}
use Rattle.registers.specs.Word.{wrapping_add, wrapping_sub}

unfoldable pub byte_at : List ℕ → ℕ → ℕ
byte_at m a = get_or m a 0

-- the high byte, and the low byte after it
unfoldable pub word_at : List ℕ → ℕ → ℕ
word_at m a = byte_at m a * 256 + byte_at m (wrapping_add a 1)

-- a byte that an instruction writes, and where
pub record Store : Type 0 where
  pub at : ℕ
  pub value : ℕ

abbrev pub store : ℕ → ℕ → Store
store a v = record { at = a; value = v }

unfoldable pub with_byte : List ℕ → ℕ → ℕ → List ℕ
with_byte m a v = set m a v

-- the stores of an instruction, done in order
abbrev pub applied : List Store → List ℕ → List ℕ
applied [] m = m
applied (w ∷ ws) m = applied ws (with_byte m w.at w.value)

-- a 16-bit store: the high byte at a, then the low byte after it
abbrev pub word_stores : ℕ → ℕ → List Store
word_stores a v = store a (v / 256) ∷ store (wrapping_add a 1) (v % 256) ∷ []

-- a 16-bit push: the low byte at SP, then the high byte below it
abbrev pub push_stores : ℕ → ℕ → List Store
push_stores sp v = store sp (v % 256) ∷ store (wrapping_sub sp 1) (v / 256) ∷ []
