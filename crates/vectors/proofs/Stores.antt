-- The bytes that a line lists, put into memory one after another.
-- Assumes nothing.
use Rattle.std.proofs.Common.{◌≡◌, ℕ, suc, ◌+◌, List}
use Rattle.memory.specs.Memory.{applied, with_byte}
use Rattle.vectors.specs.Hex.{hex_byte_in, hex_word_in}
use Rattle.vectors.specs.Vector.{stores_in}

-- the first of them, and then the others
pub first_store : (s m : List ℕ) (i j n k : ℕ) → j ≡ i + 7 → n ≡ suc k → applied (stores_in s i n) m
    ≡ applied (stores_in s j k) (with_byte m (hex_word_in s i) (hex_byte_in s (i + 4)))
unfolding stores_in
first_store s m i j n k p q = rw (p, q)

pub no_store : (s m : List ℕ) (i n : ℕ) → n ≡ 0 → applied (stores_in s i n) m ≡ m
unfolding stores_in
no_store s m i n p = rw p
