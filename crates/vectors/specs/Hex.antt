-- Upper-case hexadecimal digits in a line of text, and the bytes, words and registers that they spell
-- (docs/SIMULATORS.md, "The file").
-- Assumes nothing.
use Rattle.std.specs.Prelude.{ℕ, ◌+◌, ◌-◌, ◌*◌, cond, List, nat_lt, slice_index, Option, Some, None}
use Rattle.std.specs.Option.{unwrap_or}
use Rattle.registers.specs.declared.Registers.{Registers}

-- the value of a digit `0` to `9` or `A` to `F`; none for any other byte
unfoldable pub digit_of : ℕ → Option ℕ
digit_of c =
    cond (nat_lt c 48) None
    (cond (nat_lt c 58) (Some (c - 48)) (cond (nat_lt c 65) None (cond (nat_lt c 71) (Some (c - 55)) None)))

-- the value of the digit at a place; 0 where there is none
abbrev pub value_in : List ℕ → ℕ → ℕ
value_in s i = unwrap_or (digit_of (slice_index s i)) 0

-- two digits and four, the high one first
unfoldable pub hex_byte_in : List ℕ → ℕ → ℕ
hex_byte_in s i = value_in s i * 16 + value_in s (i + 1)

unfoldable pub hex_word_in : List ℕ → ℕ → ℕ
hex_word_in s i = hex_byte_in s i * 256 + hex_byte_in s (i + 2)

-- 26 digits: A B X Y SP PC flags lowest
unfoldable pub registers_in : List ℕ → ℕ → Registers
registers_in s i =
    record {
      x = hex_word_in s (i + 4);
      y = hex_word_in s (i + 8);
      sp = hex_word_in s (i + 12);
      pc = hex_word_in s (i + 16);
      lowest = hex_word_in s (i + 22);
      a = hex_byte_in s i;
      b = hex_byte_in s (i + 2);
      flags = hex_byte_in s (i + 20);
    }
