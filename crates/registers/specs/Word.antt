-- Sums and differences of 16-bit registers wrap at 65,536 (document 01: "Every address sum wraps"); a comparison does
-- not.
-- Assumes nothing.
use Rattle.std.specs.Prelude.{ℕ, ◌+◌, ◌-◌, ◌%◌, cond, nat_lt}

unfoldable pub wrapping_add : ℕ → ℕ → ℕ
wrapping_add a n = (a + n) % 65536

unfoldable pub wrapping_sub : ℕ → ℕ → ℕ
wrapping_sub a n = (a + (65536 - n)) % 65536

-- a relative offset is signed, and counts from the next instruction
unfoldable pub target_of : ℕ → ℕ → ℕ
target_of next d = cond (nat_lt d 128) (wrapping_add next d) (wrapping_add next (d + 0xff00))

-- the smaller of two numbers
abbrev pub smaller_of : ℕ → ℕ → ℕ
smaller_of a b = cond (nat_lt a b) a b
