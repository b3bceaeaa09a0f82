-- Laws of sums that wrap.
-- Assumes nothing.
use Rattle.std.proofs.Common.{◌≡◌, ℕ, ◌+◌, ◌<◌, arith}
use Rattle.registers.specs.Word.{wrapping_add}

pub plus_zero : (a : ℕ) → a < 65536 → wrapping_add a 0 ≡ a
unfolding wrapping_add
plus_zero a h = omega arith

pub plus_plus : (a n k : ℕ) → wrapping_add (wrapping_add a n) k ≡ wrapping_add a (n + k)
unfolding wrapping_add
plus_plus a n k = omega arith
