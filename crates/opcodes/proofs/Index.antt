-- N Z V C, the index of a truth word, are the low half-byte of the flags. One test over the 256 bytes.
-- Assumes nothing.
use mathlib.Core.Path.{◌≡◌}
use mathlib.Core.Bool.{Bool}
use Prim.Native.Nat.{ℕ, ◌<◌, ◌%◌}
use lib.Dec.{T, eqb, eqb→eq}
use lib.ListN.{replicate}
use Rattle.registers.specs.Flags.{flags_of}
use Rattle.opcodes.specs.Conditions.{truth_index}
use Rattle.opcodes.proofs.Every.{every, at}

same : ℕ → ℕ → Bool
same v d = eqb (truth_index (flags_of v)) (v % 16)

tested : T (every same 0 (replicate 256 0))
unfolding same
tested = tt

pub low_half : (v : ℕ) → v < 256 → truth_index (flags_of v) ≡ v % 16
unfolding same
low_half v h = eqb→eq (truth_index (flags_of v)) (v % 16) (at same 0 (replicate 256 0) tested v h)
