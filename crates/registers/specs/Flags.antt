-- The condition codes and their byte: S X H I N Z V C from bit 7 to bit 0 (document 01, "The machine"; the manual, A.2
-- D).
-- Assumes nothing.
use Rattle.std.specs.Prelude.{ℕ, ◌+◌, ◌*◌, ◌/◌, ◌%◌, ◌^◌, Bool, true, false, not, ◌==◌}
use Rattle.lists.specs.Bit.{one}
use Rattle.registers.specs.declared.flags.Flags.{Flags}

-- bit k of n
abbrev pub bit : ℕ → ℕ → Bool
bit k n = n / 2 ^ k % 2 == 1

-- bit 0 of n
abbrev pub low : ℕ → Bool
low n = n % 2 == 1

abbrev pub xor : Bool → Bool → Bool
xor true b = not b
xor false b = b

abbrev pub flags_of : ℕ → Flags
flags_of n =
    record { s = bit 7 n; x = bit 6 n; h = bit 5 n; i = bit 4 n; n = bit 3 n; z = bit 2 n; v = bit 1 n; c = low n }

abbrev pub byte_of : Flags → ℕ
byte_of f =
    128 * one f.s + 64 * one f.x + 32 * one f.h + 16 * one f.i + 8 * one f.n + 4 * one f.z +
    2 * one f.v + one f.c
