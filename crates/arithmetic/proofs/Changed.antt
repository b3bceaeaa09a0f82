-- The byte of the condition codes, where some of them are changed, and then others: the kept bits are parts of the byte
-- as it was.
-- Assumes nothing.
use mathlib.Core.Path.{◌≡◌, ap}
use mathlib.Core.Bool.{Bool}
use Prim.Native.Nat.{ℕ, ◌+◌, ◌*◌, ◌/◌, ◌%◌, ◌<◌}
use native.Mathlib.Omega.{arith}
use Rattle.registers.proofs.Bits.{digit}
use Rattle.registers.proofs.FlagsByte.{of_byte, to_byte}
use Rattle.registers.specs.declared.flags.Flags.{Flags}
use Rattle.registers.specs.Flags.{flags_of, byte_of}
use Rattle.lists.specs.Bit.{one}
use Rattle.arithmetic.specs.Codes.{with_nzvc, with_hnzvc}

-- H alone changed
abbrev pub with_h : Flags → Bool → Flags
with_h f h = with_hnzvc f h f.n f.z f.v f.c

-- docs/DECISIONS.md names this law; no proof cites it
pub nzvc_byte : (f : ℕ) → f < 256 → (n z v c : Bool) → byte_of (with_nzvc (flags_of f) n z v c)
    ≡ f / 16 * 16 + 8 * one n + 4 * one z + 2 * one v + one c
nzvc_byte f l n z v c =
    omega (
      arith,
      to_byte f l,
      digit (f / 8 % 2) (omega arith),
      digit (f / 4 % 2) (omega arith),
      digit (f / 2 % 2) (omega arith),
      digit (f % 2) (omega arith),
    )

-- H changed in the byte, and then N, Z, V and C, is all five changed
pub after_h : (f : Flags) (h n z v c : Bool) → byte_of (with_nzvc (flags_of (byte_of (with_h f h))) n z v c)
    ≡ byte_of (with_hnzvc f h n z v c)
after_h f h n z v c = ap (λ (g : Flags). byte_of (with_nzvc g n z v c)) (of_byte (with_h f h))
