-- How the code and the definitions write the same bit: as a number, and as a number that is there where a test holds.
-- Assumes nothing.
use mathlib.Core.Path.{◌≡◌, refl}
use mathlib.Core.Bool.{Bool, true, false}
use Prim.Native.Nat.{ℕ, ◌*◌}
use native.Mathlib.Omega.{arith}
use Rattle.lists.specs.Bit.{one}
use Rattle.registers.specs.Flags.{bit}
use Rattle.arithmetic.specs.Decimal.{when}

pub bit_one : (b : Bool) → bit 0 (one b) ≡ b
bit_one true = refl
bit_one false = refl

pub when_one : (t : Bool) (n : ℕ) → when t n ≡ n * one t
when_one true n = omega arith
when_one false n = omega arith
