-- `add8` meets its contract: H and C are the carries of the two sums, and V is bit 7 of what `overflow` answers.
-- Assumes nothing.
use mathlib.Core.Path.{refl}
use Prim.Native.Nat.{◌+◌, ◌%◌}
use native.Mathlib.Omega.{arith}
use lib.Dec.{eqb, ltb}
use Rattle.registers.specs.Flags.{bit, flags_of}
use Rattle.lists.specs.Bit.{one}
use Rattle.arithmetic.specs.Codes.{overflow_sum}
use Rattle.arithmetic.specs.Byte.{add8_of}
use Rattle.arithmetic.proofs.Carries.{carry_test}
use Rattle.arithmetic.proofs.Changed.{after_h}
use Rattle.arithmetic.proofs.byte.add8.Goals as goal

pub returns : goal.returns
unfolding add8_of
returns c = let a = c.args in
    let sum = a.x + a.m + one a.carry in
    let half = a.x % 16 + a.m % 16 + one a.carry in
    let r = sum % 256 in
    simp (
      c.coded_by_overflow.ensures,
      c.overflow.ensures 7,
      c.with_h-g.ensures,
      c.from-k.ensures,
      after_h (flags_of a.f) (ltb 15 half) (bit 7 r) (eqb r 0) (overflow_sum 7 a.x a.m r) (ltb 255 sum),
      carry_test 3 a.x a.m r half a.carry refl (omega arith),
      carry_test 7 a.x a.m r sum a.carry (omega arith) (omega arith),
    )
