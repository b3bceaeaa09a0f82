-- `add16` meets its contract: C is the carry of the sum, and V is bit 15 of what `overflow` answers.
-- Assumes nothing.
use mathlib.Core.Bool.{false}
use Prim.Native.Nat.{◌+◌, ◌%◌}
use native.Mathlib.Omega.{arith}
use Rattle.arithmetic.specs.Word.{add16_of}
use Rattle.arithmetic.proofs.Carries.{carry_test}
use Rattle.arithmetic.proofs.word.add16.Goals as goal

pub returns : goal.returns
unfolding add16_of
returns c = let a = c.args in
    let sum = a.x + a.m in
    simp (
      c.with_low_bits.ensures,
      c.overflow-o.ensures 15,
      carry_test 15 a.x a.m (sum % 65536) sum false (omega arith) (omega arith),
    )
