-- `sub8` meets its contract: C is the borrow, and V that of the sum x of m and r.
-- Assumes nothing.
use mathlib.Core.Path.{refl}
use Prim.Native.Nat.{◌+◌, ◌-◌, ◌%◌}
use native.Mathlib.Omega.{arith}
use Rattle.lists.specs.Bit.{one}
use Rattle.arithmetic.specs.Byte.{sub8_of}
use Rattle.arithmetic.proofs.Carries.{borrow_test}
use Rattle.arithmetic.proofs.Overflow.{overflow_of_difference}
use Rattle.arithmetic.proofs.byte.sub8.Goals as goal

pub returns : goal.returns
unfolding sub8_of
returns c = let a = c.args in
    let less = a.m + one a.borrow in
    let r = (a.x + 256 - less) % 256 in
    simp (
      c.coded_by_overflow.ensures,
      c.overflow.ensures 7,
      c.from.ensures,
      overflow_of_difference 7 a.x a.m r,
      borrow_test 7 a.x a.m r less a.borrow (omega arith) (omega arith) refl refl,
    )
