-- `sub16` meets its contract: C is the borrow, and V that of the sum x of m and r.
-- Assumes nothing.
use mathlib.Core.Bool.{false}
use mathlib.Core.Path.{◌≡◌, refl}
use Prim.Native.Nat.{ℕ, ◌+◌, ◌-◌, ◌%◌, ◌<◌}
use native.Mathlib.Omega.{arith}
use Rattle.registers.specs.Word.{wrapping_sub}
use Rattle.arithmetic.specs.Word.{sub16_of}
use Rattle.arithmetic.proofs.Carries.{borrow_test}
use Rattle.arithmetic.proofs.Overflow.{overflow_of_difference}
use Rattle.arithmetic.proofs.word.sub16.Goals as goal

-- the difference as the definition of SUBD writes it
difference : (x m : ℕ) → m < 65536 → wrapping_sub x m ≡ (x + 65536 - m) % 65536
unfolding wrapping_sub
difference x m h = omega arith

pub returns : goal.returns
unfolding sub16_of
returns c = let a = c.args in
    simp (
      c.with_low_bits.ensures,
      c.overflow-o.ensures 15,
      c.wrapping_sub-r.ensures,
      difference a.x a.m (omega arith),
      overflow_of_difference 15 a.x a.m ((a.x + 65536 - a.m) % 65536),
      borrow_test 15 a.x a.m ((a.x + 65536 - a.m) % 65536) a.m false (omega arith) (omega arith)
          (omega arith) refl,
    )
