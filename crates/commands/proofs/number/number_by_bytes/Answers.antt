-- `number_by_bytes` meets its contract: eight bytes at most fit.
-- Assumes nothing.
use Prim.Native.Nat.{◌<◌}
use native.Mathlib.Omega.{arith}
use lib.ListN.{get_or}
use Rattle.commands.proofs.Digits.{read_next}
use Rattle.commands.proofs.number.number_by_bytes.Goals as goal

pub overflow_mul-v : goal.overflow_mul-v
overflow_mul-v c =
    let l = c.loop-b in
    let byte : get_or c.args.s.now l.b-index 0 < 256 = omega (arith, c.type_inv.s l.b-index) in
    omega (arith, (read_next l.invariant (omega arith) (omega arith) byte).1)
