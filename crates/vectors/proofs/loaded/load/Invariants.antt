-- The bytes that are left, put into memory as it is, give what all of them give.
-- Assumes nothing.
use Rattle.std.proofs.Common.{◌≡◌, ◌+◌, ◌-◌, ◌*◌}
use Rattle.memory.specs.Memory.{applied}
use Rattle.vectors.specs.Vector.{stores_in}
use Rattle.vectors.proofs.loaded.load.Given as goal

abbrev pub invariant-loop-k : goal.invariant-loop-k
invariant-loop-k l =
    applied (stores_in l.s (l.from + 7 * l.k) (l.n - l.k)) l.mem ≡ applied (stores_in l.s l.from l.n) l.initial.mem
