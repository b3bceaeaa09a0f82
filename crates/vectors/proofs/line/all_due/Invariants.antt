-- The bytes before the one at hand are due.
-- Assumes nothing.
use Rattle.std.proofs.Common.{ℕ, ◌<◌}
use Rattle.vectors.specs.Line.{Due}
use Rattle.vectors.proofs.line.all_due.Given as goal

abbrev pub invariant-loop-i : goal.invariant-loop-i
invariant-loop-i l = (k : ℕ) → k < l.i → Due l.n l.s k
