-- `read_lines` meets its contract: what is left of the file leads to what the whole does. The measure is how many bytes
-- are left, of which each line takes one or more.
-- Assumes nothing.
use Rattle.std.proofs.Common.{length}
use Rattle.records.proofs.Course.{Reached}
use Rattle.records.proofs.file.read_lines.Given as goal

abbrev pub invariant-loop-rest : goal.invariant-loop-rest
invariant-loop-rest l = Reached l.code l.file l.cells l.p l.rest

abbrev pub decreases-loop-rest : goal.decreases-loop-rest
decreases-loop-rest l = length l.rest
