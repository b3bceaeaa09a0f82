-- `decode` meets its contract: the bytes so far stand in the buffer, before those of the rest.
-- Assumes nothing.
use Rattle.records.proofs.DecodeSoFar.{SoFar}
use Rattle.records.proofs.decode.decode.Given as goal

abbrev pub invariant-loop-n : goal.invariant-loop-n
invariant-loop-n l = SoFar l.s l.buffer l.n l.rest
