-- The loop's invariant: what is read so far, and then the bytes that are left, come to the number.
-- Assumes nothing.
use Rattle.commands.proofs.Digits.{ReadSoFar}
use Rattle.commands.proofs.number.number_by_bytes.Given as goal

abbrev pub invariant-loop-b : goal.invariant-loop-b
invariant-loop-b l = ReadSoFar l.s l.b-index l.v
