-- The loop's invariant is `ReadState`; the measure is how many bytes are left, of which each command takes one or more.
-- Assumes nothing.
use Prim.Native.Nat.{◌-◌}
use lib.ListN.{length}
use Rattle.ticket.proofs.ReadLoop.{ReadState}
use Rattle.ticket.proofs.read.Given as goal

abbrev pub invariant-loop-next : goal.invariant-loop-next
invariant-loop-next l = ReadState l.bytes l.marks l.p

abbrev pub decreases-loop-next : goal.decreases-loop-next
decreases-loop-next l = length l.bytes - l.p.at
