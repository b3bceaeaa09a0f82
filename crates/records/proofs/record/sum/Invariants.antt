-- `sum` meets its contract: s and the bytes left have the sum's last eight bits.
-- Assumes nothing.
use Rattle.std.proofs.Common.{◌≡◌, ◌+◌, ◌%◌, drop}
use Rattle.records.specs.Record.{sum}
use Rattle.records.proofs.record.sum.Given as goal

abbrev pub invariant-loop-b : goal.invariant-loop-b
invariant-loop-b l = (l.s + sum (drop l.b-index l.bytes)) % 256 ≡ sum l.bytes % 256
