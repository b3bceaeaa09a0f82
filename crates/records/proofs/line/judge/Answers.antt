-- `judge` meets its contract.
-- Assumes nothing.
use Rattle.records.proofs.CountableBytes.{counted_line}
use Rattle.records.proofs.line.judge.Goals as goal

pub returns : goal.returns
returns c = counted_line _ _ _ _ _ c.in-Some.is c.decode.ensures.0 c.judged.ensures
