-- `waits` meets its contract: WAI, STOP and TEST have the last numbers.
-- Assumes nothing.
use Rattle.dispatch.proofs.Waiting.{waits_from}
use Rattle.dispatch.proofs.waits.Goals as goal

pub returns : goal.returns
returns c = waits_from c.args.n
