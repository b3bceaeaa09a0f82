-- `cause_at` meets its contract.
-- Assumes nothing.
use Rattle.std.proofs.Common.{rules}
use Rattle.checks.proofs.MarkCause.{cause_is}
use Rattle.checks.proofs.verdict.cause_at.Goals as goal

pub returns : goal.returns
returns c = rw c.mark_cause.ensures (cause_is _ _ _ _ _ c.shape_at-s.ensures.0 (search rules))
