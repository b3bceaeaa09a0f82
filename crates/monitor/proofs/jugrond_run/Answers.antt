-- `monitor::jugrond_run` meets its contract.
-- Assumes nothing.
use borrow.Author.Rules.{rules}
use mathlib.Core.Path.{◌∙◌}
use Rattle.monitor.proofs.jugrond_run.Goals as goal

pub returns : goal.returns
returns c = c.answer.ensures _ _ ∙ c.run_on.ensures _ _
