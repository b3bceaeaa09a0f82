-- `monitor::jugrond_step` meets its contract.
-- Assumes nothing.
use borrow.Author.Rules.{rules}
use mathlib.Core.Path.{◌∙◌}
use Rattle.monitor.proofs.jugrond_step.Goals as goal

pub returns : goal.returns
returns c = c.answer.ensures _ _ ∙ c.step_on.ensures _ _
