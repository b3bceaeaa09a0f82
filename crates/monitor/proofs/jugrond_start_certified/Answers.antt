-- `monitor::jugrond_start_certified` meets its contract.
-- Assumes nothing.
use borrow.Author.Rules.{rules}
use mathlib.Core.Path.{◌∙◌}
use Rattle.monitor.proofs.SlotHome.{starts_from_filled_slot}
use Rattle.monitor.proofs.jugrond_start_certified.Goals as goal

pub returns : goal.returns
returns c = (
  c.answer_start.ensures _ _ ∙ c.start_from.ensures _ _,
  starts_from_filled_slot _ _,
)
