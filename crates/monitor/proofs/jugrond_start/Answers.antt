-- `monitor::jugrond_start` meets its contract; the ticket is a list of bytes.
-- Assumes nothing.
use borrow.Author.Rules.{rules}
use mathlib.Core.Path.{◌∙◌}
use Rattle.commands.proofs.Digits.{all_bytes}
use Rattle.monitor.proofs.BytesHome.{started_bytes_come_home}
use Rattle.monitor.proofs.jugrond_start.Goals as goal

pub returns : goal.returns
returns c = (
  c.answer_start.ensures _ _ ∙ c.start_on.ensures _ _,
  started_bytes_come_home _ _ _ _ _ _ (all_bytes _ (λ i. (c.type_inv.ticket i).fits)),
)
