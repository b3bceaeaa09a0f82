-- `monitor::jugrond_certify` meets its contract; the ticket is a list of bytes.
-- Assumes nothing.
use borrow.Author.Rules.{rules}
use Rattle.commands.proofs.Digits.{all_bytes}
use Rattle.monitor.proofs.SlotHome.{filled_slot_comes_home}
use Rattle.monitor.proofs.jugrond_certify.Goals as goal

pub returns : goal.returns
returns c = (
  rw (c.answer.ensures.0, c.answer.ensures.1) (c.certify_into.ensures _),
  filled_slot_comes_home _ _ _ _ (all_bytes _ (λ i. (c.type_inv.ticket i).fits)),
)
