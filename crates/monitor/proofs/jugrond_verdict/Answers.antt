-- `monitor::jugrond_verdict` meets its contract, by the certification's; the ticket is a list of bytes.
-- Assumes nothing.
use Rattle.commands.proofs.Digits.{all_bytes}
use Rattle.verdict.proofs.Home.{verdict_certified}
use Rattle.verdict.proofs.Promised.{promised}
use Rattle.monitor.proofs.jugrond_verdict.Goals as goal

pub returns-in-Ok : goal.returns-in-Ok
returns-in-Ok c =
    let bytes = all_bytes c.args.ticket.now (λ i. (c.type_inv.ticket i).fits) in (
      rw (← c.certify.ensures.0, c.in-Ok.is),
      verdict_certified _ _ bytes,
      promised _ _ bytes,
      c.certify.ensures.1,
    )

pub returns-in-Err : goal.returns-in-Err
returns-in-Err c =
    let bytes = all_bytes c.args.ticket.now (λ i. (c.type_inv.ticket i).fits) in (
      rw (← c.certify.ensures.0, c.in-Err.is, c.refused.ensures.0, c.refused.ensures.1),
      verdict_certified _ _ bytes,
      promised _ _ bytes,
      c.certify.ensures.1,
    )
