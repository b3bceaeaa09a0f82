-- `certify` meets its contract.
-- Assumes nothing.
use Rattle.std.proofs.Common.{rules}
use Rattle.commands.proofs.Digits.{all_bytes}
use Rattle.verdict.proofs.Home.{certificate_comes_home}
use Rattle.verdict.proofs.Reading.{certification_refused, certified, uncertified, readable}
use Rattle.verdict.proofs.certify.Goals as goal

pub returns-in_err-t : goal.returns-in_err-t
returns-in_err-t c = (
  search (rules, certification_refused),
  certificate_comes_home _ _ (all_bytes _ (λ i. (c.type_inv.ticket i).fits)),
)

pub verdict_on-requires : goal.verdict_on-requires
verdict_on-requires c = search (rules, readable)

pub returns-in_err-a : goal.returns-in_err-a
returns-in_err-a c = (
  search (rules, uncertified),
  certificate_comes_home _ _ (all_bytes _ (λ i. (c.type_inv.ticket i).fits)),
)

pub returns : goal.returns
returns c = (
  search (rules, certified),
  certificate_comes_home _ _ (all_bytes _ (λ i. (c.type_inv.ticket i).fits)),
)
