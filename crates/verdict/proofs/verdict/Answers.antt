-- `verdict` meets its contract.
-- Assumes nothing.
use Rattle.std.proofs.Common.{rules}
use Rattle.commands.proofs.Digits.{all_bytes}
use Rattle.verdict.proofs.Promised.{promised}
use Rattle.verdict.proofs.Reading.{verdict_refused, judged, readable}
use Rattle.verdict.proofs.verdict.Goals as goal

pub returns-in_err-read : goal.returns-in_err-read
returns-in_err-read c =
    (search (rules, verdict_refused), promised _ _ (all_bytes _ (λ i. (c.type_inv.ticket i).fits)))

pub verdict_on-requires : goal.verdict_on-requires
verdict_on-requires c = search (rules, readable)

pub returns : goal.returns
returns c = (search (rules, judged), promised _ _ (all_bytes _ (λ i. (c.type_inv.ticket i).fits)))
