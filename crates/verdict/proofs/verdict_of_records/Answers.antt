-- `verdict_of_records` meets its contract.
-- Assumes nothing.
use Rattle.std.proofs.Common.{rules, sym}
use Rattle.std.proofs.lemmas.Result.{err_from_is_err_and}
use Rattle.commands.proofs.Digits.{all_bytes}
use Rattle.verdict.proofs.FilePromised.{file_promised}
use Rattle.verdict.proofs.Reading.{records_refused, unloaded, loaded, readable, code_short}
use Rattle.verdict.proofs.verdict_of_records.Goals as goal

pub returns-in_err-ticket : goal.returns-in_err-ticket
returns-in_err-ticket c =
    (search (rules, records_refused), file_promised _ _ _ (all_bytes _ (λ i. (c.type_inv.ticket i).fits)))

pub load_image-requires : goal.load_image-requires
load_image-requires c = search (rules, code_short)

pub returns-in_err-load_image : goal.returns-in_err-load_image
returns-in_err-load_image c =
    let p = err_from_is_err_and c.from_residual-in_err-load_image.result c.from_residual-in_err-load_image.ensures.1 in
    let left = unloaded _ _ c.in_ok-ticket.ensures.0 _ _ _ _ c.in_err-load_image.ensures in
    (rw (p.1, p.2) (sym left), file_promised _ _ _ (all_bytes _ (λ i. (c.type_inv.ticket i).fits)))

pub verdict_on-requires : goal.verdict_on-requires
verdict_on-requires c = search (rules, readable)

pub returns : goal.returns
returns c = (
  loaded _ _ c.in_ok-ticket.ensures.0 _ _ _ _ _ c.in_ok-load_image.ensures c.verdict_on.ensures,
  file_promised _ _ _ (all_bytes _ (λ i. (c.type_inv.ticket i).fits)),
)
