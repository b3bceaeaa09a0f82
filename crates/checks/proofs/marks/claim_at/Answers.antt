-- `claim_at` meets its contract, by what the search says of where it ends.
-- Assumes nothing.
use Rattle.std.proofs.Common.{rules}
use Rattle.std.proofs.lemmas.List.Sorted.{answers_always}
use Rattle.checks.proofs.ClaimAt.{claim_there, claim_nowhere}
use Rattle.checks.proofs.marks.claim_at.Goals as goal

pub returns-in-Ok : goal.returns-in-Ok
returns-in-Ok c =
    let at = c.in-Ok.ensures.position (λ m. m.address) (answers_always _ _ _ (λ f a r g called. search rules)) in
    claim_there _ c.requires _ _ c.in-Ok.ensures.bound at

pub returns-in-Err : goal.returns-in-Err
returns-in-Err c =
    let parted = c.in-Err.ensures.position (λ m. m.address) (answers_always _ _ _ (λ f a r g called. search rules)) in
    claim_nowhere _ c.requires _ _ parted
