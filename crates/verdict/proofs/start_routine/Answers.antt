-- `start_routine` meets its contract.
-- Assumes nothing.
use Rattle.std.proofs.Common.{rules}
use borrow.Author.Tests.{ne_eqb}
use Rattle.commands.proofs.Digits.{all_bytes}
use Rattle.verdict.specs.Routine.{start_routine_of}
use Rattle.verdict.proofs.Home.{started_comes_home, not_certified, certified_start}
use Rattle.verdict.proofs.start_routine.Goals as goal

pub returns-then-memory-ne65536 : goal.returns-then-memory-ne65536
unfolding start_routine_of
returns-then-memory-ne65536 c = (
  simp (ne_eqb _ _ c.if-memory-ne65536.true, c.refuse.ensures),
  started_comes_home _ _ (all_bytes _ (λ i. (c.type_inv.ticket i).fits)) _ _,
)

pub returns-in_err-c : goal.returns-in_err-c
returns-in_err-c c = (
  search (rules, not_certified),
  started_comes_home _ _ (all_bytes _ (λ i. (c.type_inv.ticket i).fits)) _ _,
)

pub returns : goal.returns
returns c = (
  search (rules, certified_start),
  started_comes_home _ _ (all_bytes _ (λ i. (c.type_inv.ticket i).fits)) _ _,
)
