-- `branch` meets its contract: a branch goes to its target where its test holds.
-- Assumes nothing.
use Rattle.instructions.proofs.Branch.{goes}
use Rattle.instructions.proofs.jump.branch.Goals as goal

pub returns : goal.returns
returns c = goes c.args.test c.args.t c.args.r _
    (simp (c.branch_if.ensures, c.test_holds.ensures))
