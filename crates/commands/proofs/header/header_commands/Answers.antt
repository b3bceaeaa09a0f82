-- `header_commands` meets its contract: that the operands fit is the ranges of the types.
-- Assumes nothing.
use mathlib.Core.Path.{refl}
use native.Mathlib.Omega.{arith}
use Rattle.commands.specs.Every.{none as all, more as next}
use Rattle.commands.specs.Fits.FitsLayout.{none, more}
use Rattle.commands.proofs.header.header_commands.Goals as goal

pub returns : goal.returns
returns c = (
  refl,
  next (more (omega arith) (more (omega arith) none)) (next (more (omega arith) (more (omega arith) none))
      (next (more (omega arith) (more (omega arith) none)) (next (more (omega arith) (more (omega arith) none))
      (next (more (omega arith) none) all)))),
)
