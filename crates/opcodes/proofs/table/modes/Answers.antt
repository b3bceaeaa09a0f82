-- `table::modes` meets its contract: antt computes the table of the rows.
-- Assumes nothing.
use mathlib.Core.Path.{refl}
use Rattle.opcodes.specs.Tables.{modes}
use Rattle.opcodes.proofs.table.modes.Goals as goal

pub returns : goal.returns
unfolding modes
returns c = refl
