-- `table::costs` meets its contract: antt computes the table of the rows.
-- Assumes nothing.
use mathlib.Core.Path.{refl}
use Rattle.opcodes.specs.Tables.{costs}
use Rattle.opcodes.proofs.table.costs.Goals as goal

pub returns : goal.returns
unfolding costs
returns c = refl
