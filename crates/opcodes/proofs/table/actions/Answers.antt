-- `table::actions` meets its contract: antt computes the table of the rows.
-- Assumes nothing.
use mathlib.Core.Path.{refl}
use Rattle.opcodes.specs.Tables.{actions}
use Rattle.opcodes.proofs.table.actions.Goals as goal

pub returns : goal.returns
unfolding actions
returns c = refl
