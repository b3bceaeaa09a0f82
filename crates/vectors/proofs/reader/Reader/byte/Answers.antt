-- `byte` meets its contract: a line feed ends the line.
-- Assumes nothing.
use Rattle.vectors.specs.Text.{ended}
use Rattle.vectors.proofs.reader.Reader.byte.Goals as goal

pub returns : goal.returns
returns g c = rw c.if-b-ne10.false (ended c.line.ensures)
