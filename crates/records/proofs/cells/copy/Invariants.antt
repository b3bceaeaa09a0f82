-- `copy` meets its contract: the first cells are copied, and the image is as long as it was.
-- Assumes nothing.
use Rattle.std.proofs.Common.{◌≡◌, length, take}
use Rattle.records.proofs.cells.copy.Given as goal

abbrev pub invariant-loop-i : goal.invariant-loop-i
invariant-loop-i l = (length l.image ≡ length l.cells) × (take l.i l.image ≡ take l.i l.cells)
