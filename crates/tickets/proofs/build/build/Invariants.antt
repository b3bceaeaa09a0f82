-- The measure is how much of the text is left.
-- Assumes nothing.
use Rattle.std.proofs.Common.{length}
use Rattle.tickets.proofs.build.build.Given as goal

abbrev pub decreases-loop-first : goal.decreases-loop-first
decreases-loop-first l = length l.text
