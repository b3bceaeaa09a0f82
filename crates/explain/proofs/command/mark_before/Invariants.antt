-- `mark_before` ends: a command has at least one byte. The measure is what is left up to the place.
-- Assumes nothing.
use Rattle.std.proofs.Common.{◌-◌}
use Rattle.explain.proofs.command.mark_before.Given as goal

abbrev pub decreases-loop-at : goal.decreases-loop-at
decreases-loop-at l = l.place - l.at
