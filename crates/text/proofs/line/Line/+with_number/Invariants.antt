-- `with_number` puts the last digit after those of a tenth of the number.
-- Assumes nothing.
use Rattle.text.proofs.line.Line.+with_number.Given as goal

abbrev pub decreases-with_number : goal.decreases-with_number
decreases-with_number l = l.n
