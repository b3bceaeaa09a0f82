-- `with_number` puts the last digit after those of a tenth of the number.
-- Assumes nothing.
use Rattle.std.proofs.Common.{length-append, append_assoc, arith}
use Rattle.text.proofs.Digits.{decimal_next, one_more}
use Rattle.text.proofs.line.Line.+with_number.Goals as goal

pub with_text-requires-2 : goal.with_text-requires-2
with_text-requires-2 t c =
    rw c.with_number.ensures (simp length-append (omega (arith, one_more c.args.n c.if-n-lt10.false (omega arith))))

pub returns : goal.returns
returns t c =
    rw (c.with_text-2.ensures, c.with_number.ensures, decimal_next c.args.n c.if-n-lt10.false (omega arith))
    (simp append_assoc)
