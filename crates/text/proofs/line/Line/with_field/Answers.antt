-- `with_field` has room for a number, which has at most ten digits.
-- Assumes nothing.
use Rattle.std.proofs.Common.{length-append, append_assoc, arith}
use Rattle.text.specs.Line.{field_text}
use Rattle.text.proofs.Digits.{decimal_most}
use Rattle.text.proofs.line.Line.with_field.Goals as goal

pub with_number-requires : goal.with_number-requires
with_number-requires c =
    rw c.with_text.ensures (simp length-append (omega (arith, decimal_most c.args.n)))

pub returns : goal.returns
unfolding field_text
returns c =
    rw (c.with_number.ensures, c.with_text.ensures)
    (simp append_assoc, simp length-append (omega (arith, decimal_most c.args.n)))
