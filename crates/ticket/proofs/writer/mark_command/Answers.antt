-- `mark_command` meets its contract: that it fits is the ranges of the types.
-- Assumes nothing.
use mathlib.Core.Path.{refl}
use native.Mathlib.Omega.{arith}
use Rattle.ticket.proofs.Fitting.{fits_mark}
use Rattle.ticket.proofs.writer.mark_command.Goals as goal

pub returns : goal.returns
returns c = (refl, fits_mark c.args.m (omega arith) (omega arith) (omega arith) (omega arith))
