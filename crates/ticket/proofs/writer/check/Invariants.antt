-- The loop's invariant: from here the commands that are left come to what all come to.
-- Assumes nothing.
use Rattle.std.specs.Prelude.{Ok}
use Rattle.commands.specs.inner.Sound.{Sound}
use Rattle.ticket.specs.Fields.{fields_of}
use Rattle.ticket.proofs.Left.{marks_left}
use Rattle.ticket.proofs.Onward.{Onward}
use Rattle.ticket.proofs.writer.check.Given as goal

abbrev pub invariant-loop-i : goal.invariant-loop-i
invariant-loop-i l = record {
  sound : Sound l.p;
  onward : Onward (fields_of l.t) (Ok l.p) (marks_left l.t.marks l.t.count l.i);
}
