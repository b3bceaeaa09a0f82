-- The loop's invariant: from here the commands that are left come to what all come to.
-- Assumes nothing.
use mathlib.Core.Path.{◌≡◌}
use Rattle.std.specs.Prelude.{Ok}
use lib.ListN.{drop}
use Rattle.commands.specs.inner.Sound.{Sound}
use Rattle.ticket.specs.Write.{all_then}
use Rattle.ticket.proofs.writer.all_admitted.Given as goal

abbrev pub invariant-loop-c : goal.invariant-loop-c
invariant-loop-c l = record {
  same : all_then (Ok l.p) (drop l.c-index l.cs) ≡ all_then (Ok l.fn.start) l.cs;
  sound : Sound l.p;
}
