-- The loop's invariant: the verdict is the one where the image's length and the marks so far have passed.
-- Assumes nothing.
use Rattle.std.proofs.Common.{◌≡◌}
use Rattle.ticket.specs.Fields.{Fields}
use Rattle.rules.specs.Checks.{verdict_on}
use Rattle.checks.proofs.VerdictByMarks.{rest_of}
use Rattle.checks.proofs.verdict.verdict_by.Given as goal

abbrev pub invariant-loop-m : goal.invariant-loop-m
invariant-loop-m l =
    let f : Fields = record { header = l.h; marks = l.marks } in verdict_on f l.image ≡ rest_of f l.image l.m-index
