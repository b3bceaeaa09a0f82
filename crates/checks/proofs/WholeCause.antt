-- The checks of the whole answer as the code computes it from the claim at the entry.
-- Assumes nothing.
use mathlib.Core.Path.{◌≡◌, refl}
use Rattle.std.specs.Prelude.{Option, Some, None}
use Rattle.commands.specs.declared.command.Claim.{Claim}
use Rattle.ticket.specs.Fields.{Fields}
use Rattle.rules.specs.Marks.{claim_at}
use Rattle.rules.specs.Checks.{first_failing, whole_checks, accept_of}
use Rattle.checks.specs.inner.Whole.{whole_of}

pub whole_cause : (f : Fields) → let a = claim_at f.marks f.header.entry in
    first_failing (whole_checks f) (accept_of f.header.entry a) ≡ whole_of f.header a
whole_cause f = by_claim (claim_at f.marks f.header.entry) refl
  where
    by_claim : (a : Option Claim) → a ≡ claim_at f.marks f.header.entry
        → first_failing (whole_checks f) (accept_of f.header.entry (claim_at f.marks f.header.entry))
        ≡ whole_of f.header (claim_at f.marks f.header.entry)
    by_claim None e = rw (← e)
    by_claim (Some c) e = rw (← e)
