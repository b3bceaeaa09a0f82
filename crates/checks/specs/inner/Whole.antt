-- Causes 18 to 20 and acceptance as the code computes them, by the claim at the entry.
-- Assumes nothing.
use Rattle.std.specs.Prelude.{◌+◌, cond, eqb, leb, Option, Some, None, Ok, Err}
use Rattle.commands.specs.declared.command.Claim.{Claim}
use Rattle.commands.specs.declared.header.Header.{Header}
use Rattle.ticket.specs.Read.{refusal}
use Rattle.answers.specs.Verdict.{Verdict}
use Rattle.answers.specs.declared.Cause.TheVariants.{BadEntry, OverLimit, StackTooSmall}

abbrev pub at_entry_of : Header → Claim → Verdict
at_entry_of h c =
    cond (eqb c.depth.0 0)
    (cond (leb c.cost.0 h.limit.0)
    (cond (leb (c.need.0 + 2) h.stack.length)
    (Ok (record { entry = h.entry; cost = c.cost; stack = record { 0 = c.need.0 + 2 } }))
    (Err (refusal StackTooSmall h.entry)))
    (Err (refusal OverLimit h.entry)))
    (Err (refusal BadEntry h.entry))

abbrev pub whole_of : Header → Option Claim → Verdict
whole_of h None = Err (refusal BadEntry h.entry)
whole_of h (Some c) = at_entry_of h c
