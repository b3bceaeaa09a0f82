-- The line of an instruction: what it is, the registers after it, the cycles so far, and what its mark claims beside
-- what was used (document 01: cost, depth and need).
-- Assumes nothing.
use Rattle.std.specs.Prelude.{ℕ, List, ◌++◌}
use Rattle.commands.specs.declared.command.Claim.{Claim}
use Rattle.lists.specs.Ascii.{ascii}
use Rattle.text.specs.declared.step.Traced.{Traced}
use Rattle.text.specs.Line.{field_text, pair_text}
use Rattle.text.specs.Columns.{listing_text, registers_text}

-- each as used of what is claimed
unfoldable pub claims_text : (used claim : Claim) → List ℕ
claims_text u c =
    pair_text (ascii " cost=") u.cost.0 c.cost.0
    ++ (pair_text (ascii " depth=") u.depth.0 c.depth.0 ++ pair_text (ascii " need=") u.need.0 c.need.0)

unfoldable pub step_line : Traced → List ℕ
step_line t =
    listing_text t.address t.listing
    ++ (registers_text t.after ++ (field_text (ascii " cycles=") t.cycles.0 ++
    (claims_text t.used t.claim ++ ascii "\n")))
