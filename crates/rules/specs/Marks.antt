-- The claim of the mark at an address, and the bytes of an image that fills the code window (document 01, "The ticket":
-- marks; "Start": the image fills the code window).
-- Assumes nothing.
use Rattle.std.specs.Prelude.{ℕ, ◌+◌, ◌-◌, cond, List, [], ◌∷◌, eqb, get_or, Option, Some, None}
use Rattle.opcodes.specs.Decode.{Bytes}
use Rattle.commands.specs.declared.command.Claim.{Claim}
use Rattle.commands.specs.declared.header.Window.{Window}
use Rattle.ticket.specs.declared.fields.Mark.{Mark}

-- the claim at an address, or none
abbrev pub claim_at : List Mark → ℕ → Option Claim
claim_at [] a = None
claim_at (m ∷ ms) a = cond (eqb m.address a) (Some m.claim) (claim_at ms a)

-- the image's bytes from an address of the code window on
abbrev pub image_from : Window → List ℕ → ℕ → Bytes
image_from code image a = λ i. get_or image (a - code.start + i) 0
