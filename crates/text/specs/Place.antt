-- The line of an instruction that is not executed: what it is, and what its mark claims of it (document 01: cost, depth
-- and need).
-- Assumes nothing.
use Rattle.std.specs.Prelude.{ℕ, List, ◌++◌, Option, Some, None}
use Rattle.commands.specs.declared.command.Claim.{Claim}
use Rattle.lists.specs.Ascii.{ascii}
use Rattle.text.specs.declared.listing.Listing.{Listing}
use Rattle.text.specs.Line.{field_text}
use Rattle.text.specs.Columns.{listing_text}

-- of the mark that an address has, if it has one
unfoldable pub marking_text : Option Claim → List ℕ
marking_text (Some c) =
    field_text (ascii " cost=") c.cost.0
    ++ (field_text (ascii " depth=") c.depth.0 ++ field_text (ascii " need=") c.need.0)
marking_text None = ascii " not marked"

unfoldable pub place_line : (address : ℕ) → Listing → Option Claim → List ℕ
place_line a l m = listing_text a l ++ (marking_text m ++ ascii "\n")
