-- `list` meets its contract: the place is the one that is found at the first two bytes, and the operand starts after
-- one byte or two.
-- Assumes nothing.
use mathlib.Core.Path.{sym, ◌∙◌}
use mathlib.Core.Logic.{⊎_elim}
use Rattle.opcodes.proofs.Says.{entry}
use Rattle.text.specs.Listing.{five}
use Rattle.text.proofs.Listed.{nowhere, size, there}
use Rattle.text.proofs.listing.list.Goals as goal

pub returns-in_default : goal.returns-in_default
returns-in_default c =
    let h = sym c.found_of.ensures.found ∙ c.in_default.is in
    simp (nowhere (five c.args.a c.args.b c.args.c c.args.d c.args.e) h, c.bytes.ensures)

pub returns-then-found-eq1 : goal.returns-then-found-eq1
returns-then-found-eq1 c =
    let h = sym c.found_of.ensures.found ∙ c.in-Some.is in
    simp (
      there (five c.args.a c.args.b c.args.c c.args.d c.args.e) h,
      c.listed.ensures,
      c.bytes-text.ensures,
      c.wrapping_add-next.ensures,
      entry _ _ h,
      c.if-found-eq1.true,
    )

pub returns-else-found-eq1 : goal.returns-else-found-eq1
returns-else-found-eq1 c =
    let h = sym c.found_of.ensures.found ∙ c.in-Some.is in
    let two = ⊎_elim (λ e. absurd (c.if-found-eq1.false e)) (λ e. e)
    (size (five c.args.a c.args.b c.args.c c.args.d c.args.e) h) in
    simp (
      there (five c.args.a c.args.b c.args.c c.args.d c.args.e) h,
      c.listed-else-found-eq1.ensures,
      c.bytes-text.ensures,
      c.wrapping_add-next.ensures,
      entry _ _ h,
      two,
    )
