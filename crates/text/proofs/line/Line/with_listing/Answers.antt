-- `with_listing` puts the four texts one after another.
-- Assumes nothing.
use Rattle.std.proofs.Common.{rules, append_assoc, ◌≡◌, length, length-append, arith}
use Rattle.text.specs.Columns.{listing_text}
use Rattle.text.proofs.line.Line.with_listing.Goals as goal

pub returns : goal.returns
unfolding listing_text
returns c = (
  rw (
    c.with_text-7.ensures,
    c.with_text-6.ensures,
    c.with_text-5.ensures,
    c.with_text-4.ensures,
    c.with_text-3.ensures,
    c.with_text-2.ensures,
    c.with_text.ensures,
    c.hex4.ensures,
  ) (simp append_assoc),
  rw (
    c.with_text-7.ensures,
    c.with_text-6.ensures,
    c.with_text-5.ensures,
    c.with_text-4.ensures,
    c.with_text-3.ensures,
    c.with_text-2.ensures,
    c.with_text.ensures,
    c.hex4.ensures,
  ) (simp length-append (search rules)),
)
