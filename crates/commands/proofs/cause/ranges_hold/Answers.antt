-- `ranges_hold` meets its contract: the tests of the code's operands are those of the row's.
-- Assumes nothing.
use mathlib.Core.Path.{◌≡◌, refl, ◌∙◌}
use Rattle.commands.specs.Cause.{all_in_range, ranges_hold}
use Rattle.commands.specs.Command.{command_byte_of, operands_of}
use Rattle.commands.specs.Rows.{layout_of}
use Rattle.commands.specs.declared.command.Command.{Command}
use Rattle.commands.proofs.Coding.{said}
use Rattle.commands.proofs.Table.{row_four, row_narrow, row_ranges}
use Rattle.commands.proofs.cause.ranges_hold.Goals as goal

whole : (c : Command) → all_in_range (layout_of (command_byte_of c)) (operands_of c) ≡ ranges_hold c
unfolding ranges_hold
whole c = refl

pub loop-o-init : goal.loop-o-init
loop-o-init c =
    let z = c.zip-o-items.ensures in
    let r = c.row_of-row.result in
    let v = c.operands_of-values in
    let is_row = rw c.byte_of.ensures at c.row_of-row.ensures in
    let b = command_byte_of c.args.c in
    let vs = operands_of c.args.c in
    let four = row_four b r is_row in
    let same = row_ranges b r is_row vs (said c.args.c).as_many v.result v.ensures.0 (rw is_row v.ensures.1) in
    rw (c.into_iter-o-iterator.ensures.into_iter_gives, z.first, c.iter.ensures.rest, z.second.0) record {
      same = same ∙ whole c.args.c;
      paired = rw (v.ensures.0, four) refl;
      narrow = row_narrow b r is_row;
    }
