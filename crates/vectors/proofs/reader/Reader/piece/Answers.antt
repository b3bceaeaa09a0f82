-- `piece` meets its contract: the byte at hand comes before those that are left.
-- Assumes nothing.
use Rattle.std.proofs.Common.{drop_of_length-le}
use Rattle.vectors.specs.Text.{none}
use Rattle.vectors.proofs.Text.{further}
use Rattle.vectors.proofs.reader.Reader.piece.Goals as goal

pub loop-b-preserved : goal.loop-b-preserved
loop-b-preserved g c f h =
    c.loop-b.invariant f (further _ c.loop-b.b-index c.loop-b-test.true c.byte.ensures h)

pub returns : goal.returns
returns g c = c.loop-b.invariant _ (rw (drop_of_length-le c.args.s.now c.loop-b-test.false) none)
