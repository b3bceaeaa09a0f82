-- `keep` meets its contract: there is room for the byte, or none.
-- Assumes nothing.
use Rattle.std.proofs.Common.{arith}
use Rattle.vectors.proofs.Text.{grown, no_room}
use Rattle.vectors.proofs.reader.Reader.keep.Goals as goal

pub returns-then-n-lt256 : goal.returns-then-n-lt256
returns-then-n-lt256 c =
    let r = c.args.self.now in
    grown r.buffer r.filled c.args.b r.counts (omega arith) c.requires c.if-n-lt256.true

pub returns-else-n-lt256 : goal.returns-else-n-lt256
returns-else-n-lt256 c =
    let r = c.args.self.now in
    no_room r.buffer r.filled c.args.b r.counts (omega arith) c.requires (omega (arith, r.fits))
