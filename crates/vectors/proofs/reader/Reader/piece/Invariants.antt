-- Whatever the bytes left lead to from here, the piece leads to from its start.
-- Assumes nothing.
use Rattle.std.proofs.Common.{drop}
use Rattle.vectors.specs.Text.{LineReading, held, ReadsLines}
use Rattle.vectors.proofs.reader.Reader.piece.Given as goal

abbrev pub invariant-loop-b : goal.invariant-loop-b
invariant-loop-b g l = (f : LineReading) → ReadsLines (drop l.b-index l.s) (held l.self) f
    → ReadsLines l.s (held l.initial.self) f
