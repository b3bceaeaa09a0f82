-- The loop's invariant: the stores that are left lead to the same memory.
-- Assumes nothing.
use Rattle.std.proofs.Common.{◌≡◌, drop}
use Rattle.memory.specs.Memory.{applied}
use Rattle.verdict.specs.Start.{image_stores}
use Rattle.verdict.proofs.load.fill.Given as goal

abbrev pub invariant-loop-b : goal.invariant-loop-b
invariant-loop-b l =
    applied (image_stores l.at (drop l.b-index l.image)) l.memory
    ≡ applied (image_stores l.from l.image) l.initial.memory
