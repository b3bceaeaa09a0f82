-- `number` meets its contract: what is left of the text, after the digits passed, spells what the whole does.
-- Assumes nothing.
use Rattle.std.proofs.Common.{◌≡◌, ◌<◌, drop}
use Rattle.arguments.specs.Number.{spelled_from, number_of}
use Rattle.arguments.proofs.number.number.Given as goal

abbrev pub invariant-loop-c : goal.invariant-loop-c
invariant-loop-c l = (l.v < 4294967296)
    × (spelled_from l.base l.most l.v (drop l.c-index l.s) ≡ number_of l.base l.most l.s)
