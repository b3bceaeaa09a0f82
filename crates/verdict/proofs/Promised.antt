-- What the verdict promises besides its result.
-- Assumes nothing.
use Prim.Native.Nat.{ℕ}
use mathlib.Core.List.{List}
use Rattle.commands.specs.Number.{AllBytes}
use Rattle.rules.proofs.Exact.{accepts_exactly}
use Rattle.rules.proofs.Demand.{demand_3}
use Rattle.verdict.specs.Promise.{Promised}
use Rattle.verdict.proofs.Numbered.{numbered}

pub promised : (ticket image : List ℕ) → AllBytes ticket → Promised ticket image
promised ticket image bytes = (accepts_exactly ticket image bytes, demand_3 ticket image bytes, numbered ticket image)
