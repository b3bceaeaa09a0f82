-- Where every rule holds of some fields, the verdict accepts, with what they claim at their entry.
-- Assumes nothing.
use Prim.Native.Nat.{ℕ, ◌+◌}
use mathlib.Core.Path.{◌≡◌}
use mathlib.Core.List.{List}
use Rattle.ticket.specs.Fields.{Fields}
use Rattle.std.specs.Prelude.{Ok}
use Rattle.rules.specs.Rules.{Accepted}
use Rattle.rules.specs.Checks.{verdict_on}
use Rattle.rules.proofs.Passes.{append_says, first_says}
use Rattle.rules.proofs.MarkChecks.{tests, marks_says}

pub accepts : (f : Fields) (image : List ℕ) (A : Accepted f image) →
    verdict_on f image
    ≡ Ok (record { entry = f.header.entry; cost = A.start.cost; stack = record { 0 = A.start.need.0 + 2 } })
unfolding verdict_on
accepts f image A = simp (first_says, append_says, marks_says, tests) (rw A.start_marked (simp tests (search)))
