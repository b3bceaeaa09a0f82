-- Demand 3: an accepted routine comes home, whatever the data and the budget.
-- Assumes nothing.
use Prim.Native.Nat.{ℕ, ◌-◌}
use mathlib.Core.Path.{◌≡◌, refl, sym, ap}
use mathlib.Core.List.{List, [], ◌∷◌}
use native.Mathlib.Omega.{arith}
use Rattle.registers.specs.declared.Cycles.{Cycles}
use Rattle.commands.specs.Number.{AllBytes}
use Rattle.ticket.specs.Fields.{Fields}
use Rattle.std.specs.Prelude.{Ok}
use Rattle.answers.specs.declared.Acceptance.{Acceptance}
use Rattle.rules.specs.Rules.{Accepted, Certified}
use Rattle.rules.specs.Checks.{verdict_of}
use Rattle.rules.proofs.Exact.{accepts_exactly}
use Rattle.rules.specs.Claim.{environment_of, home_pair, Demand3}
use Rattle.rules.proofs.Only.{only}
use Rattle.rules.proofs.Budget.{run_home, run_stops}
use Rattle.rules.proofs.RunLowest.{run_near}
use Rattle.rules.proofs.Start.{start_near, start_course}
use Rattle.stepper.proofs.Lowest.{trace_lowest}

pub comes_home : (f : Fields) (image : List ℕ) (A : Accepted f image) →
    Demand3 f image A.start.cost.0 A.start.need.0
comes_home f image A d m L =
    let c = start_course f image A d m L in
    record {
      events = c.events;
      last = c.last;
      memory = c.memory;
      along = c.along;
      home = c.home;
      only = λ evs e n w h. only c.along c.home w h;
      in_time = c.in_time;
      empty = c.empty;
      safe = c.safe;
      covered = run_home (environment_of f) L.whole c.along c.home;
      uncovered = run_stops (environment_of f) refl L.whole c.along;
      run_lowest =
          run_near f (environment_of f) A.start.need.0 (home_pair f ∷ []) refl L.whole c.along c.home
          c.safe (start_near f image A);
      home_lowest = trace_lowest c.along;
    }

-- over the verdict of a ticket's and an image's bytes
pub demand_3 : (ticket image : List ℕ) → AllBytes ticket → (a : Acceptance) → verdict_of ticket image ≡ Ok a
    → (C : Certified ticket image a) × Demand3 C.fields image a.cost.0 (a.stack.0 - 2)
demand_3 ticket image bytes a v =
    let C = (accepts_exactly ticket image bytes a).0 v in
    let cost : C.accepted.start.cost.0 ≡ a.cost.0 = ap (λ (x : Cycles). x.0) (sym C.cost_is) in
    let need : C.accepted.start.need.0 ≡ a.stack.0 - 2 = omega (arith, C.stack_is) in
    (C, rw (cost, need) at (comes_home C.fields image C.accepted))
