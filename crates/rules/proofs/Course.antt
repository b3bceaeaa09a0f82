-- From one step to the whole way: the cycles that are left fall with each.
-- Assumes nothing.
use Prim.Native.Nat.{ℕ, zero, suc, ◌+◌, ◌-◌, ◌≤◌}
use mathlib.Core.Path.{◌≡◌}
use mathlib.Core.Logic.{◌⊎◌, inl, inr}
use mathlib.Core.List.{List, [], ◌∷◌}
use native.Mathlib.Omega.{arith}
use Rattle.registers.specs.declared.Registers.{Registers}
use Rattle.memory.specs.Memory.{applied}
use Rattle.ticket.specs.Fields.{Fields}
use Rattle.rules.specs.Rules.{Accepted}
use Rattle.stepper.specs.Flow.{flow_of}
use Rattle.stepper.specs.Trace.{Event, event_at, total, Along, stay, then}
use Rattle.rules.specs.InUse.{in_use_after}
use Rattle.rules.specs.Claim.{top_of, environment_of, WithinNeed, Keeps, Safe}
use Rattle.stepper.proofs.Lowest.{done_lowest, below_smaller}
use Rattle.rules.proofs.Obeys.{busy}
use Rattle.rules.proofs.Ready.{Ready, Arrived, Stepped, under_top, free, not_home, one_step}

-- the way home within p cycles, from the registers r and the memory m, with the return addresses `used` in use
pub record Course (f : Fields) (need : ℕ) (r : Registers) (m : List ℕ) (used : List (List ℕ)) (p : ℕ) : Type 0 where
  pub events : List Event
  pub last : Registers
  pub memory : List ℕ
  pub along : Along (environment_of f) r m events last memory
  pub home : last.pc ≡ f.header.home
  pub in_time : total events ≤ p
  pub empty : last.sp ≡ top_of f
  pub safe : Safe f need used events

module _ {f : Fields} {image : List ℕ} (A : Accepted f image) where
  abbrev Near : ℕ → Type 0
  Near sp = WithinNeed f A.start.need.0 sp

  module _ (r : Registers) (m : List ℕ) (used : List (List ℕ)) (p : ℕ) (away : r.pc ≡ f.header.home → ⊥)
      (S : Stepped A r m used p) (low : Near r.lowest) where
    abbrev event : Event
    event = event_at r m S.registers S.stores S.cycles

    -- after the step
    abbrev Next : (Registers → List ℕ → List (List ℕ) → ℕ → Type 0) → Type 0
    Next P = P S.registers (applied S.stores m) (in_use_after (flow_of m r.pc) S.stores used) S.left

    first : Keeps f A.start.need.0 used event → Next (Course f A.start.need.0) →
        Course f A.start.need.0 r m used p
    first K C = record {
      events = event ∷ C.events;
      last = C.last;
      memory = C.memory;
      along = then away S.done C.along;
      home = C.home;
      in_time = omega (arith, S.cost, C.in_time);
      empty = C.empty;
      safe = (K, C.safe);
    }

    lowered : Near S.registers.sp → Near S.registers.lowest
    lowered near =
        let bound = top_of f - (2 + A.start.need.0) in
        let kept : bound ≤ S.registers.lowest =
        rw (done_lowest r S.registers m S.stores S.cycles S.done)
        ((below_smaller bound S.registers.sp r.lowest).1 (omega (arith, near), omega (arith, low))) in
        omega (arith, kept)

    next : (Next (Ready A) → Near S.registers.lowest → Next (Course f A.start.need.0))
        → Arrived f S.registers ⊎ Next (Ready A) → Course f A.start.need.0 r m used p
    next rest (inl a) =
        first (record {
          spares = S.spares;
          sp_low = omega (arith, a.sp);
          sp_high = omega (arith, a.sp);
          sp_need = omega (arith, a.sp);
          lowest_need = omega (arith, lowered (omega (arith, a.sp)));
        })
        (record {
          events = [];
          last = S.registers;
          memory = applied S.stores m;
          along = stay;
          home = a.pc;
          in_time = omega arith;
          empty = a.sp;
          safe = tt;
        })
    next rest (inr R) =
        first (record {
          spares = S.spares;
          sp_low = omega (arith, free R);
          sp_high = omega (arith, under_top R, R.depth);
          sp_need = omega (arith, R.room);
          lowest_need = omega (arith, lowered (omega (arith, R.room)));
        })
        (rest R (lowered (omega (arith, R.room))))

  pub course : (n : ℕ) (r : Registers) (m : List ℕ) (used : List (List ℕ)) (p : ℕ) → p ≤ n → Ready A r m used p →
      Near r.lowest → Course f A.start.need.0 r m used p
  course zero r m used p b R low =
      let S = one_step R in
      absurd (omega (arith, busy r S.registers m S.stores S.cycles S.done, S.cost))
  course (suc n) r m used p b R low =
      let S = one_step R in
      next r m used p (not_home R) S low
      (course n S.registers (applied S.stores m) (in_use_after (flow_of m r.pc) S.stores used) S.left
      (omega (arith, busy r S.registers m S.stores S.cycles S.done, S.cost)))
      S.goes
