-- The invariant of the loop that a step and a run share: where some turns have come to, and what a turn makes of it.
-- Assumes nothing.
use Rattle.std.specs.Prelude.{Option}
use mathlib.Core.Path.{◌≡◌, ap, ◌∙◌}
use mathlib.Core.Bool.{true, false}
use mathlib.Core.List.{List}
use Prim.Native.Nat.{ℕ, suc, pred, ◌+◌, ◌-◌, ◌≤◌, ◌<◌}
use native.Mathlib.Omega.{arith}
use lib.ListN.{length}
use Rattle.registers.specs.declared.Registers.{Registers}
use Rattle.stepper.specs.Answer.{refused, home as run_home, spent, refused as run_refused}
use Rattle.stepper.specs.Step.{After, step_of}
use Rattle.stepper.specs.inner.Until.{ends_loop, until_from, next_from, until_of, after_done}
use Rattle.stepper.proofs.Costs.{step_cost}
use Rattle.stepper.proofs.LoopTurn.{refuses, over, steps, ended, goes_on}

-- from registers r₀ and memory m₀ the loop has come to r and the whole memory m, with `left` of the budget b left, and
-- `turns` turns or more may follow
pub record CameTo (home : Option ℕ) (b : ℕ) (r₀ : Registers) (m₀ : List ℕ) (left : ℕ)
    (r : Registers) (m : List ℕ) : Type 0 where
  pub whole : length m ≡ 65536
  pub within : left ≤ b
  pub turns : ℕ
  pub enough : left ≤ turns
  pub same : until_of home r₀ m₀ b ≡ next_from home turns b (b - left) r m

pub begun : (home : Option ℕ) (b : ℕ) (r : Registers) (m : List ℕ) → length m ≡ 65536 → CameTo home b r m b r m
begun home b r m whole =
    let z : 0 ≡ b - b = omega arith in
    record {
      whole = whole;
      within = omega arith;
      turns = b;
      enough = omega arith;
      same = ap (λ (x : ℕ). next_from home b b x r m) z;
    }

module _ {home : Option ℕ} {b : ℕ} {r₀ : Registers} {m₀ : List ℕ} {left : ℕ} {r : Registers} {m : List ℕ}
    (i : CameTo home b r₀ m₀ left r m) where
  pub stopped : {number place : ℕ} {m' : List ℕ} → step_of r m ≡ record { answer = refused number place; memory = m' }
      → until_of home r₀ m₀ b
      ≡ record { answer = run_refused number place r (record { 0 = b - left }); memory = m' }
  stopped e = i.same ∙ refuses home i.turns b (b - left) r m e

  -- a step to the registers q and the memory m' in k cycles
  module _ {q : Registers} {k : ℕ} {m' : List ℕ} (e : step_of r m ≡ after_done q k m') where
    pub uncovered : left < k
        → until_of home r₀ m₀ b ≡ record { answer = spent r (record { 0 = b - left }); memory = m }
    uncovered l =
        i.same
        ∙ over home i.turns b (b - left) r m (ap (λ (x : After). x.answer) e) (omega (arith, l, i.within))

    pub cost : 2 ≤ k
    cost = step_cost r m q (record { 0 = k }) (ap (λ (x : After). x.answer) e)

    module _ (covered : k ≤ left) where
      -- a turn fewer may follow
      carried_on : until_of home r₀ m₀ b ≡ until_from home (suc (pred i.turns)) b (b - (left - k)) q m'
      carried_on =
          let one : i.turns ≡ suc (pred i.turns) = omega (arith, cost, covered, i.enough) in
          let s : b - left + k ≡ b - (left - k) = omega (arith, covered, i.within) in
          i.same ∙ steps home i.turns b (b - left) r m e (omega (arith, covered, i.within))
          ∙ ap (λ (x : ℕ). until_from home i.turns b x q m') s
          ∙ ap (λ (x : ℕ). until_from home x b (b - (left - k)) q m') one

      pub finished : ends_loop home q.pc ≡ true
          → until_of home r₀ m₀ b ≡ record { answer = run_home q (record { 0 = b - (left - k) }); memory = m' }
      finished t = carried_on ∙ ended home (pred i.turns) b (b - (left - k)) q m' t

      pub again : ends_loop home q.pc ≡ false → length m' ≡ 65536 → CameTo home b r₀ m₀ (left - k) q m'
      again f whole =
          record {
            whole = whole;
            within = omega (arith, i.within);
            turns = pred i.turns;
            enough = omega (arith, cost, covered, i.enough);
            same = carried_on ∙ goes_on home (pred i.turns) b (b - (left - k)) q m' f;
          }
