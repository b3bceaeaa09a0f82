-- The lowest SP: every instruction that is done keeps the smaller of the one handed in and SP afterwards; so after a
-- trace it is the least of the one handed in and SP after each instruction.
-- Assumes nothing.
use Rattle.std.specs.Prelude.{Option, Some, None}
use mathlib.Core.Path.{◌≡◌, refl, ap, subst, ◌∙◌}
use mathlib.Core.Bool.{Bool, true, false, cond}
use mathlib.Core.Logic.{◌↔◌}
use mathlib.Core.List.{List, [], ◌∷◌}
use Prim.Native.Nat.{ℕ, ◌≤◌}
use native.Mathlib.Omega.{arith}
use lib.Dec.{eqb, ltb}
use lib.ListN.{length}
use borrow.Author.Tests.{ltb-true, ltb-false}
use Rattle.registers.specs.Word.{wrapping_add, smaller_of}
use Rattle.registers.specs.Registers.{with_pc}
use Rattle.registers.specs.declared.Registers.{Registers}
use Rattle.memory.specs.Memory.{Store}
use Rattle.opcodes.specs.Tables.{length_at, cycles_at}
use Rattle.opcodes.specs.Decode.{place_in, decode_at}
use Rattle.opcodes.specs.declared.instruction.Decoded.{Decoded}
use Rattle.instructions.specs.Form.{waits}
use Rattle.instructions.specs.Entry.{form_of}
use Rattle.instructions.specs.Effect.{Effect, effect_of}
use Rattle.stepper.specs.declared.environment.Environment.{Environment}
use Rattle.stepper.specs.Step.{Did, did, stopped, fetched, executed, carried_out, did_if, did_of}
use Rattle.stepper.specs.Trace.{Event, least_sp, Along, stay, then}

-- what was done keeps the smaller of SP afterwards and s; what was refused leads to no registers
abbrev KeepsSmaller : ℕ → Did → Type 0
KeepsSmaller s (did q ws k) = q.lowest ≡ smaller_of q.sp s
KeepsSmaller s (stopped n p) = Unit

module _ (r : Registers) (m : List ℕ) where
  by_wait : (b : Bool) (e : Effect) (k : ℕ) → KeepsSmaller r.lowest (executed b r e k)
  by_wait true e k = tt
  by_wait false e k = refl

  carried : (p : ℕ) (d : Option Decoded) → KeepsSmaller r.lowest (carried_out p d r m)
  unfolding carried_out
  carried p None = tt
  carried p (Some d) =
      let next = with_pc r (wrapping_add r.pc (length_at p)) in
      by_wait (waits (form_of d.action d.operand next.pc)) (effect_of d.action d.operand next m) (cycles_at p)

  by_length : (b : Bool) → KeepsSmaller r.lowest (did_if b r m)
  by_length true = let f = fetched m r.pc in carried (place_in f) (decode_at (place_in f) f)
  by_length false = tt

  keeps_smaller : KeepsSmaller r.lowest (did_of r m)
  unfolding did_of
  keeps_smaller = by_length (eqb (length m) 65536)

pub done_lowest : (r q : Registers) (m : List ℕ) (ws : List Store) (k : ℕ) → did_of r m ≡ did q ws k
    → q.lowest ≡ smaller_of q.sp r.lowest
done_lowest r q m ws k e = subst (KeepsSmaller r.lowest) e (keeps_smaller r m)

pub trace_lowest : {env : Environment} {r e : Registers} {m n : List ℕ} {evs : List Event} → Along env r m evs e n
    → e.lowest ≡ least_sp r.lowest evs
trace_lowest stay = refl
trace_lowest (then {r} {q} {m} {ws} {k} {evs} away does rest) =
    trace_lowest rest ∙ ap (λ (s : ℕ). least_sp s evs) (done_lowest r q m ws k does)

-- no SP of a trace is below v
abbrev pub NoneBelow : ℕ → List Event → Type 0
NoneBelow v [] = Unit
NoneBelow v (ev ∷ evs) = (v ≤ ev.sp) × NoneBelow v evs

-- what is not above the smaller of two is not above both
pub below_smaller : (v a b : ℕ) → (v ≤ smaller_of a b) ↔ ((v ≤ a) × (v ≤ b))
below_smaller v a b = by (ltb a b) refl
  where
    by : (c : Bool) → ltb a b ≡ c → (v ≤ cond c a b) ↔ ((v ≤ a) × (v ≤ b))
    by true e = (λ l. (l, omega (arith, ltb-true a b e)), λ p. p.0)
    by false e = (λ l. (omega (arith, ltb-false a b e), l), λ p. p.1)

-- what is not above `least_sp` is not above s and not above any SP, and nothing else is: it is the least of them
pub least_of_all : (v s : ℕ) (evs : List Event) → (v ≤ least_sp s evs) ↔ ((v ≤ s) × NoneBelow v evs)
least_of_all v s [] = (λ l. (l, tt), λ p. p.0)
least_of_all v s (ev ∷ evs) =
    let rest = least_of_all v (smaller_of ev.sp s) evs in
    let two = below_smaller v ev.sp s in (
      λ l. let p = rest.0 l in let q = two.0 p.0 in (q.1, (q.0, p.1)),
      λ p. rest.1 (two.1 (p.1.0, p.0), p.1.1),
    )
