-- What a step comes to, by what the code finds at PC.
-- Assumes nothing.
use Rattle.std.specs.Prelude.{Option, Some, None}
use mathlib.Core.Path.{◌≡◌, sym, ap, ◌∙◌}
use mathlib.Core.Bool.{Bool, true, false}
use mathlib.Core.List.{List}
use Prim.Native.Nat.{ℕ, ◌/◌, ◌%◌, ◌<◌}
use lib.ListN.{length}
use borrow.Author.Tests.{eq-eqb, ne_eqb}
use Rattle.registers.proofs.Wrap.{plus_zero, plus_plus}
use Rattle.registers.specs.Word.{wrapping_add, smaller_of}
use Rattle.registers.specs.Registers.{with_pc, with_lowest}
use Rattle.registers.specs.declared.Registers.{Registers}
use Rattle.memory.specs.Memory.{byte_at, applied}
use Rattle.opcodes.proofs.Fits.{fitting}
use Rattle.opcodes.proofs.Says.{Said, there_says, nowhere_says, none_there}
use Rattle.opcodes.specs.Tables.{action_at, mode_at}
use Rattle.opcodes.specs.inner.Numbers.{action_of, mode_of}
use Rattle.opcodes.specs.inner.Fits.{fits}
use Rattle.opcodes.specs.Decode.{opcode_place, instruction_of, place_in, decode_at}
use Rattle.opcodes.specs.inner.Lookup.{found_of}
use Rattle.instructions.specs.Form.{waits}
use Rattle.instructions.specs.Entry.{form_of}
use Rattle.opcodes.specs.declared.lookup.Found.{Found}
use Rattle.opcodes.specs.declared.instruction.Operand.{Operand}
use Rattle.instructions.specs.Effect.{Effect, effect_of}
use Rattle.instructions.specs.inner.Sited.{operand_from, Executed, Waiting}
use Rattle.stepper.specs.Answer.{refused}
use Rattle.stepper.specs.Step.{fetched, lowered_from, carried_out, did_of, step_of}
use Rattle.stepper.specs.inner.Until.{after_done}

pub unfit : (r : Registers) (m : List ℕ) → (length m ≡ 65536 → ⊥)
    → step_of r m ≡ record { answer = refused 21 0; memory = m }
unfolding step_of did_of
unfit r m n = simp (ne_eqb _ _ n)

-- what is found by the two bytes at PC
abbrev pub found_at : Registers → List ℕ → Option Found
found_at r m = found_of (byte_at m r.pc) (byte_at m (wrapping_add r.pc 1))

place : (r : Registers) (m : List ℕ) → r.pc < 65536 → place_in (fetched m r.pc)
    ≡ opcode_place (byte_at m r.pc) (byte_at m (wrapping_add r.pc 1))
place r m low = ap (λ (a : ℕ). opcode_place (byte_at m a) (byte_at m (wrapping_add r.pc 1))) (plus_zero r.pc low)

pub nowhere : (r : Registers) (m : List ℕ) → length m ≡ 65536 → r.pc < 65536 → found_at r m ≡ None
    → step_of r m ≡ record { answer = refused 22 r.pc; memory = m }
unfolding step_of did_of carried_out
nowhere r m h low n = simp (eq-eqb _ _ h, place r m low, none_there _ (fetched m r.pc) (nowhere_says _ _ n))

-- at PC an instruction is found
pub record Here (r : Registers) (m : List ℕ) (x : Found) : Type 0 where
  pub whole : length m ≡ 65536
  pub low : r.pc < 65536
  pub found : found_at r m ≡ Some x

module _ {r : Registers} {m : List ℕ} {x : Found} (h : Here r m x) where
  says : Said (byte_at m r.pc) (byte_at m (wrapping_add r.pc 1)) x
  says = there_says _ _ x h.found

  abbrev operand : Operand
  operand = operand_from (mode_at x.place) (wrapping_add r.pc x.size) m

  abbrev past : Registers
  past = with_pc r (wrapping_add r.pc (x.cost / 256))

  decoded : decode_at x.place (fetched m r.pc) ≡ Some (record { action = action_at x.place; operand = operand })
  unfolding decode_at instruction_of
  decoded = simp (ne_eqb _ _ says.3, says.1, plus_plus)

  pub effect : Effect
  effect = effect_of (action_at x.place) operand past m

  abbrev waits_here : Bool
  waits_here = waits (form_of (action_at x.place) operand past.pc)

  held : waits_here ≡ true → step_of r m ≡ record { answer = refused 23 r.pc; memory = m }
  unfolding step_of did_of carried_out
  held t = simp (eq-eqb _ _ h.whole, place r m h.low, says.0, decoded, says.2, t)

  carried : waits_here ≡ false
      → step_of r m ≡ after_done (lowered_from r effect.regs) (x.cost % 256) (applied effect.stores m)
  unfolding step_of did_of carried_out effect
  carried t = simp (eq-eqb _ _ h.whole, place r m h.low, says.0, decoded, says.2, t)

  -- n is a number of the action, and the code says whether it waits
  module _ (n : ℕ) (action : action_of n ≡ action_at x.place) {b : Bool} (w : Waiting (action_of n) b) where
    waits_here_by : waits_here ≡ b
    waits_here_by = rw action at (w operand past.pc)

    pub waiting : b ≡ true → step_of r m ≡ record { answer = refused 23 r.pc; memory = m }
    waiting t = held (waits_here_by ∙ t)

    pub done_here : b ≡ false
        → step_of r m ≡ after_done (lowered_from r effect.regs) (x.cost % 256) (applied effect.stores m)
    done_here t = carried (waits_here_by ∙ t)

    -- k is a number of the mode, and the code executes the two from these registers v; the lowest SP, which it keeps
    -- beside the registers, is low before and low' after
    pub executes : b ≡ false → (k : ℕ) → mode_of k ≡ mode_at x.place → {from next : ℕ} {v q : Registers} {m' : List ℕ}
        {low low' : ℕ}
        → from ≡ wrapping_add r.pc x.size → next ≡ wrapping_add r.pc (x.cost / 256) → v ≡ with_pc r next
        → Executed (effect_of (action_of n) (operand_from (mode_of k) from m) v m) q m m'
        → r.lowest ≡ low → low' ≡ smaller_of q.sp low → step_of r m ≡ after_done (with_lowest q low') (x.cost % 256) m'
    unfolding effect
    executes t k mode {from} {next} {v} {q} {m'} {low} {low'} ef en ev does before after =
        let y : Executed effect q m m' = rw (action, mode, ef, ev, en) at does in
        let same : lowered_from r q ≡ with_lowest q low' = rw (before, after) in
        done_here t
        ∙ ap (λ (z : Registers). after_done (lowered_from r z) (x.cost % 256) (applied effect.stores m)) (sym y.0)
        ∙ ap (λ (z : List ℕ). after_done (lowered_from r q) (x.cost % 256) z) (sym y.1)
        ∙ ap (λ (z : Registers). after_done z (x.cost % 256) m') same

pub fit : (p n k : ℕ) → action_of n ≡ action_at p → mode_of k ≡ mode_at p → fits (action_of n) (mode_of k) ≡ true
fit p n k action mode = rw (action, mode) (fitting p)
