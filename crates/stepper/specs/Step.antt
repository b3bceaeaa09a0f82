-- One step: what it does, as data, and from that its answer and the memory afterwards (document 01, "The machine").
-- Assumes nothing.
use Rattle.std.specs.Prelude.{ℕ, Bool, true, false, List, Option, Some, None, eqb, length}
use Rattle.registers.specs.Word.{wrapping_add, smaller_of}
use Rattle.registers.specs.Registers.{with_pc, with_lowest}
use Rattle.registers.specs.declared.Registers.{Registers}
use Rattle.memory.specs.Memory.{byte_at, Store, applied}
use Rattle.opcodes.specs.Tables.{length_at, cycles_at}
use Rattle.opcodes.specs.Decode.{Bytes, place_in, decode_at}
use Rattle.instructions.specs.Form.{waits}
use Rattle.instructions.specs.Entry.{form_of}
use Rattle.opcodes.specs.declared.instruction.Decoded.{Decoded}
use Rattle.instructions.specs.Effect.{Effect, effect_of}
use Rattle.stepper.specs.Answer.{Answer, done, refused}

-- the bytes from an address on; the address wraps
abbrev pub fetched : List ℕ → ℕ → Bytes
fetched m pc = λ i. byte_at m (wrapping_add pc i)

-- the registers afterwards, the stores in order and the cycles; or a refusal's number and place
pub data Did : Type 0 where
  did : Registers → List Store → ℕ → Did
  stopped : (number place : ℕ) → Did

-- after an instruction that leads from the registers r to q the lowest SP is the smaller of SP afterwards and the one
-- handed in, as numbers (document 02, b)
abbrev pub lowered_from : Registers → Registers → Registers
lowered_from r q = with_lowest q (smaller_of q.sp r.lowest)

-- WAI, STOP and TEST are refused
abbrev pub executed : Bool → Registers → Effect → ℕ → Did
executed true r e k = stopped 23 r.pc
executed false r e k = did (lowered_from r e.regs) e.stores k

-- what is decoded at a place is done with PC past the instruction
unfoldable pub carried_out : ℕ → Option Decoded → Registers → List ℕ → Did
carried_out p None r m = stopped 22 r.pc
carried_out p (Some d) r m =
    let q = with_pc r (wrapping_add r.pc (length_at p)) in
    executed (waits (form_of d.action d.operand q.pc)) r (effect_of d.action d.operand q m) (cycles_at p)

abbrev pub did_if : Bool → Registers → List ℕ → Did
did_if true r m = let f = fetched m r.pc in carried_out (place_in f) (decode_at (place_in f) f) r m
did_if false r m = stopped 21 0

-- a memory of another length is refused first
unfoldable pub did_of : Registers → List ℕ → Did
did_of r m = did_if (eqb (length m) 65536) r m

pub record After : Type 0 where
  pub answer : Answer
  pub memory : List ℕ

-- a refused step changes nothing
abbrev pub after : Did → List ℕ → After
after (did q ws k) m = record { answer = done q (record { 0 = k }); memory = applied ws m }
after (stopped n p) m = record { answer = refused n p; memory = m }

unfoldable pub step_of : Registers → List ℕ → After
step_of r m = after (did_of r m) m
