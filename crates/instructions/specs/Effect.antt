-- The effect of an instruction, as data: the registers afterwards and the stores in order. PC, SP and the addresses
-- stored to come from the form, the rest from what is computed over values (the manual's "Operation" of each entry;
-- document 01, "The machine").
-- Assumes nothing.
use Rattle.std.specs.Prelude.{ℕ, cond, List, [], ◌∷◌}
use Rattle.registers.specs.Word.{wrapping_add, wrapping_sub}
use Rattle.registers.specs.Registers.{with_data, with_pc, with_sp, with_pc_sp}
use Rattle.registers.specs.declared.Registers.{Registers}
use Rattle.memory.specs.Memory.{word_at, Store, store, word_stores, push_stores}
use Rattle.instructions.specs.Entry.{form_of, reads_of, outcome_of}
use Rattle.opcodes.specs.declared.instruction.Action.{Action}
use Rattle.opcodes.specs.declared.instruction.Operand.{Operand}
use Rattle.instructions.specs.declared.form.Form.{Form}
use Rattle.instructions.specs.declared.form.Form.TheVariants.{Computes, StoresByte, StoresWord, PushesByte}
use Rattle.instructions.specs.declared.form.Form.TheVariants.{PushesWord, PullsByte, PullsWord, Reserves}
use Rattle.instructions.specs.declared.form.Form.TheVariants.{Releases, Branches, Jumps, Calls, Returns, MovesSp}
use Rattle.instructions.specs.declared.form.Form.TheVariants.{Interrupts, Resumes, Waits}
use Rattle.instructions.specs.Operand.{address_of, input_of, mask_of}
use Rattle.instructions.specs.Outcome.{Outcome}
use Rattle.instructions.specs.Interrupt.{stacked_of, interrupted_of, resumed_of}

pub record Effect : Type 0 where
  pub regs : Registers
  pub stores : List Store

abbrev pub effect : Registers → List Store → Effect
effect r ws = record { regs = r; stores = ws }

-- r is the registers before, with PC past the instruction; q is r with what was computed
unfoldable pub effect_by : Form → Registers → Registers → Outcome → List ℕ → Effect
effect_by Computes r q w m = effect q []
effect_by (StoresByte p) r q w m = effect q (store (address_of p r) w.value ∷ [])
effect_by (StoresWord p) r q w m = effect q (word_stores (address_of p r) w.value)
effect_by PushesByte r q w m = effect (with_sp q (wrapping_sub r.sp 1)) (store r.sp w.value ∷ [])
effect_by PushesWord r q w m = effect (with_sp q (wrapping_sub r.sp 2)) (push_stores r.sp w.value)
effect_by PullsByte r q w m = effect (with_sp q (wrapping_add r.sp 1)) []
effect_by PullsWord r q w m = effect (with_sp q (wrapping_add r.sp 2)) []
effect_by Reserves r q w m = effect (with_sp q (wrapping_sub r.sp 1)) []
effect_by Releases r q w m = effect (with_sp q (wrapping_add r.sp 1)) []
effect_by (Branches t) r q w m = effect (with_pc q (cond w.taken t r.pc)) []
effect_by (Jumps p) r q w m = effect (with_pc q (address_of p r)) []
effect_by (Calls p) r q w m = effect (with_pc_sp q (address_of p r) (wrapping_sub r.sp 2)) (push_stores r.sp r.pc)
effect_by Returns r q w m = effect (with_pc_sp q (word_at m (wrapping_add r.sp 1)) (wrapping_add r.sp 2)) []
effect_by MovesSp r q w m = effect (with_sp q w.value) []
effect_by Interrupts r q w m = effect (interrupted_of r m) (stacked_of r)
effect_by Resumes r q w m = effect (resumed_of r m) []
effect_by Waits r q w m = effect r []

abbrev pub effect_with : Form → Registers → Outcome → List ℕ → Effect
effect_with g r w m = effect_by g r (with_data r w.regs) w m

unfoldable pub effect_of : Action → Operand → Registers → List ℕ → Effect
effect_of a o r m = effect_with (form_of a o r.pc) r (outcome_of a (mask_of o) (input_of (reads_of a) o r m) r) m
