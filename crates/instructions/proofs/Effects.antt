-- A name under which all that an effect is made of is unfolded.
-- Assumes nothing.
use mathlib.Core.List.{List}
use Prim.Native.Nat.{ℕ}
use Rattle.registers.specs.declared.Registers.{Registers}
use Rattle.memory.specs.inner.Stored.{with_stored, with_pushed}
use Rattle.instructions.specs.Entry.{form_of, reads_of, outcome_of}
use Rattle.opcodes.specs.declared.instruction.Action.{Action}
use Rattle.opcodes.specs.declared.instruction.Operand.{Operand}
use Rattle.instructions.specs.Operand.{operand_address, input_of}
use Rattle.instructions.specs.Effect.{Effect, effect_by, effect_of}

unfoldable pub opened : Action → Operand → Registers → List ℕ → Effect
unfolding with_stored with_pushed form_of operand_address reads_of input_of outcome_of effect_by effect_of
opened a o r m = effect_of a o r m
