-- The registers by name: what an action has as its data.
-- Assumes nothing.
use Rattle.std.specs.Prelude.{ℕ}
use Rattle.registers.specs.Flags.{byte_of}
use Rattle.registers.specs.Registers.{accumulator_d, with_a, with_b, with_d, with_x, with_y, with_flags}
use Rattle.registers.specs.declared.Data.{Data}
use Rattle.opcodes.specs.declared.instruction.Accumulator.{Accumulator}
use Rattle.opcodes.specs.declared.instruction.Accumulator.TheVariants as Acc
use Rattle.opcodes.specs.declared.instruction.Index.{Index}
use Rattle.opcodes.specs.declared.instruction.Index.TheVariants as Ix
use Rattle.opcodes.specs.declared.instruction.Word.{Word}
use Rattle.opcodes.specs.declared.instruction.Word.TheVariants as Wd
use Rattle.arithmetic.specs.Result.{Result}

unfoldable pub accumulator_of : Accumulator → Data → ℕ
accumulator_of Acc.A d = d.a
accumulator_of Acc.B d = d.b

unfoldable pub with_accumulator : Accumulator → Data → ℕ → ℕ → Data
with_accumulator Acc.A d v f = with_a d v f
with_accumulator Acc.B d v f = with_b d v f

-- a result with its condition codes
abbrev pub to_accumulator : Accumulator → Data → Result → Data
to_accumulator c d w = with_accumulator c d w.value (byte_of w.flags)

unfoldable pub index_register_of : Index → Data → ℕ
index_register_of Ix.X d = d.x
index_register_of Ix.Y d = d.y

-- PULX and PULY: a pull changes no condition code
unfoldable pub with_index : Index → Data → ℕ → Data
with_index Ix.X d v = with_x d v d.flags
with_index Ix.Y d v = with_y d v d.flags

unfoldable pub word_register_of : Word → ℕ → Data → ℕ
word_register_of Wd.D sp d = accumulator_d d
word_register_of Wd.X sp d = d.x
word_register_of Wd.Y sp d = d.y
word_register_of Wd.S sp d = sp

-- a word and the flags; SP is not among the data, and LDS moves it by its form
unfoldable pub to_word : Word → Data → ℕ → ℕ → Data
to_word Wd.D d v f = with_d d v f
to_word Wd.X d v f = with_x d v f
to_word Wd.Y d v f = with_y d v f
to_word Wd.S d v f = with_flags d f
