-- What an instruction reads: its operand, or the bytes that it pulls. The two are kept apart, and no byte is read that
-- the manual's entry does not read.
-- Assumes nothing.
use Rattle.std.specs.Prelude.{ℕ, ◌%◌, List}
use Rattle.registers.specs.Word.{wrapping_add}
use Rattle.registers.specs.declared.Registers.{Registers}
use Rattle.memory.specs.Memory.{byte_at, word_at}
use Rattle.instructions.specs.Form.{address_in}
use Rattle.opcodes.specs.declared.instruction.Address.{Address}
use Rattle.opcodes.specs.declared.instruction.Address.TheVariants.{Fixed, IndexedX, IndexedY}
use Rattle.opcodes.specs.declared.instruction.Operand.{Operand}

-- an index offset is unsigned
unfoldable pub address_of : Address → Registers → ℕ
address_of (Fixed a) r = a
address_of (IndexedX d) r = wrapping_add r.x d
address_of (IndexedY d) r = wrapping_add r.y d

-- the address that an operand names. PC stands past the instruction
unfoldable pub operand_address : Operand → Registers → ℕ
operand_address o r = address_of (address_in o r.pc) r

-- f of an immediate operand's value; for any other operand what is read in memory
abbrev pub immediate_or : (ℕ → ℕ) → Operand → ℕ → ℕ
immediate_or f Operand.Inherent read = read
immediate_or f (Operand.Immediate v) read = f v
immediate_or f (Operand.Direct d) read = read
immediate_or f (Operand.Extended a) read = read
immediate_or f (Operand.IndexedX d) read = read
immediate_or f (Operand.IndexedY d) read = read
immediate_or f (Operand.Relative d) read = read
immediate_or f (Operand.Mask a k) read = read
immediate_or f (Operand.MaskBranch a k d) read = read

unfoldable pub byte_operand : Operand → Registers → List ℕ → ℕ
byte_operand o r m = immediate_or (λ v. v % 256) o (byte_at m (operand_address o r))

unfoldable pub word_operand : Operand → Registers → List ℕ → ℕ
word_operand o r m = immediate_or (λ v. v) o (word_at m (operand_address o r))

-- the mask of a bit instruction
unfoldable pub mask_of : Operand → ℕ
mask_of Operand.Inherent = 0
mask_of (Operand.Immediate v) = 0
mask_of (Operand.Direct d) = 0
mask_of (Operand.Extended a) = 0
mask_of (Operand.IndexedX d) = 0
mask_of (Operand.IndexedY d) = 0
mask_of (Operand.Relative d) = 0
mask_of (Operand.Mask a k) = k
mask_of (Operand.MaskBranch a k d) = k

pub data Reads : Type 0 where
  nothing operand_byte operand_word pulled_byte pulled_word : Reads

-- what is read: 0 where nothing is
unfoldable pub input_of : Reads → Operand → Registers → List ℕ → ℕ
input_of nothing o r m = 0
input_of operand_byte o r m = byte_operand o r m
input_of operand_word o r m = word_operand o r m
input_of pulled_byte o r m = byte_at m (wrapping_add r.sp 1)
input_of pulled_word o r m = word_at m (wrapping_add r.sp 1)
