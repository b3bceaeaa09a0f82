-- What stands at an address, by the bytes from there on: an opcode of one byte, or $18, $1A or $CD and a second byte;
-- then the operand (document 01).
-- Assumes nothing.
use Rattle.std.specs.Prelude.{ℕ, ◌+◌, ◌*◌, cond, eqb, ltb, Option, Some, None}
use Rattle.opcodes.specs.declared.instruction.Address.{Address}
use Rattle.opcodes.specs.declared.instruction.Operand.{Operand}
use Rattle.opcodes.specs.declared.instruction.Mode.{Mode}
use Rattle.opcodes.specs.declared.instruction.Decoded.{Decoded}
use Rattle.opcodes.specs.Tables.{cost_at, action_at, mode_at}

-- the bytes from an address on, by their offset: only the first five are looked at
abbrev pub Bytes : Type 0
Bytes = ℕ → ℕ

-- 256 times the map that a first byte leads to
unfoldable pub page_of : ℕ → ℕ
page_of op = cond (eqb op 0x18) 256 (cond (eqb op 0x1a) 512 (cond (eqb op 0xcd) 768 0))

-- the place of an opcode in the four maps
unfoldable pub opcode_place : ℕ → ℕ → ℕ
opcode_place first second = cond (eqb (page_of first) 0) first (page_of first + second)

-- how many bytes the opcode has
unfoldable pub opcode_size : ℕ → ℕ
opcode_size place = cond (ltb place 256) 1 2

abbrev pub word_from : ℕ → ℕ → ℕ
word_from high low = high * 256 + low

-- an operand of a mode, from the three bytes after the opcode
unfoldable pub operand_of : Mode → ℕ → ℕ → ℕ → Operand
operand_of Mode.Inherent u v w = Operand.Inherent
operand_of Mode.Immediate8 u v w = Operand.Immediate u
operand_of Mode.Immediate16 u v w = Operand.Immediate (word_from u v)
operand_of Mode.Direct u v w = Operand.Direct u
operand_of Mode.Extended u v w = Operand.Extended (word_from u v)
operand_of Mode.IndexedX u v w = Operand.IndexedX u
operand_of Mode.IndexedY u v w = Operand.IndexedY u
operand_of Mode.Relative u v w = Operand.Relative u
operand_of Mode.MaskDirect u v w = Operand.Mask (Address.Fixed u) v
operand_of Mode.MaskX u v w = Operand.Mask (Address.IndexedX u) v
operand_of Mode.MaskY u v w = Operand.Mask (Address.IndexedY u) v
operand_of Mode.MaskBranchDirect u v w = Operand.MaskBranch (Address.Fixed u) v w
operand_of Mode.MaskBranchX u v w = Operand.MaskBranch (Address.IndexedX u) v w
operand_of Mode.MaskBranchY u v w = Operand.MaskBranch (Address.IndexedY u) v w

-- how many bytes an operand of a mode has
abbrev pub operand_size : Mode → ℕ
operand_size Mode.Inherent = 0
operand_size Mode.Immediate8 = 1
operand_size Mode.Immediate16 = 2
operand_size Mode.Direct = 1
operand_size Mode.Extended = 2
operand_size Mode.IndexedX = 1
operand_size Mode.IndexedY = 1
operand_size Mode.Relative = 1
operand_size Mode.MaskDirect = 2
operand_size Mode.MaskX = 2
operand_size Mode.MaskY = 2
operand_size Mode.MaskBranchDirect = 3
operand_size Mode.MaskBranchX = 3
operand_size Mode.MaskBranchY = 3

-- the instruction of a place, whose operand's bytes are u, v and w
unfoldable pub instruction_of : ℕ → ℕ → ℕ → ℕ → Decoded
instruction_of place u v w = record { action = action_at place; operand = operand_of (mode_at place) u v w }

abbrev pub place_in : Bytes → ℕ
place_in f = opcode_place (f 0) (f 1)

-- no instruction where the table has 0
unfoldable pub decode_at : ℕ → Bytes → Option Decoded
decode_at place f =
    let n = opcode_size place in
    cond (eqb (cost_at place) 0) None (Some (instruction_of place (f n) (f (n + 1)) (f (n + 2))))

abbrev pub decode_of : Bytes → Option Decoded
decode_of f = decode_at (place_in f) f
