-- An operand, as GNU's assembler for the 68HC11 writes it: `*` is direct addressing, and a mask and a branch's target
-- follow after a space, as in the manual's source forms.
-- Assumes nothing.
use Rattle.std.specs.Prelude.{ℕ, List, [], ◌++◌}
use Rattle.registers.specs.Word.{target_of}
use Rattle.opcodes.specs.declared.instruction.Mode.{Mode}
use Rattle.lists.specs.Ascii.{ascii}
use Rattle.text.specs.Text.{padded}
use Rattle.text.specs.Number.{byte_hex, hex_of}

abbrev pub direct : ℕ → List ℕ
direct u = ascii "*$" ++ byte_hex u

abbrev pub by_x : ℕ → List ℕ
by_x u = ascii "$" ++ (byte_hex u ++ ascii ",X")

abbrev pub by_y : ℕ → List ℕ
by_y u = ascii "$" ++ (byte_hex u ++ ascii ",Y")

abbrev pub mask : ℕ → List ℕ
mask v = ascii " #$" ++ byte_hex v

-- where a branch goes, not by how much
abbrev pub to : ℕ → List ℕ
to address = ascii "$" ++ hex_of address

-- u, v and w are the bytes after the opcode, `next` is the address after the instruction
abbrev pub operand_in : Mode → (u v w next : ℕ) → List ℕ
operand_in Mode.Inherent u v w next = []
operand_in Mode.Immediate8 u v w next = ascii "#$" ++ byte_hex u
operand_in Mode.Immediate16 u v w next = ascii "#$" ++ (byte_hex u ++ byte_hex v)
operand_in Mode.Direct u v w next = direct u
operand_in Mode.Extended u v w next = ascii "$" ++ (byte_hex u ++ byte_hex v)
operand_in Mode.IndexedX u v w next = by_x u
operand_in Mode.IndexedY u v w next = by_y u
operand_in Mode.Relative u v w next = to (target_of next u)
operand_in Mode.MaskDirect u v w next = direct u ++ mask v
operand_in Mode.MaskX u v w next = by_x u ++ mask v
operand_in Mode.MaskY u v w next = by_y u ++ mask v
operand_in Mode.MaskBranchDirect u v w next = direct u ++ (mask v ++ (ascii " " ++ to (target_of next w)))
operand_in Mode.MaskBranchX u v w next = by_x u ++ (mask v ++ (ascii " " ++ to (target_of next w)))
operand_in Mode.MaskBranchY u v w next = by_y u ++ (mask v ++ (ascii " " ++ to (target_of next w)))

unfoldable pub operand_text : Mode → (u v w next : ℕ) → List ℕ
operand_text m u v w next = padded 17 (operand_in m u v w next)
