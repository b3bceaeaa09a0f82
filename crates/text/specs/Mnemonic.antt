-- The name of an instruction, as the manual and an assembler write it. Where there are two, it is ASL and not LSL, BCC
-- and not BHS, BCS and not BLO.
-- Assumes nothing.
use Rattle.std.specs.Prelude.{ℕ, ◌%◌, cond, List, [], ◌∷◌, ◌++◌, get_or}
use Prim.Native.String.{String}
use Rattle.opcodes.specs.inner.Fits.{relative_mode}
use Rattle.opcodes.specs.declared.instruction.Action.{Action}
use Rattle.opcodes.specs.declared.instruction.Action.TheVariants.{Inherent, Unary, TstAccumulator, Binary, TstMemory}
use Rattle.opcodes.specs.declared.instruction.Action.TheVariants.{LoadWord, Addd, Subd, CompareWord, StoreByte}
use Rattle.opcodes.specs.declared.instruction.Action.TheVariants.{StoreWord, Modify, Bset, Bclr, Brset, Brclr, Branch}
use Rattle.opcodes.specs.declared.instruction.Action.TheVariants.{Jmp, Call, Rts, PushByte, PushWord, PullByte}
use Rattle.opcodes.specs.declared.instruction.Action.TheVariants.{PullWord, Des, Ins, SetStack, Swi, Rti, Wai, Stop}
use Rattle.opcodes.specs.declared.instruction.Action.TheVariants.{Test}
use Rattle.opcodes.specs.declared.instruction.Inherent.{Inherent as Registers}
use Rattle.opcodes.specs.declared.instruction.Inherent.TheVariants as I
use Rattle.opcodes.specs.declared.instruction.Unary.{Unary as OfOne}
use Rattle.opcodes.specs.declared.instruction.Unary.TheVariants as Un
use Rattle.opcodes.specs.declared.instruction.Binary.{Binary as OfTwo}
use Rattle.opcodes.specs.declared.instruction.Binary.TheVariants as Bi
use Rattle.opcodes.specs.declared.instruction.Accumulator.{Accumulator}
use Rattle.opcodes.specs.declared.instruction.Accumulator.TheVariants as Acc
use Rattle.opcodes.specs.declared.instruction.Index.{Index}
use Rattle.opcodes.specs.declared.instruction.Index.TheVariants as Ix
use Rattle.opcodes.specs.declared.instruction.Word.{Word}
use Rattle.opcodes.specs.declared.instruction.Word.TheVariants as Wd
use Rattle.opcodes.specs.declared.instruction.Mode.{Mode}
use Rattle.lists.specs.Ascii.{ascii}
use Rattle.text.specs.Text.{padded}

abbrev pub name : String → List ℕ
name s = padded 5 (ascii s)

abbrev pub accumulator_name : Accumulator → List ℕ
accumulator_name Acc.A = ascii "A"
accumulator_name Acc.B = ascii "B"

abbrev pub index_name : Index → List ℕ
index_name Ix.X = ascii "X"
index_name Ix.Y = ascii "Y"

abbrev pub word_name : Word → List ℕ
word_name Wd.D = ascii "D"
word_name Wd.X = ascii "X"
word_name Wd.Y = ascii "Y"
word_name Wd.S = ascii "S"

abbrev pub unary_name : OfOne → List ℕ
unary_name Un.Neg = ascii "NEG"
unary_name Un.Com = ascii "COM"
unary_name Un.Lsr = ascii "LSR"
unary_name Un.Ror = ascii "ROR"
unary_name Un.Asr = ascii "ASR"
unary_name Un.Asl = ascii "ASL"
unary_name Un.Rol = ascii "ROL"
unary_name Un.Dec = ascii "DEC"
unary_name Un.Inc = ascii "INC"
unary_name Un.Clr = ascii "CLR"

abbrev pub binary_name : OfTwo → List ℕ
binary_name Bi.Sub = ascii "SUB"
binary_name Bi.Cmp = ascii "CMP"
binary_name Bi.Sbc = ascii "SBC"
binary_name Bi.And = ascii "AND"
binary_name Bi.Bit = ascii "BIT"
binary_name Bi.Lda = ascii "LDA"
binary_name Bi.Eor = ascii "EOR"
binary_name Bi.Adc = ascii "ADC"
binary_name Bi.Ora = ascii "ORA"
binary_name Bi.Add = ascii "ADD"

abbrev pub inherent_name : Registers → List ℕ
inherent_name I.Nop = name "NOP"
inherent_name I.Idiv = name "IDIV"
inherent_name I.Fdiv = name "FDIV"
inherent_name I.Lsrd = name "LSRD"
inherent_name I.Asld = name "ASLD"
inherent_name I.Tap = name "TAP"
inherent_name I.Tpa = name "TPA"
inherent_name I.Inx = name "INX"
inherent_name I.Dex = name "DEX"
inherent_name I.Iny = name "INY"
inherent_name I.Dey = name "DEY"
inherent_name I.Clv = name "CLV"
inherent_name I.Sev = name "SEV"
inherent_name I.Clc = name "CLC"
inherent_name I.Sec = name "SEC"
inherent_name I.Cli = name "CLI"
inherent_name I.Sei = name "SEI"
inherent_name I.Sba = name "SBA"
inherent_name I.Cba = name "CBA"
inherent_name I.Tab = name "TAB"
inherent_name I.Tba = name "TBA"
inherent_name I.Daa = name "DAA"
inherent_name I.Aba = name "ABA"
inherent_name I.Tsx = name "TSX"
inherent_name I.Tsy = name "TSY"
inherent_name I.Abx = name "ABX"
inherent_name I.Aby = name "ABY"
inherent_name I.Mul = name "MUL"
inherent_name I.Xgdx = name "XGDX"
inherent_name I.Xgdy = name "XGDY"

-- the name of opcode $20 + k stands at k
abbrev pub branch_names : List (List ℕ)
branch_names =
    name "BRA" ∷ name "BRN" ∷ name "BHI" ∷ name "BLS" ∷ name "BCC" ∷ name "BCS" ∷ name "BNE" ∷ name "BEQ" ∷
    name "BVC" ∷ name "BVS" ∷ name "BPL" ∷ name "BMI" ∷ name "BGE" ∷ name "BLT" ∷ name "BGT" ∷ name "BLE" ∷ []

abbrev pub branch_name : ℕ → List ℕ
branch_name k = get_or branch_names (k % 16) (name "")

-- a relative call is BSR
abbrev pub call_name : Mode → List ℕ
call_name m = cond (relative_mode m) (name "BSR") (name "JSR")

unfoldable pub mnemonic_of : Action → Mode → List ℕ
mnemonic_of (Inherent i) m = inherent_name i
mnemonic_of (Unary u c) m = padded 5 (unary_name u ++ accumulator_name c)
mnemonic_of (TstAccumulator c) m = padded 5 (ascii "TST" ++ accumulator_name c)
mnemonic_of (Binary b c) m = padded 5 (binary_name b ++ accumulator_name c)
mnemonic_of TstMemory m = name "TST"
mnemonic_of (LoadWord w) m = padded 5 (ascii "LD" ++ word_name w)
mnemonic_of Addd m = name "ADDD"
mnemonic_of Subd m = name "SUBD"
mnemonic_of (CompareWord w) m = padded 5 (ascii "CP" ++ word_name w)
mnemonic_of (StoreByte c) m = padded 5 (ascii "STA" ++ accumulator_name c)
mnemonic_of (StoreWord w) m = padded 5 (ascii "ST" ++ word_name w)
mnemonic_of (Modify u) m = padded 5 (unary_name u)
mnemonic_of Bset m = name "BSET"
mnemonic_of Bclr m = name "BCLR"
mnemonic_of Brset m = name "BRSET"
mnemonic_of Brclr m = name "BRCLR"
mnemonic_of (Branch k) m = branch_name k
mnemonic_of Jmp m = name "JMP"
mnemonic_of Call m = call_name m
mnemonic_of Rts m = name "RTS"
mnemonic_of (PushByte c) m = padded 5 (ascii "PSH" ++ accumulator_name c)
mnemonic_of (PushWord i) m = padded 5 (ascii "PSH" ++ index_name i)
mnemonic_of (PullByte c) m = padded 5 (ascii "PUL" ++ accumulator_name c)
mnemonic_of (PullWord i) m = padded 5 (ascii "PUL" ++ index_name i)
mnemonic_of Des m = name "DES"
mnemonic_of Ins m = name "INS"
mnemonic_of (SetStack i) m = padded 5 (ascii "T" ++ (index_name i ++ ascii "S"))
mnemonic_of Swi m = name "SWI"
mnemonic_of Rti m = name "RTI"
mnemonic_of Wai m = name "WAI"
mnemonic_of Stop m = name "STOP"
mnemonic_of Test m = name "TEST"
