-- The documented instructions, a row each: the place (256 for each opcode map, then the opcode), the action, the mode,
-- the length and the cycles. From the manual's cycle-by-cycle tables, misprints mended (docs/DECISIONS.md). Maps: 0 no
-- prefix, 1 after $18, 2 after $1A, 3 after $CD. TEST and WAI, which have no fixed count, stand with 2 and 14 (document
-- 01).
-- Assumes nothing.
use Rattle.std.specs.Prelude.{ℕ, List, [], ◌∷◌}
use Rattle.opcodes.specs.declared.instruction.Action.{Action}
use Rattle.opcodes.specs.declared.instruction.Action.TheVariants.{Inherent, Unary, Binary, TstAccumulator}
use Rattle.opcodes.specs.declared.instruction.Action.TheVariants.{TstMemory, LoadWord, Addd, Subd, CompareWord}
use Rattle.opcodes.specs.declared.instruction.Action.TheVariants.{StoreByte, StoreWord, Modify, Bset, Bclr}
use Rattle.opcodes.specs.declared.instruction.Action.TheVariants.{Brset, Brclr, Branch, Jmp, Call, Rts, PushByte}
use Rattle.opcodes.specs.declared.instruction.Action.TheVariants.{PushWord, PullByte, PullWord, Des, Ins}
use Rattle.opcodes.specs.declared.instruction.Action.TheVariants.{SetStack, Swi, Rti, Wai, Stop, Test}
use Rattle.opcodes.specs.declared.instruction.Inherent.TheVariants as I
use Rattle.opcodes.specs.declared.instruction.Unary.TheVariants as Un
use Rattle.opcodes.specs.declared.instruction.Binary.TheVariants as Bi
use Rattle.opcodes.specs.declared.instruction.Accumulator.TheVariants as Acc
use Rattle.opcodes.specs.declared.instruction.Index.TheVariants as Ix
use Rattle.opcodes.specs.declared.instruction.Word.TheVariants as Wd
use Rattle.opcodes.specs.declared.instruction.Mode.{Mode}

pub record Row : Type 0 where
  pub place : ℕ
  pub action : Action
  pub mode : Mode
  pub length : ℕ
  pub cycles : ℕ

abbrev pub row : ℕ → Action → Mode → ℕ → ℕ → Row
row p a m l c = record { place = p; action = a; mode = m; length = l; cycles = c }

unfoldable pub rows : List Row
rows =
    row 0x000 Test Mode.Inherent 1 2 ∷  -- TEST
    row 0x001 (Inherent I.Nop) Mode.Inherent 1 2 ∷  -- NOP
    row 0x002 (Inherent I.Idiv) Mode.Inherent 1 41 ∷  -- IDIV
    row 0x003 (Inherent I.Fdiv) Mode.Inherent 1 41 ∷  -- FDIV
    row 0x004 (Inherent I.Lsrd) Mode.Inherent 1 3 ∷  -- LSRD
    row 0x005 (Inherent I.Asld) Mode.Inherent 1 3 ∷  -- ASLD, LSLD
    row 0x006 (Inherent I.Tap) Mode.Inherent 1 2 ∷  -- TAP
    row 0x007 (Inherent I.Tpa) Mode.Inherent 1 2 ∷  -- TPA
    row 0x008 (Inherent I.Inx) Mode.Inherent 1 3 ∷  -- INX
    row 0x009 (Inherent I.Dex) Mode.Inherent 1 3 ∷  -- DEX
    row 0x00a (Inherent I.Clv) Mode.Inherent 1 2 ∷  -- CLV
    row 0x00b (Inherent I.Sev) Mode.Inherent 1 2 ∷  -- SEV
    row 0x00c (Inherent I.Clc) Mode.Inherent 1 2 ∷  -- CLC
    row 0x00d (Inherent I.Sec) Mode.Inherent 1 2 ∷  -- SEC
    row 0x00e (Inherent I.Cli) Mode.Inherent 1 2 ∷  -- CLI
    row 0x00f (Inherent I.Sei) Mode.Inherent 1 2 ∷  -- SEI
    row 0x010 (Inherent I.Sba) Mode.Inherent 1 2 ∷  -- SBA
    row 0x011 (Inherent I.Cba) Mode.Inherent 1 2 ∷  -- CBA
    row 0x012 Brset Mode.MaskBranchDirect 4 6 ∷  -- BRSET
    row 0x013 Brclr Mode.MaskBranchDirect 4 6 ∷  -- BRCLR
    row 0x014 Bset Mode.MaskDirect 3 6 ∷  -- BSET
    row 0x015 Bclr Mode.MaskDirect 3 6 ∷  -- BCLR
    row 0x016 (Inherent I.Tab) Mode.Inherent 1 2 ∷  -- TAB
    row 0x017 (Inherent I.Tba) Mode.Inherent 1 2 ∷  -- TBA
    row 0x019 (Inherent I.Daa) Mode.Inherent 1 2 ∷  -- DAA
    row 0x01b (Inherent I.Aba) Mode.Inherent 1 2 ∷  -- ABA
    row 0x01c Bset Mode.MaskX 3 7 ∷  -- BSET
    row 0x01d Bclr Mode.MaskX 3 7 ∷  -- BCLR
    row 0x01e Brset Mode.MaskBranchX 4 7 ∷  -- BRSET
    row 0x01f Brclr Mode.MaskBranchX 4 7 ∷  -- BRCLR
    row 0x020 (Branch 0) Mode.Relative 2 3 ∷  -- BRA
    row 0x021 (Branch 1) Mode.Relative 2 3 ∷  -- BRN
    row 0x022 (Branch 2) Mode.Relative 2 3 ∷  -- BHI
    row 0x023 (Branch 3) Mode.Relative 2 3 ∷  -- BLS
    row 0x024 (Branch 4) Mode.Relative 2 3 ∷  -- BCC, BHS
    row 0x025 (Branch 5) Mode.Relative 2 3 ∷  -- BCS, BLO
    row 0x026 (Branch 6) Mode.Relative 2 3 ∷  -- BNE
    row 0x027 (Branch 7) Mode.Relative 2 3 ∷  -- BEQ
    row 0x028 (Branch 8) Mode.Relative 2 3 ∷  -- BVC
    row 0x029 (Branch 9) Mode.Relative 2 3 ∷  -- BVS
    row 0x02a (Branch 10) Mode.Relative 2 3 ∷  -- BPL
    row 0x02b (Branch 11) Mode.Relative 2 3 ∷  -- BMI
    row 0x02c (Branch 12) Mode.Relative 2 3 ∷  -- BGE
    row 0x02d (Branch 13) Mode.Relative 2 3 ∷  -- BLT
    row 0x02e (Branch 14) Mode.Relative 2 3 ∷  -- BGT
    row 0x02f (Branch 15) Mode.Relative 2 3 ∷  -- BLE
    row 0x030 (Inherent I.Tsx) Mode.Inherent 1 3 ∷  -- TSX
    row 0x031 Ins Mode.Inherent 1 3 ∷  -- INS
    row 0x032 (PullByte Acc.A) Mode.Inherent 1 4 ∷  -- PULA
    row 0x033 (PullByte Acc.B) Mode.Inherent 1 4 ∷  -- PULB
    row 0x034 Des Mode.Inherent 1 3 ∷  -- DES
    row 0x035 (SetStack Ix.X) Mode.Inherent 1 3 ∷  -- TXS
    row 0x036 (PushByte Acc.A) Mode.Inherent 1 3 ∷  -- PSHA
    row 0x037 (PushByte Acc.B) Mode.Inherent 1 3 ∷  -- PSHB
    row 0x038 (PullWord Ix.X) Mode.Inherent 1 5 ∷  -- PULX
    row 0x039 Rts Mode.Inherent 1 5 ∷  -- RTS
    row 0x03a (Inherent I.Abx) Mode.Inherent 1 3 ∷  -- ABX
    row 0x03b Rti Mode.Inherent 1 12 ∷  -- RTI
    row 0x03c (PushWord Ix.X) Mode.Inherent 1 4 ∷  -- PSHX
    row 0x03d (Inherent I.Mul) Mode.Inherent 1 10 ∷  -- MUL
    row 0x03e Wai Mode.Inherent 1 14 ∷  -- WAI
    row 0x03f Swi Mode.Inherent 1 14 ∷  -- SWI
    row 0x040 (Unary Un.Neg Acc.A) Mode.Inherent 1 2 ∷  -- NEGA
    row 0x043 (Unary Un.Com Acc.A) Mode.Inherent 1 2 ∷  -- COMA
    row 0x044 (Unary Un.Lsr Acc.A) Mode.Inherent 1 2 ∷  -- LSRA
    row 0x046 (Unary Un.Ror Acc.A) Mode.Inherent 1 2 ∷  -- RORA
    row 0x047 (Unary Un.Asr Acc.A) Mode.Inherent 1 2 ∷  -- ASRA
    row 0x048 (Unary Un.Asl Acc.A) Mode.Inherent 1 2 ∷  -- ASLA, LSLA
    row 0x049 (Unary Un.Rol Acc.A) Mode.Inherent 1 2 ∷  -- ROLA
    row 0x04a (Unary Un.Dec Acc.A) Mode.Inherent 1 2 ∷  -- DECA
    row 0x04c (Unary Un.Inc Acc.A) Mode.Inherent 1 2 ∷  -- INCA
    row 0x04d (TstAccumulator Acc.A) Mode.Inherent 1 2 ∷  -- TSTA
    row 0x04f (Unary Un.Clr Acc.A) Mode.Inherent 1 2 ∷  -- CLRA
    row 0x050 (Unary Un.Neg Acc.B) Mode.Inherent 1 2 ∷  -- NEGB
    row 0x053 (Unary Un.Com Acc.B) Mode.Inherent 1 2 ∷  -- COMB
    row 0x054 (Unary Un.Lsr Acc.B) Mode.Inherent 1 2 ∷  -- LSRB
    row 0x056 (Unary Un.Ror Acc.B) Mode.Inherent 1 2 ∷  -- RORB
    row 0x057 (Unary Un.Asr Acc.B) Mode.Inherent 1 2 ∷  -- ASRB
    row 0x058 (Unary Un.Asl Acc.B) Mode.Inherent 1 2 ∷  -- ASLB, LSLB
    row 0x059 (Unary Un.Rol Acc.B) Mode.Inherent 1 2 ∷  -- ROLB
    row 0x05a (Unary Un.Dec Acc.B) Mode.Inherent 1 2 ∷  -- DECB
    row 0x05c (Unary Un.Inc Acc.B) Mode.Inherent 1 2 ∷  -- INCB
    row 0x05d (TstAccumulator Acc.B) Mode.Inherent 1 2 ∷  -- TSTB
    row 0x05f (Unary Un.Clr Acc.B) Mode.Inherent 1 2 ∷  -- CLRB
    row 0x060 (Modify Un.Neg) Mode.IndexedX 2 6 ∷  -- NEG
    row 0x063 (Modify Un.Com) Mode.IndexedX 2 6 ∷  -- COM
    row 0x064 (Modify Un.Lsr) Mode.IndexedX 2 6 ∷  -- LSR
    row 0x066 (Modify Un.Ror) Mode.IndexedX 2 6 ∷  -- ROR
    row 0x067 (Modify Un.Asr) Mode.IndexedX 2 6 ∷  -- ASR
    row 0x068 (Modify Un.Asl) Mode.IndexedX 2 6 ∷  -- ASL, LSL
    row 0x069 (Modify Un.Rol) Mode.IndexedX 2 6 ∷  -- ROL
    row 0x06a (Modify Un.Dec) Mode.IndexedX 2 6 ∷  -- DEC
    row 0x06c (Modify Un.Inc) Mode.IndexedX 2 6 ∷  -- INC
    row 0x06d TstMemory Mode.IndexedX 2 6 ∷  -- TST
    row 0x06e Jmp Mode.IndexedX 2 3 ∷  -- JMP
    row 0x06f (Modify Un.Clr) Mode.IndexedX 2 6 ∷  -- CLR
    row 0x070 (Modify Un.Neg) Mode.Extended 3 6 ∷  -- NEG
    row 0x073 (Modify Un.Com) Mode.Extended 3 6 ∷  -- COM
    row 0x074 (Modify Un.Lsr) Mode.Extended 3 6 ∷  -- LSR
    row 0x076 (Modify Un.Ror) Mode.Extended 3 6 ∷  -- ROR
    row 0x077 (Modify Un.Asr) Mode.Extended 3 6 ∷  -- ASR
    row 0x078 (Modify Un.Asl) Mode.Extended 3 6 ∷  -- ASL, LSL
    row 0x079 (Modify Un.Rol) Mode.Extended 3 6 ∷  -- ROL
    row 0x07a (Modify Un.Dec) Mode.Extended 3 6 ∷  -- DEC
    row 0x07c (Modify Un.Inc) Mode.Extended 3 6 ∷  -- INC
    row 0x07d TstMemory Mode.Extended 3 6 ∷  -- TST
    row 0x07e Jmp Mode.Extended 3 3 ∷  -- JMP
    row 0x07f (Modify Un.Clr) Mode.Extended 3 6 ∷  -- CLR
    row 0x080 (Binary Bi.Sub Acc.A) Mode.Immediate8 2 2 ∷  -- SUBA
    row 0x081 (Binary Bi.Cmp Acc.A) Mode.Immediate8 2 2 ∷  -- CMPA
    row 0x082 (Binary Bi.Sbc Acc.A) Mode.Immediate8 2 2 ∷  -- SBCA
    row 0x083 Subd Mode.Immediate16 3 4 ∷  -- SUBD
    row 0x084 (Binary Bi.And Acc.A) Mode.Immediate8 2 2 ∷  -- ANDA
    row 0x085 (Binary Bi.Bit Acc.A) Mode.Immediate8 2 2 ∷  -- BITA
    row 0x086 (Binary Bi.Lda Acc.A) Mode.Immediate8 2 2 ∷  -- LDAA
    row 0x088 (Binary Bi.Eor Acc.A) Mode.Immediate8 2 2 ∷  -- EORA
    row 0x089 (Binary Bi.Adc Acc.A) Mode.Immediate8 2 2 ∷  -- ADCA
    row 0x08a (Binary Bi.Ora Acc.A) Mode.Immediate8 2 2 ∷  -- ORAA
    row 0x08b (Binary Bi.Add Acc.A) Mode.Immediate8 2 2 ∷  -- ADDA
    row 0x08c (CompareWord Wd.X) Mode.Immediate16 3 4 ∷  -- CPX
    row 0x08d Call Mode.Relative 2 6 ∷  -- BSR
    row 0x08e (LoadWord Wd.S) Mode.Immediate16 3 3 ∷  -- LDS
    row 0x08f (Inherent I.Xgdx) Mode.Inherent 1 3 ∷  -- XGDX
    row 0x090 (Binary Bi.Sub Acc.A) Mode.Direct 2 3 ∷  -- SUBA
    row 0x091 (Binary Bi.Cmp Acc.A) Mode.Direct 2 3 ∷  -- CMPA
    row 0x092 (Binary Bi.Sbc Acc.A) Mode.Direct 2 3 ∷  -- SBCA
    row 0x093 Subd Mode.Direct 2 5 ∷  -- SUBD
    row 0x094 (Binary Bi.And Acc.A) Mode.Direct 2 3 ∷  -- ANDA
    row 0x095 (Binary Bi.Bit Acc.A) Mode.Direct 2 3 ∷  -- BITA
    row 0x096 (Binary Bi.Lda Acc.A) Mode.Direct 2 3 ∷  -- LDAA
    row 0x097 (StoreByte Acc.A) Mode.Direct 2 3 ∷  -- STAA
    row 0x098 (Binary Bi.Eor Acc.A) Mode.Direct 2 3 ∷  -- EORA
    row 0x099 (Binary Bi.Adc Acc.A) Mode.Direct 2 3 ∷  -- ADCA
    row 0x09a (Binary Bi.Ora Acc.A) Mode.Direct 2 3 ∷  -- ORAA
    row 0x09b (Binary Bi.Add Acc.A) Mode.Direct 2 3 ∷  -- ADDA
    row 0x09c (CompareWord Wd.X) Mode.Direct 2 5 ∷  -- CPX
    row 0x09d Call Mode.Direct 2 5 ∷  -- JSR
    row 0x09e (LoadWord Wd.S) Mode.Direct 2 4 ∷  -- LDS
    row 0x09f (StoreWord Wd.S) Mode.Direct 2 4 ∷  -- STS
    row 0x0a0 (Binary Bi.Sub Acc.A) Mode.IndexedX 2 4 ∷  -- SUBA
    row 0x0a1 (Binary Bi.Cmp Acc.A) Mode.IndexedX 2 4 ∷  -- CMPA
    row 0x0a2 (Binary Bi.Sbc Acc.A) Mode.IndexedX 2 4 ∷  -- SBCA
    row 0x0a3 Subd Mode.IndexedX 2 6 ∷  -- SUBD
    row 0x0a4 (Binary Bi.And Acc.A) Mode.IndexedX 2 4 ∷  -- ANDA
    row 0x0a5 (Binary Bi.Bit Acc.A) Mode.IndexedX 2 4 ∷  -- BITA
    row 0x0a6 (Binary Bi.Lda Acc.A) Mode.IndexedX 2 4 ∷  -- LDAA
    row 0x0a7 (StoreByte Acc.A) Mode.IndexedX 2 4 ∷  -- STAA
    row 0x0a8 (Binary Bi.Eor Acc.A) Mode.IndexedX 2 4 ∷  -- EORA
    row 0x0a9 (Binary Bi.Adc Acc.A) Mode.IndexedX 2 4 ∷  -- ADCA
    row 0x0aa (Binary Bi.Ora Acc.A) Mode.IndexedX 2 4 ∷  -- ORAA
    row 0x0ab (Binary Bi.Add Acc.A) Mode.IndexedX 2 4 ∷  -- ADDA
    row 0x0ac (CompareWord Wd.X) Mode.IndexedX 2 6 ∷  -- CPX
    row 0x0ad Call Mode.IndexedX 2 6 ∷  -- JSR
    row 0x0ae (LoadWord Wd.S) Mode.IndexedX 2 5 ∷  -- LDS
    row 0x0af (StoreWord Wd.S) Mode.IndexedX 2 5 ∷  -- STS
    row 0x0b0 (Binary Bi.Sub Acc.A) Mode.Extended 3 4 ∷  -- SUBA
    row 0x0b1 (Binary Bi.Cmp Acc.A) Mode.Extended 3 4 ∷  -- CMPA
    row 0x0b2 (Binary Bi.Sbc Acc.A) Mode.Extended 3 4 ∷  -- SBCA
    row 0x0b3 Subd Mode.Extended 3 6 ∷  -- SUBD
    row 0x0b4 (Binary Bi.And Acc.A) Mode.Extended 3 4 ∷  -- ANDA
    row 0x0b5 (Binary Bi.Bit Acc.A) Mode.Extended 3 4 ∷  -- BITA
    row 0x0b6 (Binary Bi.Lda Acc.A) Mode.Extended 3 4 ∷  -- LDAA
    row 0x0b7 (StoreByte Acc.A) Mode.Extended 3 4 ∷  -- STAA
    row 0x0b8 (Binary Bi.Eor Acc.A) Mode.Extended 3 4 ∷  -- EORA
    row 0x0b9 (Binary Bi.Adc Acc.A) Mode.Extended 3 4 ∷  -- ADCA
    row 0x0ba (Binary Bi.Ora Acc.A) Mode.Extended 3 4 ∷  -- ORAA
    row 0x0bb (Binary Bi.Add Acc.A) Mode.Extended 3 4 ∷  -- ADDA
    row 0x0bc (CompareWord Wd.X) Mode.Extended 3 6 ∷  -- CPX
    row 0x0bd Call Mode.Extended 3 6 ∷  -- JSR
    row 0x0be (LoadWord Wd.S) Mode.Extended 3 5 ∷  -- LDS
    row 0x0bf (StoreWord Wd.S) Mode.Extended 3 5 ∷  -- STS
    row 0x0c0 (Binary Bi.Sub Acc.B) Mode.Immediate8 2 2 ∷  -- SUBB
    row 0x0c1 (Binary Bi.Cmp Acc.B) Mode.Immediate8 2 2 ∷  -- CMPB
    row 0x0c2 (Binary Bi.Sbc Acc.B) Mode.Immediate8 2 2 ∷  -- SBCB
    row 0x0c3 Addd Mode.Immediate16 3 4 ∷  -- ADDD
    row 0x0c4 (Binary Bi.And Acc.B) Mode.Immediate8 2 2 ∷  -- ANDB
    row 0x0c5 (Binary Bi.Bit Acc.B) Mode.Immediate8 2 2 ∷  -- BITB
    row 0x0c6 (Binary Bi.Lda Acc.B) Mode.Immediate8 2 2 ∷  -- LDAB
    row 0x0c8 (Binary Bi.Eor Acc.B) Mode.Immediate8 2 2 ∷  -- EORB
    row 0x0c9 (Binary Bi.Adc Acc.B) Mode.Immediate8 2 2 ∷  -- ADCB
    row 0x0ca (Binary Bi.Ora Acc.B) Mode.Immediate8 2 2 ∷  -- ORAB
    row 0x0cb (Binary Bi.Add Acc.B) Mode.Immediate8 2 2 ∷  -- ADDB
    row 0x0cc (LoadWord Wd.D) Mode.Immediate16 3 3 ∷  -- LDD
    row 0x0ce (LoadWord Wd.X) Mode.Immediate16 3 3 ∷  -- LDX
    row 0x0cf Stop Mode.Inherent 1 2 ∷  -- STOP
    row 0x0d0 (Binary Bi.Sub Acc.B) Mode.Direct 2 3 ∷  -- SUBB
    row 0x0d1 (Binary Bi.Cmp Acc.B) Mode.Direct 2 3 ∷  -- CMPB
    row 0x0d2 (Binary Bi.Sbc Acc.B) Mode.Direct 2 3 ∷  -- SBCB
    row 0x0d3 Addd Mode.Direct 2 5 ∷  -- ADDD
    row 0x0d4 (Binary Bi.And Acc.B) Mode.Direct 2 3 ∷  -- ANDB
    row 0x0d5 (Binary Bi.Bit Acc.B) Mode.Direct 2 3 ∷  -- BITB
    row 0x0d6 (Binary Bi.Lda Acc.B) Mode.Direct 2 3 ∷  -- LDAB
    row 0x0d7 (StoreByte Acc.B) Mode.Direct 2 3 ∷  -- STAB
    row 0x0d8 (Binary Bi.Eor Acc.B) Mode.Direct 2 3 ∷  -- EORB
    row 0x0d9 (Binary Bi.Adc Acc.B) Mode.Direct 2 3 ∷  -- ADCB
    row 0x0da (Binary Bi.Ora Acc.B) Mode.Direct 2 3 ∷  -- ORAB
    row 0x0db (Binary Bi.Add Acc.B) Mode.Direct 2 3 ∷  -- ADDB
    row 0x0dc (LoadWord Wd.D) Mode.Direct 2 4 ∷  -- LDD
    row 0x0dd (StoreWord Wd.D) Mode.Direct 2 4 ∷  -- STD
    row 0x0de (LoadWord Wd.X) Mode.Direct 2 4 ∷  -- LDX
    row 0x0df (StoreWord Wd.X) Mode.Direct 2 4 ∷  -- STX
    row 0x0e0 (Binary Bi.Sub Acc.B) Mode.IndexedX 2 4 ∷  -- SUBB
    row 0x0e1 (Binary Bi.Cmp Acc.B) Mode.IndexedX 2 4 ∷  -- CMPB
    row 0x0e2 (Binary Bi.Sbc Acc.B) Mode.IndexedX 2 4 ∷  -- SBCB
    row 0x0e3 Addd Mode.IndexedX 2 6 ∷  -- ADDD
    row 0x0e4 (Binary Bi.And Acc.B) Mode.IndexedX 2 4 ∷  -- ANDB
    row 0x0e5 (Binary Bi.Bit Acc.B) Mode.IndexedX 2 4 ∷  -- BITB
    row 0x0e6 (Binary Bi.Lda Acc.B) Mode.IndexedX 2 4 ∷  -- LDAB
    row 0x0e7 (StoreByte Acc.B) Mode.IndexedX 2 4 ∷  -- STAB
    row 0x0e8 (Binary Bi.Eor Acc.B) Mode.IndexedX 2 4 ∷  -- EORB
    row 0x0e9 (Binary Bi.Adc Acc.B) Mode.IndexedX 2 4 ∷  -- ADCB
    row 0x0ea (Binary Bi.Ora Acc.B) Mode.IndexedX 2 4 ∷  -- ORAB
    row 0x0eb (Binary Bi.Add Acc.B) Mode.IndexedX 2 4 ∷  -- ADDB
    row 0x0ec (LoadWord Wd.D) Mode.IndexedX 2 5 ∷  -- LDD
    row 0x0ed (StoreWord Wd.D) Mode.IndexedX 2 5 ∷  -- STD
    row 0x0ee (LoadWord Wd.X) Mode.IndexedX 2 5 ∷  -- LDX
    row 0x0ef (StoreWord Wd.X) Mode.IndexedX 2 5 ∷  -- STX
    row 0x0f0 (Binary Bi.Sub Acc.B) Mode.Extended 3 4 ∷  -- SUBB
    row 0x0f1 (Binary Bi.Cmp Acc.B) Mode.Extended 3 4 ∷  -- CMPB
    row 0x0f2 (Binary Bi.Sbc Acc.B) Mode.Extended 3 4 ∷  -- SBCB
    row 0x0f3 Addd Mode.Extended 3 6 ∷  -- ADDD
    row 0x0f4 (Binary Bi.And Acc.B) Mode.Extended 3 4 ∷  -- ANDB
    row 0x0f5 (Binary Bi.Bit Acc.B) Mode.Extended 3 4 ∷  -- BITB
    row 0x0f6 (Binary Bi.Lda Acc.B) Mode.Extended 3 4 ∷  -- LDAB
    row 0x0f7 (StoreByte Acc.B) Mode.Extended 3 4 ∷  -- STAB
    row 0x0f8 (Binary Bi.Eor Acc.B) Mode.Extended 3 4 ∷  -- EORB
    row 0x0f9 (Binary Bi.Adc Acc.B) Mode.Extended 3 4 ∷  -- ADCB
    row 0x0fa (Binary Bi.Ora Acc.B) Mode.Extended 3 4 ∷  -- ORAB
    row 0x0fb (Binary Bi.Add Acc.B) Mode.Extended 3 4 ∷  -- ADDB
    row 0x0fc (LoadWord Wd.D) Mode.Extended 3 5 ∷  -- LDD
    row 0x0fd (StoreWord Wd.D) Mode.Extended 3 5 ∷  -- STD
    row 0x0fe (LoadWord Wd.X) Mode.Extended 3 5 ∷  -- LDX
    row 0x0ff (StoreWord Wd.X) Mode.Extended 3 5 ∷  -- STX
    row 0x108 (Inherent I.Iny) Mode.Inherent 2 4 ∷  -- INY
    row 0x109 (Inherent I.Dey) Mode.Inherent 2 4 ∷  -- DEY
    row 0x11c Bset Mode.MaskY 4 8 ∷  -- BSET
    row 0x11d Bclr Mode.MaskY 4 8 ∷  -- BCLR
    row 0x11e Brset Mode.MaskBranchY 5 8 ∷  -- BRSET
    row 0x11f Brclr Mode.MaskBranchY 5 8 ∷  -- BRCLR
    row 0x130 (Inherent I.Tsy) Mode.Inherent 2 4 ∷  -- TSY
    row 0x135 (SetStack Ix.Y) Mode.Inherent 2 4 ∷  -- TYS
    row 0x138 (PullWord Ix.Y) Mode.Inherent 2 6 ∷  -- PULY
    row 0x13a (Inherent I.Aby) Mode.Inherent 2 4 ∷  -- ABY
    row 0x13c (PushWord Ix.Y) Mode.Inherent 2 5 ∷  -- PSHY
    row 0x160 (Modify Un.Neg) Mode.IndexedY 3 7 ∷  -- NEG
    row 0x163 (Modify Un.Com) Mode.IndexedY 3 7 ∷  -- COM
    row 0x164 (Modify Un.Lsr) Mode.IndexedY 3 7 ∷  -- LSR
    row 0x166 (Modify Un.Ror) Mode.IndexedY 3 7 ∷  -- ROR
    row 0x167 (Modify Un.Asr) Mode.IndexedY 3 7 ∷  -- ASR
    row 0x168 (Modify Un.Asl) Mode.IndexedY 3 7 ∷  -- ASL, LSL
    row 0x169 (Modify Un.Rol) Mode.IndexedY 3 7 ∷  -- ROL
    row 0x16a (Modify Un.Dec) Mode.IndexedY 3 7 ∷  -- DEC
    row 0x16c (Modify Un.Inc) Mode.IndexedY 3 7 ∷  -- INC
    row 0x16d TstMemory Mode.IndexedY 3 7 ∷  -- TST
    row 0x16e Jmp Mode.IndexedY 3 4 ∷  -- JMP
    row 0x16f (Modify Un.Clr) Mode.IndexedY 3 7 ∷  -- CLR
    row 0x18c (CompareWord Wd.Y) Mode.Immediate16 4 5 ∷  -- CPY
    row 0x18f (Inherent I.Xgdy) Mode.Inherent 2 4 ∷  -- XGDY
    row 0x19c (CompareWord Wd.Y) Mode.Direct 3 6 ∷  -- CPY
    row 0x1a0 (Binary Bi.Sub Acc.A) Mode.IndexedY 3 5 ∷  -- SUBA
    row 0x1a1 (Binary Bi.Cmp Acc.A) Mode.IndexedY 3 5 ∷  -- CMPA
    row 0x1a2 (Binary Bi.Sbc Acc.A) Mode.IndexedY 3 5 ∷  -- SBCA
    row 0x1a3 Subd Mode.IndexedY 3 7 ∷  -- SUBD
    row 0x1a4 (Binary Bi.And Acc.A) Mode.IndexedY 3 5 ∷  -- ANDA
    row 0x1a5 (Binary Bi.Bit Acc.A) Mode.IndexedY 3 5 ∷  -- BITA
    row 0x1a6 (Binary Bi.Lda Acc.A) Mode.IndexedY 3 5 ∷  -- LDAA
    row 0x1a7 (StoreByte Acc.A) Mode.IndexedY 3 5 ∷  -- STAA
    row 0x1a8 (Binary Bi.Eor Acc.A) Mode.IndexedY 3 5 ∷  -- EORA
    row 0x1a9 (Binary Bi.Adc Acc.A) Mode.IndexedY 3 5 ∷  -- ADCA
    row 0x1aa (Binary Bi.Ora Acc.A) Mode.IndexedY 3 5 ∷  -- ORAA
    row 0x1ab (Binary Bi.Add Acc.A) Mode.IndexedY 3 5 ∷  -- ADDA
    row 0x1ac (CompareWord Wd.Y) Mode.IndexedY 3 7 ∷  -- CPY
    row 0x1ad Call Mode.IndexedY 3 7 ∷  -- JSR
    row 0x1ae (LoadWord Wd.S) Mode.IndexedY 3 6 ∷  -- LDS
    row 0x1af (StoreWord Wd.S) Mode.IndexedY 3 6 ∷  -- STS
    row 0x1bc (CompareWord Wd.Y) Mode.Extended 4 7 ∷  -- CPY
    row 0x1ce (LoadWord Wd.Y) Mode.Immediate16 4 4 ∷  -- LDY
    row 0x1de (LoadWord Wd.Y) Mode.Direct 3 5 ∷  -- LDY
    row 0x1df (StoreWord Wd.Y) Mode.Direct 3 5 ∷  -- STY
    row 0x1e0 (Binary Bi.Sub Acc.B) Mode.IndexedY 3 5 ∷  -- SUBB
    row 0x1e1 (Binary Bi.Cmp Acc.B) Mode.IndexedY 3 5 ∷  -- CMPB
    row 0x1e2 (Binary Bi.Sbc Acc.B) Mode.IndexedY 3 5 ∷  -- SBCB
    row 0x1e3 Addd Mode.IndexedY 3 7 ∷  -- ADDD
    row 0x1e4 (Binary Bi.And Acc.B) Mode.IndexedY 3 5 ∷  -- ANDB
    row 0x1e5 (Binary Bi.Bit Acc.B) Mode.IndexedY 3 5 ∷  -- BITB
    row 0x1e6 (Binary Bi.Lda Acc.B) Mode.IndexedY 3 5 ∷  -- LDAB
    row 0x1e7 (StoreByte Acc.B) Mode.IndexedY 3 5 ∷  -- STAB
    row 0x1e8 (Binary Bi.Eor Acc.B) Mode.IndexedY 3 5 ∷  -- EORB
    row 0x1e9 (Binary Bi.Adc Acc.B) Mode.IndexedY 3 5 ∷  -- ADCB
    row 0x1ea (Binary Bi.Ora Acc.B) Mode.IndexedY 3 5 ∷  -- ORAB
    row 0x1eb (Binary Bi.Add Acc.B) Mode.IndexedY 3 5 ∷  -- ADDB
    row 0x1ec (LoadWord Wd.D) Mode.IndexedY 3 6 ∷  -- LDD
    row 0x1ed (StoreWord Wd.D) Mode.IndexedY 3 6 ∷  -- STD
    row 0x1ee (LoadWord Wd.Y) Mode.IndexedY 3 6 ∷  -- LDY
    row 0x1ef (StoreWord Wd.Y) Mode.IndexedY 3 6 ∷  -- STY
    row 0x1fe (LoadWord Wd.Y) Mode.Extended 4 6 ∷  -- LDY
    row 0x1ff (StoreWord Wd.Y) Mode.Extended 4 6 ∷  -- STY
    row 0x283 (CompareWord Wd.D) Mode.Immediate16 4 5 ∷  -- CPD
    row 0x293 (CompareWord Wd.D) Mode.Direct 3 6 ∷  -- CPD
    row 0x2a3 (CompareWord Wd.D) Mode.IndexedX 3 7 ∷  -- CPD
    row 0x2ac (CompareWord Wd.Y) Mode.IndexedX 3 7 ∷  -- CPY
    row 0x2b3 (CompareWord Wd.D) Mode.Extended 4 7 ∷  -- CPD
    row 0x2ee (LoadWord Wd.Y) Mode.IndexedX 3 6 ∷  -- LDY
    row 0x2ef (StoreWord Wd.Y) Mode.IndexedX 3 6 ∷  -- STY
    row 0x3a3 (CompareWord Wd.D) Mode.IndexedY 3 7 ∷  -- CPD
    row 0x3ac (CompareWord Wd.X) Mode.IndexedY 3 7 ∷  -- CPX
    row 0x3ee (LoadWord Wd.X) Mode.IndexedY 3 6 ∷  -- LDX
    row 0x3ef (StoreWord Wd.X) Mode.IndexedY 3 6 ∷  -- STX
    []
