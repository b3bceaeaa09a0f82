-- The numbers that the code's tables hold for the actions and the modes: each stands at its number. An inner matter of
-- the code.
-- Assumes nothing.
use Rattle.std.specs.Prelude.{ℕ, List, [], ◌∷◌, get_or}
use Rattle.opcodes.specs.declared.instruction.Action.{Action}
use Rattle.opcodes.specs.declared.instruction.Action.TheVariants.{Inherent, Unary, Binary, TstAccumulator}
use Rattle.opcodes.specs.declared.instruction.Action.TheVariants.{TstMemory, LoadWord, Addd, Subd, CompareWord}
use Rattle.opcodes.specs.declared.instruction.Action.TheVariants.{StoreByte, StoreWord, Modify, Bset, Bclr}
use Rattle.opcodes.specs.declared.instruction.Action.TheVariants.{Brset, Brclr, Branch, Jmp, Call, Rts, PushByte}
use Rattle.opcodes.specs.declared.instruction.Action.TheVariants.{PushWord, PullByte, PullWord, Des, Ins}
use Rattle.opcodes.specs.declared.instruction.Action.TheVariants.{SetStack, Swi, Rti, Wai, Stop, Test}
use Rattle.opcodes.specs.declared.instruction.Inherent.TheVariants as I
use Rattle.opcodes.specs.declared.instruction.Unary.TheVariants as Un
use Rattle.opcodes.specs.declared.instruction.Binary.TheVariants as Bi
use Rattle.opcodes.specs.declared.instruction.Accumulator.TheVariants as Acc
use Rattle.opcodes.specs.declared.instruction.Index.TheVariants as Ix
use Rattle.opcodes.specs.declared.instruction.Word.TheVariants as Wd
use Rattle.opcodes.specs.declared.instruction.Mode.{Mode}

-- the code goes by groups of these numbers: 0 .. 29 are for the registers alone, 30 .. 66 for an accumulator or the
-- stack; 67 .. 96 read an operand; 97 .. 134 store, branch or jump; 135 and 136 wait
abbrev pub all_actions : List Action
all_actions =
    -- the registers alone
    (Inherent I.Nop) ∷  -- 0: NOP
    (Inherent I.Idiv) ∷  -- 1: IDIV
    (Inherent I.Fdiv) ∷  -- 2: FDIV
    (Inherent I.Lsrd) ∷  -- 3: LSRD
    (Inherent I.Asld) ∷  -- 4: ASLD, LSLD
    (Inherent I.Tap) ∷  -- 5: TAP
    (Inherent I.Tpa) ∷  -- 6: TPA
    (Inherent I.Inx) ∷  -- 7: INX
    (Inherent I.Dex) ∷  -- 8: DEX
    (Inherent I.Iny) ∷  -- 9: INY
    (Inherent I.Dey) ∷  -- 10: DEY
    (Inherent I.Clv) ∷  -- 11: CLV
    (Inherent I.Sev) ∷  -- 12: SEV
    (Inherent I.Clc) ∷  -- 13: CLC
    (Inherent I.Sec) ∷  -- 14: SEC
    (Inherent I.Cli) ∷  -- 15: CLI
    (Inherent I.Sei) ∷  -- 16: SEI
    (Inherent I.Sba) ∷  -- 17: SBA
    (Inherent I.Cba) ∷  -- 18: CBA
    (Inherent I.Tab) ∷  -- 19: TAB
    (Inherent I.Tba) ∷  -- 20: TBA
    (Inherent I.Daa) ∷  -- 21: DAA
    (Inherent I.Aba) ∷  -- 22: ABA
    (Inherent I.Tsx) ∷  -- 23: TSX
    (Inherent I.Tsy) ∷  -- 24: TSY
    (Inherent I.Abx) ∷  -- 25: ABX
    (Inherent I.Aby) ∷  -- 26: ABY
    (Inherent I.Mul) ∷  -- 27: MUL
    (Inherent I.Xgdx) ∷  -- 28: XGDX
    (Inherent I.Xgdy) ∷  -- 29: XGDY
    -- an accumulator or the stack
    (Unary Un.Neg Acc.A) ∷  -- 30: NEGA
    (Unary Un.Com Acc.A) ∷  -- 31: COMA
    (Unary Un.Lsr Acc.A) ∷  -- 32: LSRA
    (Unary Un.Ror Acc.A) ∷  -- 33: RORA
    (Unary Un.Asr Acc.A) ∷  -- 34: ASRA
    (Unary Un.Asl Acc.A) ∷  -- 35: ASLA, LSLA
    (Unary Un.Rol Acc.A) ∷  -- 36: ROLA
    (Unary Un.Dec Acc.A) ∷  -- 37: DECA
    (Unary Un.Inc Acc.A) ∷  -- 38: INCA
    (Unary Un.Clr Acc.A) ∷  -- 39: CLRA
    (Unary Un.Neg Acc.B) ∷  -- 40: NEGB
    (Unary Un.Com Acc.B) ∷  -- 41: COMB
    (Unary Un.Lsr Acc.B) ∷  -- 42: LSRB
    (Unary Un.Ror Acc.B) ∷  -- 43: RORB
    (Unary Un.Asr Acc.B) ∷  -- 44: ASRB
    (Unary Un.Asl Acc.B) ∷  -- 45: ASLB, LSLB
    (Unary Un.Rol Acc.B) ∷  -- 46: ROLB
    (Unary Un.Dec Acc.B) ∷  -- 47: DECB
    (Unary Un.Inc Acc.B) ∷  -- 48: INCB
    (Unary Un.Clr Acc.B) ∷  -- 49: CLRB
    (TstAccumulator Acc.A) ∷  -- 50: TSTA
    (TstAccumulator Acc.B) ∷  -- 51: TSTB
    Rts ∷  -- 52: RTS
    (PushByte Acc.A) ∷  -- 53: PSHA
    (PushByte Acc.B) ∷  -- 54: PSHB
    (PushWord Ix.X) ∷  -- 55: PSHX
    (PushWord Ix.Y) ∷  -- 56: PSHY
    (PullByte Acc.A) ∷  -- 57: PULA
    (PullByte Acc.B) ∷  -- 58: PULB
    (PullWord Ix.X) ∷  -- 59: PULX
    (PullWord Ix.Y) ∷  -- 60: PULY
    Des ∷  -- 61: DES
    Ins ∷  -- 62: INS
    (SetStack Ix.X) ∷  -- 63: TXS
    (SetStack Ix.Y) ∷  -- 64: TYS
    Swi ∷  -- 65: SWI
    Rti ∷  -- 66: RTI
    -- an operand is read
    (Binary Bi.Sub Acc.A) ∷  -- 67: SUBA
    (Binary Bi.Cmp Acc.A) ∷  -- 68: CMPA
    (Binary Bi.Sbc Acc.A) ∷  -- 69: SBCA
    (Binary Bi.And Acc.A) ∷  -- 70: ANDA
    (Binary Bi.Bit Acc.A) ∷  -- 71: BITA
    (Binary Bi.Lda Acc.A) ∷  -- 72: LDAA
    (Binary Bi.Eor Acc.A) ∷  -- 73: EORA
    (Binary Bi.Adc Acc.A) ∷  -- 74: ADCA
    (Binary Bi.Ora Acc.A) ∷  -- 75: ORAA
    (Binary Bi.Add Acc.A) ∷  -- 76: ADDA
    (Binary Bi.Sub Acc.B) ∷  -- 77: SUBB
    (Binary Bi.Cmp Acc.B) ∷  -- 78: CMPB
    (Binary Bi.Sbc Acc.B) ∷  -- 79: SBCB
    (Binary Bi.And Acc.B) ∷  -- 80: ANDB
    (Binary Bi.Bit Acc.B) ∷  -- 81: BITB
    (Binary Bi.Lda Acc.B) ∷  -- 82: LDAB
    (Binary Bi.Eor Acc.B) ∷  -- 83: EORB
    (Binary Bi.Adc Acc.B) ∷  -- 84: ADCB
    (Binary Bi.Ora Acc.B) ∷  -- 85: ORAB
    (Binary Bi.Add Acc.B) ∷  -- 86: ADDB
    TstMemory ∷  -- 87: TST
    (LoadWord Wd.D) ∷  -- 88: LDD
    (LoadWord Wd.X) ∷  -- 89: LDX
    (LoadWord Wd.Y) ∷  -- 90: LDY
    (LoadWord Wd.S) ∷  -- 91: LDS
    Addd ∷  -- 92: ADDD
    Subd ∷  -- 93: SUBD
    (CompareWord Wd.D) ∷  -- 94: CPD
    (CompareWord Wd.X) ∷  -- 95: CPX
    (CompareWord Wd.Y) ∷  -- 96: CPY
    -- a store, a branch or a jump
    (StoreByte Acc.A) ∷  -- 97: STAA
    (StoreByte Acc.B) ∷  -- 98: STAB
    (StoreWord Wd.D) ∷  -- 99: STD
    (StoreWord Wd.X) ∷  -- 100: STX
    (StoreWord Wd.Y) ∷  -- 101: STY
    (StoreWord Wd.S) ∷  -- 102: STS
    (Modify Un.Neg) ∷  -- 103: NEG
    (Modify Un.Com) ∷  -- 104: COM
    (Modify Un.Lsr) ∷  -- 105: LSR
    (Modify Un.Ror) ∷  -- 106: ROR
    (Modify Un.Asr) ∷  -- 107: ASR
    (Modify Un.Asl) ∷  -- 108: ASL, LSL
    (Modify Un.Rol) ∷  -- 109: ROL
    (Modify Un.Dec) ∷  -- 110: DEC
    (Modify Un.Inc) ∷  -- 111: INC
    (Modify Un.Clr) ∷  -- 112: CLR
    Bset ∷  -- 113: BSET
    Bclr ∷  -- 114: BCLR
    Brset ∷  -- 115: BRSET
    Brclr ∷  -- 116: BRCLR
    (Branch 0) ∷  -- 117: BRA
    (Branch 1) ∷  -- 118: BRN
    (Branch 2) ∷  -- 119: BHI
    (Branch 3) ∷  -- 120: BLS
    (Branch 4) ∷  -- 121: BCC, BHS
    (Branch 5) ∷  -- 122: BCS, BLO
    (Branch 6) ∷  -- 123: BNE
    (Branch 7) ∷  -- 124: BEQ
    (Branch 8) ∷  -- 125: BVC
    (Branch 9) ∷  -- 126: BVS
    (Branch 10) ∷  -- 127: BPL
    (Branch 11) ∷  -- 128: BMI
    (Branch 12) ∷  -- 129: BGE
    (Branch 13) ∷  -- 130: BLT
    (Branch 14) ∷  -- 131: BGT
    (Branch 15) ∷  -- 132: BLE
    Jmp ∷  -- 133: JMP
    Call ∷  -- 134: JSR, BSR
    -- what waits
    Wai ∷  -- 135: WAI
    Stop ∷  -- 136: STOP
    []

-- a number past the list is TEST, which the step refuses: never a NOP, which it would run
abbrev pub action_of : ℕ → Action
action_of n = get_or all_actions n Test

abbrev pub all_modes : List Mode
all_modes =
    Mode.Inherent ∷ Mode.Immediate8 ∷ Mode.Immediate16 ∷ Mode.Direct ∷ Mode.Extended ∷ Mode.IndexedX ∷
    Mode.IndexedY ∷ Mode.Relative ∷ Mode.MaskDirect ∷ Mode.MaskX ∷ Mode.MaskY ∷ Mode.MaskBranchDirect ∷
    Mode.MaskBranchX ∷ Mode.MaskBranchY ∷
    []

abbrev pub mode_of : ℕ → Mode
mode_of n = get_or all_modes n Mode.Inherent
