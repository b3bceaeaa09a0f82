-- The operations on bytes, with their condition codes, as the manual's entries have them.
-- Assumes nothing.
use Rattle.std.specs.Prelude.{ℕ, ◌+◌, ◌-◌, ◌*◌, ◌/◌, ◌%◌, Bool, true, false, not, eqb}
use Rattle.std.specs.Int.Bits.{bit_and, bit_or, bit_xor}
use Rattle.registers.specs.Flags.{bit, low, xor}
use Rattle.lists.specs.Bit.{one}
use Rattle.registers.specs.declared.flags.Flags.{Flags}
use Rattle.opcodes.specs.declared.instruction.Unary.{Unary}
use Rattle.opcodes.specs.declared.instruction.Unary.TheVariants.{Neg, Com, Lsr, Ror, Asr, Asl, Rol, Dec, Inc, Clr}
use Rattle.opcodes.specs.declared.instruction.Binary.{Binary}
use Rattle.opcodes.specs.declared.instruction.Binary.TheVariants.{Sub, Cmp, Sbc, And, Bit, Lda, Eor, Adc, Ora, Add}
use Rattle.arithmetic.specs.Codes.{carry, borrow, overflow_sum, overflow_difference, with_nzv, with_nzvc, with_hnzvc}
use Rattle.arithmetic.specs.Result.{Result, result_of}

-- ADD, ADC, ABA: x + m + c
unfoldable pub add8_of : ℕ → ℕ → Bool → Flags → Result
add8_of x m c f =
    let r = (x + m + one c) % 256 in
    result_of r (with_hnzvc f (carry 3 x m r) (bit 7 r) (eqb r 0) (overflow_sum 7 x m r) (carry 7 x m r))

-- SUB, SBC, CMP, SBA, CBA: x - m - c
unfoldable pub sub8_of : ℕ → ℕ → Bool → Flags → Result
sub8_of x m c f =
    let r = (x + 256 - (m + one c)) % 256 in
    result_of r (with_nzvc f (bit 7 r) (eqb r 0) (overflow_difference 7 x m r) (borrow 7 x m r))

-- N and Z of a byte, with V clear: loads, stores, transfers and the logical operations
abbrev pub logic8_of : ℕ → Flags → Flags
logic8_of r f = with_nzv f (bit 7 r) (eqb r 0) false

-- TST clears C as well
abbrev pub tst_of : ℕ → Flags → Flags
tst_of m f = with_nzvc f (bit 7 m) (eqb m 0) false false

-- V of a shift or rotate is N ⊕ C, as they are afterwards
abbrev pub shifted8 : ℕ → Bool → Flags → Result
shifted8 r c f = result_of r (with_nzvc f (bit 7 r) (eqb r 0) (xor (bit 7 r) c) c)

-- what makes a byte of the byte m. Of memory: NEG COM LSR ROR ASR ASL LSL ROL DEC INC CLR; of A: NEGA COMA LSRA RORA
-- ASRA ASLA LSLA ROLA DECA INCA CLRA; of B: NEGB COMB LSRB RORB ASRB ASLB LSLB ROLB DECB INCB CLRB
abbrev pub unary_of : Unary → ℕ → Flags → Result
unary_of Neg m f = let r = (256 - m) % 256 in result_of r (with_nzvc f (bit 7 r) (eqb r 0) (eqb r 0x80) (not (eqb r 0)))
unary_of Com m f = let r = 255 - m in result_of r (with_nzvc f (bit 7 r) (eqb r 0) false true)
unary_of Lsr m f = shifted8 (m / 2) (low m) f
unary_of Ror m f = shifted8 (m / 2 + 128 * one f.c) (low m) f
unary_of Asr m f = shifted8 (m / 2 + 128 * one (bit 7 m)) (low m) f
unary_of Asl m f = shifted8 (2 * m % 256) (bit 7 m) f
unary_of Rol m f = shifted8 ((2 * m + one f.c) % 256) (bit 7 m) f
unary_of Dec m f = let r = (m + 255) % 256 in result_of r (with_nzv f (bit 7 r) (eqb r 0) (eqb m 0x80))
unary_of Inc m f = let r = (m + 1) % 256 in result_of r (with_nzv f (bit 7 r) (eqb r 0) (eqb m 0x7f))
unary_of Clr m f = result_of 0 (with_nzvc f false true false false)

abbrev pub logical : ℕ → Flags → Result
logical r f = result_of r (logic8_of r f)

-- what the accumulator x becomes by the operand byte m. SUBA CMPA SBCA ANDA BITA LDAA EORA ADCA ORAA ADDA; SUBB CMPB
-- SBCB ANDB BITB LDAB EORB ADCB ORAB ADDB. CMP and BIT leave it
abbrev pub binary_of : Binary → ℕ → ℕ → Flags → Result
binary_of Sub x m f = sub8_of x m false f
binary_of Cmp x m f = result_of x (sub8_of x m false f).flags
binary_of Sbc x m f = sub8_of x m f.c f
binary_of And x m f = logical (bit_and x m) f
binary_of Bit x m f = result_of x (logic8_of (bit_and x m) f)
binary_of Lda x m f = logical m f
binary_of Eor x m f = logical (bit_xor x m) f
binary_of Adc x m f = add8_of x m f.c f
binary_of Ora x m f = logical (bit_or x m) f
binary_of Add x m f = add8_of x m false f

-- BSET: the bits of the mask are set in m. BCLR: they are cleared
abbrev pub bset_of : ℕ → ℕ → Flags → Result
bset_of m mask f = logical (bit_or m mask) f

abbrev pub bclr_of : ℕ → ℕ → Flags → Result
bclr_of m mask f = logical (bit_and m (255 - mask)) f
