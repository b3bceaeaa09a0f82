-- The operations on words, with their condition codes, as the manual's entries have them.
-- Assumes nothing.
use Rattle.std.specs.Prelude.{ℕ, ◌+◌, ◌-◌, ◌*◌, ◌/◌, ◌%◌, Bool, false, eqb}
use Rattle.registers.specs.Flags.{bit, low, xor}
use Rattle.registers.specs.declared.flags.Flags.{Flags}
use Rattle.arithmetic.specs.Codes.{carry, borrow, overflow_sum, overflow_difference, with_nzv, with_nzvc, with_c}
use Rattle.arithmetic.specs.Result.{Result, result_of}

-- ADDD
unfoldable pub add16_of : ℕ → ℕ → Flags → Result
add16_of x m f =
    let r = (x + m) % 65536 in
    result_of r (with_nzvc f (bit 15 r) (eqb r 0) (overflow_sum 15 x m r) (carry 15 x m r))

-- SUBD, CPD, CPX, CPY
unfoldable pub sub16_of : ℕ → ℕ → Flags → Result
sub16_of x m f =
    let r = (x + 65536 - m) % 65536 in
    result_of r (with_nzvc f (bit 15 r) (eqb r 0) (overflow_difference 15 x m r) (borrow 15 x m r))

-- N and Z of a word, with V clear: loads and stores
abbrev pub logic16_of : ℕ → Flags → Flags
logic16_of r f = with_nzv f (bit 15 r) (eqb r 0) false

-- V of a shift is N ⊕ C, as they are afterwards
abbrev pub shifted16 : ℕ → Bool → Flags → Result
shifted16 r c f = result_of r (with_nzvc f (bit 15 r) (eqb r 0) (xor (bit 15 r) c) c)

abbrev pub asld_of : ℕ → Flags → Result
asld_of d f = shifted16 (2 * d % 65536) (bit 15 d) f

abbrev pub lsrd_of : ℕ → Flags → Result
lsrd_of d f = shifted16 (d / 2) (low d) f

-- MUL: C is bit 7 of the product
unfoldable pub mul_of : ℕ → ℕ → Flags → Result
mul_of a b f = result_of (a * b) (with_c f (bit 7 (a * b)))
