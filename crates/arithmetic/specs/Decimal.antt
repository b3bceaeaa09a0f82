-- DAA, by document 01's rule ("What the manual leaves open").
-- Assumes nothing.
use Rattle.std.specs.Prelude.{ℕ, ◌+◌, ◌%◌, Bool, true, false, ◌||◌, eqb, ltb}
use Rattle.registers.specs.Flags.{bit}
use Rattle.registers.specs.declared.flags.Flags.{Flags}
use Rattle.arithmetic.specs.Codes.{with_nzvc}
use Rattle.arithmetic.specs.Result.{Result}

-- n where the test holds, else 0
abbrev pub when : Bool → ℕ → ℕ
when true n = n
when false n = 0

-- $06 is added when H is set or the low half-byte is above 9
abbrev pub low_corrected : ℕ → Flags → Bool
low_corrected a f = f.h || ltb 9 (a % 16)

-- $60 is added when C is set or A is above $99; C afterwards says whether it was
abbrev pub high_corrected : ℕ → Flags → Bool
high_corrected a f = f.c || ltb 0x99 a

unfoldable pub daa_of : ℕ → Flags → Result
daa_of a f =
    let r = (a + when (low_corrected a f) 0x06 + when (high_corrected a f) 0x60) % 256 in
    record { value = r; flags = with_nzvc f (bit 7 r) (eqb r 0) false (high_corrected a f) }
