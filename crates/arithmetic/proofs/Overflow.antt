-- V by arithmetic is the manual's V: one law for every bit k, so for bytes and for words, with a carry or without.
-- Assumes nothing.
use mathlib.Core.Path.{◌≡◌, refl, sym, ap, ap₂, ◌∙◌}
use mathlib.Core.Bool.{Bool, true, false, ◌&&◌}
use Prim.Native.Nat.{ℕ, ◌/◌, ◌%◌, ◌^◌}
use native.Mathlib.Nat.{mod-lt}
use native.Mathlib.Omega.{arith}
use lib.Bits.{bit_and, bit_xor, and_shr, and_mod, xor_shr, xor_mod}
use lib.Dec.{eqb}
use Rattle.registers.proofs.Bits.{digit}
use Rattle.registers.specs.Flags.{bit, xor}
use Rattle.lists.specs.Bit.{one}
use Rattle.arithmetic.specs.Codes.{overflow_bits, overflow_sum, overflow_difference}
use Rattle.arithmetic.proofs.Bits.{bit_one}

-- an operation that goes digit by digit makes bit k out of the two bits there
module _ (op : ℕ → ℕ → ℕ) (on : Bool → Bool → Bool)
    (shr : (a b k : ℕ) → op a b / 2 ^ k ≡ op (a / 2 ^ k) (b / 2 ^ k))
    (rem : (a b k : ℕ) → op a b % 2 ^ k ≡ op (a % 2 ^ k) (b % 2 ^ k))
    (ones : (a b : Bool) → eqb (op (one a) (one b)) 1 ≡ on a b) where
  of_bits : (k a b : ℕ) → bit k (op a b) ≡ on (bit k a) (bit k b)
  of_bits k a b =
      ap (λ (n : ℕ). eqb (n % 2) 1) (shr a b k) ∙ ap (λ (n : ℕ). eqb n 1) (rem (a / 2 ^ k) (b / 2 ^ k) 1)
      ∙ ap₂ (λ (p q : ℕ). eqb (op p q) 1) (own a) (own b) ∙ ones (bit k a) (bit k b)
    where
      own : (n : ℕ) → n / 2 ^ k % 2 ≡ one (bit k n)
      own n = sym (digit (n / 2 ^ k % 2) (mod-lt (n / 2 ^ k) (omega arith)))

and_ones : (a b : Bool) → eqb (bit_and (one a) (one b)) 1 ≡ (a && b)
and_ones true true = refl
and_ones true false = refl
and_ones false true = refl
and_ones false false = refl

xor_ones : (a b : Bool) → eqb (bit_xor (one a) (one b)) 1 ≡ xor a b
xor_ones true true = refl
xor_ones true false = refl
xor_ones false true = refl
xor_ones false false = refl

and_bit : (k a b : ℕ) → bit k (bit_and a b) ≡ (bit k a && bit k b)
and_bit = of_bits bit_and (λ a b. a && b) and_shr and_mod and_ones

xor_bit : (k a b : ℕ) → bit k (bit_xor a b) ≡ xor (bit k a) (bit k b)
xor_bit = of_bits bit_xor (λ a b. xor a b) xor_shr xor_mod xor_ones

-- r's bit is neither x's nor m's
neither : (x m r : Bool) → (xor x r && xor m r) ≡ overflow_bits x m r
neither true true true = refl
neither true true false = refl
neither true false true = refl
neither true false false = refl
neither false true true = refl
neither false true false = refl
neither false false true = refl
neither false false false = refl

pub overflow_bit : (k x m r : ℕ) → bit k (bit_and (bit_xor x r) (bit_xor m r)) ≡ overflow_sum k x m r
overflow_bit k x m r =
    and_bit k (bit_xor x r) (bit_xor m r) ∙ ap₂ (λ (a b : Bool). a && b) (xor_bit k x r) (xor_bit k m r)
    ∙ neither (bit k x) (bit k m) (bit k r)

-- the overflow of x less m, which is r: x is the sum of m and r
pub overflow_of_difference : (k x m r : ℕ) → overflow_sum k m r x ≡ overflow_difference k x m r
overflow_of_difference k x m r = simp bit_one at (turned (bit k x) (bit k m) (bit k r))
  where
    turned : (x m r : Bool) → overflow_sum 0 (one m) (one r) (one x) ≡ overflow_difference 0 (one x) (one m) (one r)
    turned true true true = refl
    turned true true false = refl
    turned true false true = refl
    turned true false false = refl
    turned false true true = refl
    turned false true false = refl
    turned false false true = refl
    turned false false false = refl
