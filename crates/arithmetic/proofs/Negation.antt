-- NEG is a difference from 0: the manual has formulae of its own for NEG's V and C, and they say what those of a
-- difference say.
-- Assumes nothing.
use mathlib.Core.Path.{◌≡◌, refl, ap₂, ◌∙◌}
use mathlib.Core.Bool.{Bool, false, not, ◌&&◌}
use Prim.Native.Nat.{ℕ, ◌-◌, ◌/◌, ◌%◌, ◌<◌}
use native.Mathlib.Nat.{add-zero}
use native.Mathlib.Omega.{arith}
use package.borrow.Author.Tests.{eq-eqb, ne_eqb, lt-ltb, le-ltb}
use lib.Dec.{eqb, ltb}
use Rattle.registers.specs.declared.flags.Flags.{Flags}
use Rattle.registers.specs.Flags.{bit}
use Rattle.opcodes.specs.declared.instruction.Unary.TheVariants.{Neg}
use Rattle.arithmetic.specs.Byte.{sub8_of, unary_of}
use Rattle.arithmetic.specs.Codes.{overflow_difference, borrow, with_nzvc}
use Rattle.arithmetic.specs.Result.{result_of}
use Rattle.arithmetic.proofs.Outcomes.{at_eqb}
use Rattle.arithmetic.proofs.Carries.{borrow_test}

module _ (m : ℕ) (l : m < 256) where
  abbrev negative : ℕ
  negative = (256 - m) % 256

  -- the sign bits of m and of the result are both set for $80 alone
  overflows : overflow_difference 7 0 m negative ≡ eqb negative 0x80
  overflows =
      at_eqb (λ (t : Bool). (bit 7 m && bit 7 negative) ≡ t) negative 0x80
      (λ e. ap₂ (λ (a b : Bool). a && b)
      (eq-eqb (m / 128 % 2) 1 (omega arith)) (eq-eqb (negative / 128 % 2) 1 (omega arith)))
      (λ n. at_eqb (λ (t : Bool). (t && bit 7 negative) ≡ false) (m / 128 % 2) 1
      (λ s. ne_eqb (negative / 128 % 2) 1 (λ h. n (omega arith)))
      (λ s. refl))

  borrows : borrow 7 0 m negative ≡ not (eqb negative 0)
  borrows =
      borrow_test 7 0 m negative m false (omega arith) l (omega arith) (omega arith) ∙
      at_eqb (λ (t : Bool). ltb 0 m ≡ not t) negative 0 (λ e. le-ltb 0 m (omega arith))
      (λ n. lt-ltb 0 m (omega arith))

  pub neg_difference : (f : Flags) → sub8_of 0 m false f ≡ unary_of Neg m f
  unfolding sub8_of
  neg_difference f =
      rw (add-zero m)
      (ap₂ (λ (v c : Bool). result_of negative (with_nzvc f (bit 7 negative) (eqb negative 0) v c)) overflows borrows)
