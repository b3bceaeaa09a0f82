-- IDIV and FDIV of D by X. A remainder that the manual calls indeterminate leaves D unchanged (document 01).
-- Assumes nothing.
use Rattle.std.specs.Prelude.{ℕ, ◌*◌, ◌/◌, ◌%◌, Bool, true, false, eqb, leb}
use Rattle.registers.specs.declared.flags.Flags.{Flags}
use Rattle.arithmetic.specs.Codes.{with_zvc}
use Rattle.arithmetic.specs.Result.{Quotient}

-- the quotient goes to X, the remainder to D
abbrev pub divided : ℕ → ℕ → Flags → Quotient
divided q r f = record { quotient = q; remainder = r; flags = f }

abbrev pub idiv_by : Bool → ℕ → ℕ → Flags → Quotient
idiv_by true d x f = divided 0xffff d (with_zvc f false false true)
idiv_by false d x f = divided (d / x) (d % x) (with_zvc f (eqb (d / x) 0) false false)

-- by zero: the quotient is $FFFF and C is set
unfoldable pub idiv_of : ℕ → ℕ → Flags → Quotient
idiv_of d x f = idiv_by (eqb x 0) d x f

abbrev pub fdiv_by : Bool → ℕ → ℕ → Flags → Quotient
fdiv_by true d x f = divided 0xffff d (with_zvc f false true (eqb x 0))
fdiv_by false d x f = divided (d * 65536 / x) (d * 65536 % x) (with_zvc f (eqb (d * 65536 / x) 0) false false)

-- a divisor at or below D: the quotient is $FFFF and V is set; C says whether the divisor was zero
unfoldable pub fdiv_of : ℕ → ℕ → Flags → Quotient
fdiv_of d x f = fdiv_by (leb x d) d x f
