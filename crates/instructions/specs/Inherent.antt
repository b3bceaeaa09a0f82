-- The instructions on the registers alone, a line for each of the manual's entries.
-- Assumes nothing.
use Rattle.std.specs.Prelude.{ℕ, Bool, true, false, ◌&&◌, eqb}
use Rattle.registers.specs.Flags.{flags_of, byte_of}
use Rattle.registers.specs.Word.{wrapping_add, wrapping_sub}
use Rattle.registers.specs.Registers.{accumulator_d, with_a, with_b, with_d, with_x, with_y, with_flags}
use Rattle.registers.specs.declared.Data.{Data}
use Rattle.registers.specs.declared.flags.Flags.{Flags}
use Rattle.opcodes.specs.declared.instruction.Inherent.{Inherent}
use Rattle.opcodes.specs.declared.instruction.Inherent.TheVariants.{Nop, Idiv, Fdiv, Lsrd, Asld, Tap, Tpa, Inx, Dex}
use Rattle.opcodes.specs.declared.instruction.Inherent.TheVariants.{Iny, Dey, Clv, Sev, Clc, Sec, Cli, Sei, Sba, Cba}
use Rattle.opcodes.specs.declared.instruction.Inherent.TheVariants.{Tab, Tba, Daa, Aba, Tsx, Tsy, Abx, Aby, Mul, Xgdx}
use Rattle.opcodes.specs.declared.instruction.Inherent.TheVariants.{Xgdy}
use Rattle.arithmetic.specs.Codes.{with_z, with_c, with_v}
use Rattle.arithmetic.specs.Byte.{add8_of, sub8_of, logic8_of}
use Rattle.arithmetic.specs.Word.{asld_of, lsrd_of, mul_of}
use Rattle.arithmetic.specs.Decimal.{daa_of}
use Rattle.arithmetic.specs.Divide.{idiv_of, fdiv_of}
use Rattle.arithmetic.specs.Result.{Result, Quotient}

abbrev pub codes : Data → Flags
codes d = flags_of d.flags

-- a result goes to A, to D, or to X and D, with its condition codes
abbrev pub to_a : Data → Result → Data
to_a d w = with_a d w.value (byte_of w.flags)

abbrev pub to_d : Data → Result → Data
to_d d w = with_d d w.value (byte_of w.flags)

abbrev pub to_xd : Data → Quotient → Data
to_xd d w = with_x (with_d d w.remainder (byte_of w.flags)) w.quotient (byte_of w.flags)

-- the condition codes with Z of a counted index register
abbrev pub counted : ℕ → ℕ → ℕ
counted v f = byte_of (with_z (flags_of f) (eqb v 0))

-- the condition codes with V, C or I alone changed
abbrev pub with_overflow : ℕ → Bool → ℕ
with_overflow f v = byte_of (with_v (flags_of f) v)

abbrev pub with_carry : ℕ → Bool → ℕ
with_carry f c = byte_of (with_c (flags_of f) c)

abbrev pub with_i : ℕ → Bool → ℕ
with_i f i =
    let g = flags_of f in byte_of (record { s = g.s; x = g.x; h = g.h; i = i; n = g.n; z = g.z; v = g.v; c = g.c })

-- new condition codes where the old ones are f: X is never raised from 0 to 1 (TAP, RTI)
unfoldable pub replaced : ℕ → ℕ → ℕ
replaced new f =
    let g = flags_of new in
    byte_of (record { s = g.s; x = g.x && (flags_of f).x; h = g.h; i = g.i; n = g.n; z = g.z; v = g.v; c = g.c })

-- TAB and TBA
abbrev pub moved : ℕ → ℕ → ℕ
moved v f = byte_of (logic8_of v (flags_of f))

unfoldable pub inherent_of : Inherent → ℕ → Data → Data
inherent_of Nop sp d = d
inherent_of Idiv sp d = to_xd d (idiv_of (accumulator_d d) d.x (codes d))
inherent_of Fdiv sp d = to_xd d (fdiv_of (accumulator_d d) d.x (codes d))
inherent_of Lsrd sp d = to_d d (lsrd_of (accumulator_d d) (codes d))
inherent_of Asld sp d = to_d d (asld_of (accumulator_d d) (codes d))
inherent_of Tap sp d = with_flags d (replaced d.a d.flags)
inherent_of Tpa sp d = with_a d d.flags d.flags
inherent_of Inx sp d = with_x d (wrapping_add d.x 1) (counted (wrapping_add d.x 1) d.flags)
inherent_of Dex sp d = with_x d (wrapping_sub d.x 1) (counted (wrapping_sub d.x 1) d.flags)
inherent_of Iny sp d = with_y d (wrapping_add d.y 1) (counted (wrapping_add d.y 1) d.flags)
inherent_of Dey sp d = with_y d (wrapping_sub d.y 1) (counted (wrapping_sub d.y 1) d.flags)
inherent_of Clv sp d = with_flags d (with_overflow d.flags false)
inherent_of Sev sp d = with_flags d (with_overflow d.flags true)
inherent_of Clc sp d = with_flags d (with_carry d.flags false)
inherent_of Sec sp d = with_flags d (with_carry d.flags true)
inherent_of Cli sp d = with_flags d (with_i d.flags false)
inherent_of Sei sp d = with_flags d (with_i d.flags true)
inherent_of Sba sp d = to_a d (sub8_of d.a d.b false (codes d))
inherent_of Cba sp d = with_flags d (byte_of (sub8_of d.a d.b false (codes d)).flags)
inherent_of Tab sp d = with_b d d.a (moved d.a d.flags)
inherent_of Tba sp d = with_a d d.b (moved d.b d.flags)
inherent_of Daa sp d = to_a d (daa_of d.a (codes d))
inherent_of Aba sp d = to_a d (add8_of d.a d.b false (codes d))
inherent_of Tsx sp d = with_x d (wrapping_add sp 1) d.flags
inherent_of Tsy sp d = with_y d (wrapping_add sp 1) d.flags
inherent_of Abx sp d = with_x d (wrapping_add d.x d.b) d.flags
inherent_of Aby sp d = with_y d (wrapping_add d.y d.b) d.flags
inherent_of Mul sp d = to_d d (mul_of d.a d.b (codes d))
inherent_of Xgdx sp d = with_x (with_d d d.x d.flags) (accumulator_d d) d.flags
inherent_of Xgdy sp d = with_y (with_d d d.y d.flags) (accumulator_d d) d.flags
