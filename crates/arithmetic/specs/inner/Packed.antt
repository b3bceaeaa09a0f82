-- What the operations answer, as the code answers it: with the condition codes as their byte. An inner matter of the
-- code.
-- Assumes nothing.
use Rattle.std.specs.Prelude.{ℕ}
use Rattle.registers.specs.Flags.{byte_of}
use Rattle.arithmetic.specs.declared.codes.Coded.{Coded}
use Rattle.arithmetic.specs.declared.divide.Divided.{Divided}
use Rattle.arithmetic.specs.Result.{Result, Quotient}

-- a byte or a word
abbrev pub packed : Result → Coded ℕ
packed r = record { value = r.value; flags = byte_of r.flags }

abbrev pub packed_divided : Quotient → Divided
packed_divided r = record { quotient = r.quotient; remainder = r.remainder; flags = byte_of r.flags }
