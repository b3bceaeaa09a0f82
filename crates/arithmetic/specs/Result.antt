-- What the operations answer, with the condition codes as flags.
-- Assumes nothing.
use Rattle.std.specs.Prelude.{ℕ}
use Rattle.registers.specs.declared.flags.Flags.{Flags}

-- a byte or a word
pub record Result : Type 0 where
  pub value : ℕ
  pub flags : Flags

-- the quotient goes to X, the remainder to D
pub record Quotient : Type 0 where
  pub quotient : ℕ
  pub remainder : ℕ
  pub flags : Flags

abbrev pub result_of : ℕ → Flags → Result
result_of r f = record { value = r; flags = f }
