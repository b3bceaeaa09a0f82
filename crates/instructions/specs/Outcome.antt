-- What an instruction computes, over values alone: the registers but for PC and SP, the number that it stores, pushes
-- or moves to SP, and whether it branches. Each action's stands in its entry (`Entry.antt`).
-- Assumes nothing.
use Rattle.std.specs.Prelude.{ℕ, Bool, false, eqb}
use Rattle.std.specs.Int.Bits.{bit_and}
use Rattle.registers.specs.Flags.{byte_of}
use Rattle.registers.specs.Registers.{with_flags}
use Rattle.registers.specs.declared.Data.{Data}
use Rattle.arithmetic.specs.Byte.{logic8_of}
use Rattle.arithmetic.specs.Word.{logic16_of}
use Rattle.arithmetic.specs.Result.{Result}
use Rattle.instructions.specs.Inherent.{codes}

pub record Outcome : Type 0 where
  pub regs : Data
  pub value : ℕ
  pub taken : Bool

-- the registers change; besides, a number is stored; besides, there is a branch or none
abbrev pub computes : Data → Outcome
computes d = record { regs = d; value = 0; taken = false }

abbrev pub gives : ℕ → Data → Outcome
gives v d = record { regs = d; value = v; taken = false }

abbrev pub branches : Bool → Data → Outcome
branches t d = record { regs = d; value = 0; taken = t }

-- nothing: all that happens happens by the form
abbrev pub stays : (k v sp : ℕ) (d : Data) → Outcome
stays k v sp d = computes d

-- ---- what an instruction computes of its input v, with the mask k of a bit instruction

abbrev pub tested8 : ℕ → Data → Data
tested8 v d = with_flags d (byte_of (logic8_of v (codes d)))

abbrev pub tested16 : ℕ → Data → Data
tested16 v d = with_flags d (byte_of (logic16_of v (codes d)))

-- a byte made for memory, with its condition codes
abbrev pub modifies : Data → Result → Outcome
modifies d w = gives w.value (with_flags d (byte_of w.flags))

-- BRSET: every bit of the mask is set in v; BRCLR: none is
abbrev pub all_set : ℕ → ℕ → Bool
all_set v k = eqb (bit_and v k) k

abbrev pub none_set : ℕ → ℕ → Bool
none_set v k = eqb (bit_and v k) 0
