-- The shape and the size of an instruction, by what is found at its first two bytes.
-- Assumes nothing.
use mathlib.Core.Path.{◌≡◌}
use Prim.Native.Nat.{ℕ, ◌+◌}
use borrow.Author.Tests.{ne_eqb}
use Rattle.std.specs.Prelude.{Some, None}
use Rattle.opcodes.proofs.Says.{Said, there_says, nowhere_says, none_there}
use Rattle.opcodes.specs.Tables.{length_at}
use Rattle.opcodes.specs.Decode.{Bytes, instruction_of, decode_at}
use Rattle.opcodes.specs.inner.Lookup.{found_of}
use Rattle.opcodes.specs.declared.lookup.Found.{Found}
use Rattle.rules.specs.Shape.{nothing, shape_in, shape_of, instruction_size}

module _ (f : Bytes) where
  pub nowhere_shape : found_of (f 0) (f 1) ≡ None → (a : ℕ) → shape_of f a ≡ nothing
  unfolding shape_of
  nowhere_shape h a = simp (none_there _ f (nowhere_says _ _ h))

  pub nowhere_size : found_of (f 0) (f 1) ≡ None → instruction_size f ≡ 0
  unfolding instruction_size
  nowhere_size h = simp (nowhere_says _ _ h)

  module _ (o : Found) (h : found_of (f 0) (f 1) ≡ Some o) where
    says : Said (f 0) (f 1) o
    says = there_says _ _ o h

    pub there_shape : (a : ℕ) → shape_of f a
        ≡ shape_in o.place (Some (instruction_of o.place (f o.size) (f (o.size + 1)) (f (o.size + 2)))) a
    unfolding shape_of decode_at
    there_shape a = simp (says.0, ne_eqb _ _ says.3, says.1)

    pub there_size : instruction_size f ≡ length_at o.place
    unfolding instruction_size
    there_size = simp says.0
