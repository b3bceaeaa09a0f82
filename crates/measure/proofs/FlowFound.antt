-- The flow of an instruction, by what is found at its first two bytes.
-- Assumes nothing.
use Rattle.std.specs.Prelude.{Some, None}
use mathlib.Core.Path.{◌≡◌}
use mathlib.Core.List.{List}
use Prim.Native.Nat.{ℕ, ◌+◌}
use borrow.Author.Tests.{ne_eqb}
use Rattle.opcodes.proofs.Says.{Said, there_says, nowhere_says, none_there}
use Rattle.opcodes.specs.Decode.{Bytes, instruction_of, decode_at}
use Rattle.opcodes.specs.inner.Lookup.{found_of}
use Rattle.opcodes.specs.declared.lookup.Found.{Found}
use Rattle.stepper.specs.Step.{fetched}
use Rattle.stepper.specs.Flow.{plain, flow_in, flow_of}

module _ (m : List ℕ) (pc : ℕ) where
  abbrev pub bytes : Bytes
  bytes = fetched m pc

  pub nowhere_flow : found_of (bytes 0) (bytes 1) ≡ None → flow_of m pc ≡ plain
  unfolding flow_of
  nowhere_flow h = simp (none_there _ bytes (nowhere_says _ _ h))

  module _ (f : Found) (h : found_of (bytes 0) (bytes 1) ≡ Some f) where
    says : Said (bytes 0) (bytes 1) f
    says = there_says _ _ f h

    pub there_flow : flow_of m pc
        ≡ flow_in f.place (Some (instruction_of f.place (bytes f.size) (bytes (f.size + 1)) (bytes (f.size + 2)))) pc
    unfolding flow_of decode_at
    there_flow = simp (says.0, ne_eqb _ _ says.3, says.1)
