-- The shape of the instruction at a mark is the same in the image and in memory: decoding depends only on the
-- instruction's own bytes.
-- Assumes nothing.
use Prim.Native.Nat.{ℕ, ◌+◌, ◌-◌, ◌≤◌, ◌<◌}
use mathlib.Core.Path.{◌≡◌, sym, ap, ◌∙◌}
use mathlib.Core.List.{List}
use native.Mathlib.Omega.{arith}
use lib.ListN.{length, get_or}
use Rattle.registers.specs.Word.{wrapping_add}
use Rattle.memory.specs.Memory.{byte_at}
use Rattle.opcodes.specs.Tables.{cost_at, length_at}
use Rattle.opcodes.specs.Decode.{Bytes, place_in}
use Rattle.opcodes.proofs.Local.{local}
use Rattle.opcodes.proofs.Says.{none_there}
use Rattle.commands.specs.declared.header.Window.{Window}
use Rattle.stepper.specs.Step.{fetched}
use Rattle.rules.specs.Shape.{nothing, shape_of, instruction_size}
use Rattle.rules.specs.Marks.{image_from}

no_shape : (f : Bytes) (a : ℕ) → cost_at (place_in f) ≡ 0 → shape_of f a ≡ nothing
unfolding shape_of
no_shape f a z = simp (none_there _ f z)

pub same_shape : (code : Window) (image m : List ℕ) (a : ℕ) → (shape_of (image_from code image a) a ≡ nothing → ⊥) →
    code.start ≤ a
    → a + instruction_size (image_from code image a) ≤ code.start + code.length → code.start + code.length ≤ 65536 →
    length image ≡ code.length
    → ((i : ℕ) → i < length image → byte_at m (code.start + i) ≡ get_or image i 0) →
    shape_of (fetched m a) a ≡ shape_of (image_from code image a) a
unfolding shape_of instruction_size wrapping_add
same_shape code image m a there from within fits whole loaded =
    let f = image_from code image a in
    let place : (i : ℕ) → i < length_at (place_in f) → code.start + (a - code.start + i) ≡ wrapping_add a i =
    λ i h. omega arith in
    let l = local f (fetched m a) (λ z. there (no_shape f a z))
    (λ i h. sym (loaded (a - code.start + i) (omega arith)) ∙ ap (byte_at m) (place i h)) in
    rw (l.1, l.0)
