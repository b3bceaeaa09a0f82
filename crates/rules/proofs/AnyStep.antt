-- What a step does at whatever memory has at PC: at an instruction what its form does, else nothing.
-- Assumes nothing.
use Prim.Native.Nat.{ℕ, ◌<◌}
use mathlib.Core.Path.{◌≡◌, refl, ap}
use mathlib.Core.Bool.{Bool}
use mathlib.Core.List.{List}
use lib.ListN.{length}
use borrow.Author.Tests.{eq-eqb}
use Rattle.std.specs.Prelude.{Option, Some, None}
use Rattle.registers.specs.Word.{wrapping_add}
use Rattle.registers.specs.Registers.{with_pc}
use Rattle.registers.specs.declared.Registers.{Registers}
use Rattle.opcodes.specs.Decode.{place_in, decode_of}
use Rattle.instructions.specs.Entry.{form_of, reads_of, outcome_of}
use Rattle.opcodes.specs.Tables.{length_at, cycles_at}
use Rattle.opcodes.specs.declared.instruction.Decoded.{Decoded}
use Rattle.instructions.specs.Operand.{input_of, mask_of}
use Rattle.instructions.specs.Effect.{effect_of}
use Rattle.stepper.specs.Step.{fetched, carried_out, did_if, did_of}
use Rattle.rules.specs.Shape.{shape_in, shape_of}
use Rattle.stepper.specs.Flow.{flow_in, flow_of}
use Rattle.rules.proofs.Obeys.{Obeys, by_form}

module _ (r : Registers) (m : List ℕ) (low : r.sp < 65536) where
  by_decoded : (p : ℕ) (d : Option Decoded) → did_of r m ≡ carried_out p d r m → flow_of m r.pc ≡ flow_in p d r.pc →
      Obeys (shape_in p d r.pc) r m
  unfolding carried_out effect_of
  by_decoded p None e h = tt
  by_decoded p (Some d) e h =
      let next = wrapping_add r.pc (length_at p) in
      let q = with_pc r next in
      by_form r m low (form_of d.action d.operand next) next (cycles_at p)
      (outcome_of d.action (mask_of d.operand) (input_of (reads_of d.action) d.operand q m) q) e h

pub obeys : (r : Registers) (m : List ℕ) → length m ≡ 65536 → r.sp < 65536 →
    Obeys (shape_of (fetched m r.pc) r.pc) r m
unfolding shape_of did_of flow_of
obeys r m whole low =
    let f = fetched m r.pc in
    by_decoded r m low (place_in f) (decode_of f) (ap (λ (b : Bool). did_if b r m) (eq-eqb _ _ whole)) refl
