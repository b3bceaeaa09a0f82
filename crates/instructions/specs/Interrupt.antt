-- SWI and RTI: the nine bytes of the registers on the stack, PC's low byte highest, the condition codes lowest (the
-- manual's SWI and RTI entries).
-- Assumes nothing.
use Rattle.std.specs.Prelude.{ℕ, true, List, [], ◌∷◌, ◌++◌}
use Rattle.registers.specs.Word.{wrapping_add, wrapping_sub}
use Rattle.registers.specs.Registers.{data_of, with_flags, with_data, with_pc_sp}
use Rattle.registers.specs.declared.Registers.{Registers}
use Rattle.memory.specs.Memory.{byte_at, word_at, Store, store, push_stores, applied}
use Rattle.instructions.specs.Inherent.{with_i, replaced}

unfoldable pub stacked_of : Registers → List Store
stacked_of r =
    push_stores r.sp r.pc ++ push_stores (wrapping_sub r.sp 2) r.y ++ push_stores (wrapping_sub r.sp 4) r.x
    ++ store (wrapping_sub r.sp 6) r.a ∷ store (wrapping_sub r.sp 7) r.b ∷
    store (wrapping_sub r.sp 8) r.flags ∷ []

-- the vector is read after the stores. The flags that are stacked are those before I is set
unfoldable pub interrupted_of : Registers → List ℕ → Registers
interrupted_of r m =
    with_pc_sp (with_data r (with_flags (data_of r) (with_i r.flags true))) (word_at (applied (stacked_of r) m) 0xfff6)
    (wrapping_sub r.sp 9)

unfoldable pub resumed_of : Registers → List ℕ → Registers
resumed_of r m =
    with_pc_sp
    (with_data
    r
    (record {
      x = word_at m (wrapping_add r.sp 4);
      y = word_at m (wrapping_add r.sp 6);
      a = byte_at m (wrapping_add r.sp 3);
      b = byte_at m (wrapping_add r.sp 2);
      flags = replaced (byte_at m (wrapping_add r.sp 1)) r.flags;
    }))
    (word_at m (wrapping_add r.sp 8))
    (wrapping_add r.sp 9)
