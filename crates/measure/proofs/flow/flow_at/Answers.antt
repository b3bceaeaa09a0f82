-- `flow_at` meets its contract: the bytes that it reads are those that the step fetches.
-- Assumes nothing.
use Rattle.std.specs.Prelude.{Option}
use Rattle.std.proofs.Common.{◌≡◌, ℕ, ◌<◌, List, sym, arith}
use Rattle.memory.specs.Memory.{byte_at}
use Rattle.registers.specs.Word.{wrapping_add}
use Rattle.opcodes.specs.declared.lookup.Found.{Found}
use Rattle.opcodes.specs.inner.Lookup.{found_of}
use Rattle.registers.proofs.Wrap.{plus_zero}
use Rattle.measure.proofs.FlowFound.{bytes, nowhere_flow, there_flow}
use Rattle.measure.proofs.flow.flow_at.Goals as goal

-- what is found by two bytes that are read at PC and after it
found : (m : List ℕ) (pc : ℕ) → pc < 65536 → {b a b' : ℕ} {f : Option Found} → b ≡ byte_at m pc → a ≡ wrapping_add pc 1
    → b' ≡ byte_at m a → f ≡ found_of b b' → found_of (bytes m pc 0) (bytes m pc 1) ≡ f
found m pc low b a b' f = simp (plus_zero pc low, ← a, ← b, ← b', ← f)

pub returns-in_default : goal.returns-in_default
returns-in_default c =
    sym (nowhere_flow _ _ (found _ c.args.pc (omega arith) c.byte_at.ensures c.wrapping_add.ensures c.byte_at-2.ensures
    c.in_default.ensures.found))

pub returns : goal.returns
returns c =
    let h = found c.args.mem.now c.args.pc (omega arith) c.byte_at.ensures c.wrapping_add.ensures c.byte_at-2.ensures
    c.in-Some.ensures.found in
    simp (
      there_flow _ _ c.in-Some.f h,
      ← c.wrapping_add-2.ensures,
      ← c.wrapping_add-3.ensures,
      ← c.wrapping_add-4.ensures,
      ← c.byte_at-u.ensures,
      ← c.byte_at-v.ensures,
      ← c.byte_at-w.ensures,
    )
    c.flow_found.ensures
