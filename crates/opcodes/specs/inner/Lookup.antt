-- What the code looks up by the first two bytes of an instruction. An inner matter of the code: what stands at an
-- address is `decode_of`.
-- Assumes nothing.
use Rattle.std.specs.Prelude.{ℕ, cond, eqb, Option, Some, None}
use Rattle.opcodes.specs.declared.lookup.Found.{Found}
use Rattle.opcodes.specs.Tables.{cost_at}
use Rattle.opcodes.specs.Decode.{opcode_place, opcode_size}

-- what the table has at a place, after an opcode of so many bytes
unfoldable pub entry_of : ℕ → ℕ → Option Found
entry_of place size =
    let c = cost_at place in cond (eqb c 0) None (Some (record { place = place; size = size; cost = c }))

-- the place, the size of the opcode and the entry of the table, where an instruction is
unfoldable pub found_of : ℕ → ℕ → Option Found
found_of first second = let p = opcode_place first second in entry_of p (opcode_size p)
