-- The length law: an instruction's length is the size of its opcode and of its mode's operand. One test over the rows.
-- Assumes nothing.
use mathlib.Core.Path.{◌≡◌, refl}
use mathlib.Core.Bool.{Bool, true}
use Prim.Native.Nat.{ℕ, zero, suc, ◌+◌, ◌*◌, ◌/◌}
use lib.Dec.{T, eqb, eqb→eq}
use Rattle.opcodes.specs.declared.instruction.Mode.{Mode}
use Rattle.opcodes.specs.Rows.{Row, rows}
use Rattle.opcodes.specs.Tables.{costs, modes, cost_at, length_at, mode_at}
use Rattle.opcodes.specs.Decode.{opcode_size, operand_size}
use Rattle.opcodes.proofs.ByRow.{all, by_row}

size_of : ℕ → Mode → ℕ
size_of p m = opcode_size p + operand_size m

ok : ℕ → ℕ → Mode → Bool
ok p zero m = true
ok p (suc e) m = eqb (suc e / 256) (size_of p m)

said : (p e : ℕ) (m : Mode) → T (ok p e m) → (e ≡ 0 → ⊥) → e / 256 ≡ size_of p m
unfolding ok
said p zero m t n = absurd (n refl)
said p (suc e) m t n = eqb→eq (suc e / 256) (size_of p m) t

abbrev cost : Row → ℕ
cost r = r.length * 256 + r.cycles

tested : T (all cost (λ r. r.mode) ok rows)
unfolding rows ok size_of opcode_size
tested = tt

nothing : (p : ℕ) → T (ok p 0 Mode.Inherent)
unfolding ok
nothing p = tt

pub sized : (p : ℕ) → (cost_at p ≡ 0 → ⊥) → length_at p ≡ opcode_size p + operand_size (mode_at p)
unfolding costs modes cost_at mode_at size_of
sized p n = said p (cost_at p) (mode_at p) (by_row cost (λ r. r.mode) ok 0 Mode.Inherent nothing 1024 rows tested p) n
