-- Every place of the table has a mode that its action can have. One test over the rows.
-- Assumes nothing.
use mathlib.Core.Path.{◌≡◌, refl}
use mathlib.Core.Bool.{Bool, true, false}
use Prim.Native.Nat.{ℕ}
use lib.Dec.{T}
use Rattle.opcodes.specs.declared.instruction.Action.{Action}
use Rattle.opcodes.specs.declared.instruction.Action.TheVariants.{Inherent}
use Rattle.opcodes.specs.declared.instruction.Inherent.TheVariants.{Nop}
use Rattle.opcodes.specs.declared.instruction.Mode.{Mode}
use Rattle.opcodes.specs.Rows.{rows}
use Rattle.opcodes.specs.Tables.{actions, modes, action_at, mode_at}
use Rattle.opcodes.specs.inner.Fits.{fits}
use Rattle.opcodes.proofs.ByRow.{all, by_row}

abbrev ok : ℕ → Action → Mode → Bool
ok p a m = fits a m

tested : T (all (λ r. r.action) (λ r. r.mode) ok rows)
unfolding rows fits
tested = tt

said : (b : Bool) → T b → b ≡ true
said true t = refl
said false t = absurd t

-- where no instruction is, NOP without an operand fits
nothing : T (fits (Inherent Nop) Mode.Inherent)
unfolding fits
nothing = tt

pub fitting : (p : ℕ) → fits (action_at p) (mode_at p) ≡ true
unfolding actions modes action_at mode_at
fitting p =
    said (fits (action_at p) (mode_at p))
    (by_row (λ r. r.action) (λ r. r.mode) ok (Inherent Nop) Mode.Inherent (λ p. nothing) 1024 rows tested p)
