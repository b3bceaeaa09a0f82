-- What holds of every mark, at an index.
-- Assumes nothing.
use Prim.Native.Nat.{ℕ, zero, suc, ◌<◌}
use native.Mathlib.Omega.{arith}
use mathlib.Core.List.{List}
use lib.ListN.{length, get_or}
use Rattle.commands.specs.Every.{Every}
use Rattle.commands.specs.Every.Every.{none, more}
use Rattle.ticket.specs.declared.fields.Mark.{Mark}
use Rattle.ticket.specs.Fields.{blank_mark}

pub every_at : {P : Mark → Type 0} {ms : List Mark} → Every P ms → (i : ℕ) → i < length ms → P (get_or ms i blank_mark)
every_at none i h = absurd (omega arith)
every_at (more r rs) zero h = r
every_at (more r rs) (suc i) h = every_at rs i (omega arith)
