-- What holds of the progress through every ticket: it serves the proof that no sum of the code overflows and no mark
-- falls outside its array.
-- Assumes nothing.
use Rattle.std.specs.Prelude.{ℕ, zero, suc, ◌+◌, ◌*◌, ◌≤◌, ◌<◌, ◌≡◌, true, cond, List, [], ◌∷◌, eqb}
use Rattle.lists.specs.Bit.{one}
use Rattle.commands.specs.Rows.{CommandRow, size_of, command_rows, header_length}
use Rattle.commands.specs.declared.progress.Progress.{Progress}

-- the bytes of a command of the first of some rows that has this stage; of the three that come after the header the
-- end is the first
abbrev pub width_at : List CommandRow → ℕ → ℕ
width_at [] n = 0
width_at (r ∷ rs) n = cond (eqb r.stage n) (1 + size_of r.operands) (width_at rs n)

-- the bytes of as many commands of the header, none left out, and of the end after them
abbrev pub header_bytes : ℕ → ℕ
header_bytes zero = 0
header_bytes (suc n) = header_bytes n + width_at command_rows n

-- Marks rise and lie in the code window, so there are no more of them than it has bytes, which is at most 4,096. A
-- command has at most 11 bytes, so a mark takes at most 22 with its name.
pub record Sound (p : Progress) : Type 0 where
  pub stages : p.stage ≤ header_length + 1
  pub unmarked : p.stage < header_length → p.count ≡ 0
  pub short : p.at + 11 * one p.nameable ≤ header_bytes p.stage + 22 * p.count
  pub small : p.header.code.length ≤ 4096
  pub rising : 1 ≤ p.count → (p.header.code.start + p.count ≤ p.last + 1)
      × (p.last < p.header.code.start + p.header.code.length)
  pub named : p.nameable ≡ true → 1 ≤ p.count
