-- What each command of the header does: a case for each.
-- Assumes nothing.
use Prim.Native.Nat.{suc, ◌+◌, ◌≤◌, ◌<◌}
use native.Mathlib.Omega.{arith}
use mathlib.Core.Path.{◌≡◌, refl}
use mathlib.Core.Bool.{true, and-eq-true_iff}
use mathlib.Core.List.{[], ◌∷◌, ◌++◌}
use lib.Dec.{leb}
use lib.ListN.{length, take}
use borrow.Author.Tests.{leb-true}
use Rattle.commands.specs.Rows.{header_length, required_length, between, layout_of, known}
use Rattle.commands.specs.Command.{command_byte_of, stage_of, operands_of, command_with}
use Rattle.commands.specs.Header.{header_with, header_commands}
use Rattle.commands.specs.Bytes.{width_of}
use Rattle.commands.specs.Cause.{ranges_hold}
use Rattle.commands.specs.inner.Sound.{header_bytes}
use Rattle.commands.specs.declared.header.Window.{Window}
use Rattle.commands.specs.declared.header.Header.{Header}
use Rattle.commands.specs.declared.command.HeaderCommand.{HeaderCommand}
use Rattle.commands.specs.declared.command.HeaderCommand.TheVariants.{Code, Data, Stack, Entry, Home}
use Rattle.commands.specs.declared.command.Command.{Command}

-- a command's byte is known, it has as many operands as its row, and it is the command of that byte and these operands
pub record Said (c : Command) : Type 0 where
  pub known_byte : known (command_byte_of c) ≡ true
  pub as_many : length (operands_of c) ≡ length (layout_of (command_byte_of c))
  pub same : command_with (command_byte_of c) (operands_of c) ≡ c

pub record HeaderLaw (h : Header) (c : HeaderCommand) : Type 0 where
  -- it comes before the marks
  pub early : stage_of (Command.Header c) < header_length
  -- the commands up to its stage state what the header has with it
  pub stated : take (suc (stage_of (Command.Header c))) (header_commands (header_with h c))
      ≡ take (stage_of (Command.Header c)) (header_commands h) ++ (Command.Header c ∷ [])
  -- it has the bytes that the table gives its stage
  pub wide : header_bytes (stage_of (Command.Header c)) + width_of (Command.Header c)
      ≡ header_bytes (suc (stage_of (Command.Header c)))
  -- the code window keeps to its range
  pub small : ranges_hold (Command.Header c) ≡ true → h.code.length ≤ 4096 → (header_with h c).code.length ≤ 4096
  -- those that every header has say nothing of home
  pub homeless : stage_of (Command.Header c) < required_length → (header_with h c).home ≡ h.home

-- the range of a code window's length
short : (w : Window) → ranges_hold (Command.Header (Code w)) ≡ true → w.length ≤ 4096
unfolding ranges_hold
short w e =
    leb-true w.length 4096 ((and-eq-true_iff (leb 1 w.length) _).0
    ((and-eq-true_iff (between 1 4096 w.length) true).0 e).0).1

pub header_law : (h : Header) (c : HeaderCommand) → HeaderLaw h c
unfolding width_of
header_law h (Code w) =
    record { early = omega arith; stated = refl; wide = refl; small = λ r s. short w r; homeless = λ l. refl }
header_law h (Data w) =
    record { early = omega arith; stated = refl; wide = refl; small = λ r s. s; homeless = λ l. refl }
header_law h (Stack w) =
    record { early = omega arith; stated = refl; wide = refl; small = λ r s. s; homeless = λ l. refl }
header_law h (Entry a l) =
    record { early = omega arith; stated = refl; wide = refl; small = λ r s. s; homeless = λ l. refl }
header_law h (Home a) =
    record { early = omega arith; stated = refl; wide = refl; small = λ r s. s; homeless = λ l. absurd (omega arith) }

pub header_said : (c : HeaderCommand) → Said (Command.Header c)
header_said (Code w) = record { known_byte = refl; as_many = refl; same = refl }
header_said (Data w) = record { known_byte = refl; as_many = refl; same = refl }
header_said (Stack w) = record { known_byte = refl; as_many = refl; same = refl }
header_said (Entry a l) = record { known_byte = refl; as_many = refl; same = refl }
header_said (Home a) = record { known_byte = refl; as_many = refl; same = refl }
