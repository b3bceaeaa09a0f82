-- A command's admission is a refusal or what the command leaves; the reading has ended after it only if it is the end.
-- Assumes nothing.
use Prim.Native.Nat.{◌+◌}
use mathlib.Core.Path.{◌≡◌, refl}
use mathlib.Core.Bool.{Bool, true, false}
use native.Mathlib.Omega.{arith}
use borrow.Author.Tests.{ne_eqb}
use Rattle.commands.specs.declared.command.Command.{Command}
use Rattle.answers.specs.declared.Cause.{Cause}
use Rattle.answers.specs.declared.Refusal.{Refusal}
use Rattle.commands.specs.declared.progress.Progress.{Progress}
use Rattle.commands.specs.Rows.{header_length}
use Rattle.commands.specs.Command.{stage_of}
use Rattle.commands.specs.Progress.{after_of, ended}
use Rattle.commands.specs.Cause.{command_cause_of}
use Rattle.commands.specs.Admit.{admit_by, admit_of}
use Rattle.commands.proofs.HeaderLaw.{header_law}
use Rattle.std.specs.Prelude.{Result, Ok, Err}

-- what holds of every refusal at the command's offset, and of what the command leaves, holds of what its admission
-- gives
module _ (p : Progress) (c : Command) (P : Result Progress Refusal → Type 0)
    (refuses : (r : Refusal) → r.place ≡ p.at → P (Err r)) (goes : P (Ok (after_of p c))) where
  by_cause : (v : Result Unit Cause) → P (admit_by v p c)
  by_cause (Ok u) = goes
  by_cause (Err x) = refuses _ refl

  pub by_admission : P (admit_of p c)
  unfolding admit_of
  by_admission = by_cause (command_cause_of p c)

-- whether a command is the end
abbrev pub ends : Command → Bool
ends (Command.Header c) = false
ends (Command.Mark a k) = false
ends (Command.Name a t) = false
ends Command.End = true

pub stage_after : (p : Progress) (c : Command) → ended (after_of p c) ≡ ends c
unfolding after_of
stage_after p (Command.Header c) =
    ne_eqb (stage_of (Command.Header c) + 1) (header_length + 1) (omega (arith, (header_law p.header c).early))
stage_after p (Command.Mark a k) = refl
stage_after p (Command.Name a t) = refl
stage_after p Command.End = refl
