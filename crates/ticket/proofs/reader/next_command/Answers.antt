-- `next_command` meets its contract: by what the bytes left begin with, and by its admission.
-- Assumes nothing.
use mathlib.Core.Path.{◌≡◌}
use Prim.Native.Nat.{ℕ, ◌-◌}
use mathlib.Core.List.{List}
use native.Mathlib.Omega.{arith}
use lib.ListN.{length, take, drop, length-drop}
use lib.Seq.{take_all}
use Rattle.std.specs.Prelude.{Result, Ok}
use Rattle.std.proofs.lemmas.Result.{err_from_is_err_and}
use Rattle.answers.specs.declared.Refusal.{Refusal}
use Rattle.commands.specs.declared.command.Command.{Command}
use Rattle.commands.specs.declared.parse.ParseError.{ParseError}
use Rattle.commands.specs.declared.progress.Progress.{Progress}
use Rattle.commands.specs.Admit.{admit_of}
use Rattle.commands.specs.Bytes.{parse_of}
use Rattle.ticket.specs.Read.{admitted_as, parsed_as, next_command_of}
use Rattle.ticket.proofs.reader.next_command.Goals as goal

-- d is what `parse` says of the part that it is lent
module _ (s : List ℕ) (p : Progress) (d : Result Command ParseError)
    (says : d ≡ parse_of (take (length s - p.at) (drop p.at s))) where
  parsed : (e : Result Command ParseError) → d ≡ e → parsed_as e p ≡ next_command_of (drop p.at s) p
  unfolding next_command_of
  parsed e g =
      let part : take (length s - p.at) (drop p.at s) ≡ drop p.at s =
      take_all (length s - p.at) (drop p.at s) (omega (arith, length-drop p.at s)) in
      rw (← g, says, part)

  admitted : (c : Command) → d ≡ Ok c → (a b : Result Progress Refusal) → a ≡ admit_of p c → a ≡ b →
      admitted_as b c ≡ next_command_of (drop p.at s) p
  admitted c g a b e f = rw (← f, e) (parsed (Ok c) g)

pub returns-in-Err-Unknown : goal.returns-in-Err-Unknown
returns-in-Err-Unknown c =
    let e = rw c.in-Err-Unknown.field-0-is at c.in-Err-Unknown.is in
    rw c.refuse.ensures (parsed _ _ _ c.parse.ensures _ e)

pub returns-in-Err-Cut : goal.returns-in-Err-Cut
returns-in-Err-Cut c =
    let e = rw c.in-Err-Cut.field-0-is at c.in-Err-Cut.is in
    rw c.refuse-in-Err-Cut.ensures (parsed _ _ _ c.parse.ensures _ e)

pub returns-in_err-admit-in-Ok : goal.returns-in_err-admit-in-Ok
returns-in_err-admit-in-Ok c =
    let p = err_from_is_err_and c.from_residual.result c.from_residual.ensures.1 in
    rw (p.1, p.2) (admitted _ _ _ c.parse.ensures _ c.in-Ok.is _ _ c.admit.ensures c.in_err-admit-in-Ok.was)

pub returns-in_ok-admit-in-Ok : goal.returns-in_ok-admit-in-Ok
returns-in_ok-admit-in-Ok c =
    admitted _ _ _ c.parse.ensures _ c.in-Ok.is _ _ c.admit.ensures c.in_ok-admit-in-Ok.was
