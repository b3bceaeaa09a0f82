-- A name's text: what is not refused of it, and what refuses nothing.
-- Assumes nothing.
use Prim.Native.Nat.{ℕ}
use mathlib.Core.Path.{◌≡◌, refl}
use mathlib.Core.Bool.{true, and-eq-true_iff}
use borrow.Author.Tests.{eq-eqb}
use Rattle.commands.specs.declared.command.Command.TheVariants as Command
use Rattle.commands.specs.declared.progress.Progress.{Progress}
use Rattle.commands.specs.Number.{digits}
use Rattle.commands.specs.Rows.{header_length}
use Rattle.commands.specs.Fits.{Fits}
use Rattle.commands.specs.Fits.FitsLayout.{none as no_operand, more as operand}
use Rattle.commands.specs.Progress.{marked_of}
use Rattle.commands.specs.Cause.{ranges_hold, command_cause_of}
use Rattle.commands.proofs.Causes.{allowed, allow}
use Rattle.ticket.specs.Spells.{NameText}
use Rattle.ticket.proofs.Says.{printable_says}
use Rattle.std.specs.Prelude.{Ok}

pub name_text : (p : Progress) (a t : ℕ) → command_cause_of p (Command.Name a t) ≡ Ok tt → Fits (Command.Name a t)
    → NameText t
unfolding ranges_hold
name_text p a t free (operand l (operand eight no_operand)) =
    record {
      eight = eight;
      printable =
          (printable_says (digits 8 t)).0 ((and-eq-true_iff _ true).0
          (allowed p (Command.Name a t) free).ranged).0;
    }

-- at once after its mark, which has its address
pub name_free : (p : Progress) (w a t : ℕ) → NameText t
    → command_cause_of (marked_of p w header_length a) (Command.Name a t) ≡ Ok tt
unfolding ranges_hold
name_free p w a t n =
    allow (marked_of p w header_length a) (Command.Name a t)
    (record {
      ordered = rw (eq-eqb a a refl);
      ranged = rw ((printable_says (digits 8 t)).1 n.printable);
      edged = refl;
      separated = refl;
      homed = refl;
      placed = refl;
    })
