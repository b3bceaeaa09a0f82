-- What is answered of a ticket that is read is answered of it without its names too (document 02, i: the verdict
-- ignores them).
-- Assumes nothing.
use Rattle.std.specs.Prelude.{ℕ, ◌≡◌, List}
use Rattle.registers.specs.declared.Data.{Data}
use Rattle.commands.specs.Number.{AllBytes}
use Rattle.ticket.specs.Fields.{Fields, read}
use Rattle.ticket.specs.Read.{read_of}
use Rattle.ticket.specs.Names.{without_names}
use Rattle.rules.specs.Checks.{verdict_of}
use Rattle.verdict.specs.Certification.{certification_of}
use Rattle.verdict.specs.Records.{records_verdict_of}
use Rattle.verdict.specs.Routine.{start_routine_of}

-- two tickets that nothing which judges, certifies or starts a routine tells apart: the same number and place, figures
-- and lent bytes
pub record AnsweredAlike (s t : List ℕ) : Type 0 where
  pub verdict : (image : List ℕ) → verdict_of s image ≡ verdict_of t image
  pub verdict_of_records : (file buffer : List ℕ) → records_verdict_of s file buffer ≡ records_verdict_of t file buffer
  pub certification : (image : List ℕ) → certification_of s image ≡ certification_of t image
  pub start : (image : List ℕ) (d : Data) (m : List ℕ) → start_routine_of s image d m ≡ start_routine_of t image d m

abbrev pub AnsweredWithoutNames : List ℕ → Type 0
AnsweredWithoutNames ticket =
    AllBytes ticket → (f : Fields) → read_of ticket ≡ read f → AnsweredAlike (without_names ticket) ticket
