-- A ticket that is read is judged, certified and started as it is without its names: all of it goes by what is read.
-- Assumes nothing.
use Prim.Native.Nat.{ℕ}
use mathlib.Core.Path.{◌≡◌}
use mathlib.Core.List.{List}
use Rattle.ticket.specs.Fields.{Fields, read}
use Rattle.ticket.specs.Read.{read_of}
use Rattle.ticket.proofs.Names.{names_ignored}
use Rattle.rules.specs.Checks.{verdict_of}
use Rattle.verdict.specs.Certification.{certification_of}
use Rattle.verdict.specs.Records.{records_verdict_of}
use Rattle.verdict.specs.Routine.{start_routine_of}
use Rattle.verdict.specs.Names.{AnsweredAlike, AnsweredWithoutNames}

module _ (s t : List ℕ) (f : Fields) (first : read_of s ≡ read f) (second : read_of t ≡ read f) where
  alike : AnsweredAlike s t
  unfolding verdict_of records_verdict_of certification_of start_routine_of
  alike =
      record {
        verdict = λ image. rw (first, second);
        verdict_of_records = λ file buffer. rw (first, second);
        certification = λ image. rw (first, second);
        start = λ image d m. rw (first, second);
      }

pub answered_without_names : (ticket : List ℕ) → AnsweredWithoutNames ticket
answered_without_names ticket bytes f e = alike _ ticket f (names_ignored ticket bytes f e).same_fields e
