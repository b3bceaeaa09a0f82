-- An image buffer filled from an S-record file (document 02, a): it is written only where the whole file is good and it
-- has the code window's length.
-- Assumes nothing.
use Rattle.std.specs.Prelude.{ℕ, cond, List, eqb, length, Result, Ok, Err}
use Rattle.answers.specs.declared.Refusal.{Refusal}
use Rattle.ticket.specs.Read.{refusal}
use Rattle.commands.specs.declared.header.Window.{Window}
use Rattle.records.specs.Read.{FileOutcome, named, refused, file_of}
use Rattle.answers.specs.declared.Cause.TheVariants.{BadImage}

-- the answer and the buffer afterwards
pub record AfterLoad : Type 0 where
  pub answer : Result Unit Refusal
  pub image : List ℕ

abbrev pub after_load : Result Unit Refusal → List ℕ → AfterLoad
after_load r image = record { answer = r; image = image }

-- 9: the buffer's length is not the code window's
abbrev pub load_by : Window → FileOutcome → List ℕ → AfterLoad
load_by w (refused r) buffer = after_load (Err r) buffer
load_by w (named image) buffer =
    cond (eqb (length buffer) w.length) (after_load (Ok tt) image) (after_load (Err (refusal BadImage 0)) buffer)

unfoldable pub load_of : Window → List ℕ → List ℕ → AfterLoad
load_of w file buffer = load_by w (file_of w file) buffer
