-- The verdict on a routine whose image comes as an S-record file, and what it promises (document 02, a; demands 2 and
-- 3).
-- Assumes nothing.
use Rattle.std.specs.Prelude.{ℕ, ◌-◌, ◌≡◌, ◌↔◌, ◌⊎◌, List, length, Result, Ok, Err}
use Rattle.answers.specs.declared.Acceptance.{Acceptance}
use Rattle.answers.specs.declared.Refusal.{Refusal}
use Rattle.answers.specs.Verdict.{Verdict}
use Rattle.ticket.specs.Fields.{Fields, ReadOutcome, read, refused}
use Rattle.ticket.specs.Read.{read_of}
use Rattle.ticket.specs.Rules.{Between}
use Rattle.verdict.specs.Promise.{VerdictNumber}
use Rattle.records.specs.Record.{Names}
use Rattle.records.specs.Read.{named, file_of}
use Rattle.records.specs.Load.{load_of}
use Rattle.rules.specs.Rules.{Certified}
use Rattle.rules.specs.Claim.{Demand3}
use Rattle.rules.specs.Checks.{verdict_on, verdict_of}
use Rattle.answers.specs.Cause.{number_of}

-- the answer and the image buffer afterwards
pub record AfterVerdict : Type 0 where
  pub answer : Verdict
  pub image : List ℕ

abbrev pub after_verdict : Verdict → List ℕ → AfterVerdict
after_verdict v image = record { answer = v; image = image }

-- what the file leaves is judged as an image is; the buffer stays the image whatever the marks say
abbrev pub loaded_verdict : Fields → Result Unit Refusal → List ℕ → AfterVerdict
loaded_verdict f (Err r) image = after_verdict (Err r) image
loaded_verdict f (Ok done) image = after_verdict (verdict_on f image) image

-- 1 to 8 and 29 of the ticket; 25 to 27 of the file, and 9 of the buffer; then 10 to 20
abbrev pub records_verdict_by : ReadOutcome → List ℕ → List ℕ → AfterVerdict
records_verdict_by (refused r) file buffer = after_verdict (Err r) buffer
records_verdict_by (read f) file buffer =
    let loaded = load_of f.header.code file buffer in loaded_verdict f loaded.answer loaded.image

unfoldable pub records_verdict_of : List ℕ → List ℕ → List ℕ → AfterVerdict
records_verdict_of ticket file buffer = records_verdict_by (read_of ticket) file buffer

-- the file is good if and only if it names an image of the ticket's code window, and then it is that image
abbrev pub GoodExactly : List ℕ → List ℕ → Type 0
GoodExactly ticket file =
    (f : Fields) → read_of ticket ≡ read f → (image : List ℕ)
    → (file_of f.header.code file ≡ named image) ↔ Names f.header.code file image

-- the file names this image, and the buffer has room for exactly that
pub record NamedInto (ticket file buffer image : List ℕ) : Type 0 where
  pub fields : Fields
  pub ticket_read : read_of ticket ≡ read fields
  pub names : Names fields.header.code file image
  pub room : length buffer ≡ length image

-- then that image is the one in the buffer, and the verdict is the verdict on it
abbrev pub JudgesWhatIsNamed : List ℕ → List ℕ → List ℕ → Type 0
JudgesWhatIsNamed ticket file buffer =
    (image : List ℕ) → NamedInto ticket file buffer image
    → records_verdict_of ticket file buffer ≡ after_verdict (verdict_of ticket image) image

-- else every byte of the buffer stays
abbrev pub KeepsOtherwise : List ℕ → List ℕ → List ℕ → Type 0
KeepsOtherwise ticket file buffer =
    ((image : List ℕ) → NamedInto ticket file buffer image → ⊥) → (records_verdict_of ticket file buffer).image ≡ buffer

-- the ticket is certified for an image, which the file names and the buffer has room for
pub record FileCertified (ticket file buffer : List ℕ) (answer : Acceptance) : Type 0 where
  pub image : List ℕ
  pub certified : Certified ticket image answer
  pub names : Names certified.fields.header.code file image
  pub room : length buffer ≡ length image

-- demand 2: it accepts if and only if every ticket rule holds of the image that the file names
abbrev pub FileAcceptsExactly : List ℕ → List ℕ → List ℕ → Type 0
FileAcceptsExactly ticket file buffer =
    (a : Acceptance) → ((records_verdict_of ticket file buffer).answer ≡ Ok a) ↔ FileCertified ticket file buffer a

-- demand 3: where it accepts, the image that is now in the buffer is the one that the file names, and comes home
abbrev pub FileComesHome : List ℕ → List ℕ → List ℕ → Type 0
FileComesHome ticket file buffer =
    let image = (records_verdict_of ticket file buffer).image in
    (a : Acceptance) → (records_verdict_of ticket file buffer).answer ≡ Ok a
    → (C : Certified ticket image a)
    × Names C.fields.header.code file image
    × Demand3 C.fields image a.cost.0 (a.stack.0 - 2)

-- of a ticket that is read, 25 to 27 is answered if and only if the file names no image
abbrev pub FileRefusedExactly : List ℕ → List ℕ → List ℕ → Type 0
FileRefusedExactly ticket file buffer =
    (f : Fields) → read_of ticket ≡ read f
    → ((r : Refusal) × ((records_verdict_of ticket file buffer).answer ≡ Err r) × Between 25 27 (number_of r.cause))
    ↔ ((image : List ℕ) → Names f.header.code file image → ⊥)

-- a refusal's number is the verdict's, or 25 to 27
abbrev pub FileRefusalsNumbered : List ℕ → List ℕ → List ℕ → Type 0
FileRefusalsNumbered ticket file buffer =
    (r : Refusal) → (records_verdict_of ticket file buffer).answer ≡ Err r
    → VerdictNumber (number_of r.cause) ⊎ Between 25 27 (number_of r.cause)

abbrev pub FilePromised : List ℕ → List ℕ → List ℕ → Type 0
FilePromised ticket file buffer =
    GoodExactly ticket file
    × JudgesWhatIsNamed ticket file buffer
    × KeepsOtherwise ticket file buffer
    × FileRefusedExactly ticket file buffer
    × FileAcceptsExactly ticket file buffer
    × FileComesHome ticket file buffer
    × FileRefusalsNumbered ticket file buffer
