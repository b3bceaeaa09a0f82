-- What reading a ticket tells of its verdict, its certification, and the verdict on an S-record file: the refusal, or
-- the fields to judge.
-- Assumes nothing.
use Prim.Native.Nat.{ℕ, ◌≤◌}
use mathlib.Core.Path.{◌≡◌, refl, ap, ◌∙◌}
use mathlib.Core.List.{List}
use Rattle.std.specs.Prelude.{Result, Ok, Err}
use Rattle.answers.specs.declared.Acceptance.{Acceptance}
use Rattle.answers.specs.declared.Refusal.{Refusal}
use Rattle.answers.specs.Verdict.{Verdict}
use Rattle.ticket.specs.declared.fields.Ticket.{Ticket}
use Rattle.ticket.specs.Fields.{Fields, ReadOutcome, read, refused, ticket_of, fields_of, reading_of}
use Rattle.ticket.specs.Read.{read_of}
use Rattle.ticket.specs.Rules.{Readable, ReadByTheRules}
use Rattle.ticket.proofs.Listed.{fields_ticket}
use Rattle.ticket.proofs.WrittenRead.{few}
use Rattle.records.specs.Load.{AfterLoad, after_load, load_of}
use Rattle.rules.specs.Checks.{verdict_on, verdict_of}
use Rattle.verdict.specs.Certification.{certification_if, certification_of}
use Rattle.verdict.specs.Records.{after_verdict, loaded_verdict, records_verdict_of}

-- the code's answer tells the outcome
abbrev Answers : Result Ticket Refusal → ReadOutcome → Type 0
Answers a o = a ≡ reading_of o

refused_as : (o : ReadOutcome) (x : Refusal) → Answers (Err x) o → o ≡ refused x
refused_as (read f) x e = absurd cc
refused_as (refused y) x e = cc

read_as : (o : ReadOutcome) (t : Ticket) → Answers (Ok t) o → (f : Fields) × (o ≡ read f) × (t ≡ ticket_of f)
read_as (read f) t e = (f, refl, cc)
read_as (refused y) t e = absurd cc

module _ (ticket : List ℕ) where
  module _ (x : Refusal) (e : Answers (Err x) (read_of ticket)) where
    is_refused : read_of ticket ≡ refused x
    is_refused = refused_as (read_of ticket) x e

    pub verdict_refused : (image : List ℕ) → verdict_of ticket image ≡ Err x
    unfolding verdict_of
    verdict_refused image = rw is_refused

    pub certification_refused : (image : List ℕ) → certification_of ticket image ≡ Err x
    unfolding certification_of
    certification_refused image = rw is_refused

    pub records_refused : (file buffer : List ℕ) → records_verdict_of ticket file buffer ≡ after_verdict (Err x) buffer
    unfolding records_verdict_of
    records_refused file buffer = rw is_refused

  module _ (t : Ticket) (e : Answers (Ok t) (read_of ticket)) where
    fields : (f : Fields) × (read_of ticket ≡ read f) × (t ≡ ticket_of f)
    fields = read_as (read_of ticket) t e

    same_fields : fields_of t ≡ fields.0
    same_fields = ap fields_of fields.2 ∙ fields_ticket fields.0 (few ticket fields.0 fields.1)

    pub judged : (image : List ℕ) (v : Verdict) → v ≡ verdict_on (fields_of t) image → v ≡ verdict_of ticket image
    unfolding verdict_of
    judged image v h = rw (h, same_fields, fields.1)

    certification_read : (image : List ℕ)
        → let f = fields_of t in certification_of ticket image ≡ certification_if (verdict_on f image) f.header
    unfolding certification_of
    certification_read image = rw (same_fields, fields.1)

    pub uncertified : (image : List ℕ) (x : Refusal) → Err x ≡ verdict_on (fields_of t) image
        → certification_of ticket image ≡ Err x
    uncertified image x h = rw (certification_read image, ← h)

    pub certified : (image : List ℕ) (a : Acceptance) → Ok a ≡ verdict_on (fields_of t) image
        → Ok (record { header = t.header; cost = a.cost; stack = a.stack }) ≡ certification_of ticket image
    unfolding fields_of
    certified image a h = rw (certification_read image, ← h)

    records_read : (file buffer : List ℕ) (l : AfterLoad)
        → let f = fields_of t in
        l ≡ load_of f.header.code file buffer
        → records_verdict_of ticket file buffer ≡ loaded_verdict f l.answer l.image
    unfolding records_verdict_of
    records_read file buffer l h = rw (h, same_fields, fields.1)

    pub unloaded : (file buffer image : List ℕ) (x : Refusal)
        → after_load (Err x) image ≡ load_of t.header.code file buffer
        → records_verdict_of ticket file buffer ≡ after_verdict (Err x) image
    unfolding fields_of
    unloaded file buffer image x h = records_read file buffer _ h

    pub loaded : (file buffer image : List ℕ) (done : Unit) (v : Verdict)
        → after_load (Ok done) image ≡ load_of t.header.code file buffer → v ≡ verdict_on (fields_of t) image
        → after_verdict v image ≡ records_verdict_of ticket file buffer
    unfolding fields_of
    loaded file buffer image done v h e = rw (records_read file buffer _ h, e)

    pub readable : ReadByTheRules ticket → Readable (fields_of t) × (t.count ≤ 4096)
    unfolding ticket_of
    readable rules =
        (rw same_fields ((rules fields.0).0 fields.1).2, rw fields.2 (few ticket fields.0 fields.1))

    pub code_short : ReadByTheRules ticket → t.header.code.length ≤ 4096
    unfolding fields_of
    code_short rules = (readable rules).0.header_rules.code_length.1
