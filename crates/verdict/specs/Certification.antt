-- A routine judged, with what a start needs of an accepted one: its ticket's header and the certified figures (document
-- 01, "Start"; "Acceptance answers ..").
-- Assumes nothing.
use Rattle.std.specs.Prelude.{ℕ, List, Result, Ok, Err}
use Rattle.commands.specs.declared.header.Header.{Header}
use Rattle.ticket.specs.Fields.{ReadOutcome, read, refused}
use Rattle.ticket.specs.Read.{read_of}
use Rattle.answers.specs.declared.Refusal.{Refusal}
use Rattle.answers.specs.Verdict.{Verdict}
use Rattle.rules.specs.Checks.{verdict_on}
use Rattle.verdict.specs.declared.Certificate.{Certificate}

-- a routine judged: granted, or refused
abbrev pub Certification : Type 0
Certification = Result Certificate Refusal

-- by the verdict on a ticket that was read
abbrev pub certification_if : Verdict → Header → Certification
certification_if (Ok a) h = Ok (record { header = h; cost = a.cost; stack = a.stack })
certification_if (Err r) h = Err r

abbrev pub certification_by : ReadOutcome → List ℕ → Certification
certification_by (refused r) image = Err r
certification_by (read f) image = certification_if (verdict_on f image) f.header

unfoldable pub certification_of : List ℕ → List ℕ → Certification
certification_of ticket image = certification_by (read_of ticket) image

-- the verdict that a certification stands for
abbrev pub verdict_in : Certification → Verdict
verdict_in (Ok c) = Ok (record { entry = c.header.entry; cost = c.cost; stack = c.stack })
verdict_in (Err r) = Err r
