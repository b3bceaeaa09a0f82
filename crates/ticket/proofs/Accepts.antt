-- Bytes are read as some fields where they state the fields, and the fields are as the rules say, and only there.
-- Assumes nothing.
use Prim.Native.Nat.{ℕ}
use mathlib.Core.Path.{◌≡◌}
use mathlib.Core.List.{List}
use Rattle.commands.specs.Number.{AllBytes}
use Rattle.commands.specs.Progress.{initial_progress}
use Rattle.ticket.specs.Fields.{Fields, read}
use Rattle.ticket.specs.Read.{read_of}
use Rattle.ticket.specs.Spells.{Spells}
use Rattle.ticket.specs.RoundTrip.{FitsFields}
use Rattle.ticket.specs.Rules.{Readable, ReadByTheRules}
use Rattle.ticket.proofs.Fitting.{fit_stated}
use Rattle.ticket.proofs.Free.{free_admitted}
use Rattle.ticket.proofs.ReadWritten.{read_stated}
use Rattle.ticket.proofs.WrittenRead.{spells_read, fits_read, readable_read}
use Rattle.ticket.proofs.Readable.{readable_says}

pub read_rules : (s : List ℕ) (f : Fields) → AllBytes s → read_of s ≡ read f → Spells f s × FitsFields f × Readable f
read_rules s f a r = (spells_read s f r a, fits_read s f r a, readable_read s f r a)

pub rules_read : (s : List ℕ) (f : Fields) → Spells f s → FitsFields f → Readable f → read_of s ≡ read f
rules_read s f S fits r =
    rw (
      ← S.bytes,
      read_stated f S.states (fit_stated f S.states fits),
      free_admitted initial_progress S.commands ((readable_says f S.states).1 r),
    )

pub by_the_rules : (s : List ℕ) → AllBytes s → ReadByTheRules s
by_the_rules s a f = (read_rules s f a, λ r. rules_read s f r.0 r.1 r.2)
