-- A ticket without home's command and the same with $07 and $0000 put in after its entry are certified alike: so what
-- is started, and what is kept of it, is the same.
-- Assumes nothing.
use Prim.Native.Nat.{ℕ}
use mathlib.Core.Path.{◌≡◌}
use mathlib.Core.Bool.{false}
use mathlib.Core.List.{List}
use Rattle.commands.specs.declared.header.Header.{Header}
use Rattle.commands.specs.Header.{required_commands}
use Rattle.ticket.specs.Fields.{Fields, read}
use Rattle.ticket.specs.Read.{read_of}
use Rattle.ticket.specs.Spells.{carries_home}
use Rattle.ticket.specs.RoundTrip.{AllFit}
use Rattle.ticket.specs.OldTicket.{begun, begun_with_home}
use Rattle.ticket.proofs.OldTicket.{read_alike}
use Rattle.verdict.specs.Certification.{certification_of}

pub certified_alike : (h : Header) (rest : List ℕ) → AllFit (required_commands h) → carries_home (begun h rest) ≡ false
    → (image : List ℕ) (f : Fields) → read_of (begun h rest) ≡ read f
    → certification_of (begun_with_home h rest) image ≡ certification_of (begun h rest) image
unfolding certification_of
certified_alike h rest fits away image f e = rw (read_alike h rest fits away, e)
