-- A ticket without home's command and the same with $07 and $0000 put in after its entry are judged alike.
-- Assumes nothing.
use Prim.Native.Nat.{ℕ}
use mathlib.Core.Path.{◌≡◌}
use mathlib.Core.Bool.{false}
use mathlib.Core.List.{List}
use Rattle.answers.specs.declared.Refusal.{Refusal}
use Rattle.std.specs.Prelude.{Err}
use Rattle.commands.specs.declared.header.Header.{Header}
use Rattle.commands.specs.Header.{required_commands}
use Rattle.ticket.specs.Fields.{Fields, read, refused}
use Rattle.ticket.specs.Read.{read_of}
use Rattle.ticket.specs.Spells.{required_size, carries_home}
use Rattle.ticket.specs.RoundTrip.{AllFit}
use Rattle.ticket.specs.OldTicket.{begun, begun_with_home, moved_place}
use Rattle.ticket.proofs.OldTicket.{read_alike}
use Rattle.rules.specs.Checks.{verdict_of}

-- where the one is read, the verdict is the same; where it is refused at reading, so is the other, with the same number
-- at the same command
pub judged_alike : (h : Header) (rest : List ℕ) → AllFit (required_commands h) → carries_home (begun h rest) ≡ false
    → (image : List ℕ)
    → ((f : Fields) → read_of (begun h rest) ≡ read f → verdict_of (begun_with_home h rest) image
    ≡ verdict_of (begun h rest) image)
    × ((r : Refusal) → read_of (begun h rest) ≡ refused r → verdict_of (begun_with_home h rest) image
    ≡ Err (moved_place required_size 3 r))
unfolding verdict_of
judged_alike h rest fits away image = (
  λ f e. rw (read_alike h rest fits away, e),
  λ r e. rw (read_alike h rest fits away, e),
)
