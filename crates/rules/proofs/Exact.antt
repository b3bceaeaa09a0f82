-- The verdict accepts a ticket and an image where every rule holds of them, and only there.
-- Assumes nothing.
use Prim.Native.Nat.{ℕ}
use mathlib.Core.Path.{◌≡◌, refl}
use mathlib.Core.Logic.{◌↔◌}
use mathlib.Core.List.{List}
use Rattle.commands.specs.Number.{AllBytes}
use Rattle.ticket.specs.Fields.{ReadOutcome, read, refused}
use Rattle.ticket.specs.Read.{read_of}
use Rattle.ticket.proofs.Accepts.{read_rules, rules_read}
use Rattle.std.specs.Prelude.{Ok}
use Rattle.answers.specs.declared.Acceptance.{Acceptance}
use Rattle.rules.specs.Rules.{Certified}
use Rattle.rules.specs.Checks.{verdict_by, verdict_of}
use Rattle.rules.proofs.Passes.{refuses}
use Rattle.rules.proofs.Sound.{accepted}
use Rattle.rules.proofs.Complete.{accepts}

-- by what reading the ticket gives
certifies : (ticket image : List ℕ) → AllBytes ticket → (a : Acceptance) (o : ReadOutcome) → read_of ticket ≡ o
    → verdict_by o image ≡ Ok a → Certified ticket image a
certifies ticket image b a (refused r) h v = absurd (refuses a r v)
certifies ticket image b a (read f) h v =
    let r = read_rules ticket f b h in
    let A = accepted f image r.2 a v in
    record { fields = f; bytes = r.0; fits = r.1; accepted = A.0; entry_is = A.1; cost_is = A.2; stack_is = A.3 }

pub accepts_exactly : (ticket image : List ℕ) → AllBytes ticket → (a : Acceptance) →
    (verdict_of ticket image ≡ Ok a) ↔ Certified ticket image a
unfolding verdict_of
accepts_exactly ticket image b a = (
  certifies ticket image b a (read_of ticket) refl,
  λ C.
      let r = rules_read ticket C.fields C.bytes C.fits C.accepted.readable in
      rw (r, accepts C.fields image C.accepted, ← C.entry_is, ← C.cost_is, ← C.stack_is),
)
