-- What holds of every mark of a list holds at every address that has a claim.
-- Assumes nothing.
use Prim.Native.Nat.{ℕ}
use mathlib.Core.Path.{◌≡◌, refl, sym}
use mathlib.Core.Bool.{Bool, true, false, cond}
use mathlib.Core.List.{List, [], ◌∷◌}
use Rattle.std.specs.Prelude.{Some}
use lib.Dec.{eqb}
use borrow.Author.Tests.{eqb-true}
use Rattle.commands.specs.declared.command.Claim.{Claim}
use Rattle.ticket.specs.declared.fields.Mark.{Mark}
use Rattle.commands.specs.Every.{Every, none, more}
use Rattle.rules.specs.Marks.{claim_at}

abbrev Holds : (Mark → Type 0) → ℕ → Claim → Type 0
Holds Q a k = Q (record { address = a; claim = k })

here : (Q : Mark → Type 0) (m : Mark) (ms : List Mark) (a : ℕ) (k : Claim) (b : Bool) → eqb m.address a ≡ b → Q m
    → (claim_at ms a ≡ Some k → Holds Q a k) → cond b (Some m.claim) (claim_at ms a) ≡ Some k → Holds Q a k
here Q m ms a k true t q later h =
    let same : a ≡ m.address = sym (eqb-true m.address a t) in
    let claims : k ≡ m.claim = cc in
    rw (same, claims) q
here Q m ms a k false t q later h = later h

pub holding : (Q : Mark → Type 0) (ms : List Mark) → Every Q ms → (a : ℕ) (k : Claim) → claim_at ms a ≡ Some k →
    Q (record { address = a; claim = k })
holding Q [] none a k h = absurd cc
holding Q (m ∷ ms) (more q qs) a k h = here Q m ms a k (eqb m.address a) refl q (holding Q ms qs a k) h
