-- Where the verdict on some fields accepts, every rule holds of them, and the answer is what they claim at their entry.
-- Assumes nothing.
use Prim.Native.Nat.{ℕ, ◌+◌}
use mathlib.Core.Path.{◌≡◌, sym, ap}
use mathlib.Core.List.{List}
use borrow.Author.Tests.{leb-true, eqb-true}
use Rattle.ticket.specs.Fields.{Fields}
use Rattle.ticket.specs.Rules.{Readable}
use Rattle.std.specs.Prelude.{Ok}
use Rattle.answers.specs.declared.Acceptance.{Acceptance}
use Rattle.rules.specs.Marks.{claim_at}
use Rattle.rules.specs.Rules.{Accepted}
use Rattle.rules.specs.Checks.{verdict_on}
use Rattle.rules.proofs.Passes.{append_says, first_says}
use Rattle.rules.proofs.MarkChecks.{tests, marked, marks_says}

pub accepted : (f : Fields) (image : List ℕ) → Readable f → (a : Acceptance) → verdict_on f image ≡ Ok a
    → (A : Accepted f image) × (a.entry ≡ f.header.entry) × (a.cost ≡ A.start.cost)
    × (a.stack.0 ≡ A.start.need.0 + 2)
unfolding verdict_on
accepted f image r a j =
    let h = simp (first_says, append_says, marks_says, tests) at j in
    let k = marked (claim_at f.marks f.header.entry) h.0.1.1.0.0 in
    let same = rw k.1 at h.1 in
    let is : record { entry = f.header.entry; cost = k.0.cost; stack = record { 0 = k.0.need.0 + 2 } } ≡ a = cc in (
      record {
        readable = r;
        image_length = h.0.0;
        each = h.0.1.0;
        start = k.0;
        start_marked = k.1;
        start_depth = eqb-true _ _ (rw k.1 at h.0.1.1.0.1);
        start_cost = leb-true _ _ (rw k.1 at h.0.1.1.1.0);
        start_need = leb-true _ _ (rw k.1 at h.0.1.1.1.1.0);
      },
      ap (λ (x : Acceptance). x.entry) (sym is),
      ap (λ (x : Acceptance). x.cost) (sym is),
      ap (λ (x : Acceptance). x.stack.0) (sym is),
    )
