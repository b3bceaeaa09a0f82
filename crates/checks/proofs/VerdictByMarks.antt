-- The verdict on fields as the code computes it: by the image's length, mark by mark, and then by the whole.
-- Assumes nothing.
use Prim.Native.Nat.{ℕ, suc, ◌<◌}
use mathlib.Core.Path.{◌≡◌}
use mathlib.Core.List.{List, ◌++◌}
use lib.ListN.{length, get_or, drop}
use lib.Seq.{drop-cons, drop-length}
use borrow.Author.Tests.{eq-eqb, ne_eqb}
use Rattle.std.specs.Prelude.{Result, Err}
use Rattle.ticket.specs.Fields.{Fields, blank_mark}
use Rattle.ticket.specs.Read.{refusal}
use Rattle.answers.specs.declared.Cause.{Cause}
use Rattle.answers.specs.declared.Cause.TheVariants.{BadImage}
use Rattle.answers.specs.Verdict.{Verdict}
use Rattle.rules.specs.Marks.{claim_at}
use Rattle.rules.specs.Checks.{first_failing, checks_at, checks_of_marks, whole_checks, accept_of, verdict_on}
use Rattle.checks.specs.inner.MarkCause.{cause_then, CauseIs}
use Rattle.checks.specs.inner.Whole.{whole_of}
use Rattle.checks.proofs.WholeCause.{whole_cause}

-- the verdict where the image's length and the first i marks have passed
unfoldable pub rest_of : Fields → List ℕ → ℕ → Verdict
rest_of f image i =
    first_failing (checks_of_marks f image (drop i f.marks) ++ whole_checks f)
    (accept_of f.header.entry (claim_at f.marks f.header.entry))

module _ (f : Fields) (image : List ℕ) where
  pub verdict_short : (length image ≡ f.header.code.length → ⊥) → verdict_on f image ≡ Err (refusal BadImage 0)
  unfolding verdict_on
  verdict_short h = rw (ne_eqb (length image) f.header.code.length h)

  pub verdict_start : length image ≡ f.header.code.length → verdict_on f image ≡ rest_of f image 0
  unfolding verdict_on rest_of
  verdict_start h = rw (eq-eqb (length image) f.header.code.length h)

  pub verdict_mark : (i : ℕ) → i < length f.marks → (r : Result Unit Cause)
      → CauseIs f image (get_or f.marks i blank_mark) r
      → rest_of f image i ≡ cause_then r (get_or f.marks i blank_mark).address (rest_of f image (suc i))
  unfolding rest_of checks_at
  verdict_mark i h r answers =
      rw (drop-cons f.marks i blank_mark h)
      (answers (checks_of_marks f image (drop (suc i) f.marks) ++ whole_checks f) _)

  pub verdict_end : rest_of f image (length f.marks) ≡ whole_of f.header (claim_at f.marks f.header.entry)
  unfolding rest_of
  verdict_end = rw drop-length (whole_cause f)
