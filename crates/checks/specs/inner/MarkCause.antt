-- Causes 10 to 17 at a mark as the code computes them: of the rules' checks, the first that fails.
-- Assumes nothing.
use Rattle.std.specs.Prelude.{ℕ, ◌≡◌, Bool, true, cond, ◌&&◌, List, ◌++◌, eqb, leb, Option, Some, None, Result, Ok, Err}
use Rattle.registers.specs.Word.{wrapping_add}
use Rattle.commands.specs.Header.{holds}
use Rattle.commands.specs.declared.command.Claim.{Claim}
use Rattle.commands.specs.declared.header.Window.{Window}
use Rattle.ticket.specs.declared.fields.Mark.{Mark}
use Rattle.ticket.specs.Fields.{Fields}
use Rattle.ticket.specs.Read.{refusal}
use Rattle.answers.specs.Verdict.{Verdict}
use Rattle.rules.specs.Marks.{claim_at}
use Rattle.rules.specs.Checks.{Check, first_failing, checks_at}
use Rattle.rules.specs.Checks.{depth_agrees, cost_covers, need_covers, has_depth, cost_covers_call, need_covers_target}
use Rattle.rules.specs.Checks.{need_covers_after}
use Rattle.checks.specs.declared.shape.Successors.{Successors}
use Rattle.checks.specs.declared.shape.Successors.TheVariants.{One, Two}
use Rattle.checks.specs.declared.shape.Writes.{Writes}
use Rattle.checks.specs.declared.shape.Writes.TheVariants.{Nowhere, Byte, Word}
use Rattle.checks.specs.declared.shape.Ordinary.{Ordinary}
use Rattle.checks.specs.declared.shape.Call.{Call}
use Rattle.checks.specs.declared.shape.Shape.{Shape}
use Rattle.checks.specs.declared.shape.Shape.TheVariants as Shape
use Rattle.checks.specs.inner.Said.{ordinary_said}
use Rattle.answers.specs.declared.Cause.{Cause}
use Rattle.answers.specs.declared.Cause.TheVariants.{BadMark, KeptOut, WritesOutside, BadPull, NotMarked}
use Rattle.answers.specs.declared.Cause.TheVariants.{DepthsDisagree, CostTooLow, NeedTooLow}

abbrev pub in_data : Window → Writes → Bool
in_data w Nowhere = true
in_data w (Byte a) = holds w a
in_data w (Word a) = holds w a && holds w (wrapping_add a 1)

abbrev pub both : Option Claim → Option Claim → Option (Claim × Claim)
both None b = None
both (Some x) None = None
both (Some x) (Some y) = Some (x, y)

-- the claims at both successors; where there is one, its claim stands twice
abbrev pub claims_in : List Mark → Successors → Option (Claim × Claim)
claims_in ms (One a) = both (claim_at ms a) (claim_at ms a)
claims_in ms (Two a b) = both (claim_at ms a) (claim_at ms b)

abbrev pub follows_of : Claim → Ordinary → Claim → Claim → Result Unit Cause
follows_of k o x y =
    cond (depth_agrees k (ordinary_said o) x && depth_agrees k (ordinary_said o) y)
    (cond (cost_covers k o.cycles.0 x && cost_covers k o.cycles.0 y)
    (cond (need_covers k (ordinary_said o) x && need_covers k (ordinary_said o) y) (Ok tt) (Err NeedTooLow))
    (Err CostTooLow))
    (Err DepthsDisagree)

-- 14 unless there are claims at both successors
abbrev pub if_claimed : Option (Claim × Claim) → (Claim → Claim → Result Unit Cause) → Result Unit Cause
if_claimed None f = Err NotMarked
if_claimed (Some b) f = f b.0 b.1

abbrev pub ordinary_of : Window → List Mark → Claim → Ordinary → Result Unit Cause
ordinary_of w ms k o =
    cond (in_data w o.writes)
    (cond (leb o.pulled.0 k.depth.0) (if_claimed (claims_in ms o.next) (follows_of k o)) (Err BadPull))
    (Err WritesOutside)

abbrev pub called_of : Claim → ℕ → Claim → Claim → Result Unit Cause
called_of k cycles x y =
    cond (has_depth 0 x && has_depth k.depth.0 y)
    (cond (cost_covers_call k cycles x y)
    (cond (need_covers_target k x && need_covers_after k y) (Ok tt) (Err NeedTooLow))
    (Err CostTooLow))
    (Err DepthsDisagree)

abbrev pub call_of : List Mark → Claim → Call → Result Unit Cause
call_of ms k c = if_claimed (claims_in ms (Two c.target c.after)) (called_of k c.cycles.0)

abbrev pub return_of : Claim → ℕ → Result Unit Cause
return_of k cycles = cond (eqb k.depth.0 0) (cond (leb cycles k.cost.0) (Ok tt) (Err CostTooLow)) (Err BadPull)

-- with the instruction inside the code window
abbrev pub inside_of : Window → List Mark → Claim → Shape → Result Unit Cause
inside_of w ms k (Shape.Ordinary o) = ordinary_of w ms k o
inside_of w ms k (Shape.Call c) = call_of ms k c
inside_of w ms k (Shape.Return cycles) = return_of k cycles.0
inside_of w ms k Shape.Forbidden = Err KeptOut
inside_of w ms k Shape.Nothing = Err BadMark

unfoldable pub mark_cause_of : Window → List Mark → Claim → Shape → Bool → Result Unit Cause
mark_cause_of w ms k s inside = cond inside (inside_of w ms k s) (Err BadMark)

-- what follows: the rest, or a refusal with the cause
abbrev pub cause_then : Result Unit Cause → ℕ → Verdict → Verdict
cause_then (Ok t) place v = v
cause_then (Err c) place v = Err (refusal c place)

-- of the checks at a mark, r has the cause of the first that fails
abbrev pub CauseIs : Fields → List ℕ → Mark → Result Unit Cause → Type 0
CauseIs f image m r =
    (cs : List Check) (v : Verdict)
    → first_failing (checks_at f image m ++ cs) v ≡ cause_then r m.address (first_failing cs v)
