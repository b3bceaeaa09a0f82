-- The checks at a mark answer with the cause that the code computes there.
-- Assumes nothing.
use Prim.Native.Nat.{ℕ, ◌+◌}
use mathlib.Core.Path.{◌≡◌, refl, sym, ◌∙◌}
use mathlib.Core.Bool.{Bool, true, false, cond, ◌&&◌}
use mathlib.Core.List.{List, ◌++◌}
use lib.Dec.{leb}
use Rattle.std.specs.Prelude.{Option, Some, None, Result}
use Rattle.commands.specs.Header.{past_of, holds}
use Rattle.commands.specs.declared.command.Claim.{Claim}
use Rattle.commands.specs.declared.header.Window.{Window}
use Rattle.ticket.specs.declared.fields.Mark.{Mark}
use Rattle.ticket.specs.Fields.{Fields}
use Rattle.answers.specs.declared.Cause.{Cause}
use Rattle.answers.specs.Verdict.{Verdict}
use Rattle.rules.specs.Marks.{claim_at, image_from}
use Rattle.rules.specs.Shape.{shape_of, instruction_size}
use Rattle.rules.specs.Checks.{Check, first_failing, all, checks_by, checks_at}
use Rattle.checks.specs.declared.shape.Successors.{Successors}
use Rattle.checks.specs.declared.shape.Successors.TheVariants.{One, Two}
use Rattle.checks.specs.declared.shape.Writes.{Writes}
use Rattle.checks.specs.declared.shape.Writes.TheVariants.{Nowhere, Byte, Word}
use Rattle.checks.specs.declared.shape.Ordinary.{Ordinary}
use Rattle.checks.specs.declared.shape.Call.{Call}
use Rattle.checks.specs.declared.shape.Shape.{Shape}
use Rattle.checks.specs.declared.shape.Shape.TheVariants as Shape
use Rattle.checks.specs.inner.Said.{successors_said, writes_said, shape_said}
use Rattle.checks.specs.inner.MarkCause.{in_data, both, claims_in, mark_cause_of, cause_then, CauseIs}

then_cond : (b : Bool) (r s : Result Unit Cause) (place : ℕ) (v : Verdict) → cause_then (cond b r s) place v
    ≡ cond b (cause_then r place v) (cause_then s place v)
then_cond true r s place v = refl
then_cond false r s place v = refl

cond_same : {A : Type 0} (b : Bool) (a : A) → cond b a a ≡ a
cond_same true a = refl
cond_same false a = refl

and-true : (b : Bool) → b && true ≡ b
and-true true = refl
and-true false = refl

and_same : (b : Bool) → b && b ≡ b
and_same true = refl
and_same false = refl

all_writes : (w : Window) (x : Writes) → all (holds w) (writes_said x) ≡ in_data w x
all_writes w Nowhere = refl
all_writes w (Byte a) = and-true (holds w a)
all_writes w (Word a) = simp and-true

-- where there is one successor, it is the second too
abbrev first_in : Successors → ℕ
first_in (One a) = a
first_in (Two a b) = a

abbrev second_in : Successors → ℕ
second_in (One a) = a
second_in (Two a b) = b

all_successors : (p : ℕ → Bool) (n : Successors) → all p (successors_said n) ≡ p (first_in n) && p (second_in n)
all_successors p (One a) = and-true (p a) ∙ sym (and_same (p a))
all_successors p (Two a b) = simp and-true

both_claims : (ms : List Mark) (n : Successors)
    → claims_in ms n ≡ both (claim_at ms (first_in n)) (claim_at ms (second_in n))
both_claims ms (One a) = refl
both_claims ms (Two a b) = refl

module _ (f : Fields) (m : Mark) (inside : Bool) (cs : List Check) (v : Verdict) where
  abbrev Answers : Shape → Type 0
  Answers s =
      first_failing (checks_by f m (shape_said s) inside ++ cs) v
      ≡ cause_then (mark_cause_of f.header.«data» f.marks m.claim s inside) m.address (first_failing cs v)

  -- by the claims at the two successors
  ordinary_cause : (o : Ordinary) (a b : Option Claim) → a ≡ claim_at f.marks (first_in o.next)
      → b ≡ claim_at f.marks (second_in o.next) → Answers (Shape.Ordinary o)
  unfolding mark_cause_of
  ordinary_cause o None b p q = simp (all_successors, all_writes, both_claims, ← p, then_cond)
  ordinary_cause o (Some x) None p q = simp (all_successors, all_writes, both_claims, ← p, ← q, then_cond)
  ordinary_cause o (Some x) (Some y) p q = simp (all_successors, all_writes, both_claims, ← p, ← q, then_cond)

  call_cause : (c : Call) (a b : Option Claim) → a ≡ claim_at f.marks c.target → b ≡ claim_at f.marks c.after
      → Answers (Shape.Call c)
  unfolding mark_cause_of
  call_cause c None b p q = simp (← p, then_cond)
  call_cause c (Some x) None p q = simp (← p, ← q, then_cond)
  call_cause c (Some x) (Some y) p q = simp (← p, ← q, then_cond)

  mark_cause : (s : Shape) → Answers s
  unfolding mark_cause_of
  mark_cause (Shape.Ordinary o) = ordinary_cause o _ _ refl refl
  mark_cause (Shape.Call c) = call_cause c _ _ refl refl
  mark_cause (Shape.Return cycles) = simp then_cond
  mark_cause Shape.Forbidden = simp then_cond
  mark_cause Shape.Nothing = simp cond_same

-- the cause that the code computes is the first of the checks that fails
pub cause_is : (f : Fields) (image : List ℕ) (m : Mark) (s : Shape) (inside : Bool)
    → shape_said s ≡ shape_of (image_from f.header.code image m.address) m.address
    → inside ≡ leb (m.address + instruction_size (image_from f.header.code image m.address)) (past_of f.header.code)
    → CauseIs f image m (mark_cause_of f.header.«data» f.marks m.claim s inside)
unfolding checks_at
cause_is f image m s inside shaped within = λ cs v. rw (← shaped, ← within) (mark_cause f m inside cs v s)
