-- A refusal's number is one of document 01's table, 1 to 20, or document 02's 29.
-- Assumes nothing.
use Prim.Native.Nat.{ℕ, zero, suc, ◌≤◌}
use mathlib.Core.Path.{◌≡◌, refl}
use mathlib.Core.Logic.{inl, inr}
use mathlib.Core.Bool.{Bool, true, false, cond}
use mathlib.Core.List.{List, [], ◌∷◌, ◌++◌}
use Rattle.std.specs.Prelude.{Option, Some, None, Result, Ok, Err}
use native.Mathlib.Omega.{arith}
use lib.ListN.{length}
use Rattle.commands.specs.Bytes as Bytes
use Rattle.commands.specs.Cause.{in_order, ranges_hold, edges_hold, separate, home_outside, inside}
use Rattle.commands.specs.Cause.{command_cause_of}
use Rattle.commands.specs.Progress.{initial_progress, after_of, ended}
use Rattle.commands.specs.Admit.{admit_by, admit_of}
use Rattle.commands.specs.declared.command.Claim.{Claim}
use Rattle.commands.specs.declared.command.Command.{Command}
use Rattle.commands.specs.declared.parse.ParseError.{ParseError}
use Rattle.commands.specs.declared.parse.ParseError.TheVariants.{Unknown, Cut}
use Rattle.commands.specs.declared.progress.Progress.{Progress}
use Rattle.ticket.specs.declared.fields.Mark.{Mark}
use Rattle.ticket.specs.Fields.{Fields, in_file_order}
use Rattle.ticket.specs.Read.{refusal, admitted_as, parsed_as, next_command_of, end_of, ReadRest, read_onward}
use Rattle.ticket.specs.Read.{if_ended, read_from}
use Rattle.ticket.specs.Read.{read_of}
use Rattle.answers.specs.Cause.{number_of}
use Rattle.answers.specs.declared.Cause.{Cause}
use Rattle.answers.specs.Verdict.{Verdict}
use Rattle.rules.specs.Marks.{claim_at}
use Rattle.rules.specs.Checks.{Check, first_failing, checks_at, checks_of_marks, whole_checks, checks_of, accept_of}
use Rattle.rules.specs.Checks.{verdict_on}
use Rattle.rules.specs.Checks.{verdict_by, verdict_of}
use Rattle.verdict.specs.Promise.{VerdictNumber, RefusalsNumbered}

abbrev InTable : ℕ → Type 0
InTable n = (1 ≤ n) × (n ≤ 20)

abbrev OneToTwenty : Verdict → Type 0
OneToTwenty (Ok a) = Unit
OneToTwenty (Err r) = InTable (number_of r.cause)

abbrev AllInTable : List Check → Type 0
AllInTable [] = Unit
AllInTable (c ∷ cs) = InTable (number_of c.cause) × AllInTable cs

either : (b : Bool) (v : Verdict) (c : Cause) (place : ℕ) → OneToTwenty v → InTable (number_of c) →
    OneToTwenty (cond b v (Err (refusal c place)))
either true v c place rest this = rest
either false v c place rest this = this

first_numbered : (cs : List Check) (v : Verdict) → AllInTable cs → OneToTwenty v → OneToTwenty (first_failing cs v)
first_numbered [] v these rest = rest
first_numbered (c ∷ cs) v these rest =
    either c.passes (first_failing cs v) c.cause c.place (first_numbered cs v these.1 rest) these.0

accept_numbered : (entry : ℕ) (k : Option Claim) → OneToTwenty (accept_of entry k)
accept_numbered entry None = search arith
accept_numbered entry (Some c) = tt

module _ (f : Fields) (image : List ℕ) where
  checks_numbered : (ms : List Mark) → AllInTable (checks_of_marks f image ms ++ whole_checks f)
  unfolding checks_at
  checks_numbered [] = search arith
  checks_numbered (m ∷ ms) = search (arith, checks_numbered ms)

  verdict_on_numbered : OneToTwenty (verdict_on f image)
  unfolding verdict_on
  verdict_on_numbered =
      let entry = f.header.entry in
      let claim = claim_at f.marks entry in
      first_numbered (checks_of f image) (accept_of entry claim) (search (arith, checks_numbered f.marks))
      (accept_numbered entry claim)

-- ---- and those of reading

-- a command's cause is 3 to 7, or 29
abbrev Known : Result Unit Cause → Type 0
Known (Ok u) = Unit
Known (Err c) = VerdictNumber (number_of c)

picked : (b : Bool) (r s : Result Unit Cause) → Known r → Known s → Known (cond b r s)
picked true r s p q = p
picked false r s p q = q

cause_known : (p : Progress) (c : Command) → Known (command_cause_of p c)
unfolding command_cause_of
cause_known p c =
    picked (in_order p c) _ _
    (picked (ranges_hold c) _ _
    (picked (edges_hold c) _ _
    (picked (separate p.header c) _ _
    (picked (home_outside p.header c) _ _ (picked (inside p.header c) _ _ tt (inl (search arith))) (inr refl))
    (inl (search arith)))
    (inl (search arith)))
    (inl (search arith)))
    (inl (search arith))

abbrev Numbered : Verdict → Type 0
Numbered (Ok a) = Unit
Numbered (Err r) = VerdictNumber (number_of r.cause)

one_of_all : (v : Verdict) → OneToTwenty v → Numbered v
one_of_all (Ok a) t = tt
one_of_all (Err r) t = inl t

end_numbered : (image : List ℕ) (p : Progress) (ms : List Mark) (s : List ℕ)
    → Numbered (verdict_by (end_of p ms s) image)
end_numbered image p ms [] = let f : Fields = record { header = p.header; marks = in_file_order ms } in
    one_of_all (verdict_on f image) (verdict_on_numbered f image)
end_numbered image p ms (b ∷ s) = inl (search arith)

-- `left`: whatever is left to do gives such a verdict
module _ (image : List ℕ) (ms : List Mark) (s : List ℕ) (f : ReadRest)
    (left : (q : Progress) (ks : List Mark) (t : List ℕ) → Numbered (verdict_by (f q ks t) image)) where
  admit_numbered : (p : Progress) (c : Command) (r : Result Unit Cause) → Known r
      → Numbered (verdict_by (read_onward (admitted_as (admit_by r p c) c) ms s f) image)
  admit_numbered p c (Ok u) k = left (after_of p c) _ _
  admit_numbered p c (Err x) k = k

  turn_numbered : (p : Progress) (d : Result Command ParseError) →
      Numbered (verdict_by (read_onward (parsed_as d p) ms s f) image)
  unfolding admit_of
  turn_numbered p (Err Unknown) = inl (search arith)
  turn_numbered p (Err Cut) = inl (search arith)
  turn_numbered p (Ok c) = admit_numbered p c (command_cause_of p c) (cause_known p c)

  rest_numbered : (p : Progress) (ended : Bool) → Numbered (verdict_by (if_ended ended p ms s f) image)
  unfolding next_command_of
  rest_numbered p true = end_numbered image p ms s
  rest_numbered p false = turn_numbered p (Bytes.parse_of s)

read_numbered : (image : List ℕ) (n : ℕ) (p : Progress) (ms : List Mark) (s : List ℕ) →
    Numbered (verdict_by (read_from n p ms s) image)
unfolding read_from
read_numbered image zero p ms s = inl (search arith)
read_numbered image (suc n) p ms s = rest_numbered image ms s _ (read_numbered image n) p (ended p)

pub numbered : (ticket image : List ℕ) → RefusalsNumbered ticket image
unfolding verdict_of read_of
numbered ticket image r h = rw h at (read_numbered image (suc (length ticket)) initial_progress [] ticket)

-- none is 0
pub number_positive : {n : ℕ} → VerdictNumber n → 1 ≤ n
number_positive (inl b) = b.0
number_positive (inr e) = omega arith
