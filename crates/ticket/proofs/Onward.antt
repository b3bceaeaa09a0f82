-- The checks of some fields under way: what the commands that are left come to from here is what all come to.
-- Assumes nothing.
use mathlib.Core.Path.{◌≡◌, sym, ◌∙◌}
use mathlib.Core.List.{List, [], ◌∷◌}
use Rattle.std.specs.Prelude.{Result, Ok, Err}
use Rattle.answers.specs.declared.Refusal.{Refusal}
use Rattle.commands.specs.declared.command.Command.{Command}
use Rattle.commands.specs.declared.progress.Progress.{Progress}
use Rattle.commands.specs.Admit.{admit_of}
use Rattle.commands.specs.Fits.{Fits}
use Rattle.commands.specs.Header.{header_commands}
use Rattle.commands.specs.Progress.{initial_progress}
use Rattle.ticket.specs.declared.fields.Ticket.{Ticket}
use Rattle.ticket.specs.Fields.{Fields, fields_of}
use Rattle.ticket.specs.Write.{commands_of, all_then, check_of}
use Rattle.ticket.specs.RoundTrip.{AllFit}
use Rattle.ticket.specs.inner.FitSoFar.{FitSoFar}
use Rattle.ticket.proofs.Checks.{all_append}
use Rattle.ticket.proofs.Left.{marks_left, whole}
use Rattle.ticket.proofs.ReadWritten.{refused_stays, fit_then, nothing_left}

pub record Onward (f : Fields) (a : Result Progress Refusal) (left : List Command) : Type 0 where
  pub same : all_then a left ≡ check_of f
  pub fit : FitSoFar a left → FitSoFar (Ok initial_progress) (commands_of f)

-- after the header's commands
pub from_header : (t : Ticket) {a : Result Progress Refusal}
    → a ≡ all_then (Ok initial_progress) (header_commands t.header)
    → AllFit (header_commands t.header) → Onward (fields_of t) a (marks_left t.marks t.count 0)
unfolding check_of
from_header t {a} e fits =
    let h = header_commands t.header in
    let left = marks_left t.marks t.count 0 in
    record {
      same = rw (whole t, all_append (Ok initial_progress) h left, e);
      fit = λ f. rw (whole t) (fit_then (Ok initial_progress) left fits (rw e at f));
    }

-- after one command more
pub one_more : {f : Fields} {p : Progress} {k : Command} {rest : List Command} {a : Result Progress Refusal}
    → Onward f (Ok p) (k ∷ rest) → Fits k → a ≡ admit_of p k → Onward f a rest
one_more o fits e = rw e record { same = o.same; fit = λ f. o.fit (fits, f) }

-- nothing comes after a refusal
pub stopped : {f : Fields} {r : Refusal} {left : List Command} → Onward f (Err r) left → (Err r ≡ check_of f)
    × FitSoFar (Ok initial_progress) (commands_of f)
stopped {f} {r} {left} o = (sym (refused_stays r left) ∙ o.same, o.fit tt)

-- or where none is left
pub passed : {f : Fields} {a : Result Progress Refusal} → Onward f a [] → (a ≡ check_of f)
    × FitSoFar (Ok initial_progress) (commands_of f)
passed {f} {a} o = (o.same, o.fit (nothing_left a))
