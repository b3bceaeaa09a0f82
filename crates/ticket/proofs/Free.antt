-- Commands one after another with no cause against any: those that the writer's checks admit.
-- Assumes nothing.
use mathlib.Core.Path.{◌≡◌, refl, sym, ◌∙◌}
use mathlib.Core.List.{List, [], ◌∷◌}
use Rattle.commands.specs.declared.command.Command.{Command}
use Rattle.answers.specs.declared.Cause.{Cause}
use Rattle.commands.specs.declared.progress.Progress.{Progress}
use Rattle.commands.specs.Progress.{after_of}
use Rattle.commands.specs.Cause.{command_cause_of}
use Rattle.commands.specs.Admit.{admit_by, admit_of}
use Rattle.ticket.specs.Write.{all_then}
use Rattle.ticket.proofs.ReadWritten.{refused_stays}
use Rattle.ticket.proofs.Checks.{not_next}
use Rattle.std.specs.Prelude.{Result, Ok, Err}

-- what some commands leave
abbrev pub after_all : Progress → List Command → Progress
after_all p [] = p
after_all p (c ∷ cs) = after_all (after_of p c) cs

abbrev pub Free : Progress → List Command → Type 0
Free p [] = Unit
Free p (c ∷ cs) = (command_cause_of p c ≡ Ok tt) × Free (after_of p c) cs

pub free_admitted : (p : Progress) (cs : List Command) → Free p cs → all_then (Ok p) cs ≡ Ok (after_all p cs)
unfolding admit_of
free_admitted p [] f = refl
free_admitted p (c ∷ cs) f = rw f.0 (free_admitted (after_of p c) cs f.1)

module _ (p q : Progress) (c : Command) (cs : List Command) (rest : all_then (Ok (after_of p c)) cs ≡ Ok q →
    Free (after_of p c) cs) where
  by_cause : (v : Result Unit Cause) → command_cause_of p c ≡ v → all_then (admit_by v p c) cs ≡ Ok q → Free p (c ∷ cs)
  by_cause (Ok u) e n = (e, rest n)
  by_cause (Err x) e n = absurd (not_next (sym (refused_stays _ cs) ∙ n))

pub admitted_free : (p q : Progress) (cs : List Command) → all_then (Ok p) cs ≡ Ok q → Free p cs
unfolding admit_of
admitted_free p q [] e = tt
admitted_free p q (c ∷ cs) e = by_cause p q c cs (admitted_free (after_of p c) q cs) _ refl e
